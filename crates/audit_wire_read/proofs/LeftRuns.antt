-- What a reading did is a run.
use Rattle.std.proofs.Common.{List, [], ◌∷◌, ◌++◌, inl, refl, subst, sym}
use Rattle.audit_proof.specs.declared.commitment.Commitment.{Commitment}
use Rattle.audit_verify.specs.State.{StateData}
use Rattle.audit_wire_read.specs.Newest.{Extends}
use Rattle.audit_wire_read.specs.Outlet.{OutletCall, OutletModel}
use Rattle.audit_wire_read.specs.ReadingOn.{ReadsFront}
use Rattle.audit_wire_read.specs.Runs.{WereCutOff, LeavesRun}

first_calls : (done rest : List OutletCall) → WereCutOff done (done ++ rest)
first_calls [] rest = tt
first_calls (call ∷ done) rest = inl (refl, first_calls done rest)

pub leaves_run : {O : Type 0} (E : OutletModel O) (state : StateData) (kept after newest : Commitment) (old new : O) → Extends kept after → Extends after newest → ReadsFront E state newest old new
    → LeavesRun E state kept old new
leaves_run E state kept after newest old new witnessed extends front = record {
  run = record { after = after; newest = newest; pieces = front.pieces; calls = front.done };
  is = record {
    witnessed = witnessed;
    extends = extends;
    are = front.are;
    cut_off = subst (WereCutOff front.done) (sym front.split) (first_calls front.done front.rest);
  };
  mid = front.mid;
  did = front.did;
  rest = front.rest;
  split = front.split;
  then = front.then;
}
