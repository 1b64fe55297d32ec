-- A stream that counts the calls which moved bytes.
use Rattle.std.specs.Prelude.{◌≡◌, ℕ, List}
use Rattle.std.proofs.Common.{refl}
use Rattle.audit_serve_passes.specs.Streams.{StreamCall, CallModel}
use Rattle.audit_serve_door.specs.declared.metered.Metered.{Metered}
use Rattle.audit_serve_door.specs.Moves.{count_after_calls}
use Rattle.audit_serve_door.specs.MovesLaws.{counted_more}

abbrev pub inner_of_metered : {S : Type 0} → Metered S → S
inner_of_metered stream = stream.inner

abbrev pub moves_of_metered : {S : Type 0} → Metered S → ℕ
moves_of_metered stream = stream.moves

-- The calls were those of the inner stream, and those that moved bytes were counted.
pub record IsMetered {S : Type 0} (N : CallModel S) (old new : Metered S) (calls : List StreamCall) : Type 0 where
  pub inner : N.DidCalls old.inner new.inner calls
  pub counted : new.moves ≡ count_after_calls old.moves calls

abbrev pub metered_calls : {S : Type 0} → CallModel S → CallModel (Metered S)
metered_calls N = record {
  DidCalls = IsMetered N;
  nothing_called = λ stream. record { inner = N.nothing_called stream.inner; counted = refl };
  more_called = λ old mid new calls later first second. record {
    inner = N.more_called old.inner mid.inner new.inner calls later first.inner second.inner;
    counted = counted_more old.moves mid.moves new.moves calls later first.counted second.counted;
  };
}

-- a new one over a stream: no call has moved bytes
pub record IsNewMetered {S : Type 0} (inner : S) (stream : Metered S) : Type 0 where
  pub inner_is : stream.inner ≡ inner
  pub moves : stream.moves ≡ 0
