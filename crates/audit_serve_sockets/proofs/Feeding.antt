-- The steps of a session over lines, with one more step.
use Rattle.std.proofs.Common.{◌≡◌, ℕ, ◌≤◌, eqb, Option, List, [], ◌∷◌, ◌++◌, length, refl, sym, ap, ◌∙◌, subst, append_assoc, append-nil}
use Rattle.std.proofs.lemmas.Bool.{ne_eqb, cond-false}
use Rattle.audit_serve_passes.specs.declared.limits.TheConstants.{MAX_PIECE}
use Rattle.audit_serve_passes.specs.Steps.{StepData, a_piece, an_end, a_flush, bytes_fed}
use Rattle.audit_serve_passes.specs.Core.{CoreModel, no_bytes, bytes_for}
use Rattle.audit_serve_passes.specs.Transition.{CoreTransition}
use Rattle.audit_serve_passes.proofs.StreamSteps.{bytes_of-append}
use Rattle.std.specs.Prelude.{Result, Ok, Err, OnOk}
use Rattle.audit_serve_sockets.specs.Frames.{HasLines}
use Rattle.audit_serve_sockets.specs.Looping.{ArePieces, Brings, IsLinePass, AreLinePasses, IsWholeLoop, LoopTransition}
use Rattle.audit_serve_sockets.proofs.Lines.{no_lines, lines_of_both}

pieces_of_both : (steps more : List StepData) → ArePieces steps → ArePieces more → ArePieces (steps ++ more)
pieces_of_both [] more are also = also
pieces_of_both (a_piece session piece ∷ steps) more are also = (are.0, are.1, pieces_of_both steps more are.2 also)
pieces_of_both (an_end session ∷ steps) more are also = absurd are
pieces_of_both (a_flush ∷ steps) more are also = absurd are

pub brings_more : (bytes rest piece following : List ℕ) (steps : List StepData) → Brings bytes rest steps → rest ≡ piece ++ following → length piece ≤ MAX_PIECE → Brings bytes following (steps ++ a_piece 0 piece ∷ [])
brings_more bytes rest piece following steps h split within = record {
  pieces = pieces_of_both steps (a_piece 0 piece ∷ []) h.pieces (refl, within, tt);
  all =
      ap (λ (l : List ℕ). l ++ following) (bytes_of-append 0 steps (a_piece 0 piece ∷ []) ∙ ap (λ (l : List ℕ). bytes_fed 0 steps ++ l) (append-nil piece))
      ∙ append_assoc (bytes_fed 0 steps) piece following
      ∙ ap (λ (r : List ℕ). bytes_fed 0 steps ++ r) (sym split)
      ∙ h.all;
}

turns_more : (lines : List (List ℕ)) (bytes : List ℕ) (steps more : List StepData) → AreLinePasses lines steps → IsLinePass bytes more → AreLinePasses (lines ++ bytes ∷ []) (steps ++ more)
turns_more [] bytes steps more none turn = (more, [], ap (λ (l : List StepData). l ++ more) none ∙ sym (append-nil more), turn, refl)
turns_more (line ∷ lines) bytes steps more h turn =
    let first = h.0 in
    let later = h.1 in
    (first, later ++ more, ap (λ (l : List StepData). l ++ more) h.2 ∙ append_assoc first later more, h.3, turns_more lines bytes later more h.4 turn)

pub none_of_both : (bytes more : List ℕ) → bytes ≡ [] → more ≡ [] → bytes ++ more ≡ []
none_of_both bytes more none also = ap (λ (front : List ℕ). front ++ more) none ∙ also

module _ {C : Type 0} {M : CoreModel C} where
  pub nothing_fed : (core : C) (bytes : List ℕ) → CoreTransition M core core (Brings bytes bytes)
  nothing_fed core bytes = record { steps = []; taken = no_bytes; did = M.nothing_done core; none = λ k. refl; shape = record { pieces = tt; all = refl } }

  pub piece_fed : (old mid new : C) (bytes rest piece following : List ℕ) → CoreTransition M old mid (Brings bytes rest) → rest ≡ piece ++ following → length piece ≤ MAX_PIECE
      → M.DidSteps mid new (a_piece 0 piece ∷ []) no_bytes → CoreTransition M old new (Brings bytes following)
  piece_fed old mid new bytes rest piece following h split within did = record {
    steps = h.steps ++ a_piece 0 piece ∷ [];
    taken = λ session. h.taken session ++ no_bytes session;
    did = M.more_done old mid new h.steps (a_piece 0 piece ∷ []) h.taken no_bytes h.did did;
    none = λ k. none_of_both (h.taken k) [] (h.none k) refl;
    shape = brings_more bytes rest piece following h.steps h.shape split within;
  }

  pub all_fed : (old new : C) (bytes rest : List ℕ) → CoreTransition M old new (Brings bytes rest) → rest ≡ [] → CoreTransition M old new (Brings bytes [])
  all_fed old new bytes rest h none = subst (λ (r : List ℕ). CoreTransition M old new (Brings bytes r)) none h

  -- nothing was taken, so nothing was written
  as_loop : {Shape : List StepData → Type 0} (old new : C) (known : Option (List ℕ)) → CoreTransition M old new Shape → LoopTransition M old new known known Shape
  as_loop old new known h = record {
    steps = h.steps;
    taken = h.taken;
    did = h.did;
    others = λ k apart. h.none k;
    shape = h.shape;
    written = subst (HasLines known known) (sym (h.none 0)) (no_lines known);
  }

  loop_goes_on : {First Second Both : List StepData → Type 0} (old mid new : C) (before between after : Option (List ℕ)) → (first : LoopTransition M old mid before between First)
      → (second : LoopTransition M mid new between after Second) → ((s t : List StepData) → First s → Second t → Both (s ++ t)) → LoopTransition M old new before after Both
  loop_goes_on old mid new before between after first second both = record {
    steps = first.steps ++ second.steps;
    taken = λ session. first.taken session ++ second.taken session;
    did = M.more_done old mid new first.steps second.steps first.taken second.taken first.did second.did;
    others = λ k apart. none_of_both (first.taken k) (second.taken k) (first.others k apart) (second.others k apart);
    shape = both first.steps second.steps first.shape second.shape;
    written = lines_of_both before between after (first.taken 0) (second.taken 0) first.written second.written;
  }

  -- a flush whose output was taken and written
  pub replied : (old mid new : C) (before after : Option (List ℕ)) (output : List ℕ) → M.DidSteps old mid (a_flush ∷ []) no_bytes → M.DidSteps mid new [] (bytes_for 0 output) → HasLines before after output
      → LoopTransition M old new before after (λ steps. steps ≡ a_flush ∷ [])
  replied old mid new before after output flushed took written = record {
    steps = a_flush ∷ [];
    taken = λ session. no_bytes session ++ bytes_for 0 output session;
    did = M.more_done old mid new (a_flush ∷ []) [] no_bytes (bytes_for 0 output) flushed took;
    others = λ k apart. cond-false (eqb k 0) output [] (ne_eqb k 0 apart);
    shape = refl;
    written = written;
  }

  pub no_line : (core : C) (known : Option (List ℕ)) → LoopTransition M core core known known (AreLinePasses [])
  no_line core known = record { steps = []; taken = no_bytes; did = M.nothing_done core; others = λ k apart. refl; shape = refl; written = no_lines known }

  pub line_served : (old mid fed new : C) (before between after : Option (List ℕ)) (lines : List (List ℕ)) (bytes : List ℕ) → LoopTransition M old mid before between (AreLinePasses lines)
      → CoreTransition M mid fed (Brings bytes []) → LoopTransition M fed new between after (λ steps. steps ≡ a_flush ∷ [])
      → LoopTransition M old new before after (AreLinePasses (lines ++ bytes ∷ []))
  line_served old mid fed new before between after lines bytes h feeding reply =
      loop_goes_on old mid new before between after h
      (loop_goes_on {Both = IsLinePass bytes} mid fed new between between after (as_loop mid fed between feeding) reply (λ s t brings one. record { pieces = s; are = ap (λ (l : List StepData). s ++ l) one; brings = brings }))
      (λ s t turns turn. turns_more lines bytes s t turns turn)

  pub loop_ended : (old mid over new : C) (before between after : Option (List ℕ)) (lines : List (List ℕ)) → LoopTransition M old mid before between (AreLinePasses lines)
      → M.DidSteps mid over (an_end 0 ∷ []) no_bytes → LoopTransition M over new between after (λ steps. steps ≡ a_flush ∷ [])
      → LoopTransition M old new before after (IsWholeLoop lines)
  loop_ended old mid over new before between after lines h did reply =
      let ending : LoopTransition M mid over between between (λ steps. steps ≡ an_end 0 ∷ []) =
      record { steps = an_end 0 ∷ []; taken = no_bytes; did = did; others = λ k apart. refl; shape = refl; written = no_lines between } in
      loop_goes_on old mid new before between after h
      (loop_goes_on {Both = λ steps. steps ≡ an_end 0 ∷ a_flush ∷ []} mid over new between between after ending reply (λ s t one also. ap (λ (l : List StepData). l ++ t) one ∙ ap (λ (l : List StepData). an_end 0 ∷ l) also))
      (λ s t turns last. record { turns = s; are = ap (λ (l : List StepData). s ++ l) last; each = turns })

-- what holds of a result, restated
pub turned : {A E P Q : Type 0} (result : Result A E) → OnOk result P → (P → Q) → OnOk result Q
turned (Ok x) has turn = turn has
turned (Err error) has turn = tt
