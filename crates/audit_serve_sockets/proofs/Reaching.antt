-- A session over lines whose last call may have been refused.
use Rattle.std.proofs.Common.{◌≡◌, ℕ, ◌≤◌, eqb, Option, Some, None, List, [], ◌∷◌, ◌++◌, length, refl, sym, ap, ◌∙◌, subst, arith, inl, inr, append_assoc, append-nil, length-append}
use Rattle.std.proofs.lemmas.Bool.{ne_eqb, cond-false}
use Rattle.std.specs.Prelude.{IfSome}
use Rattle.std.specs.List.{flat_map}
use Rattle.audit_serve_passes.specs.declared.limits.TheConstants.{MAX_PIECE}
use Rattle.audit_serve_passes.specs.Steps.{StepData, a_piece, an_end, a_flush, IsPartOf, bytes_fed}
use Rattle.audit_serve_passes.specs.Core.{CoreModel, GoesBy, no_bytes, bytes_for}
use Rattle.audit_serve_passes.specs.Transition.{CoreTransition, AreElsewhere}
use Rattle.audit_serve_passes.proofs.StreamSteps.{bytes_of-append, elsewhere-append}
use Rattle.audit_serve_passes.proofs.Turns.{end_brings_nothing}
use Rattle.audit_serve_passes.proofs.Reaching.{flush_brings_nothing}
use Rattle.audit_serve_sockets.specs.Input.{spelled, SpellsInput, SpellsFirst}
use Rattle.audit_serve_sockets.specs.Frames.{AreUnfinished}
use Rattle.audit_serve_sockets.specs.Looping.{ArePieces, Brings, BringsFront, BringsLines, IsLinePass, AreLinePasses, LoopTransition, LoopReached, CutsFrameOff}
use Rattle.audit_serve_sockets.proofs.Inputs.{HasSpelled}
use Rattle.audit_serve_sockets.proofs.Lines.{both_mapped}
use Rattle.audit_serve_sockets.proofs.Feeding.{brings_more, none_of_both}

-- ---- no step is about another session

pieces_elsewhere : (k : ℕ) (steps : List StepData) → (k ≡ 0 → ⊥) → ArePieces steps → AreElsewhere k steps
pieces_elsewhere k [] apart are = tt
pieces_elsewhere k (a_piece session piece ∷ steps) apart are = ((λ about. apart (sym about ∙ are.0)), pieces_elsewhere k steps apart are.2)
pieces_elsewhere k (an_end session ∷ steps) apart are = absurd are
pieces_elsewhere k (a_flush ∷ steps) apart are = absurd are

flush_elsewhere : (k : ℕ) (part : List StepData) → IsPartOf a_flush part → AreElsewhere k part
flush_elsewhere k part (inl none) = subst (AreElsewhere k) (sym none) tt
flush_elsewhere k part (inr whole) = subst (AreElsewhere k) (sym whole) ((λ about. about), tt)

end_elsewhere : (k : ℕ) (part : List StepData) → (k ≡ 0 → ⊥) → IsPartOf (an_end 0) part → AreElsewhere k part
end_elsewhere k part apart (inl none) = subst (AreElsewhere k) (sym none) tt
end_elsewhere k part apart (inr whole) = subst (AreElsewhere k) (sym whole) ((λ about. apart (sym about)), tt)

turn_elsewhere : (k : ℕ) (bytes : List ℕ) (steps : List StepData) → (k ≡ 0 → ⊥) → IsLinePass bytes steps → AreElsewhere k steps
turn_elsewhere k bytes steps apart turn =
    subst (AreElsewhere k) (sym turn.are) (elsewhere-append k turn.pieces (a_flush ∷ []) (pieces_elsewhere k turn.pieces apart turn.brings.pieces) ((λ about. about), tt))

turns_elsewhere : (k : ℕ) (lines : List (List ℕ)) (steps : List StepData) → (k ≡ 0 → ⊥) → AreLinePasses lines steps → AreElsewhere k steps
turns_elsewhere k [] steps apart none = subst (AreElsewhere k) (sym none) tt
turns_elsewhere k (bytes ∷ lines) steps apart (first, later, is, turn, turns) =
    subst (AreElsewhere k) (sym is) (elsewhere-append k first later (turn_elsewhere k bytes first apart turn) (turns_elsewhere k lines later apart turns))

-- ---- the bytes that steps feed

turn_brings : (bytes : List ℕ) (steps : List StepData) → IsLinePass bytes steps → bytes_fed 0 steps ≡ bytes
turn_brings bytes steps turn = ap (bytes_fed 0) turn.are ∙ bytes_of-append 0 turn.pieces (a_flush ∷ []) ∙ turn.brings.all

turns_bring : (lines : List (List ℕ)) (steps : List StepData) → AreLinePasses lines steps → bytes_fed 0 steps ≡ flat_map (λ line. line) lines
turns_bring [] steps none = ap (bytes_fed 0) none
turns_bring (bytes ∷ lines) steps (first, later, is, turn, turns) =
    ap (bytes_fed 0) is ∙ bytes_of-append 0 first later ∙ ap (λ (front : List ℕ). front ++ bytes_fed 0 later) (turn_brings bytes first turn) ∙ ap (λ (more : List ℕ). bytes ++ more) (turns_bring lines later turns)

-- the steps feed a prefix of these bytes to session 0
record BringsSome (bytes : List ℕ) (steps : List StepData) : Type 0 where
  pub rest : List ℕ
  pub front : bytes_fed 0 steps ++ rest ≡ bytes
  pub elsewhere : (k : ℕ) → (k ≡ 0 → ⊥) → AreElsewhere k steps

brings_some : (bytes rest : List ℕ) (steps : List StepData) → Brings bytes rest steps → BringsSome bytes steps
brings_some bytes rest steps h = record { rest = rest; front = h.all; elsewhere = λ k apart. pieces_elsewhere k steps apart h.pieces }

-- steps that feed all, followed by steps that feed nothing
brings_all : (bytes : List ℕ) (steps part : List StepData) → Brings bytes [] steps → IsPartOf a_flush part → BringsSome bytes (steps ++ part)
brings_all bytes steps part h is = record {
  rest = [];
  front = append-nil (bytes_fed 0 (steps ++ part)) ∙ bytes_of-append 0 steps part ∙ ap (λ (more : List ℕ). bytes_fed 0 steps ++ more) (flush_brings_nothing part is 0) ∙ h.all;
  elsewhere = λ k apart. elsewhere-append k steps part (pieces_elsewhere k steps apart h.pieces) (flush_elsewhere k part is);
}

-- a part of a refused piece
front_brings : (bytes rest piece following : List ℕ) (steps part : List StepData) → Brings bytes rest steps → rest ≡ piece ++ following → length piece ≤ MAX_PIECE → IsPartOf (a_piece 0 piece) part
    → BringsFront bytes (steps ++ part)
front_brings bytes rest piece following steps part h split within (inl none) =
    (rest, subst (Brings bytes rest) (sym (ap (λ (more : List StepData). steps ++ more) none ∙ append-nil steps)) h)
front_brings bytes rest piece following steps part h split within (inr (front, lost, cut, is)) = (
  lost ++ following,
  subst (λ (more : List StepData). Brings bytes (lost ++ following) (steps ++ more)) (sym is)
      (brings_more bytes rest front (lost ++ following) steps h (split ∙ ap (λ (p : List ℕ). p ++ following) cut ∙ append_assoc front lost following) (omega (arith, within, ap length cut, length-append front lost))),
)

-- the bytes of one more line
one_line_more : (lines : List (List ℕ)) (bytes : List ℕ) → flat_map (λ line. line) lines ++ bytes ≡ flat_map (λ line. line) (lines ++ bytes ∷ [])
one_line_more lines bytes = ap (λ (more : List ℕ). flat_map (λ line. line) lines ++ more) (sym (append-nil bytes)) ∙ sym (both_mapped (λ line. line) lines (bytes ∷ []))

-- ---- what lines spell

pub spelled_first : (known now : Option (List ℕ)) (lines : List (List ℕ)) → HasSpelled known now lines → IfSome known (SpellsFirst lines)
spelled_first None now lines h = tt
spelled_first (Some input) None lines h = absurd h
spelled_first (Some input) (Some rest) lines h = (spelled rest, h)

pub all_first : (known : Option (List ℕ)) (lines : List (List ℕ)) → IfSome known (SpellsInput lines) → IfSome known (SpellsFirst lines)
all_first None lines h = tt
all_first (Some input) lines h = ([], h ∙ sym (append-nil _))

module _ {C : Type 0} {M : CoreModel C} where
  -- ---- a line

  pub fed_so_far : (old new : C) (bytes rest : List ℕ) → CoreTransition M old new (Brings bytes rest) → LoopReached M old new (BringsFront bytes)
  fed_so_far old new bytes rest h = record {
    steps = h.steps;
    taken = h.taken;
    reaches = M.done_in_part old new h.steps h.taken h.did;
    others = λ k apart. h.none k;
    shape = (rest, h.shape);
  }

  pub feed_refused : (old mid new : C) (bytes rest piece following : List ℕ) → CoreTransition M old mid (Brings bytes rest) → rest ≡ piece ++ following → length piece ≤ MAX_PIECE
      → GoesBy M (a_piece 0 piece) mid new → LoopReached M old new (BringsFront bytes)
  feed_refused old mid new bytes rest piece following h split within goes = record {
    steps = h.steps ++ goes.0;
    taken = λ session. h.taken session ++ no_bytes session;
    reaches = M.then_in_part old mid new h.steps goes.0 h.taken no_bytes h.did goes.2;
    others = λ k apart. none_of_both (h.taken k) [] (h.none k) refl;
    shape = front_brings bytes rest piece following h.steps goes.0 h.shape split within goes.1;
  }

  -- ---- a flush

  pub flush_refused : (old new : C) → GoesBy M a_flush old new → LoopReached M old new (IsPartOf a_flush)
  flush_refused old new goes = record { steps = goes.0; taken = no_bytes; reaches = goes.2; others = λ k apart. refl; shape = goes.1 }

  pub output_taken : (old mid new : C) (output : List ℕ) → M.DidSteps old mid (a_flush ∷ []) no_bytes → M.DidSteps mid new [] (bytes_for 0 output) → LoopReached M old new (IsPartOf a_flush)
  output_taken old mid new output flushed took = record {
    steps = a_flush ∷ [];
    taken = λ session. no_bytes session ++ bytes_for 0 output session;
    reaches = M.done_in_part old new (a_flush ∷ []) (λ session. no_bytes session ++ bytes_for 0 output session) (M.more_done old mid new (a_flush ∷ []) [] no_bytes (bytes_for 0 output) flushed took);
    others = λ k apart. cond-false (eqb k 0) output [] (ne_eqb k 0 apart);
    shape = inr refl;
  }

  -- the output isn't whole frames
  pub output_cut_off : (old mid new : C) (output : List ℕ) → M.DidSteps old mid (a_flush ∷ []) no_bytes → M.DidSteps mid new [] (bytes_for 0 output) → AreUnfinished output → CutsFrameOff M old new
  output_cut_off old mid new output flushed took cut = record {
    steps = a_flush ∷ [];
    taken = λ session. no_bytes session ++ bytes_for 0 output session;
    reaches = M.done_in_part old new (a_flush ∷ []) (λ session. no_bytes session ++ bytes_for 0 output session) (M.more_done old mid new (a_flush ∷ []) [] no_bytes (bytes_for 0 output) flushed took);
    earlier = [];
    last = output;
    split = refl;
    cut_off = cut;
  }

  -- so is that of later steps
  pub cut_off_after : (old mid new : C) (steps : List StepData) (taken : ℕ → List ℕ) → M.DidSteps old mid steps taken → CutsFrameOff M mid new → CutsFrameOff M old new
  cut_off_after old mid new steps taken did h = record {
    steps = steps ++ h.steps;
    taken = λ session. taken session ++ h.taken session;
    reaches = M.then_in_part old mid new steps h.steps taken h.taken did h.reaches;
    earlier = taken 0 ++ h.earlier;
    last = h.last;
    split = ap (λ (more : List ℕ). taken 0 ++ more) h.split ∙ sym (append_assoc (taken 0) h.earlier h.last);
    cut_off = h.cut_off;
  }

  -- ---- lines

  pub lines_reached : {before after : Option (List ℕ)} (old new : C) (known : Option (List ℕ)) (lines : List (List ℕ)) → LoopTransition M old new before after (AreLinePasses lines)
      → IfSome known (SpellsFirst lines) → LoopReached M old new (BringsLines known)
  lines_reached old new known lines h spells = record {
    steps = h.steps;
    taken = h.taken;
    reaches = M.done_in_part old new h.steps h.taken h.did;
    others = h.others;
    shape = record {
      lines = lines;
      rest = [];
      front = append-nil (bytes_fed 0 h.steps) ∙ turns_bring lines h.steps h.shape;
      spells = spells;
      elsewhere = λ k apart. turns_elsewhere k lines h.steps apart h.shape;
    };
  }

  -- the passes of some lines, followed by steps that feed a prefix of these bytes
  lines_then : {before after : Option (List ℕ)} (old mid new : C) (known : Option (List ℕ)) (lines all : List (List ℕ)) (bytes : List ℕ) → LoopTransition M old mid before after (AreLinePasses lines)
      → LoopReached M mid new (BringsSome bytes) → flat_map (λ line. line) lines ++ bytes ≡ flat_map (λ line. line) all → IfSome known (SpellsFirst all) → LoopReached M old new (BringsLines known)
  lines_then old mid new known lines all bytes first second are spells = record {
    steps = first.steps ++ second.steps;
    taken = λ session. first.taken session ++ second.taken session;
    reaches = M.then_in_part old mid new first.steps second.steps first.taken second.taken first.did second.reaches;
    others = λ k apart. none_of_both (first.taken k) (second.taken k) (first.others k apart) (second.others k apart);
    shape = record {
      lines = all;
      rest = second.shape.rest;
      front = ap (λ (front : List ℕ). front ++ second.shape.rest) (bytes_of-append 0 first.steps second.steps)
          ∙ append_assoc (bytes_fed 0 first.steps) (bytes_fed 0 second.steps) second.shape.rest
          ∙ ap (λ (more : List ℕ). bytes_fed 0 first.steps ++ more) second.shape.front
          ∙ ap (λ (front : List ℕ). front ++ bytes) (turns_bring lines first.steps first.shape)
          ∙ are;
      spells = spells;
      elsewhere = λ k apart. elsewhere-append k first.steps second.steps (turns_elsewhere k lines first.steps apart first.shape) (second.shape.elsewhere k apart);
    };
  }

  pub send_stopped : {before after : Option (List ℕ)} (old mid new : C) (known : Option (List ℕ)) (lines : List (List ℕ)) (bytes : List ℕ) → LoopTransition M old mid before after (AreLinePasses lines)
      → LoopReached M mid new (BringsFront bytes) → IfSome known (SpellsFirst (lines ++ bytes ∷ [])) → LoopReached M old new (BringsLines known)
  send_stopped old mid new known lines bytes first second spells =
      let some : LoopReached M mid new (BringsSome bytes) =
      record { steps = second.steps; taken = second.taken; reaches = second.reaches; others = second.others; shape = brings_some bytes second.shape.0 second.steps second.shape.1 } in
      lines_then old mid new known lines (lines ++ bytes ∷ []) bytes first some (one_line_more lines bytes) spells

  pub reply_stopped : {before after : Option (List ℕ)} (old mid fed new : C) (known : Option (List ℕ)) (lines : List (List ℕ)) (bytes : List ℕ) → LoopTransition M old mid before after (AreLinePasses lines)
      → CoreTransition M mid fed (Brings bytes []) → LoopReached M fed new (IsPartOf a_flush) → IfSome known (SpellsFirst (lines ++ bytes ∷ [])) → LoopReached M old new (BringsLines known)
  reply_stopped old mid fed new known lines bytes first feeding reply spells =
      let some : LoopReached M mid new (BringsSome bytes) = record {
        steps = feeding.steps ++ reply.steps;
        taken = λ session. feeding.taken session ++ reply.taken session;
        reaches = M.then_in_part mid fed new feeding.steps reply.steps feeding.taken reply.taken feeding.did reply.reaches;
        others = λ k apart. none_of_both (feeding.taken k) (reply.taken k) (feeding.none k) (reply.others k apart);
        shape = brings_all bytes feeding.steps reply.steps feeding.shape reply.shape;
      } in
      lines_then old mid new known lines (lines ++ bytes ∷ []) bytes first some (one_line_more lines bytes) spells

  -- ---- the end

  pub end_refused : {before after : Option (List ℕ)} (old mid new : C) (known : Option (List ℕ)) (lines : List (List ℕ)) → LoopTransition M old mid before after (AreLinePasses lines)
      → GoesBy M (an_end 0) mid new → IfSome known (SpellsFirst lines) → LoopReached M old new (BringsLines known)
  end_refused old mid new known lines first goes spells =
      let some : LoopReached M mid new (BringsSome []) = record {
        steps = goes.0;
        taken = no_bytes;
        reaches = goes.2;
        others = λ k apart. refl;
        shape = record { rest = []; front = none_of_both (bytes_fed 0 goes.0) [] (end_brings_nothing 0 goes.0 goes.1 0) refl; elsewhere = λ k apart. end_elsewhere k goes.0 apart goes.1 };
      } in
      lines_then old mid new known lines lines [] first some (append-nil _) spells

  pub last_reply_stopped : {before after : Option (List ℕ)} (old mid over new : C) (known : Option (List ℕ)) (lines : List (List ℕ)) → LoopTransition M old mid before after (AreLinePasses lines)
      → M.DidSteps mid over (an_end 0 ∷ []) no_bytes → LoopReached M over new (IsPartOf a_flush) → IfSome known (SpellsFirst lines) → LoopReached M old new (BringsLines known)
  last_reply_stopped old mid over new known lines first did reply spells =
      let some : LoopReached M mid new (BringsSome []) = record {
        steps = an_end 0 ∷ reply.steps;
        taken = λ session. no_bytes session ++ reply.taken session;
        reaches = M.then_in_part mid over new (an_end 0 ∷ []) reply.steps no_bytes reply.taken did reply.reaches;
        others = reply.others;
        shape = record {
          rest = [];
          front = none_of_both (bytes_fed 0 reply.steps) [] (flush_brings_nothing reply.steps reply.shape 0) refl;
          elsewhere = λ k apart. ((λ about. apart (sym about)), flush_elsewhere k reply.steps reply.shape);
        };
      } in
      lines_then old mid new known lines lines [] first some (append-nil _) spells
