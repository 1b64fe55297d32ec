-- The first line that isn't a commitment's.
use Rattle.std.specs.Prelude.{true, false, Bool, Some, None, Option, Result, Ok, Err, IfErr}
use Rattle.std.specs.List.{position_or_len, before_first}
use Rattle.std.proofs.Common.{◌≡◌, ◌∙◌, ◌⊎◌, ◌<◌, ◌≤◌, ◌+◌, inl, inr, ℕ, List, [], ◌∷◌, ◌++◌, length, append_assoc, append-nil, sym, ap, subst, refl, arith}
use Rattle.std.proofs.lemmas.Option.{none-some}
use Rattle.std.proofs.lemmas.List.{length-map, length-take}
use Rattle.std.proofs.lemmas.List.Sums.{fails_before_first}
use Rattle.audit_proof.specs.declared.commitment.Commitment.{Commitment}
use Rattle.audit_text.specs.Lines.{lines_of, line_feed, is_line_feed, IsCutInLines}
use Rattle.audit_text.proofs.FirstLine.{first_line, first_of_lines}
use Rattle.audit_cli_offline.specs.CommitmentWord.{commitment_in_word}
use Rattle.audit_cli_witness.specs.declared.state_lines.Tail.{Tail}
use Rattle.audit_cli_connection.specs.Faults.{no_memory}
use Rattle.audit_cli_connection.specs.declared.fault.RemoteError.{RemoteError}
use Rattle.audit_cli_connection.specs.declared.fault.RemoteError.TheVariants.{BadStateLine}
use Rattle.audit_cli_witness.specs.State.{AreLinesOf, HoldsLines, IsCutOffAfter, IsTorn, lacks_feed}
use Rattle.audit_cli_witness.specs.StateFaults.{IsBadStateLine, HasLineCause}
use Rattle.audit_cli_witness.proofs.AddedLines.{no_lines, after_whole}
use Rattle.audit_cli_witness.proofs.StateLines.{IsReadUpTo, line_cut, lacks_none, lacks_end, ends_whole}

-- as many lines as commitments
lines_counted : (lines : List (List ℕ)) (kept : List Commitment) → AreLinesOf lines kept → length lines ≡ length kept
lines_counted lines kept are = sym (length-map lines commitment_in_word) ∙ ap length are ∙ length-map kept (λ (one : Commitment). Some one)

-- a text with a byte has a line
some_lines : (bytes : List ℕ) → lines_of bytes ≡ [] → bytes ≡ []
some_lines [] none = refl
some_lines (byte ∷ bytes) none = cc (sym (first_line byte bytes) ∙ none)

-- the first line of the rest isn't a commitment's, and ends in a line feed
pub bad_line_found : (text : List ℕ) (kept : List Commitment) (rest line after : List ℕ) → IsReadUpTo text kept rest → 0 < length rest → IsCutInLines rest line after → (length line ≡ length rest → ⊥) → commitment_in_word line ≡ None
    → IsBadStateLine text (length kept + 1)
bad_line_found text kept rest line after so_far some cut other is =
    let front = so_far.front in
    let whole : text ≡ (front ++ line) ++ line_feed ∷ after =
    so_far.split ∙ ap (λ (l : List ℕ). front ++ l) (line_cut rest line after cut other) ∙ sym (append_assoc front line (line_feed ∷ after)) in
    record {
      before = lines_of front;
      kept = kept;
      line = line;
      after = lines_of after;
      lines = ap lines_of so_far.split ∙ after_whole front rest so_far.whole ∙ ap (λ (l : List (List ℕ)). lines_of front ++ l) (first_of_lines rest line after some cut);
      read = so_far.read;
      number_is = ap (λ (n : ℕ). n + 1) (sym (lines_counted (lines_of front) kept so_far.read));
      other = is;
      uncut = λ none lacks torn.
          let ended : lacks_feed text ≡ false = ap lacks_feed (whole ∙ ap (λ (l : List ℕ). (front ++ line) ++ line_feed ∷ l) (some_lines after none)) ∙ ends_whole (front ++ line) in
          cc (sym lacks ∙ ended);
    }

-- the last line isn't, has no line feed, and wasn't cut off
pub bad_last_line : (text : List ℕ) (kept : List Commitment) (rest line after : List ℕ) → IsReadUpTo text kept rest → 0 < length rest → IsCutInLines rest line after → length line ≡ length rest → commitment_in_word line ≡ None
    → (0 < length line → IsTorn line → ⊥) → IsBadStateLine text (length kept + 1)
bad_last_line text kept rest line after so_far some cut whole is uncut =
    let front = so_far.front in
    record {
      before = lines_of front;
      kept = kept;
      line = line;
      after = lines_of after;
      lines = ap lines_of so_far.split ∙ after_whole front rest so_far.whole ∙ ap (λ (l : List (List ℕ)). lines_of front ++ l) (first_of_lines rest line after some cut);
      read = so_far.read;
      number_is = ap (λ (n : ℕ). n + 1) (sym (lines_counted (lines_of front) kept so_far.read));
      other = is;
      uncut = λ none lacks torn. uncut (omega (arith, some, whole)) torn;
    }

-- ---- a text of which all lines were read has none

-- each line of commitments is one
no_other : (before : List (List ℕ)) (line : List ℕ) (after : List (List ℕ)) (kept : List Commitment) → AreLinesOf (before ++ line ∷ after) kept → commitment_in_word line ≡ None → ⊥
no_other [] line after [] are is = cc
no_other [] line after (one ∷ kept) are is =
    let first : commitment_in_word line ≡ Some one = cc in
    none-some one (sym is ∙ first)
no_other (first ∷ before) line after [] are is = cc
no_other (first ∷ before) line after (one ∷ kept) are is =
    let later : AreLinesOf (before ++ line ∷ after) kept = cc in
    no_other before line after kept later is

-- one other line after them is the last
is_last : (lines : List (List ℕ)) (torn : List ℕ) (before : List (List ℕ)) (line : List ℕ) (after : List (List ℕ)) (kept : List Commitment) → AreLinesOf lines kept → lines ++ torn ∷ [] ≡ before ++ line ∷ after → commitment_in_word line ≡ None
    → (line ≡ torn) × (after ≡ [])
is_last [] torn [] line after kept are same is = (cc, cc)
is_last [] torn (first ∷ []) line after kept are same is = cc
is_last [] torn (first ∷ second ∷ before) line after kept are same is = cc
is_last (first ∷ lines) torn [] line after kept are same is =
    let head : first ≡ line = cc in
    absurd (no_other [] first lines kept are (ap commitment_in_word head ∙ is))
is_last (first ∷ lines) torn (one ∷ before) line after [] are same is = cc
is_last (first ∷ lines) torn (one ∷ before) line after (seen ∷ kept) are same is =
    let later : AreLinesOf lines kept = cc in
    let rest : lines ++ torn ∷ [] ≡ before ++ line ∷ after = cc in
    is_last lines torn before line after kept later rest is

-- bytes that are one line have no line feed
lone_line : (bytes : List ℕ) → lines_of bytes ≡ bytes ∷ [] → (0 < length bytes) × (lacks_feed bytes ≡ true)
lone_line [] alone = cc (sym no_lines ∙ alone)
lone_line (byte ∷ bytes) alone =
    let all = byte ∷ bytes in
    let place = position_or_len is_line_feed all in
    let same : before_first is_line_feed all ≡ all = cc (sym (first_line byte bytes) ∙ alone) in
    let far : length all ≤ place = omega (arith, ap length same, length-take place all) in
    (omega arith, lacks_none all (omega arith) (λ k small. fails_before_first is_line_feed all k 0 (omega (arith, far, small))))

pub no_bad_line : (text : List ℕ) (kept : List Commitment) (torn : ℕ) (lacks : Bool) (number : ℕ) → HoldsLines text kept torn lacks → IsBadStateLine text number → ⊥
no_bad_line text kept torn lacks number holds bad = by holds.cut
  where
    by : IsCutOffAfter holds.front holds.rest → ⊥
    by (inl none) =
        let same : text ≡ holds.front = holds.whole ∙ ap (λ (l : List ℕ). holds.front ++ l) none ∙ append-nil holds.front in
        no_other bad.before bad.line bad.after kept (subst (λ (l : List (List ℕ)). AreLinesOf l kept) (sym (ap lines_of same) ∙ bad.lines) holds.lines) bad.other
    by (inr cut) =
        let lines : lines_of holds.front ++ holds.rest ∷ [] ≡ bad.before ++ bad.line ∷ bad.after =
        ap (λ (l : List (List ℕ)). lines_of holds.front ++ l) (sym cut.1) ∙ sym (after_whole holds.front holds.rest cut.0) ∙ ap lines_of (sym holds.whole) ∙ bad.lines in
        let last = is_last (lines_of holds.front) holds.rest bad.before bad.line bad.after kept holds.lines lines bad.other in
        let alone = lone_line holds.rest cut.1 in
        let open_end : lacks_feed text ≡ true = ap lacks_feed holds.whole ∙ lacks_end holds.front holds.rest alone.0 ∙ alone.1 in
        bad.uncut last.1 open_end (subst IsTorn (sym last.0) cut.2)

-- why the last line can't be read
abbrev pub IsLastFault : ℕ → List ℕ → RemoteError → Type 0
IsLastFault number line fault = (fault ≡ no_memory) ⊎ ((fault ≡ BadStateLine number) × (commitment_in_word line ≡ None) × (0 < length line → IsTorn line → ⊥))

last_fault : (text : List ℕ) (kept : List Commitment) (rest line after : List ℕ) (fault : RemoteError) → IsReadUpTo text kept rest → 0 < length rest → IsCutInLines rest line after → length line ≡ length rest
    → IsLastFault (length kept + 1) line fault → HasLineCause text fault
last_fault text kept rest line after fault so_far some cut whole (inl memory) = inl memory
last_fault text kept rest line after fault so_far some cut whole (inr bad) = inr (length kept + 1, bad.0, bad_last_line text kept rest line after so_far some cut whole bad.1 bad.2)

pub last_faults : (text : List ℕ) (kept : List Commitment) (rest line after : List ℕ) (r : Result Tail RemoteError) → IsReadUpTo text kept rest → 0 < length rest → IsCutInLines rest line after → length line ≡ length rest
    → IfErr r (IsLastFault (length kept + 1) line) → IfErr r (HasLineCause text)
last_faults text kept rest line after (Ok tail) so_far some cut whole last = tt
last_faults text kept rest line after (Err fault) so_far some cut whole last = last_fault text kept rest line after fault so_far some cut whole last

-- what a word is read as that isn't read as a commitment
pub not_read : (read word : Option Commitment) → read ≡ word → ((one : Commitment) → read ≡ Some one → ⊥) → word ≡ None
not_read read None same other = refl
not_read read (Some one) same other = absurd (other one same)
