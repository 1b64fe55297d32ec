-- Which line of a file is refused.
use Rattle.std.specs.Prelude.{true, false, Bool, cond}
use Rattle.std.specs.List.{position_or_len, after_first}
use Rattle.std.proofs.Common.{◌≡◌, ◌∙◌, ◌⊎◌, ◌<◌, ◌≤◌, ◌+◌, ◌-◌, ◌^◌, ◌==◌, inl, inr, ℕ, List, [], ◌∷◌, length, take, drop, length-append, sym, ap, subst, refl, arith}
use Rattle.std.proofs.lemmas.Bool.{cond-true, cond-false, eq-eqb, ne_eqb}
use Rattle.std.proofs.lemmas.List.{length-take, length-drop}
use Rattle.std.proofs.lemmas.List.Sums.{sum_by-cons}
use Rattle.audit_proof.specs.declared.commitment.Commitment.{Commitment}
use Rattle.audit_text.specs.Lines.{lines_of, is_line_feed, onto_first, line_feed}
use Rattle.audit_cli_witness.specs.State.{HoldsLines}
use Rattle.audit_cli_witness.specs.StateFaults.{IsBadStateLine, IsFirstBadLine, IsLongStateLine, HasNoBadLine, end_start, judged_text, line_feeds}
use Rattle.audit_cli_witness.proofs.StateLines.{text_kept}
use Rattle.audit_cli_witness.proofs.BadLines.{no_bad_line}

-- ---- sizes

onto_counted : (byte : ℕ) (lines : List (List ℕ)) (size : ℕ) → length lines ≤ size → length (onto_first byte lines) ≤ size + 1
onto_counted byte [] size small = omega arith
onto_counted byte (line ∷ lines) size small = omega (arith, small)

-- each line has a byte
lines_short : (bytes : List ℕ) → length (lines_of bytes) ≤ length bytes
unfolding lines_of
lines_short [] = omega arith
lines_short (byte ∷ bytes) = by (byte == line_feed) (lines_short bytes)
  where
    by : (b : Bool) → length (lines_of bytes) ≤ length bytes → length (cond b ([] ∷ lines_of bytes) (onto_first byte (lines_of bytes))) ≤ length (byte ∷ bytes)
    by true small = omega (arith, small)
    by false small = omega (arith, onto_counted byte (lines_of bytes) (length bytes) small)

-- and so has each line feed
feeds_short : (bytes : List ℕ) → line_feeds bytes ≤ length bytes
feeds_short [] = omega arith
feeds_short (byte ∷ bytes) = by (is_line_feed byte) refl (feeds_short bytes)
  where
    by : (b : Bool) → is_line_feed byte ≡ b → line_feeds bytes ≤ length bytes → line_feeds (byte ∷ bytes) ≤ length (byte ∷ bytes)
    by true is small =
        let one : cond (is_line_feed byte) 1 0 ≡ 1 = ap (λ (b : Bool). cond {A = ℕ} b 1 0) is in
        omega (arith, small, one, sum_by-cons (λ (x : ℕ). cond (is_line_feed x) 1 0) byte bytes)
    by false is small =
        let one : cond (is_line_feed byte) 1 0 ≡ 0 = ap (λ (b : Bool). cond {A = ℕ} b 1 0) is in
        omega (arith, small, one, sum_by-cons (λ (x : ℕ). cond (is_line_feed x) 1 0) byte bytes)

bad_within : (text : List ℕ) (number : ℕ) → IsBadStateLine text number → number ≤ length text
bad_within text number bad =
    omega (arith, bad.number_is, lines_short text, ap length bad.lines, length-append bad.before (bad.line ∷ bad.after))

-- ---- what is judged

pub judged_whole : (file : List ℕ) → end_start file ≡ 0 → judged_text file ≡ file
judged_whole file none = cond-true (end_start file == 0) file (after_first is_line_feed (drop (end_start file) file)) (eq-eqb (end_start file) 0 none)

pub judged_end : (file : List ℕ) → (end_start file ≡ 0 → ⊥) → judged_text file ≡ after_first is_line_feed (drop (end_start file) file)
judged_end file some = cond-false (end_start file == 0) file (after_first is_line_feed (drop (end_start file) file)) (ne_eqb (end_start file) 0 some)

judged_short : (file : List ℕ) → length (judged_text file) ≤ length file
judged_short file = by (end_start file == 0)
  where
    by : (b : Bool) → length (cond b file (after_first is_line_feed (drop (end_start file) file))) ≤ length file
    by true = omega arith
    by false =
        let text = drop (end_start file) file in
        omega (arith, length-drop (position_or_len is_line_feed text + 1) text, length-drop (end_start file) file)

-- ---- the line of a file that is refused

-- the number is one of eight bytes, as the length of the file is
pub first_bad : (file : List ℕ) (line number : ℕ) → IsBadStateLine (judged_text file) line → length file < 2 ^ 64
    → (line_feeds (take (length file - length (judged_text file)) file) + line < 2 ^ 64 → number ≡ line_feeds (take (length file - length (judged_text file)) file) + line) → IsFirstBadLine file number
first_bad file line number bad small is =
    let before = length file - length (judged_text file) in
    (line, bad, is (omega (arith, small, judged_short file, bad_within (judged_text file) line bad, feeds_short (take before file), length-take before file)))

pub first_bad_whole : (file : List ℕ) (line : ℕ) → end_start file ≡ 0 → IsBadStateLine file line → IsFirstBadLine file line
first_bad_whole file line none bad =
    let same = judged_whole file none in
    let before : length file - length (judged_text file) ≡ 0 = omega (arith, ap length same) in
    let alone : line ≡ 0 + line = omega arith in
    (line, subst (λ (text : List ℕ). IsBadStateLine text line) (sym same) bad, alone ∙ ap (λ (n : ℕ). line_feeds (take n file) + line) (sym before))

pub long_line : (file : List ℕ) (kept : List Commitment) (torn number : ℕ) (lacks : Bool) → 0 < end_start file → length file < 2 ^ 64 → HoldsLines (judged_text file) kept torn lacks → length kept ≡ 0
    → (line_feeds (take (end_start file) file) + 1 < 2 ^ 64 → number ≡ line_feeds (take (end_start file) file) + 1) → IsLongStateLine file number
long_line file [] torn number lacks long small holds none is = record {
  long = long;
  none = text_kept (judged_text file) [] torn lacks holds;
  no_other = λ line. no_bad_line (judged_text file) [] torn lacks line holds;
  number_is = is (omega (arith, small, long, feeds_short (take (end_start file) file), length-take (end_start file) file));
}
long_line file (one ∷ kept) torn number lacks long small holds none is = absurd (omega (arith, none))

-- ---- a file of which no line is

pub none_refused : (file : List ℕ) (kept : List Commitment) (torn : ℕ) (lacks : Bool) → HoldsLines (judged_text file) kept torn lacks → (end_start file ≡ 0) ⊎ (0 < length kept) → HasNoBadLine file
none_refused file kept torn lacks holds some number (inl bad) = no_bad_line (judged_text file) kept torn lacks bad.0 holds bad.1
none_refused file kept torn lacks holds (inl whole) number (inr long) = omega (arith, whole, long.long)
none_refused file kept torn lacks holds (inr some) number (inr long) =
    omega (arith, some, ap length (sym (text_kept (judged_text file) kept torn lacks holds) ∙ long.none))
