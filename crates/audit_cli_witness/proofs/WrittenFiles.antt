-- A file of lines that were added is read back.
use Rattle.std.specs.Prelude.{map, not, false, Bool, cond, Some, Option}
use Rattle.std.specs.Fmt.{decimal}
use Rattle.std.specs.List.{AllByRecursion, position_or_len, after_first}
use Rattle.std.proofs.Common.{◌≡◌, ◌∙◌, ◌<◌, ◌≤◌, ◌+◌, ◌-◌, ◌*◌, ◌^◌, inl, inr, ℕ, suc, zero, List, [], ◌∷◌, ◌++◌, length, drop, length-append, append_assoc, append-nil, sym, ap, subst, refl, arith, lit<}
use Rattle.std.proofs.lemmas.Bool.{cases_lt}
use Rattle.std.proofs.lemmas.List.{length-drop, drop-append-le}
use Rattle.std.proofs.lemmas.Fmt.{decimal_is_IsNumeral, length-decimal-le}
use Rattle.std.proofs.Math.Seq.{drop-append-add}
use Rattle.hex.specs.Hex.{encode_lower, lower_digits}
use Rattle.hex.proofs.HexLemmas.{length-encode_with}
use Rattle.audit_proof.specs.declared.commitment.Commitment.{Commitment}
use Rattle.audit_text.specs.Lines.{lines_of, line_feed, is_line_feed}
use Rattle.audit_cli_offline.specs.CommitmentWord.{commitment_in_word}
use Rattle.audit_cli_witness.specs.State.{AreLinesOf, HoldsLines, IsStored, commitment_word, line_after, lacks_feed, kept_in, commitment_lines}
use Rattle.audit_cli_witness.specs.StateFaults.{HasNoBadLine, end_start, judged_text}
use Rattle.audit_cli_witness.proofs.AddedLines.{IsWordByte, no_lines, after_whole, line_added, word_read, digits_word, root_word}
use Rattle.audit_cli_witness.proofs.StateLines.{ends_whole, lacks_after, text_kept}
use Rattle.audit_cli_witness.proofs.FileLines.{judged_whole, judged_end, none_refused}

-- ---- all lines

one_line : (seen : Commitment) (rest : List ℕ) → IsStored seen → lines_of (line_after false seen ++ rest) ≡ commitment_word seen ∷ lines_of rest
one_line seen rest stored =
    after_whole (line_after false seen) rest (ends_whole (commitment_word seen))
    ∙ ap (λ (l : List (List ℕ)). l ++ lines_of rest) (line_added [] false seen stored refl ∙ ap (λ (l : List (List ℕ)). l ++ commitment_word seen ∷ []) no_lines)

are_lines : (kept : List Commitment) → AllByRecursion IsStored kept → AreLinesOf (lines_of (commitment_lines kept)) kept
are_lines [] all = ap (map commitment_in_word) no_lines
are_lines (seen ∷ later) all =
    ap (map commitment_in_word) (one_line seen (commitment_lines later) all.0)
    ∙ ap (λ (o : Option Commitment). o ∷ map commitment_in_word (lines_of (commitment_lines later))) (word_read seen all.0)
    ∙ ap (λ (l : List (Option Commitment)). Some seen ∷ l) (are_lines later all.1)

all_end : (kept : List Commitment) → lacks_feed (commitment_lines kept) ≡ false
all_end [] = refl
all_end (seen ∷ later) = lacks_after (line_after false seen) (commitment_lines later) (ends_whole (commitment_word seen)) ∙ all_end later

holds_all : (kept : List Commitment) → AllByRecursion IsStored kept → HoldsLines (commitment_lines kept) kept 0 false
holds_all kept all = record {
  front = commitment_lines kept;
  rest = [];
  whole = sym (append-nil (commitment_lines kept));
  lines = are_lines kept all;
  torn_is = refl;
  lacks_is = sym (all_end kept);
  cut = inl refl;
}

pub read_back : (kept : List Commitment) → AllByRecursion IsStored kept → kept_in (commitment_lines kept) ≡ kept
read_back kept all = text_kept (commitment_lines kept) kept 0 false (holds_all kept all)

-- ---- the end of a long file

IsNoFeed : ℕ → Type 0
IsNoFeed byte = is_line_feed byte ≡ false

no_feeds_of : (bytes : List ℕ) → AllByRecursion IsWordByte bytes → AllByRecursion IsNoFeed bytes
unfolding IsWordByte IsNoFeed
no_feeds_of [] all = tt
no_feeds_of (byte ∷ bytes) all = (all.0.0, no_feeds_of bytes all.1)

no_feeds_append : (xs ys : List ℕ) → AllByRecursion IsNoFeed xs → AllByRecursion IsNoFeed ys → AllByRecursion IsNoFeed (xs ++ ys)
no_feeds_append [] ys a b = b
no_feeds_append (x ∷ xs) ys a b = (a.0, no_feeds_append xs ys a.1 b)

no_feeds_after : (n : ℕ) (bytes : List ℕ) → AllByRecursion IsNoFeed bytes → AllByRecursion IsNoFeed (drop n bytes)
no_feeds_after zero bytes all = all
no_feeds_after (suc n) [] all = tt
no_feeds_after (suc n) (byte ∷ bytes) all = no_feeds_after n bytes all.1

word_feeds : (seen : Commitment) → IsStored seen → AllByRecursion IsNoFeed (commitment_word seen)
unfolding IsNoFeed
word_feeds seen stored =
    no_feeds_append (decimal seen.count ++ 58 ∷ []) (encode_lower seen.root)
    (no_feeds_append (decimal seen.count) (58 ∷ []) (no_feeds_of (decimal seen.count) (digits_word (decimal seen.count) (decimal_is_IsNumeral seen.count stored.count).0.1)) (refl, tt))
    (no_feeds_of (encode_lower seen.root) (root_word seen.root stored.bytes))

word_short : (seen : Commitment) → IsStored seen → length (commitment_word seen) ≤ 85
word_short seen stored =
    let count : length (decimal seen.count) ≤ 20 = length-decimal-le 20 seen.count (lit< tt) (below seen.count stored.count) stored.count in
    let root : length (encode_lower seen.root) ≡ 2 * length seen.root = length-encode_with lower_digits seen.root in
    omega (arith, count, root, stored.root, length-append (decimal seen.count ++ 58 ∷ []) (encode_lower seen.root), length-append (decimal seen.count) (58 ∷ []))
  where
    below : (n : ℕ) → n < 2 ^ 64 → n < 10 ^ 20
    below n small = omega arith

feed_at : (bytes rest : List ℕ) → AllByRecursion IsNoFeed bytes → position_or_len is_line_feed (bytes ++ line_feed ∷ rest) ≡ length bytes
unfolding IsNoFeed
feed_at [] rest all = refl
feed_at (byte ∷ bytes) rest all =
    ap (λ (b : Bool). cond (not b) (1 + position_or_len is_line_feed (bytes ++ line_feed ∷ rest)) 0) all.0 ∙ ap (λ n. 1 + n) (feed_at bytes rest all.1) ∙ omega arith

-- From a place in the lines of commitments on there is a line feed soon, and after it there are the lines of the later ones.
record IsLaterText (kept : List Commitment) (place : ℕ) : Type 0 where
  pub later : List Commitment
  pub stored : AllByRecursion IsStored later
  pub after : after_first is_line_feed (drop place (commitment_lines kept)) ≡ commitment_lines later
  pub soon : position_or_len is_line_feed (drop place (commitment_lines kept)) ≤ 85

later_text : (kept : List Commitment) (place : ℕ) → AllByRecursion IsStored kept → place < length (commitment_lines kept) → IsLaterText kept place
later_text [] place all within = absurd (omega (arith, within))
later_text (seen ∷ later) place all within =
    let word = commitment_word seen in
    let rest = commitment_lines later in
    let whole : commitment_lines (seen ∷ later) ≡ word ++ line_feed ∷ rest = append_assoc word (line_feed ∷ []) rest in
    let size : length (line_after false seen) ≡ length word + 1 = length-append word (line_feed ∷ []) in
    elim (cases_lt (length word) place) [
      | inl past ↦
          let n = place - length (line_after false seen) in
          let at : place ≡ length (line_after false seen) + n = omega (arith, past, size) in
          let same : drop place (commitment_lines (seen ∷ later)) ≡ drop n rest = ap (λ (m : ℕ). drop m (commitment_lines (seen ∷ later))) at ∙ drop-append-add (line_after false seen) rest n in
          let more = later_text later n all.1 (omega (arith, within, past, size, length-append (line_after false seen) rest)) in
          record {
            later = more.later;
            stored = more.stored;
            after = ap (after_first is_line_feed) same ∙ more.after;
            soon = subst (λ (l : List ℕ). position_or_len is_line_feed l ≤ 85) (sym same) more.soon;
          }
      | inr here ↦
          let part = drop place word in
          let same : drop place (commitment_lines (seen ∷ later)) ≡ part ++ line_feed ∷ rest = ap (drop place) whole ∙ drop-append-le place word (line_feed ∷ rest) here in
          let first : position_or_len is_line_feed (part ++ line_feed ∷ rest) ≡ length part = feed_at part rest (no_feeds_after place word (word_feeds seen all.0)) in
          let short = word_short seen all.0 in
          record {
            later = later;
            stored = all.1;
            after = ap (after_first is_line_feed) same ∙ ap (λ (m : ℕ). drop (m + 1) (part ++ line_feed ∷ rest)) first ∙ drop-append-add part (line_feed ∷ rest) 1;
            soon = subst (λ (l : List ℕ). position_or_len is_line_feed l ≤ 85) (sym same) (omega (arith, first, short, length-drop place word));
          }
    ]

some_kept : (kept : List Commitment) → 0 < length (commitment_lines kept) → 0 < length kept
some_kept [] some = absurd (omega (arith, some))
some_kept (one ∷ kept) some = omega arith

pub no_bad_line_added : (kept : List Commitment) → AllByRecursion IsStored kept → HasNoBadLine (commitment_lines kept)
no_bad_line_added kept all = elim (cases_lt 0 (end_start (commitment_lines kept))) [
  | inl long ↦
      let file = commitment_lines kept in
      let start = end_start file in
      let end = drop start file in
      let more = later_text kept start all (omega (arith, long)) in
      let same : judged_text file ≡ commitment_lines more.later = judged_end file (λ none. omega (arith, long, none)) ∙ more.after in
      let size : length (commitment_lines more.later) ≡ length end - (position_or_len is_line_feed end + 1) = ap length (sym more.after) ∙ length-drop (position_or_len is_line_feed end + 1) end in
      let some : 0 < length (commitment_lines more.later) = omega (arith, size, more.soon, long, length-drop start file) in
      none_refused file more.later 0 false (subst (λ (l : List ℕ). HoldsLines l more.later 0 false) (sym same) (holds_all more.later more.stored)) (inr (some_kept more.later some))
  | inr whole ↦
      let file = commitment_lines kept in
      let none : end_start file ≡ 0 = omega (arith, whole) in
      none_refused file kept 0 false (subst (λ (l : List ℕ). HoldsLines l kept 0 false) (sym (judged_whole file none)) (holds_all kept all)) (inl none)
]
