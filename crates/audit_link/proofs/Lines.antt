-- The lines of numbers of events, read one after another.
use Rattle.std.specs.Fmt.{decimal}
use Rattle.std.specs.List.{before_first, after_first, position_or_len}
use Rattle.std.specs.Str.Parse.{AllDigits}
use Rattle.std.proofs.Common.{◌≡◌, ◌∙◌, ℕ, ◌+◌, ◌*◌, ◌<◌, ◌≤◌, ◌^◌, ◌==◌, Bool, Some, List, [], ◌∷◌, ◌++◌, length, refl, sym, ap, arith, cond, not, take, drop, append_assoc, append-nil, length-append, lit<}
use Rattle.std.proofs.lemmas.Bool.{ne_eqb}
use Rattle.std.proofs.lemmas.Str.Parse.{digit_from_value}
use Rattle.std.proofs.lemmas.Fmt.{decimal_is_IsNumeral, length-decimal-le}
use Rattle.std.proofs.Math.Seq.{take-append_seam}
use Rattle.audit_base.specs.declared.limits.TheConstants.{RESERVED_KIND}
use Rattle.audit_text.specs.Number.{number_in_text}
use Rattle.audit_text.proofs.FieldLines.{NoFeed, NoSpace, before_feed, field_read, digits_feedless, number_read}
use Rattle.audit_link.specs.declared.kind_count.KindCount.{KindCount}
use Rattle.audit_link.specs.Counts.{IsCount, Ascends, AreCounts}
use Rattle.audit_link.specs.CountsText.{kind_line, kind_lines, version_line, counts_text, SpellsCounts}

digits_spaceless : (digits : List ℕ) → AllDigits 10 digits → NoSpace digits
digits_spaceless [] all = tt
digits_spaceless (digit ∷ digits) all = (ne_eqb digit 32 (λ h. omega (arith, h, digit_from_value digit all.0)), digits_spaceless digits all.1)

space_at : (front rest : List ℕ) → NoSpace front → position_or_len (λ byte. byte == 32) (front ++ 32 ∷ rest) ≡ length front
space_at [] rest all = refl
space_at (byte ∷ front) rest all =
    ap (λ (b : Bool). cond (not b) (1 + position_or_len (λ byte. byte == 32) (front ++ 32 ∷ rest)) 0) all.0 ∙ ap (λ n. 1 + n) (space_at front rest all.1) ∙ omega arith

before_space : (front rest : List ℕ) → NoSpace front → before_first (λ byte. byte == 32) (front ++ 32 ∷ rest) ≡ front
before_space front rest all = ap (λ (n : ℕ). take n (front ++ 32 ∷ rest)) (space_at front rest all) ∙ take-append_seam front (32 ∷ rest)

feedless : (xs ys : List ℕ) → NoFeed xs → NoFeed ys → NoFeed (xs ++ ys)
feedless [] ys first second = second
feedless (x ∷ xs) ys first second = (first.0, feedless xs ys first.1 second)

-- the number of a kind is one of eight bytes
kind_small : (counted : KindCount) → IsCount counted → counted.kind < 2 ^ 64
kind_small counted is = omega (arith, is.kind)

-- a line at the start of a text
pub record IsLine (counted : KindCount) (more line after : List ℕ) : Type 0 where
  pub kind_is : number_in_text (before_first (λ byte. byte == 32) line) ≡ Some counted.kind
  pub count_is : number_in_text (after_first (λ byte. byte == 32) line) ≡ Some counted.count
  pub rest_is : after ≡ more

pub line_read : (text : List ℕ) (counted : KindCount) (more line after : List ℕ) → IsCount counted → text ≡ kind_line counted ++ more
    → line ≡ before_first (λ byte. byte == 10) text → after ≡ after_first (λ byte. byte == 10) text → IsLine counted more line after
line_read text counted more line after is text_is line_is after_is =
    let word = decimal counted.kind in
    let value = decimal counted.count in
    let digits = decimal_is_IsNumeral counted.kind (kind_small counted is) in
    let numeral = decimal_is_IsNumeral counted.count is.small in
    let whole : NoFeed word = digits_feedless word digits.0.1 in
    let also : NoFeed value = digits_feedless value numeral.0.1 in
    let plain : NoSpace word = digits_spaceless word digits.0.1 in
    let read = field_read text word value more line after plain whole also text_is line_is after_is in
    let front : List ℕ = word ++ (32 ∷ value) in
    let grouped : text ≡ front ++ 10 ∷ more = text_is ∙ (simp append_assoc) in
    let clean : NoFeed front = feedless word (32 ∷ value) whole (refl, also) in
    let line_whole : line ≡ front = line_is ∙ ap (before_first (λ byte. byte == 10)) grouped ∙ before_feed front more clean in
    let first : before_first (λ byte. byte == 32) line ≡ word = ap (before_first (λ byte. byte == 32)) line_whole ∙ before_space word value plain in
    record {
      kind_is = ap number_in_text first ∙ number_read counted.kind (kind_small counted is);
      count_is = ap number_in_text read.value_is ∙ number_read counted.count is.small;
      rest_is = read.rest_is;
    }

pub some_same : (a b : ℕ) → Some a ≡ Some b → a ≡ b
some_same a b same = cc

made : ℕ → ℕ → KindCount
made kind count = record { kind = kind; count = count }

pub counted_is : (kind count : ℕ) (counted : KindCount) → kind ≡ counted.kind → count ≡ counted.count → record { kind = kind; count = count } ≡ counted
unfolding made
counted_is kind count counted kinds counts = ap (λ k. made k count) kinds ∙ ap (λ n. made counted.kind n) counts

-- a line is that of one kind and number
pub one_line : (counted other : KindCount) (more others : List ℕ) → IsCount counted → IsCount other → kind_line counted ++ more ≡ kind_line other ++ others
    → (counted ≡ other) × (more ≡ others)
unfolding made
one_line counted other more others is also same =
    let text : List ℕ = kind_line counted ++ more in
    let line : List ℕ = before_first (λ byte. byte == 10) text in
    let after : List ℕ = after_first (λ byte. byte == 10) text in
    let one = line_read text counted more line after is refl refl refl in
    let two = line_read text other others line after also same refl refl in
    let kinds : counted.kind ≡ other.kind = some_same _ _ (sym one.kind_is ∙ two.kind_is) in
    let counts : counted.count ≡ other.count = some_same _ _ (sym one.count_is ∙ two.count_is) in
    (ap (λ k. made k counted.count) kinds ∙ ap (λ n. made other.kind n) counts, sym one.rest_is ∙ two.rest_is)

long_line : (counted : KindCount) (more : List ℕ) → 2 ≤ length (kind_line counted ++ more)
long_line counted more =
    omega (
      arith,
      length-append (kind_line counted) more,
      length-append (decimal counted.kind) (32 ∷ (decimal counted.count ++ (10 ∷ []))),
      length-append (decimal counted.count) (10 ∷ []),
    )

pub no_lines : (counted : KindCount) (more : List ℕ) → kind_line counted ++ more ≡ [] → ⊥
no_lines counted more same = omega (arith, long_line counted more, ap length same)

-- lines are those of one list of numbers
pub same_lines : (lowest least : ℕ) (counts others : List KindCount) → Ascends lowest counts → Ascends least others → kind_lines counts ≡ kind_lines others → counts ≡ others
same_lines lowest least [] [] first second same = refl
same_lines lowest least [] (other ∷ others) first second same = absurd (no_lines other (kind_lines others) (sym same))
same_lines lowest least (counted ∷ counts) [] first second same = absurd (no_lines counted (kind_lines counts) same)
same_lines lowest least (counted ∷ counts) (other ∷ others) first second same =
    let both = one_line counted other (kind_lines counts) (kind_lines others) first.1 second.1 same in
    let rest = same_lines (counted.kind + 1) (other.kind + 1) counts others first.2 second.2 both.1 in
    ap (λ c. c ∷ counts) both.0 ∙ ap (λ cs. other ∷ cs) rest

after_version : (xs ys : List ℕ) → version_line ++ xs ≡ version_line ++ ys → xs ≡ ys
after_version xs ys same = ap (drop 15) same

pub one_text : (text : List ℕ) (counts others : List KindCount) → SpellsCounts text counts → SpellsCounts text others → counts ≡ others
one_text text counts others first second =
    same_lines 0 0 counts others first.counts_are.ascend second.counts_are.ascend
    (after_version (kind_lines counts) (kind_lines others) (sym first.text_is ∙ second.text_is))

below : (n : ℕ) → n < 2 ^ 64 → n < 10 ^ 20
below n small = omega arith

kind_below : (n : ℕ) → n < RESERVED_KIND → n < 10 ^ 10
kind_below n small = omega arith

short_line : (counted : KindCount) (more : List ℕ) → IsCount counted → length (kind_line counted ++ more) ≤ 32 + length more
short_line counted more is =
    omega (
      arith,
      length-append (kind_line counted) more,
      length-append (decimal counted.kind) (32 ∷ (decimal counted.count ++ (10 ∷ []))),
      length-append (decimal counted.count) (10 ∷ []),
      length-decimal-le 10 counted.kind (lit< tt) (kind_below counted.kind is.kind) (kind_small counted is),
      length-decimal-le 20 counted.count (lit< tt) (below counted.count is.small) is.small,
    )

short_lines : (lowest : ℕ) (counts : List KindCount) → Ascends lowest counts → length (kind_lines counts) ≤ 32 * length counts
short_lines lowest [] is = omega arith
short_lines lowest (counted ∷ counts) is =
    omega (arith, short_line counted (kind_lines counts) is.1, short_lines (counted.kind + 1) counts is.2)

pub short_text : (counts : List KindCount) → AreCounts counts → length (counts_text counts) ≤ 32015
short_text counts are = omega (arith, length-append version_line (kind_lines counts), short_lines 0 counts are.ascend, are.few)

-- ---- a reader of lines

-- so far these numbers were read, and the lines of the others are left
pub record IsHalfway (counts found : List KindCount) (rest : List ℕ) : Type 0 where
  pub lowest : ℕ
  pub left : List KindCount
  pub ascends : Ascends lowest left
  pub split : counts ≡ found ++ left
  pub rest_is : rest ≡ kind_lines left

pub begins : (counts : List KindCount) (lines : List ℕ) → Ascends 0 counts → lines ≡ kind_lines counts → IsHalfway counts [] lines
begins counts lines ascends is = record { lowest = 0; left = counts; ascends = ascends; split = refl; rest_is = is }

-- what the first line of a text gives
abbrev pub GivesLine : List ℕ → KindCount → List ℕ → Type 0
GivesLine text found after = (counted : KindCount) (more : List ℕ) → IsCount counted → text ≡ kind_line counted ++ more → (found ≡ counted) × (after ≡ more)

module _ (counts : List KindCount) where
  steps_over : (done : List KindCount) (rest after : List ℕ) (found : KindCount) (lowest : ℕ) (left : List KindCount) → Ascends lowest left → counts ≡ done ++ left → rest ≡ kind_lines left → 0 < length rest
      → GivesLine rest found after → IsHalfway counts (done ++ found ∷ []) after
  steps_over done rest after found lowest [] ascends split is some gives = absurd (omega (arith, some, ap length is))
  steps_over done rest after found lowest (counted ∷ left) ascends split is some gives =
      let read = gives counted (kind_lines left) ascends.1 is in
      record {
        lowest = counted.kind + 1;
        left = left;
        ascends = ascends.2;
        split = split ∙ ap (λ c. done ++ c ∷ left) (sym read.0) ∙ sym (append_assoc done (found ∷ []) left);
        rest_is = read.1;
      }

  pub steps : (done : List KindCount) (rest after : List ℕ) (found : KindCount) → IsHalfway counts done rest → 0 < length rest → GivesLine rest found after → IsHalfway counts (done ++ found ∷ []) after
  steps done rest after found half some gives = steps_over done rest after found half.lowest half.left half.ascends half.split half.rest_is some gives

  stuck_at : (rest : List ℕ) (lowest : ℕ) (left : List KindCount) → Ascends lowest left → rest ≡ kind_lines left → 0 < length rest
      → ((counted : KindCount) (more : List ℕ) → IsCount counted → rest ≡ kind_line counted ++ more → ⊥) → ⊥
  stuck_at rest lowest [] ascends is some none = omega (arith, some, ap length is)
  stuck_at rest lowest (counted ∷ left) ascends is some none = none counted (kind_lines left) ascends.1 is

  pub stuck : (done : List KindCount) (rest : List ℕ) → IsHalfway counts done rest → 0 < length rest
      → ((counted : KindCount) (more : List ℕ) → IsCount counted → rest ≡ kind_line counted ++ more → ⊥) → ⊥
  stuck done rest half some none = stuck_at rest half.lowest half.left half.ascends half.rest_is some none

  ends_with : (done : List KindCount) (left : List KindCount) (rest : List ℕ) → counts ≡ done ++ left → rest ≡ kind_lines left → length rest ≡ 0 → done ≡ counts
  ends_with done [] rest split is none = sym (split ∙ append-nil done)
  ends_with done (counted ∷ left) rest split is none = absurd (omega (arith, none, ap length is, long_line counted (kind_lines left)))

  pub ends : (done : List KindCount) (rest : List ℕ) → IsHalfway counts done rest → length rest ≡ 0 → done ≡ counts
  ends done rest half none = ends_with done half.left rest half.split half.rest_is none
