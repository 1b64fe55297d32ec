-- The lines of an input, with one more line, and the bytes that they spell.
use Rattle.std.proofs.Common.{◌≡◌, ◌<◌, ℕ, zero, suc, Bool, not, eqb, cond, true, inl, inr, ◌⊎◌, Option, Some, None, List, [], ◌∷◌, ◌++◌, length, map, refl, sym, ap, ◌∙◌, arith, append_assoc, append-nil, length-append}
use Rattle.std.proofs.lemmas.Bool.{ne_eqb, lt-ltb, false≢true}
use Rattle.std.specs.Prelude.{IfSome}
use Rattle.std.specs.Result.{result_ok}
use Rattle.hex.specs.Hex.{decode_of}
use Rattle.std.specs.Io.KnownBytes.{Consumes, IsAtEnd}
use Rattle.audit_text.specs.Lines.{lines_of, onto_first}
use Rattle.audit_serve_sockets.specs.declared.limits.TheConstants.{MAX_DIGITS}
use Rattle.audit_serve_sockets.specs.FrameLine.{bytes_of_line}
use Rattle.audit_serve_sockets.specs.Input.{spelled, SpellsInput, SpellsUpToBad, ReadsLine, TakesByte}

-- ---- a line, with one more byte

-- no byte of a line ends it
abbrev pub HasNoFeed : List ℕ → Type 0
HasNoFeed [] = Unit {0}
HasNoFeed (byte ∷ line) = (byte ≡ 10 → ⊥) × HasNoFeed line

no_feed_more : (line : List ℕ) (byte : ℕ) → HasNoFeed line → (byte ≡ 10 → ⊥) → HasNoFeed (line ++ byte ∷ [])
no_feed_more [] byte none not = (not, tt)
no_feed_more (first ∷ line) byte none not = (none.0, no_feed_more line byte none.1 not)

in_line : (byte : ℕ) (bytes : List ℕ) → (byte ≡ 10 → ⊥) → lines_of (byte ∷ bytes) ≡ onto_first byte (lines_of bytes)
unfolding lines_of
in_line byte bytes not = ap (λ b. cond b ([] ∷ lines_of bytes) (onto_first byte (lines_of bytes))) (ne_eqb byte 10 not)

-- the input begins with a line and its line feed
line_cut : (line rest : List ℕ) → HasNoFeed line → lines_of (line ++ 10 ∷ rest) ≡ line ∷ lines_of rest
unfolding lines_of
line_cut [] rest none = refl
line_cut (byte ∷ line) rest none = in_line byte (line ++ 10 ∷ rest) none.0 ∙ ap (onto_first byte) (line_cut line rest none.1)

-- bytes without a line feed are one line
last_line : (byte : ℕ) (line : List ℕ) → HasNoFeed (byte ∷ line) → lines_of (byte ∷ line) ≡ (byte ∷ line) ∷ []
unfolding lines_of
last_line byte [] none = in_line byte [] none.0
last_line byte (next ∷ line) none = in_line byte (next ∷ line) none.0 ∙ ap (onto_first byte) (last_line next line none.1)

-- such bytes are the start of the first line
abbrev BeginsFirst : List ℕ → List ℕ → Type 0
BeginsFirst front input = (rest : List ℕ) × (later : List (List ℕ)) × (lines_of input ≡ (front ++ rest) ∷ later)

first_one : (byte : ℕ) (lines : List (List ℕ)) → (rest : List ℕ) × (later : List (List ℕ)) × (onto_first byte lines ≡ (byte ∷ rest) ∷ later)
first_one byte [] = ([], [], refl)
first_one byte (line ∷ lines) = (line, lines, refl)

first_front : (byte : ℕ) (front rest : List ℕ) → HasNoFeed (byte ∷ front) → BeginsFirst (byte ∷ front) (byte ∷ (front ++ rest))
first_front byte [] rest none =
    let first = first_one byte (lines_of rest) in
    (first.0, first.1, in_line byte rest none.0 ∙ first.2)
first_front byte (next ∷ front) rest none =
    let after = first_front next front rest none.1 in
    (after.0, after.1, in_line byte (next ∷ (front ++ rest)) none.0 ∙ ap (onto_first byte) after.2)

-- ---- what was taken from a reader

-- the start of a line was taken so far
pub record HasTaken (old now : Option (List ℕ)) (line : List ℕ) : Type 0 where
  pub taken : Consumes old now line
  pub none : HasNoFeed line

pub none_taken : (known : Option (List ℕ)) → HasTaken known known []
none_taken None = record { taken = tt; none = tt }
none_taken (Some bytes) = record { taken = refl; none = tt }

pub one_taken : (old now next : Option (List ℕ)) (line : List ℕ) (byte : ℕ) → HasTaken old now line → TakesByte now next (Some byte) → (byte ≡ 10 → ⊥) → HasTaken old next (line ++ byte ∷ [])
one_taken None now next line byte h one not = record { taken = tt; none = no_feed_more line byte h.none not }
one_taken (Some input) None next line byte h one not = absurd h.taken
one_taken (Some input) (Some rest) None line byte h one not = absurd one
one_taken (Some input) (Some rest) (Some last) line byte h one not = record {
  taken = h.taken ∙ ap (λ r. line ++ r) one ∙ sym (append_assoc line (byte ∷ []) last);
  none = no_feed_more line byte h.none not;
}

pub feed_taken : (old now next : Option (List ℕ)) (line : List ℕ) → HasTaken old now line → TakesByte now next (Some 10) → ReadsLine old next line
feed_taken None now next line h one = tt
feed_taken (Some input) None next line h one = absurd h.taken
feed_taken (Some input) (Some rest) None line h one = absurd one
feed_taken (Some input) (Some rest) (Some last) line h one = inl (ap lines_of (h.taken ∙ ap (λ r. line ++ r) one) ∙ line_cut line last h.none)

pub end_of_line : (old now next : Option (List ℕ)) (line : List ℕ) → HasTaken old now line → TakesByte now next None → 0 < length line → ReadsLine old next line
unfolding lines_of
end_of_line None now next line h last some = tt
end_of_line (Some input) None next line h last some = absurd h.taken
end_of_line (Some input) (Some rest) None line h last some = absurd last
end_of_line (Some input) (Some rest) (Some after) [] h last some = absurd (omega (arith, some))
end_of_line (Some input) (Some rest) (Some after) (byte ∷ line) h last some =
    inl (ap lines_of (h.taken ∙ ap (λ r. (byte ∷ line) ++ r) last.0 ∙ append-nil (byte ∷ line)) ∙ last_line byte line h.none ∙ ap (λ r. (byte ∷ line) ∷ lines_of r) (sym last.1))

pub end_of_input : (old now next : Option (List ℕ)) (line : List ℕ) → HasTaken old now line → TakesByte now next None → line ≡ [] → IsAtEnd old
end_of_input None now next line h last none = tt
end_of_input (Some input) None next line h last none = absurd h.taken
end_of_input (Some input) (Some rest) None line h last none = absurd last
end_of_input (Some input) (Some rest) (Some after) line h last none = h.taken ∙ ap (λ l. l ++ rest) none ∙ last.0

pub long_line : (old now : Option (List ℕ)) (line : List ℕ) → HasTaken old now line → MAX_DIGITS < length line → ReadsLine old now line
long_line None now line h long = tt
long_line (Some input) None line h long = absurd h.taken
long_line (Some input) (Some rest) [] h long = absurd (omega (arith, long))
long_line (Some input) (Some rest) (byte ∷ line) h long =
    let begins = first_front byte line rest h.none in
    inr (record { rest = begins.0; later = begins.1; first = ap lines_of h.taken ∙ begins.2; long = long })

-- there are some bytes if a test says so
pub some_when : (empty : Bool) (n : ℕ) → empty ≡ eqb n 0 → not empty ≡ true → 0 < n
some_when empty zero is some = absurd (false≢true (sym (ap not is) ∙ some))
some_when empty (suc n) is some = omega arith

-- ---- what lines spell

-- the lines that were read spell these bytes
abbrev pub HasSpelled : Option (List ℕ) → Option (List ℕ) → List (List ℕ) → Type 0
HasSpelled None now lines = Unit {0}
HasSpelled (Some input) None lines = ⊥
HasSpelled (Some input) (Some rest) lines = spelled input ≡ map (λ bytes. Some bytes) lines ++ spelled rest

pub none_spelled : (known : Option (List ℕ)) → HasSpelled known known []
none_spelled None = tt
none_spelled (Some input) = refl

spells_none : (line : List ℕ) → MAX_DIGITS < length line → bytes_of_line line ≡ None
unfolding bytes_of_line
spells_none line long = ap (λ b. cond b None (result_ok (decode_of line))) (lt-ltb MAX_DIGITS (length line) long)

-- the line that was read is the first line, or neither of them spells bytes
first_spelled : (input rest line : List ℕ) → ReadsLine (Some input) (Some rest) line → (bytes : Option (List ℕ)) → bytes_of_line line ≡ bytes
    → (spelled input ≡ bytes ∷ spelled rest) ⊎ ((bytes ≡ None) × (later : List (Option (List ℕ))) × (spelled input ≡ None ∷ later))
first_spelled input rest line (inl first) bytes says = inl (ap (map bytes_of_line) first ∙ ap (λ b. b ∷ spelled rest) says)
first_spelled input rest line (inr front) bytes says =
    let longer : MAX_DIGITS < length (line ++ front.rest) = omega (arith, front.long, length-append line front.rest) in
    inr (
      sym says ∙ spells_none line front.long,
      map bytes_of_line front.later,
      ap (map bytes_of_line) front.first ∙ ap (λ b. b ∷ map bytes_of_line front.later) (spells_none (line ++ front.rest) longer),
    )

map_both : (lines : List (List ℕ)) (bytes : List ℕ) → map (λ b. Some b) (lines ++ bytes ∷ []) ≡ map (λ b. Some b) lines ++ Some bytes ∷ []
map_both [] bytes = refl
map_both (line ∷ lines) bytes = ap (λ l. Some line ∷ l) (map_both lines bytes)

pub line_spelled : (old now next : Option (List ℕ)) (lines : List (List ℕ)) (line bytes : List ℕ) → HasSpelled old now lines → ReadsLine now next line → bytes_of_line line ≡ Some bytes → HasSpelled old next (lines ++ bytes ∷ [])
line_spelled None now next lines line bytes h read says = tt
line_spelled (Some input) None next lines line bytes h read says = absurd h
line_spelled (Some input) (Some rest) None lines line bytes h read says = absurd read
line_spelled (Some input) (Some rest) (Some last) lines line bytes h read says = elim (first_spelled rest last line read (Some bytes) says) [
  | inl first ↦
      h ∙ ap (λ l. map (λ b. Some b) lines ++ l) first ∙ sym (append_assoc (map (λ b. Some b) lines) (Some bytes ∷ []) (spelled last)) ∙ ap (λ l. l ++ spelled last) (sym (map_both lines bytes))
  | inr none ↦ absurd (cc none.0)
]

pub all_spelled : (old now : Option (List ℕ)) (lines : List (List ℕ)) → HasSpelled old now lines → IsAtEnd now → IfSome old (SpellsInput lines)
unfolding lines_of
all_spelled None now lines h none = tt
all_spelled (Some input) None lines h none = absurd h
all_spelled (Some input) (Some rest) lines h none = h ∙ ap (λ r. map (λ b. Some b) lines ++ spelled r) none ∙ append-nil (map (λ b. Some b) lines)

pub bad_spelled : (old now next : Option (List ℕ)) (lines : List (List ℕ)) (line : List ℕ) → HasSpelled old now lines → ReadsLine now next line → bytes_of_line line ≡ None → IfSome old (SpellsUpToBad lines)
bad_spelled None now next lines line h read says = tt
bad_spelled (Some input) None next lines line h read says = absurd h
bad_spelled (Some input) (Some rest) None lines line h read says = absurd read
bad_spelled (Some input) (Some rest) (Some last) lines line h read says = elim (first_spelled rest last line read None says) [
  | inl first ↦ (spelled last, h ∙ ap (λ l. map (λ b. Some b) lines ++ l) first)
  | inr none ↦ (none.1, h ∙ ap (λ l. map (λ b. Some b) lines ++ l) none.2)
]
