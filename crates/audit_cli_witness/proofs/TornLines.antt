-- Which bytes are the beginning of a commitment's line.
use Rattle.std.specs.Prelude.{nat_le, nat_lt, IsSome, is_some, IsOk, Option, Some, None, Result, Ok, Err}
use Rattle.std.specs.Char.{is_ascii_digit}
use Rattle.std.specs.List.{AllPass, list_all, before_first, after_first, position_or_len}
use Rattle.std.specs.Result.{result_ok}
use Rattle.std.specs.Str.Parse.{digits_value}
use Rattle.std.proofs.Common.{◌≡◌, ◌∙◌, ℕ, ◌+◌, ◌-◌, ◌<◌, ◌≤◌, ◌^◌, Bool, true, false, cond, not, ◌&&◌, inl, inr, List, [], ◌∷◌, ◌++◌, length, take, drop, length-append, append_assoc, refl, sym, ap, subst, arith}
use Rattle.std.proofs.lemmas.Bool.{and_parts, true≢false, cond-true, cond-false, le-leb, lt-ltb, leb-true, ltb-true, lt-leb, cases_lt}
use Rattle.std.proofs.lemmas.List.{length-drop, take-append-le, drop-append-le}
use Rattle.std.proofs.lemmas.List.Folds.{list_all-append}
use Rattle.std.proofs.lemmas.List.Elements.{All-append}
use Rattle.std.proofs.lemmas.List.Sums.{AllPass-from_list_all, list_all-from_AllPass}
use Rattle.std.proofs.lemmas.Str.Parse.{digits_value-take-le}
use Rattle.std.proofs.Math.Seq.{take-append_seam, drop-append-add, take-append-add}
use Rattle.hex.specs.Hex.{decode_sized, is_hex_digit}
use Rattle.hex.specs.declared.error.FromHexError.{FromHexError}
use Rattle.hex.proofs.HexLemmas.{IsOk-decode_sized}
use Rattle.audit_base.specs.declared.limits.TheConstants.{HASH_LEN}
use Rattle.audit_text.specs.Number.{spells_number, number_in_text}
use Rattle.audit_cli_offline.specs.CommitmentWord.{is_colon, commitment_with, commitment_in_word}
use Rattle.audit_cli_witness.specs.State.{IsTorn, with_colon}

-- ---- the count

number_spelled : (text : List ℕ) → IsSome (number_in_text text) → spells_number text ≡ true
number_spelled text some = by (spells_number text) some
  where
    by : (b : Bool) → IsSome (cond b (Some (digits_value 10 text)) None) → b ≡ true
    by true is = refl
    by false is = cc

spelled_number : (text : List ℕ) → spells_number text ≡ true → IsSome (number_in_text text)
spelled_number text is = ap is_some (cond-true (spells_number text) (Some (digits_value 10 text)) None is)

four_true : (a b c d : Bool) → (a && b && c && d) ≡ true → (a ≡ true) × (b ≡ true) × (c ≡ true) × (d ≡ true)
four_true true true true true is = (refl, refl, refl, refl)
four_true false b c d is = cc
four_true true false c d is = cc
four_true true true false d is = cc
four_true true true true false is = cc

true_four : (a b c d : Bool) → a ≡ true → b ≡ true → c ≡ true → d ≡ true → (a && b && c && d) ≡ true
true_four a b c d is_a is_b is_c is_d = rw (is_a, is_b, is_c, is_d) refl

-- the first digits of a number are one
number_begins : (digits more : List ℕ) → 0 < length digits → IsSome (number_in_text (digits ++ more)) → IsSome (number_in_text digits)
number_begins digits more some is =
    let all = digits ++ more in
    let parts = four_true (nat_le 1 (length all)) (nat_le (length all) 20) (list_all is_ascii_digit all) (nat_lt (digits_value 10 all) (2 ^ 64)) (number_spelled all is) in
    let short : length all ≤ 20 = leb-true (length all) 20 parts.1 in
    let small : digits_value 10 all < 2 ^ 64 = ltb-true (digits_value 10 all) (2 ^ 64) parts.3 in
    let ascii : list_all is_ascii_digit digits ≡ true = (and_parts (list_all is_ascii_digit digits) (list_all is_ascii_digit more) (sym (list_all-append is_ascii_digit digits more) ∙ parts.2)).0 in
    let value : digits_value 10 digits ≤ digits_value 10 all =
    subst (λ (l : List ℕ). digits_value 10 l ≤ digits_value 10 all) (take-append_seam digits more) (digits_value-take-le 10 all (length digits) (omega arith)) in
    let long : length all ≡ length digits + length more = length-append digits more in
    spelled_number digits
    (true_four (nat_le 1 (length digits)) (nat_le (length digits) 20) (list_all is_ascii_digit digits) (nat_lt (digits_value 10 digits) (2 ^ 64))
    (le-leb 1 (length digits) (omega (arith, some))) (le-leb (length digits) 20 (omega (arith, short, long))) ascii
    (lt-ltb (digits_value 10 digits) (2 ^ 64) (omega (arith, value, small))))

-- ---- the root

root_read : (root : List ℕ) → IsSome (result_ok (decode_sized root HASH_LEN)) → (length root ≡ 64) × AllPass is_hex_digit root
root_read root some = (IsOk-decode_sized root HASH_LEN).0 (by (decode_sized root HASH_LEN) some)
  where
    by : (r : Result (List ℕ) FromHexError) → IsSome (result_ok r) → IsOk r
    by (Ok bytes) is = refl
    by (Err error) is = cc

read_root : (root : List ℕ) → length root ≡ 64 → AllPass is_hex_digit root → IsSome (result_ok (decode_sized root HASH_LEN))
read_root root long all = by (decode_sized root HASH_LEN) ((IsOk-decode_sized root HASH_LEN).1 (long, all))
  where
    by : (r : Result (List ℕ) FromHexError) → IsOk r → IsSome (result_ok r)
    by (Ok bytes) is = refl
    by (Err error) is = cc

-- ---- both

with_parts : (count : Option ℕ) (root : Option (List ℕ)) → IsSome (commitment_with count root) → IsSome count × IsSome root
with_parts None root is = cc
with_parts (Some count) None is = cc
with_parts (Some count) (Some root) is = (refl, refl)

parts_with : (count : Option ℕ) (root : Option (List ℕ)) → IsSome count → IsSome root → IsSome (commitment_with count root)
parts_with None root count_is root_is = cc
parts_with (Some count) None count_is root_is = cc
parts_with (Some count) (Some root) count_is root_is = refl

-- ---- the first colon

-- the first colon of bytes that have one is that of any that begin with them
colon_within : (bytes more : List ℕ) → position_or_len is_colon bytes < length bytes → position_or_len is_colon (bytes ++ more) ≡ position_or_len is_colon bytes
colon_within [] more within = absurd (omega (arith, within))
colon_within (byte ∷ bytes) more within = by (colon_within bytes more) (is_colon byte) refl
  where
    by : (position_or_len is_colon bytes < length bytes → position_or_len is_colon (bytes ++ more) ≡ position_or_len is_colon bytes) → (b : Bool) → is_colon byte ≡ b → position_or_len is_colon (byte ∷ bytes ++ more) ≡ position_or_len is_colon (byte ∷ bytes)
    by later true is = ap (λ (b : Bool). cond (not b) (1 + position_or_len is_colon (bytes ++ more)) 0) is ∙ sym (ap (λ (b : Bool). cond (not b) (1 + position_or_len is_colon bytes) 0) is)
    by later false is =
        let here : position_or_len is_colon (byte ∷ bytes) ≡ 1 + position_or_len is_colon bytes = ap (λ (b : Bool). cond (not b) (1 + position_or_len is_colon bytes) 0) is in
        let rest = later (omega (arith, within, here)) in
        ap (λ (b : Bool). cond (not b) (1 + position_or_len is_colon (bytes ++ more)) 0) is ∙ ap (λ n. 1 + n) rest ∙ sym here

-- bytes without a colon are before the first one of any that begin with them
colon_beyond : (bytes more : List ℕ) → length bytes ≤ position_or_len is_colon bytes → position_or_len is_colon (bytes ++ more) ≡ length bytes + position_or_len is_colon more
colon_beyond [] more none = omega arith
colon_beyond (byte ∷ bytes) more none = by (colon_beyond bytes more) (is_colon byte) refl
  where
    by : (length bytes ≤ position_or_len is_colon bytes → position_or_len is_colon (bytes ++ more) ≡ length bytes + position_or_len is_colon more) → (b : Bool) → is_colon byte ≡ b → position_or_len is_colon (byte ∷ bytes ++ more) ≡ length (byte ∷ bytes) + position_or_len is_colon more
    by later true is =
        let here : position_or_len is_colon (byte ∷ bytes) ≡ 0 = ap (λ (b : Bool). cond (not b) (1 + position_or_len is_colon bytes) 0) is in
        absurd (omega (arith, none, here))
    by later false is =
        let here : position_or_len is_colon (byte ∷ bytes) ≡ 1 + position_or_len is_colon bytes = ap (λ (b : Bool). cond (not b) (1 + position_or_len is_colon bytes) 0) is in
        let rest = later (omega (arith, none, here)) in
        ap (λ (b : Bool). cond (not b) (1 + position_or_len is_colon (bytes ++ more)) 0) is ∙ omega (arith, rest)

-- ---- zeros in place of the digits that are lacking

-- the root's digits begin so
root_begins : (root more zeros : List ℕ) → IsSome (result_ok (decode_sized (root ++ more) HASH_LEN)) → AllPass is_hex_digit zeros → length zeros ≡ 64 - length root → IsSome (result_ok (decode_sized (root ++ zeros) HASH_LEN))
root_begins root more zeros is hex long =
    let read = root_read (root ++ more) is in
    let digits : list_all is_hex_digit root ≡ true = (and_parts (list_all is_hex_digit root) (list_all is_hex_digit more) (sym (list_all-append is_hex_digit root more) ∙ list_all-from_AllPass is_hex_digit (root ++ more) read.1)).0 in
    let size : length (root ++ more) ≡ 64 = read.0 in
    read_root (root ++ zeros) (omega (arith, size, long, length-append root more, length-append root zeros))
    (All-append (λ (digit : ℕ). is_hex_digit digit ≡ true) root zeros (AllPass-from_list_all is_hex_digit root digits) hex)

-- a count and a part of a root are the beginning of a line if zeros make them one
torn_root : (part more zeros : List ℕ) → position_or_len is_colon part < length part → IsSome (commitment_in_word (part ++ more)) → AllPass is_hex_digit zeros → length zeros ≡ 64 - length (after_first is_colon part)
    → IsSome (commitment_in_word (part ++ zeros))
torn_root part more zeros within is hex long =
    let place = position_or_len is_colon part in
    let front : (bytes : List ℕ) → before_first is_colon (part ++ bytes) ≡ before_first is_colon part = λ bytes.
    ap (λ (n : ℕ). take n (part ++ bytes)) (colon_within part bytes within) ∙ take-append-le place part bytes (omega (arith, within)) in
    let back : (bytes : List ℕ) → after_first is_colon (part ++ bytes) ≡ after_first is_colon part ++ bytes = λ bytes.
    ap (λ (n : ℕ). drop (n + 1) (part ++ bytes)) (colon_within part bytes within) ∙ drop-append-le (place + 1) part bytes (omega (arith, within)) in
    let parts = with_parts _ _ is in
    parts_with _ _
    (subst (λ (l : List ℕ). IsSome (number_in_text l)) (front more ∙ sym (front zeros)) parts.0)
    (subst (λ (l : List ℕ). IsSome (result_ok (decode_sized l HASH_LEN))) (sym (back zeros))
    (root_begins (after_first is_colon part) more zeros (subst (λ (l : List ℕ). IsSome (result_ok (decode_sized l HASH_LEN))) (back more) parts.1) hex long))

-- a part of a count is
torn_count : (part more zeros : List ℕ) → 0 < length part → length part ≤ position_or_len is_colon part → IsSome (commitment_in_word (part ++ more)) → AllPass is_hex_digit zeros → length zeros ≡ 64
    → IsSome (commitment_in_word ((part ++ 58 ∷ []) ++ zeros))
torn_count part more zeros some none is hex long =
    let digits = take (position_or_len is_colon more) more in
    let first : before_first is_colon (part ++ more) ≡ part ++ digits =
    ap (λ (n : ℕ). take n (part ++ more)) (colon_beyond part more none) ∙ take-append-add part more (position_or_len is_colon more) in
    let whole : (part ++ 58 ∷ []) ++ zeros ≡ part ++ 58 ∷ zeros = append_assoc part (58 ∷ []) zeros in
    let place : position_or_len is_colon (part ++ 58 ∷ zeros) ≡ length part = colon_beyond part (58 ∷ zeros) none ∙ omega arith in
    let front : before_first is_colon (part ++ 58 ∷ zeros) ≡ part = ap (λ (n : ℕ). take n (part ++ 58 ∷ zeros)) place ∙ take-append_seam part (58 ∷ zeros) in
    let back : after_first is_colon (part ++ 58 ∷ zeros) ≡ zeros = ap (λ (n : ℕ). drop (n + 1) (part ++ 58 ∷ zeros)) place ∙ drop-append-add part (58 ∷ zeros) 1 in
    let parts = with_parts _ _ is in
    subst (λ (l : List ℕ). IsSome (commitment_in_word l)) (sym whole)
    (parts_with _ _
    (subst (λ (l : List ℕ). IsSome (number_in_text l)) (sym front) (number_begins part digits some (subst (λ (l : List ℕ). IsSome (number_in_text l)) first parts.0)))
    (subst (λ (l : List ℕ). IsSome (result_ok (decode_sized l HASH_LEN))) (sym back) (read_root zeros long hex)))

-- Bytes that begin a line are one with a colon and zeros in place of what they lack.
pub torn_with_zeros : (part more zeros : List ℕ) → 0 < length part → IsSome (commitment_in_word (part ++ more)) → AllPass is_hex_digit zeros → length zeros ≡ 64 - length (after_first is_colon part)
    → IsSome (commitment_in_word (with_colon part ++ zeros))
torn_with_zeros part more zeros some is hex long =
    let place = position_or_len is_colon part in
    elim (cases_lt place (length part)) [
      | inl within ↦
          let whole : with_colon part ≡ part = cond-false (nat_le (length part) place) (part ++ 58 ∷ []) part (lt-leb (length part) place within) in
          subst (λ (l : List ℕ). IsSome (commitment_in_word (l ++ zeros))) (sym whole) (torn_root part more zeros within is hex long)
      | inr none ↦
          let size = length-drop (place + 1) part in
          let whole : with_colon part ≡ part ++ 58 ∷ [] = cond-true (nat_le (length part) place) (part ++ 58 ∷ []) part (le-leb (length part) place none) in
          subst (λ (l : List ℕ). IsSome (commitment_in_word (l ++ zeros))) (sym whole) (torn_count part more zeros some none is hex (omega (arith, long, size, none)))
    ]

-- they are a line that these bytes begin
with_zeros : (part zeros : List ℕ) (colon : Bool) → (more : List ℕ) × (cond colon (part ++ 58 ∷ []) part ++ zeros ≡ part ++ more)
with_zeros part zeros true = (58 ∷ zeros, append_assoc part (58 ∷ []) zeros)
with_zeros part zeros false = (zeros, refl)

pub zeros_torn : (part zeros line : List ℕ) (is : Bool) → line ≡ with_colon part ++ zeros → is ≡ is_some (commitment_in_word line) → is ≡ true → IsTorn part
zeros_torn part zeros line is same read torn =
    let more = with_zeros part zeros (nat_le (length part) (position_or_len is_colon part)) in
    (more.0, ap (λ (l : List ℕ). is_some (commitment_in_word l)) (sym (same ∙ more.1)) ∙ sym read ∙ torn)

pub torn_zeros : (part zeros line : List ℕ) (is : Bool) → line ≡ with_colon part ++ zeros → is ≡ is_some (commitment_in_word line) → AllPass is_hex_digit zeros → length zeros ≡ 64 - length (after_first is_colon part)
    → is ≡ false → 0 < length part → IsTorn part → ⊥
torn_zeros part zeros line is same read hex long other some torn =
    let whole : is_some (commitment_in_word line) ≡ true = ap (λ (l : List ℕ). is_some (commitment_in_word l)) same ∙ torn_with_zeros part torn.0 zeros some torn.1 hex long in
    true≢false (sym whole ∙ sym read ∙ other)

-- one zero more
pub more_zeros : (digits : List ℕ) → AllPass is_hex_digit digits → AllPass is_hex_digit (digits ++ 48 ∷ [])
more_zeros digits hex = All-append (λ (digit : ℕ). is_hex_digit digit ≡ true) digits (48 ∷ []) hex (AllPass-from_list_all is_hex_digit (48 ∷ []) refl)
