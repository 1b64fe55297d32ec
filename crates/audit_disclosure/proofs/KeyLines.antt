-- The lines of keys, read one after another.
use Rattle.std.specs.Prelude.{codes}
use Rattle.std.specs.Fmt.{decimal}
use Rattle.std.specs.List.{before_first, after_first, position_or_len}
use Rattle.std.specs.Result.{result_ok}
use Rattle.std.specs.Str.Parse.{AllDigits}
use Rattle.std.proofs.Common.{◌≡◌, ◌≢◌, ◌∙◌, ℕ, ◌+◌, ◌<◌, ◌≤◌, ◌^◌, ◌==◌, Bool, cond, not, Some, None, List, [], ◌∷◌, ◌++◌, length, take, drop, refl, sym, ap, subst, arith, append_assoc, append-nil}
use Rattle.std.proofs.lemmas.Bool.{ne_eqb, eq-eqb}
use Rattle.std.proofs.lemmas.Fmt.{decimal_is_IsNumeral}
use Rattle.std.proofs.lemmas.Str.Parse.{digit_from_value}
use Rattle.std.proofs.Math.Seq.{take-append_seam, drop-append-add}
use Rattle.hex.specs.Hex.{encode_lower, decode_sized}
use Rattle.audit_base.specs.declared.limits.TheConstants.{HASH_LEN}
use Rattle.audit_text.specs.Number.{number_in_text}
use Rattle.audit_text.specs.NumberedLine.{numbered_line}
use Rattle.audit_text.specs.Fields.{field_line}
use Rattle.audit_verify.proofs.Fields.{hash_read}
use Rattle.audit_text.proofs.FieldLines.{NoFeed, NoSpace, field_read, digits_feedless, hash_feedless, number_read}
use Rattle.audit_disclosure.specs.declared.disclosure.DisclosedKey.{DisclosedKey}
use Rattle.audit_disclosure.specs.ShownEntries.{key_at}
use Rattle.audit_disclosure.specs.DisclosureText.{IsDisclosedKey, AreKeysFrom, disclosed_line, disclosed_lines}

abbrev pub key_value : DisclosedKey → List ℕ
key_value one = decimal one.index ++ (32 ∷ encode_lower one.key)

-- the line of a key, as a word and a value
pub disclosed_line_is : (one : DisclosedKey) (rest : List ℕ) → disclosed_line one ++ rest ≡ field_line (codes "key") (key_value one) ++ rest
unfolding numbered_line
disclosed_line_is one rest = simp append_assoc

digits_spaceless : (digits : List ℕ) → AllDigits 10 digits → NoSpace digits
digits_spaceless [] all = tt
digits_spaceless (digit ∷ digits) all = (ne_eqb digit 32 (λ h. omega (arith, h, digit_from_value digit all.0)), digits_spaceless digits all.1)

space_at : (front rest : List ℕ) → NoSpace front → position_or_len (λ byte. byte == 32) (front ++ 32 ∷ rest) ≡ length front
space_at [] rest all = refl
space_at (byte ∷ front) rest all =
    ap (λ (b : Bool). cond (not b) (1 + position_or_len (λ byte. byte == 32) (front ++ 32 ∷ rest)) 0) all.0 ∙ ap (λ n. 1 + n) (space_at front rest all.1) ∙ omega arith

before_space : (front rest : List ℕ) → NoSpace front → before_first (λ byte. byte == 32) (front ++ 32 ∷ rest) ≡ front
before_space front rest all = ap (λ (n : ℕ). take n (front ++ 32 ∷ rest)) (space_at front rest all) ∙ take-append_seam front (32 ∷ rest)

after_space : (front rest : List ℕ) → NoSpace front → after_first (λ byte. byte == 32) (front ++ 32 ∷ rest) ≡ rest
after_space front rest all = ap (λ (n : ℕ). drop (n + 1) (front ++ 32 ∷ rest)) (space_at front rest all) ∙ drop-append-add front (32 ∷ rest) 1

both_feedless : (xs ys : List ℕ) → NoFeed xs → NoFeed ys → NoFeed (xs ++ ys)
both_feedless [] ys first second = second
both_feedless (x ∷ xs) ys first second = (first.0, both_feedless xs ys first.1 second)

below_numbers : (n : ℕ) → n < 100000000 → n < 2 ^ 64
below_numbers n small = omega arith

-- what is read of the line of a key
pub record IsKeyRead (one : DisclosedKey) (rest index digits after : List ℕ) : Type 0 where
  pub index_is : number_in_text index ≡ Some one.index
  pub key_is : result_ok (decode_sized digits HASH_LEN) ≡ Some one.key
  pub rest_is : after ≡ rest

pub key_read : (text : List ℕ) (one : DisclosedKey) (rest line after value index digits : List ℕ) → IsDisclosedKey one → text ≡ disclosed_line one ++ rest
    → line ≡ before_first (λ byte. byte == 10) text → after ≡ after_first (λ byte. byte == 10) text → value ≡ after_first (λ byte. byte == 32) line
    → index ≡ before_first (λ byte. byte == 32) value → digits ≡ after_first (λ byte. byte == 32) value → IsKeyRead one rest index digits after
key_read text one rest line after value index digits is starts line_is after_is value_is index_is digits_is =
    let small = below_numbers one.index is.index in
    let number = (decimal_is_IsNumeral one.index small).0.1 in
    let clean : NoFeed (key_value one) = both_feedless (decimal one.index) (32 ∷ encode_lower one.key) (digits_feedless (decimal one.index) number) (refl, hash_feedless one.key is.key.bytes) in
    let read = field_read text (codes "key") (key_value one) rest line after (refl, (refl, (refl, tt))) (refl, (refl, (refl, tt))) clean (starts ∙ disclosed_line_is one rest) line_is after_is in
    let whole : value ≡ key_value one = value_is ∙ read.value_is in
    let plain = digits_spaceless (decimal one.index) number in
    record {
      index_is = ap number_in_text (index_is ∙ ap (before_first (λ byte. byte == 32)) whole ∙ before_space (decimal one.index) (encode_lower one.key) plain) ∙ number_read one.index small;
      key_is = ap (λ d. result_ok (decode_sized d HASH_LEN)) (digits_is ∙ ap (after_first (λ byte. byte == 32)) whole ∙ after_space (decimal one.index) (encode_lower one.key) plain) ∙ hash_read one.key is.key;
      rest_is = read.rest_is;
    }

-- ---- keys in order

-- the least index after these keys
abbrev pub after_keys : ℕ → List DisclosedKey → ℕ
after_keys least [] = least
after_keys least (one ∷ keys) = after_keys (one.index + 1) keys

pub keys_more : (least : ℕ) (keys : List DisclosedKey) (one : DisclosedKey) → AreKeysFrom least keys → after_keys least keys ≤ one.index → IsDisclosedKey one → AreKeysFrom least (keys ++ one ∷ [])
keys_more least [] one are later is = (later, is, tt)
keys_more least (other ∷ keys) one are later is = (are.0, are.1, keys_more (other.index + 1) keys one are.2 later is)

pub after_more : (least : ℕ) (keys : List DisclosedKey) (one : DisclosedKey) → after_keys least (keys ++ one ∷ []) ≡ one.index + 1
after_more least [] one = refl
after_more least (other ∷ keys) one = after_more (other.index + 1) keys one

-- of a text that is the lines of keys these keys were read, and others' lines follow
pub record HasTakenKeys (all keys : List DisclosedKey) (rest : List ℕ) (least : ℕ) : Type 0 where
  pub left : List DisclosedKey
  pub split : all ≡ keys ++ left
  pub rest_is : rest ≡ disclosed_lines left
  pub order : AreKeysFrom least left

pub no_keys_left : {all keys : List DisclosedKey} {rest : List ℕ} {least : ℕ} → (has : HasTakenKeys all keys rest least) → rest ≡ [] → keys ≡ all
unfolding numbered_line
no_keys_left {all = all} {keys = keys} has none = sym (has.split ∙ ap (λ (l : List DisclosedKey). keys ++ l) (no_left has.left (sym has.rest_is ∙ none)) ∙ append-nil keys)
  where
    no_left : (left : List DisclosedKey) → disclosed_lines left ≡ [] → left ≡ []
    no_left [] empty = refl
    no_left (one ∷ left) empty = absurd (omega (arith, ap length empty))

-- the next key, if there are more lines
pub record IsNextKey (all keys : List DisclosedKey) (rest : List ℕ) (least : ℕ) : Type 0 where
  pub one : DisclosedKey
  pub more : List ℕ
  pub later : least ≤ one.index
  pub is : IsDisclosedKey one
  pub starts : rest ≡ disclosed_line one ++ more
  pub then_taken : HasTakenKeys all (keys ++ one ∷ []) more (one.index + 1)

pub next_key_left : {all keys : List DisclosedKey} {rest : List ℕ} {least : ℕ} → HasTakenKeys all keys rest least → rest ≢ [] → IsNextKey all keys rest least
next_key_left {all = all} {keys = keys} {rest = rest} {least = least} has some = next has.left has.split has.rest_is has.order
  where
    next : (left : List DisclosedKey) → all ≡ keys ++ left → rest ≡ disclosed_lines left → AreKeysFrom least left → IsNextKey all keys rest least
    next [] split is order = absurd (some is)
    next (one ∷ left) split is order = record {
      one = one;
      more = disclosed_lines left;
      later = order.0;
      is = order.1;
      starts = is;
      then_taken = record { left = left; split = split ∙ sym (append_assoc keys (one ∷ []) left); rest_is = refl; order = order.2 };
    }

abbrev made_key : ℕ → List ℕ → DisclosedKey
made_key index key = record { index = index; key = key }

pub same_key : (one : DisclosedKey) (index : ℕ) (key : List ℕ) → index ≡ one.index → key ≡ one.key → made_key index key ≡ one
same_key one index key same also = ap (λ i. made_key i key) same ∙ ap (made_key one.index) also

-- ---- the key of an index

pub key_past : (keys : List DisclosedKey) (least index : ℕ) → AreKeysFrom least keys → index < least → key_at keys index ≡ None
key_past [] least index are before = refl
key_past (one ∷ keys) least index are before =
    ap (λ (b : Bool). cond b (Some one.key) (key_at keys index)) (ne_eqb one.index index (λ same. omega (arith, same, before, are.0)))
    ∙ key_past keys (one.index + 1) index are.2 (omega (arith, before, are.0))

-- keys of earlier entries are passed over
pub record HasPassed (keys : List DisclosedKey) (index : ℕ) (rest : List DisclosedKey) : Type 0 where
  pub same : (other : ℕ) → index ≤ other → key_at rest other ≡ key_at keys other
  pub least : ℕ
  pub order : AreKeysFrom least rest

pub passed_none : (keys : List DisclosedKey) (index least : ℕ) → AreKeysFrom least keys → HasPassed keys index keys
passed_none keys index least are = record { same = λ other past. refl; least = least; order = are }

pub passed_one : (keys : List DisclosedKey) (index : ℕ) (rest : List DisclosedKey) (one : DisclosedKey) (after : List DisclosedKey) → HasPassed keys index rest → rest ≡ one ∷ after → one.index < index → HasPassed keys index after
passed_one keys index rest one after has is before =
    let are = subst (AreKeysFrom has.least) is has.order in record {
      same = λ other past.
          sym (ap (λ (b : Bool). cond b (Some one.key) (key_at after other)) (ne_eqb one.index other (λ same. omega (arith, same, before, past))))
          ∙ ap (λ ks. key_at ks other) (sym is) ∙ has.same other past;
      least = one.index + 1;
      order = are.2;
    }

-- the next key is of this index, of a later one, or there is none
pub found_here : (keys : List DisclosedKey) (index : ℕ) (rest : List DisclosedKey) (one : DisclosedKey) (after : List DisclosedKey) → HasPassed keys index rest → rest ≡ one ∷ after → one.index ≡ index
    → (Some one.key ≡ key_at keys index) × ((other : ℕ) → index < other → key_at after other ≡ key_at keys other) × ((least : ℕ) × AreKeysFrom least after)
found_here keys index rest one after has is here =
    let are = subst (AreKeysFrom has.least) is has.order in (
      sym (ap (λ (b : Bool). cond b (Some one.key) (key_at after index)) (eq-eqb one.index index here)) ∙ ap (λ ks. key_at ks index) (sym is) ∙ has.same index (omega arith),
      λ other past. sym (ap (λ (b : Bool). cond b (Some one.key) (key_at after other)) (ne_eqb one.index other (λ same. omega (arith, same, past, here))))
          ∙ ap (λ ks. key_at ks other) (sym is) ∙ has.same other (omega (arith, past)),
      (one.index + 1, are.2),
    )

pub none_here : (keys : List DisclosedKey) (index : ℕ) (rest : List DisclosedKey) (one : DisclosedKey) (after : List DisclosedKey) → HasPassed keys index rest → rest ≡ one ∷ after → index < one.index
    → None ≡ key_at keys index
none_here keys index rest one after has is before =
    let are = subst (AreKeysFrom has.least) is has.order in
    sym (ap (λ ks. key_at ks index) is
    ∙ ap (λ (b : Bool). cond b (Some one.key) (key_at after index)) (ne_eqb one.index index (λ same. omega (arith, same, before)))
    ∙ key_past after (one.index + 1) index are.2 (omega (arith, before))) ∙ has.same index (omega arith)

pub none_left : (keys : List DisclosedKey) (index : ℕ) (rest : List DisclosedKey) → HasPassed keys index rest → rest ≡ [] → None ≡ key_at keys index
none_left keys index rest has is = sym (ap (λ ks. key_at ks index) is) ∙ has.same index (omega arith)

pub taken_key : (all keys grown : List DisclosedKey) (one : DisclosedKey) (after : List ℕ) {rest : List ℕ} {least : ℕ} (next : IsNextKey all keys rest least) → one ≡ next.one → after ≡ next.more → grown ≡ keys ++ one ∷ []
    → HasTakenKeys all grown after (one.index + 1)
taken_key all keys grown one after next same also is = record {
  left = next.then_taken.left;
  split = next.then_taken.split ∙ ap (λ (ks : List DisclosedKey). ks ++ next.then_taken.left) (ap (λ (k : DisclosedKey). keys ++ k ∷ []) (sym same) ∙ sym is);
  rest_is = also ∙ next.then_taken.rest_is;
  order = subst (λ (k : DisclosedKey). AreKeysFrom (k.index + 1) next.then_taken.left) (sym same) next.then_taken.order;
}
