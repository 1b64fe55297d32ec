-- The body of a request reads as that request, and a request that was read has that body.
use Rattle.std.proofs.Common.{◌≡◌, ◌⊎◌, ℕ, suc, ◌+◌, ◌<◌, ◌≤◌, ◌^◌, Bool, true, false, cond, not, ◌&&◌, leb, eqb, List, [], ◌∷◌, ◌++◌, length, take, drop, Option, Some, None, Result, Ok, Err, refl, sym, ap, subst, ◌∙◌, append_assoc, arith, inl, inr, length-take, length-drop}
use Rattle.std.specs.Int.{w32, w64, to_be_bytes, from_be_bytes}
use Rattle.std.proofs.lemmas.Bool.{cases_lt, and_parts, and_from, not-true, not_from_false, leb-true, le-leb, eqb-true, eqb-false, ne_eqb, cond-true}
use Rattle.std.proofs.lemmas.List.{get_or-take, get_or-drop, get_or_past, take-append-drop, drop-drop, take_all}
use Rattle.std.proofs.lemmas.Nat.{be_bytes_4, be_bytes_8, from_be_bytes-to_be_bytes_4, from_be_bytes-to_be_bytes_8}
use Rattle.audit_base.specs.declared.limits.TheConstants.{MAX_PAYLOAD, RESERVED_KIND}
use Rattle.audit_wire.specs.declared.grammar.Grammar.{Grammar}
use Rattle.audit_wire.specs.declared.grammar.Grammar.TheVariants as grammar
use Rattle.audit_wire.specs.declared.request.Request.{Request}
use Rattle.audit_wire.specs.declared.request.Request.TheVariants as request
use Rattle.audit_wire.specs.declared.request_kind.RequestKind.{RequestKind}
use Rattle.audit_wire.specs.declared.request_kind.RequestKind.TheVariants as kind
use Rattle.std.specs.Prelude.{IfOk}
use Rattle.audit_wire.specs.declared.view.RequestView.{RequestView}
use Rattle.audit_wire.specs.declared.malformed.Malformed.{Malformed}
use Rattle.audit_wire.specs.View.{request_shown, request_read}
use Rattle.audit_base.specs.Bytes.{AreBytes}
use Rattle.audit_wire.specs.declared.limits.TheConstants.{MAX_PLACED_PAYLOAD}
use Rattle.audit_wire.specs.Frame.{IsBodySize}
use Rattle.audit_base.specs.Bytes.{number_at}
use Rattle.audit_wire.specs.Request.{request_body, IsRequest, IsDaemonsAlone, IsDaemonRequest, IsRequestBy, kind_at, append_in, commitment_in, membership_in, incremental_in, entry_in, close_in, state_in, place_in, placed_append_in, fields_in, request_in, request_by}

-- ---- parts of bytes are bytes

pub AreBytes-drop : (n : ℕ) (bytes : List ℕ) → AreBytes bytes → AreBytes (drop n bytes)
AreBytes-drop n bytes fits place = rw get_or-drop (fits (n + place))

pub AreBytes-take : (n : ℕ) (bytes : List ℕ) → AreBytes bytes → AreBytes (take n bytes)
AreBytes-take n bytes fits place =
    elim (cases_lt place n) [
      | inl lt ↦ rw (get_or-take n bytes place 0 lt) (fits place)
      | inr le ↦ rw (get_or_past (take n bytes) place 0 (omega (arith, length-take n bytes))) (omega arith)
    ]

-- ---- numbers and their bytes

back_4 : (place : ℕ) (bytes : List ℕ) → AreBytes bytes → place + 4 ≤ length bytes → to_be_bytes w32 (number_at w32 place bytes) ≡ take 4 (drop place bytes)
back_4 place bytes fits le =
    be_bytes_4 (take 4 (drop place bytes)) _ (omega (arith, length-take 4 (drop place bytes), length-drop place bytes)) (AreBytes-take 4 (drop place bytes) (AreBytes-drop place bytes fits)) refl

back_8 : (place : ℕ) (bytes : List ℕ) → AreBytes bytes → place + 8 ≤ length bytes → to_be_bytes w64 (number_at w64 place bytes) ≡ take 8 (drop place bytes)
back_8 place bytes fits le =
    be_bytes_8 (take 8 (drop place bytes)) _ (omega (arith, length-take 8 (drop place bytes), length-drop place bytes)) (AreBytes-take 8 (drop place bytes) (AreBytes-drop place bytes fits)) refl

below_4 : (place : ℕ) (bytes : List ℕ) → AreBytes bytes → number_at w32 place bytes < 2 ^ 32
below_4 place bytes fits =
    let f : AreBytes (take 4 (drop place bytes)) = AreBytes-take 4 (drop place bytes) (AreBytes-drop place bytes fits) in
    omega (arith, f 0, f 1, f 2, f 3)

below_8 : (place : ℕ) (bytes : List ℕ) → AreBytes bytes → number_at w64 place bytes < 2 ^ 64
below_8 place bytes fits =
    let f : AreBytes (take 8 (drop place bytes)) = AreBytes-take 8 (drop place bytes) (AreBytes-drop place bytes fits) in
    omega (arith, f 0, f 1, f 2, f 3, f 4, f 5, f 6, f 7)

-- ---- bytes as their parts

two_parts : (n m : ℕ) (bytes : List ℕ) → length bytes ≤ n + m → take n bytes ++ take m (drop n bytes) ≡ bytes
two_parts n m bytes le = ap (λ (back : List ℕ). take n bytes ++ back) (take_all m (drop n bytes) (omega (arith, length-drop n bytes))) ∙ take-append-drop n bytes

three_parts : (n m : ℕ) (bytes : List ℕ) → (take n bytes ++ take m (drop n bytes)) ++ drop (n + m) bytes ≡ bytes
three_parts n m bytes =
    append_assoc (take n bytes) (take m (drop n bytes)) (drop (n + m) bytes)
    ∙ ap (λ (back : List ℕ). take n bytes ++ back)
    (ap (λ (back : List ℕ). take m (drop n bytes) ++ back) (sym (drop-drop m n bytes)) ∙ take-append-drop m (drop n bytes))
    ∙ take-append-drop n bytes

four_parts : (n m k : ℕ) (bytes : List ℕ) → ((take n bytes ++ take m (drop n bytes)) ++ take k (drop (n + m) bytes)) ++ drop (n + m + k) bytes ≡ bytes
four_parts n m k bytes =
    append_assoc (take n bytes ++ take m (drop n bytes)) (take k (drop (n + m) bytes)) (drop (n + m + k) bytes)
    ∙ ap (λ (back : List ℕ). (take n bytes ++ take m (drop n bytes)) ++ back)
    (ap (λ (back : List ℕ). take k (drop (n + m) bytes) ++ back) (sym (drop-drop k (n + m) bytes)) ∙ take-append-drop k (drop (n + m) bytes))
    ∙ three_parts n m bytes

all_three_parts : (n m k : ℕ) (bytes : List ℕ) → length bytes ≤ n + m + k → (take n bytes ++ take m (drop n bytes)) ++ take k (drop (n + m) bytes) ≡ bytes
all_three_parts n m k bytes le =
    ap (λ (back : List ℕ). (take n bytes ++ take m (drop n bytes)) ++ back) (take_all k (drop (n + m) bytes) (omega (arith, length-drop (n + m) bytes)))
    ∙ three_parts n m bytes

-- ---- a request that was read has its body

-- a request whose body consists of this kind and these fields
pub record IsBodyOf (body : List ℕ) (read : Request) : Type 0 where
  pub allowed : IsRequest read
  pub same : body ≡ request_body read

guard_some : {A : Type 0} (test : Bool) (made read : A) → cond test (Some made) None ≡ Some read → (test ≡ true) × (made ≡ read)
guard_some true made read e = (refl, cc)
guard_some false made read e = absurd cc

append_found : (fields : List ℕ) (read : Request) → AreBytes fields → append_in fields ≡ Some read → IsBodyOf (1 ∷ fields) read
unfolding append_in
append_found fields read fits e =
    let test = (leb 8 (length fields) && leb (length fields) (8 + MAX_PAYLOAD)) && not (eqb (number_at w32 4 fields) RESERVED_KIND) in
    let made = request.Append (number_at w32 0 fields) (number_at w32 4 fields) (drop 8 fields) in
    let g = guard_some test made read e in
    let tests = and_parts (leb 8 (length fields) && leb (length fields) (8 + MAX_PAYLOAD)) (not (eqb (number_at w32 4 fields) RESERVED_KIND)) g.0 in
    let sizes = and_parts (leb 8 (length fields)) (leb (length fields) (8 + MAX_PAYLOAD)) tests.0 in
    let least = leb-true 8 (length fields) sizes.0 in
    let most = leb-true (length fields) (8 + MAX_PAYLOAD) sizes.1 in
    let other = eqb-false (number_at w32 4 fields) RESERVED_KIND (not-true (eqb (number_at w32 4 fields) RESERVED_KIND) tests.1) in
    let whole : (to_be_bytes w32 (number_at w32 0 fields) ++ to_be_bytes w32 (number_at w32 4 fields)) ++ drop 8 fields ≡ fields =
    ap (λ (tag : List ℕ). (tag ++ to_be_bytes w32 (number_at w32 4 fields)) ++ drop 8 fields) (back_4 0 fields fits (omega arith))
    ∙ ap (λ (event_kind : List ℕ). (take 4 fields ++ event_kind) ++ drop 8 fields) (back_4 4 fields fits (omega arith))
    ∙ three_parts 4 4 fields in
    subst (λ (found : Request). IsBodyOf (1 ∷ fields) found) g.1 (record {
      allowed = (below_4 0 fields fits, below_4 4 fields fits, other, omega (arith, length-drop 8 fields));
      same = ap (λ (after : List ℕ). 1 ∷ after) (sym whole);
    })

commitment_found : (fields : List ℕ) (read : Request) → AreBytes fields → commitment_in fields ≡ Some read → IsBodyOf (2 ∷ fields) read
unfolding commitment_in
commitment_found fields read fits e =
    let g = guard_some (eqb (length fields) 4) (request.Commitment (number_at w32 0 fields)) read e in
    let size = eqb-true (length fields) 4 g.0 in
    let whole : to_be_bytes w32 (number_at w32 0 fields) ≡ fields = back_4 0 fields fits (omega arith) ∙ take_all 4 fields (omega arith) in
    subst (λ (found : Request). IsBodyOf (2 ∷ fields) found) g.1 (record {
      allowed = below_4 0 fields fits;
      same = ap (λ (after : List ℕ). 2 ∷ after) (sym whole);
    })

-- a tag and two numbers
two_numbers : (fields : List ℕ) → AreBytes fields → length fields ≡ 20
    → (to_be_bytes w32 (number_at w32 0 fields) ++ to_be_bytes w64 (number_at w64 4 fields)) ++ to_be_bytes w64 (number_at w64 12 fields) ≡ fields
two_numbers fields fits size =
    ap (λ (tag : List ℕ). (tag ++ to_be_bytes w64 (number_at w64 4 fields)) ++ to_be_bytes w64 (number_at w64 12 fields)) (back_4 0 fields fits (omega arith))
    ∙ ap (λ (first : List ℕ). (take 4 fields ++ first) ++ to_be_bytes w64 (number_at w64 12 fields)) (back_8 4 fields fits (omega arith))
    ∙ ap (λ (second : List ℕ). (take 4 fields ++ take 8 (drop 4 fields)) ++ second) (back_8 12 fields fits (omega arith))
    ∙ all_three_parts 4 8 8 fields (omega arith)

membership_found : (fields : List ℕ) (read : Request) → AreBytes fields → membership_in fields ≡ Some read → IsBodyOf (3 ∷ fields) read
unfolding membership_in
membership_found fields read fits e =
    let g = guard_some (eqb (length fields) 20) (request.Membership (number_at w32 0 fields) (number_at w64 4 fields) (number_at w64 12 fields)) read e in
    subst (λ (found : Request). IsBodyOf (3 ∷ fields) found) g.1 (record {
      allowed = (below_4 0 fields fits, below_8 4 fields fits, below_8 12 fields fits);
      same = ap (λ (after : List ℕ). 3 ∷ after) (sym (two_numbers fields fits (eqb-true (length fields) 20 g.0)));
    })

incremental_found : (fields : List ℕ) (read : Request) → AreBytes fields → incremental_in fields ≡ Some read → IsBodyOf (4 ∷ fields) read
unfolding incremental_in
incremental_found fields read fits e =
    let g = guard_some (eqb (length fields) 20) (request.Incremental (number_at w32 0 fields) (number_at w64 4 fields) (number_at w64 12 fields)) read e in
    subst (λ (found : Request). IsBodyOf (4 ∷ fields) found) g.1 (record {
      allowed = (below_4 0 fields fits, below_8 4 fields fits, below_8 12 fields fits);
      same = ap (λ (after : List ℕ). 4 ∷ after) (sym (two_numbers fields fits (eqb-true (length fields) 20 g.0)));
    })

entry_found : (fields : List ℕ) (read : Request) → AreBytes fields → entry_in fields ≡ Some read → IsBodyOf (5 ∷ fields) read
unfolding entry_in
entry_found fields read fits e =
    let g = guard_some (eqb (length fields) 12) (request.Entry (number_at w32 0 fields) (number_at w64 4 fields)) read e in
    let size = eqb-true (length fields) 12 g.0 in
    let whole : to_be_bytes w32 (number_at w32 0 fields) ++ to_be_bytes w64 (number_at w64 4 fields) ≡ fields =
    ap (λ (tag : List ℕ). tag ++ to_be_bytes w64 (number_at w64 4 fields)) (back_4 0 fields fits (omega arith))
    ∙ ap (λ (first : List ℕ). take 4 fields ++ first) (back_8 4 fields fits (omega arith))
    ∙ two_parts 4 8 fields (omega arith) in
    subst (λ (found : Request). IsBodyOf (5 ∷ fields) found) g.1 (record {
      allowed = (below_4 0 fields fits, below_8 4 fields fits);
      same = ap (λ (after : List ℕ). 5 ∷ after) (sym whole);
    })

close_found : (fields : List ℕ) (read : Request) → AreBytes fields → close_in fields ≡ Some read → IsBodyOf (6 ∷ fields) read
unfolding close_in
close_found fields read fits e =
    let g = guard_some (eqb (length fields) 4) (request.Close (number_at w32 0 fields)) read e in
    let size = eqb-true (length fields) 4 g.0 in
    let whole : to_be_bytes w32 (number_at w32 0 fields) ≡ fields = back_4 0 fields fits (omega arith) ∙ take_all 4 fields (omega arith) in
    subst (λ (found : Request). IsBodyOf (6 ∷ fields) found) g.1 (record {
      allowed = below_4 0 fields fits;
      same = ap (λ (after : List ℕ). 6 ∷ after) (sym whole);
    })

-- the kind, decided by the first of six tests that holds
abbrev kind_by : (a b c d e f : Bool) → Option RequestKind
kind_by a b c d e f = cond a (Some kind.Append) (cond b (Some kind.Commitment) (cond c (Some kind.Membership) (cond d (Some kind.Incremental) (cond e (Some kind.Entry) (cond f (Some kind.Close) None)))))

record IsKindBy (a b c d e f : Bool) (found : Option RequestKind) : Type 0 where
  append : found ≡ Some kind.Append → a ≡ true
  commitment : found ≡ Some kind.Commitment → b ≡ true
  membership : found ≡ Some kind.Membership → c ≡ true
  incremental : found ≡ Some kind.Incremental → d ≡ true
  entry : found ≡ Some kind.Entry → e ≡ true
  close : found ≡ Some kind.Close → f ≡ true
  state : found ≡ Some kind.State → ⊥
  place : found ≡ Some kind.Place → ⊥
  placed : found ≡ Some kind.PlacedAppend → ⊥

is_kind_by : (a b c d e f : Bool) → IsKindBy a b c d e f (kind_by a b c d e f)
is_kind_by true b c d e f = record { append = λ h. refl; commitment = λ h. absurd cc; membership = λ h. absurd cc; incremental = λ h. absurd cc; entry = λ h. absurd cc; close = λ h. absurd cc; state = λ h. absurd cc; place = λ h. absurd cc; placed = λ h. absurd cc }
is_kind_by false true c d e f = record { append = λ h. absurd cc; commitment = λ h. refl; membership = λ h. absurd cc; incremental = λ h. absurd cc; entry = λ h. absurd cc; close = λ h. absurd cc; state = λ h. absurd cc; place = λ h. absurd cc; placed = λ h. absurd cc }
is_kind_by false false true d e f = record { append = λ h. absurd cc; commitment = λ h. absurd cc; membership = λ h. refl; incremental = λ h. absurd cc; entry = λ h. absurd cc; close = λ h. absurd cc; state = λ h. absurd cc; place = λ h. absurd cc; placed = λ h. absurd cc }
is_kind_by false false false true e f = record { append = λ h. absurd cc; commitment = λ h. absurd cc; membership = λ h. absurd cc; incremental = λ h. refl; entry = λ h. absurd cc; close = λ h. absurd cc; state = λ h. absurd cc; place = λ h. absurd cc; placed = λ h. absurd cc }
is_kind_by false false false false true f = record { append = λ h. absurd cc; commitment = λ h. absurd cc; membership = λ h. absurd cc; incremental = λ h. absurd cc; entry = λ h. refl; close = λ h. absurd cc; state = λ h. absurd cc; place = λ h. absurd cc; placed = λ h. absurd cc }
is_kind_by false false false false false true = record { append = λ h. absurd cc; commitment = λ h. absurd cc; membership = λ h. absurd cc; incremental = λ h. absurd cc; entry = λ h. absurd cc; close = λ h. refl; state = λ h. absurd cc; place = λ h. absurd cc; placed = λ h. absurd cc }
is_kind_by false false false false false false = record { append = λ h. absurd cc; commitment = λ h. absurd cc; membership = λ h. absurd cc; incremental = λ h. absurd cc; entry = λ h. absurd cc; close = λ h. absurd cc; state = λ h. absurd cc; place = λ h. absurd cc; placed = λ h. absurd cc }

-- the first byte is that of the kind
record IsFirst (byte : ℕ) (found : Option RequestKind) : Type 0 where
  append : found ≡ Some kind.Append → byte ≡ 1
  commitment : found ≡ Some kind.Commitment → byte ≡ 2
  membership : found ≡ Some kind.Membership → byte ≡ 3
  incremental : found ≡ Some kind.Incremental → byte ≡ 4
  entry : found ≡ Some kind.Entry → byte ≡ 5
  close : found ≡ Some kind.Close → byte ≡ 6
  state : found ≡ Some kind.State → ⊥
  place : found ≡ Some kind.Place → ⊥
  placed : found ≡ Some kind.PlacedAppend → ⊥

first_found : (first : ℕ) → IsFirst first (kind_at first)
first_found first =
    let t = is_kind_by (eqb first 1) (eqb first 2) (eqb first 3) (eqb first 4) (eqb first 5) (eqb first 6) in
    record {
      append = λ h. eqb-true first 1 (t.append h);
      commitment = λ h. eqb-true first 2 (t.commitment h);
      membership = λ h. eqb-true first 3 (t.membership h);
      incremental = λ h. eqb-true first 4 (t.incremental h);
      entry = λ h. eqb-true first 5 (t.entry h);
      close = λ h. eqb-true first 6 (t.close h);
      state = t.state;
      place = t.place;
      placed = t.placed;
    }

by_kind : (first : ℕ) (fields : List ℕ) (found : Option RequestKind) (read : Request) → AreBytes fields → IsFirst first found → fields_in found fields ≡ Some read → IsBodyOf (first ∷ fields) read
by_kind first fields None read fits is_first e = absurd cc
by_kind first fields (Some kind.Append) read fits is_first e = rw (is_first.append refl) (append_found fields read fits e)
by_kind first fields (Some kind.Commitment) read fits is_first e = rw (is_first.commitment refl) (commitment_found fields read fits e)
by_kind first fields (Some kind.Membership) read fits is_first e = rw (is_first.membership refl) (membership_found fields read fits e)
by_kind first fields (Some kind.Incremental) read fits is_first e = rw (is_first.incremental refl) (incremental_found fields read fits e)
by_kind first fields (Some kind.Entry) read fits is_first e = rw (is_first.entry refl) (entry_found fields read fits e)
by_kind first fields (Some kind.Close) read fits is_first e = rw (is_first.close refl) (close_found fields read fits e)
by_kind first fields (Some kind.State) read fits is_first e = absurd (is_first.state refl)
by_kind first fields (Some kind.Place) read fits is_first e = absurd (is_first.place refl)
by_kind first fields (Some kind.PlacedAppend) read fits is_first e = absurd (is_first.placed refl)

pub request_found : (body : List ℕ) (read : Request) → AreBytes body → request_in body ≡ Some read → IsBodyOf body read
unfolding request_by
request_found [] read fits e = absurd cc
request_found (first ∷ fields) read fits e =
    by_kind first fields (kind_at first) read (λ place. fits (suc place)) (first_found first) e

-- ---- the body of a request reads as the request

again_4 : (n : ℕ) → n < 2 ^ 32 → from_be_bytes w32 (to_be_bytes w32 n) ≡ n
again_4 n lt = from_be_bytes-to_be_bytes_4 n lt

again_8 : (n : ℕ) → n < 2 ^ 64 → from_be_bytes w64 (to_be_bytes w64 n) ≡ n
again_8 n lt = from_be_bytes-to_be_bytes_8 n lt

append_again : (tag event_kind : ℕ) (payload : List ℕ) → IsRequest (request.Append tag event_kind payload)
    → append_in (to_be_bytes w32 tag ++ to_be_bytes w32 event_kind ++ payload) ≡ Some (request.Append tag event_kind payload)
unfolding append_in
append_again tag event_kind payload allowed =
    let fields : List ℕ = to_be_bytes w32 tag ++ to_be_bytes w32 event_kind ++ payload in
    let kind_is : number_at w32 4 fields ≡ event_kind = again_4 event_kind allowed.1 in
    let sizes : (leb 8 (length fields) && leb (length fields) (8 + MAX_PAYLOAD)) ≡ true =
    and_from (leb 8 (length fields)) (leb (length fields) (8 + MAX_PAYLOAD)) (le-leb 8 (length fields) (omega arith)) (le-leb (length fields) (8 + MAX_PAYLOAD) (omega (arith, allowed.3))) in
    let other : not (eqb (number_at w32 4 fields) RESERVED_KIND) ≡ true =
    not_from_false (eqb (number_at w32 4 fields) RESERVED_KIND) (ne_eqb (number_at w32 4 fields) RESERVED_KIND (λ e. allowed.2 (sym kind_is ∙ e))) in
    cond-true ((leb 8 (length fields) && leb (length fields) (8 + MAX_PAYLOAD)) && not (eqb (number_at w32 4 fields) RESERVED_KIND))
    (Some (request.Append (number_at w32 0 fields) (number_at w32 4 fields) (drop 8 fields))) None
    (and_from (leb 8 (length fields) && leb (length fields) (8 + MAX_PAYLOAD)) (not (eqb (number_at w32 4 fields) RESERVED_KIND)) sizes other)
    ∙ ap (λ (n : ℕ). Some (request.Append n (number_at w32 4 fields) payload)) (again_4 tag allowed.0)
    ∙ ap (λ (n : ℕ). Some (request.Append tag n payload)) kind_is

commitment_again : (tag : ℕ) → tag < 2 ^ 32 → commitment_in (to_be_bytes w32 tag) ≡ Some (request.Commitment tag)
unfolding commitment_in
commitment_again tag lt = ap (λ (n : ℕ). Some (request.Commitment n)) (again_4 tag lt)

membership_again : (tag index count : ℕ) → IsRequest (request.Membership tag index count)
    → membership_in (to_be_bytes w32 tag ++ to_be_bytes w64 index ++ to_be_bytes w64 count) ≡ Some (request.Membership tag index count)
unfolding membership_in
membership_again tag index count allowed =
    let fields : List ℕ = to_be_bytes w32 tag ++ to_be_bytes w64 index ++ to_be_bytes w64 count in
    ap (λ (n : ℕ). Some (request.Membership n (number_at w64 4 fields) (number_at w64 12 fields))) (again_4 tag allowed.0)
    ∙ ap (λ (n : ℕ). Some (request.Membership tag n (number_at w64 12 fields))) (again_8 index allowed.1)
    ∙ ap (λ (n : ℕ). Some (request.Membership tag index n)) (again_8 count allowed.2)

incremental_again : (tag older newer : ℕ) → IsRequest (request.Incremental tag older newer)
    → incremental_in (to_be_bytes w32 tag ++ to_be_bytes w64 older ++ to_be_bytes w64 newer) ≡ Some (request.Incremental tag older newer)
unfolding incremental_in
incremental_again tag older newer allowed =
    let fields : List ℕ = to_be_bytes w32 tag ++ to_be_bytes w64 older ++ to_be_bytes w64 newer in
    ap (λ (n : ℕ). Some (request.Incremental n (number_at w64 4 fields) (number_at w64 12 fields))) (again_4 tag allowed.0)
    ∙ ap (λ (n : ℕ). Some (request.Incremental tag n (number_at w64 12 fields))) (again_8 older allowed.1)
    ∙ ap (λ (n : ℕ). Some (request.Incremental tag older n)) (again_8 newer allowed.2)

entry_again : (tag index : ℕ) → IsRequest (request.Entry tag index) → entry_in (to_be_bytes w32 tag ++ to_be_bytes w64 index) ≡ Some (request.Entry tag index)
unfolding entry_in
entry_again tag index allowed =
    let fields : List ℕ = to_be_bytes w32 tag ++ to_be_bytes w64 index in
    ap (λ (n : ℕ). Some (request.Entry n (number_at w64 4 fields))) (again_4 tag allowed.0)
    ∙ ap (λ (n : ℕ). Some (request.Entry tag n)) (again_8 index allowed.1)

close_again : (tag : ℕ) → tag < 2 ^ 32 → close_in (to_be_bytes w32 tag) ≡ Some (request.Close tag)
unfolding close_in
close_again tag lt = ap (λ (n : ℕ). Some (request.Close n)) (again_4 tag lt)

pub request_again : (asked : Request) → IsRequest asked → request_in (request_body asked) ≡ Some asked
unfolding request_by
request_again (request.Append tag event_kind payload) allowed = append_again tag event_kind payload allowed
request_again (request.Commitment tag) allowed = commitment_again tag allowed
request_again (request.Membership tag index count) allowed = membership_again tag index count allowed
request_again (request.Incremental tag older newer) allowed = incremental_again tag older newer allowed
request_again (request.Entry tag index) allowed = entry_again tag index allowed
request_again (request.Close tag) allowed = close_again tag allowed
request_again (request.State tag) allowed = absurd allowed
request_again (request.Place tag event_kind) allowed = absurd allowed
request_again (request.PlacedAppend tag event_kind place payload) allowed = absurd allowed

-- ---- the size of a body is allowed in a frame

pub request_size : (asked : Request) → IsRequest asked → IsBodySize (length (request_body asked))
request_size (request.Append tag event_kind payload) allowed = (omega arith, omega (arith, allowed.3))
request_size (request.Commitment tag) allowed = (omega arith, omega arith)
request_size (request.Membership tag index count) allowed = (omega arith, omega arith)
request_size (request.Incremental tag older newer) allowed = (omega arith, omega arith)
request_size (request.Entry tag index) allowed = (omega arith, omega arith)
request_size (request.Close tag) allowed = (omega arith, omega arith)
request_size (request.State tag) allowed = absurd allowed
request_size (request.Place tag event_kind) allowed = absurd allowed
request_size (request.PlacedAppend tag event_kind place payload) allowed = absurd allowed

-- ---- the requests of each grammar

pub daemon_allows : (asked : Request) → IsRequest asked → IsDaemonRequest asked
daemon_allows (request.Append tag event_kind payload) allowed = allowed
daemon_allows (request.Commitment tag) allowed = allowed
daemon_allows (request.Membership tag index count) allowed = allowed
daemon_allows (request.Incremental tag older newer) allowed = allowed
daemon_allows (request.Entry tag index) allowed = allowed
daemon_allows (request.Close tag) allowed = allowed
daemon_allows (request.State tag) allowed = absurd allowed
daemon_allows (request.Place tag event_kind) allowed = absurd allowed
daemon_allows (request.PlacedAppend tag event_kind place payload) allowed = absurd allowed

-- a request of the grammar, whose body this is
pub record IsBodyBy (grammar : Grammar) (body : List ℕ) (read : Request) : Type 0 where
  pub allowed : IsRequestBy grammar read
  pub same : body ≡ request_body read

state_found : (fields : List ℕ) (read : Request) → AreBytes fields → state_in fields ≡ Some read → IsBodyBy grammar.Daemon (7 ∷ fields) read
unfolding state_in
state_found fields read fits e =
    let g = guard_some (eqb (length fields) 4) (request.State (number_at w32 0 fields)) read e in
    let size = eqb-true (length fields) 4 g.0 in
    let whole : to_be_bytes w32 (number_at w32 0 fields) ≡ fields = back_4 0 fields fits (omega arith) ∙ take_all 4 fields (omega arith) in
    subst (λ (found : Request). IsBodyBy grammar.Daemon (7 ∷ fields) found) g.1 (record {
      allowed = below_4 0 fields fits;
      same = ap (λ (after : List ℕ). 7 ∷ after) (sym whole);
    })

place_found : (fields : List ℕ) (read : Request) → AreBytes fields → place_in fields ≡ Some read → IsBodyBy grammar.Daemon (8 ∷ fields) read
unfolding place_in
place_found fields read fits e =
    let g = guard_some (eqb (length fields) 8) (request.Place (number_at w32 0 fields) (number_at w32 4 fields)) read e in
    let size = eqb-true (length fields) 8 g.0 in
    let whole : to_be_bytes w32 (number_at w32 0 fields) ++ to_be_bytes w32 (number_at w32 4 fields) ≡ fields =
    ap (λ (tag : List ℕ). tag ++ to_be_bytes w32 (number_at w32 4 fields)) (back_4 0 fields fits (omega arith))
    ∙ ap (λ (event_kind : List ℕ). take 4 fields ++ event_kind) (back_4 4 fields fits (omega arith))
    ∙ two_parts 4 4 fields (omega arith) in
    subst (λ (found : Request). IsBodyBy grammar.Daemon (8 ∷ fields) found) g.1 (record {
      allowed = (below_4 0 fields fits, below_4 4 fields fits);
      same = ap (λ (after : List ℕ). 8 ∷ after) (sym whole);
    })

placed_append_found : (fields : List ℕ) (read : Request) → AreBytes fields → placed_append_in fields ≡ Some read → IsBodyBy grammar.Daemon (9 ∷ fields) read
unfolding placed_append_in
placed_append_found fields read fits e =
    let sizes_hold = leb 16 (length fields) && leb (length fields) (16 + MAX_PLACED_PAYLOAD) in
    let other_kind = not (eqb (number_at w32 4 fields) RESERVED_KIND) in
    let made = request.PlacedAppend (number_at w32 0 fields) (number_at w32 4 fields) (number_at w64 8 fields) (drop 16 fields) in
    let g = guard_some (sizes_hold && other_kind) made read e in
    let tests = and_parts sizes_hold other_kind g.0 in
    let sizes = and_parts (leb 16 (length fields)) (leb (length fields) (16 + MAX_PLACED_PAYLOAD)) tests.0 in
    let least = leb-true 16 (length fields) sizes.0 in
    let most = leb-true (length fields) (16 + MAX_PLACED_PAYLOAD) sizes.1 in
    let other = eqb-false (number_at w32 4 fields) RESERVED_KIND (not-true (eqb (number_at w32 4 fields) RESERVED_KIND) tests.1) in
    let whole : ((to_be_bytes w32 (number_at w32 0 fields) ++ to_be_bytes w32 (number_at w32 4 fields)) ++ to_be_bytes w64 (number_at w64 8 fields)) ++ drop 16 fields ≡ fields =
    ap (λ (tag : List ℕ). ((tag ++ to_be_bytes w32 (number_at w32 4 fields)) ++ to_be_bytes w64 (number_at w64 8 fields)) ++ drop 16 fields) (back_4 0 fields fits (omega arith))
    ∙ ap (λ (event_kind : List ℕ). ((take 4 fields ++ event_kind) ++ to_be_bytes w64 (number_at w64 8 fields)) ++ drop 16 fields) (back_4 4 fields fits (omega arith))
    ∙ ap (λ (place : List ℕ). ((take 4 fields ++ take 4 (drop 4 fields)) ++ place) ++ drop 16 fields) (back_8 8 fields fits (omega arith))
    ∙ four_parts 4 4 8 fields in
    subst (λ (found : Request). IsBodyBy grammar.Daemon (9 ∷ fields) found) g.1 (record {
      allowed = (below_4 0 fields fits, below_4 4 fields fits, other, below_8 8 fields fits, omega (arith, length-drop 16 fields));
      same = ap (λ (after : List ℕ). 9 ∷ after) (sym whole);
    })

-- the kind, decided by the first of three tests that holds, or else this one
abbrev alone_or : (a b c : Bool) → Option RequestKind → Option RequestKind
alone_or a b c other = cond a (Some kind.State) (cond b (Some kind.Place) (cond c (Some kind.PlacedAppend) other))

-- the first byte is that of a request of a daemon's clients alone, or another
by_first : (first : ℕ) (fields : List ℕ) (read : Request) → AreBytes (first ∷ fields) → (a b c : Bool) → eqb first 7 ≡ a → eqb first 8 ≡ b → eqb first 9 ≡ c
    → fields_in (alone_or a b c (kind_at first)) fields ≡ Some read → IsBodyBy grammar.Daemon (first ∷ fields) read
by_first first fields read fits true b c is_a is_b is_c e = rw (eqb-true first 7 is_a) (state_found fields read (λ place. fits (suc place)) e)
by_first first fields read fits false true c is_a is_b is_c e = rw (eqb-true first 8 is_b) (place_found fields read (λ place. fits (suc place)) e)
by_first first fields read fits false false true is_a is_b is_c e = rw (eqb-true first 9 is_c) (placed_append_found fields read (λ place. fits (suc place)) e)
by_first first fields read fits false false false is_a is_b is_c e =
    let given = by_kind first fields (kind_at first) read (λ place. fits (suc place)) (first_found first) e in
    record { allowed = daemon_allows read given.allowed; same = given.same }

pub request_found_by : (grammar : Grammar) (body : List ℕ) (read : Request) → AreBytes body → request_by grammar body ≡ Some read → IsBodyBy grammar body read
unfolding request_by
request_found_by grammar.Plain body read fits e =
    let given = request_found body read fits e in
    record { allowed = given.allowed; same = given.same }
request_found_by grammar.Daemon [] read fits e = absurd cc
request_found_by grammar.Daemon (first ∷ fields) read fits e = by_first first fields read fits (eqb first 7) (eqb first 8) (eqb first 9) refl refl refl e

state_again : (tag : ℕ) → tag < 2 ^ 32 → state_in (to_be_bytes w32 tag) ≡ Some (request.State tag)
unfolding state_in
state_again tag lt = ap (λ (n : ℕ). Some (request.State n)) (again_4 tag lt)

place_again : (tag event_kind : ℕ) → IsDaemonRequest (request.Place tag event_kind) → place_in (to_be_bytes w32 tag ++ to_be_bytes w32 event_kind) ≡ Some (request.Place tag event_kind)
unfolding place_in
place_again tag event_kind allowed =
    let fields : List ℕ = to_be_bytes w32 tag ++ to_be_bytes w32 event_kind in
    ap (λ (n : ℕ). Some (request.Place n (number_at w32 4 fields))) (again_4 tag allowed.0)
    ∙ ap (λ (n : ℕ). Some (request.Place tag n)) (again_4 event_kind allowed.1)

placed_append_again : (tag event_kind place : ℕ) (payload : List ℕ) → IsDaemonRequest (request.PlacedAppend tag event_kind place payload)
    → placed_append_in (to_be_bytes w32 tag ++ to_be_bytes w32 event_kind ++ to_be_bytes w64 place ++ payload) ≡ Some (request.PlacedAppend tag event_kind place payload)
unfolding placed_append_in
placed_append_again tag event_kind place payload allowed =
    let fields : List ℕ = to_be_bytes w32 tag ++ to_be_bytes w32 event_kind ++ to_be_bytes w64 place ++ payload in
    let kind_is : number_at w32 4 fields ≡ event_kind = again_4 event_kind allowed.1 in
    let place_is : number_at w64 8 fields ≡ place = again_8 place allowed.3 in
    let sizes : (leb 16 (length fields) && leb (length fields) (16 + MAX_PLACED_PAYLOAD)) ≡ true =
    and_from (leb 16 (length fields)) (leb (length fields) (16 + MAX_PLACED_PAYLOAD)) (le-leb 16 (length fields) (omega arith)) (le-leb (length fields) (16 + MAX_PLACED_PAYLOAD) (omega (arith, allowed.4))) in
    let other : not (eqb (number_at w32 4 fields) RESERVED_KIND) ≡ true =
    not_from_false (eqb (number_at w32 4 fields) RESERVED_KIND) (ne_eqb (number_at w32 4 fields) RESERVED_KIND (λ e. allowed.2 (sym kind_is ∙ e))) in
    cond-true ((leb 16 (length fields) && leb (length fields) (16 + MAX_PLACED_PAYLOAD)) && not (eqb (number_at w32 4 fields) RESERVED_KIND))
    (Some (request.PlacedAppend (number_at w32 0 fields) (number_at w32 4 fields) (number_at w64 8 fields) (drop 16 fields))) None
    (and_from (leb 16 (length fields) && leb (length fields) (16 + MAX_PLACED_PAYLOAD)) (not (eqb (number_at w32 4 fields) RESERVED_KIND)) sizes other)
    ∙ ap (λ (n : ℕ). Some (request.PlacedAppend n (number_at w32 4 fields) (number_at w64 8 fields) payload)) (again_4 tag allowed.0)
    ∙ ap (λ (n : ℕ). Some (request.PlacedAppend tag n (number_at w64 8 fields) payload)) kind_is
    ∙ ap (λ (n : ℕ). Some (request.PlacedAppend tag event_kind n payload)) place_is

pub request_again_by : (grammar : Grammar) (asked : Request) → IsRequestBy grammar asked → request_by grammar (request_body asked) ≡ Some asked
unfolding request_by
request_again_by grammar.Plain asked allowed = request_again asked allowed
request_again_by grammar.Daemon (request.Append tag event_kind payload) allowed = append_again tag event_kind payload allowed
request_again_by grammar.Daemon (request.Commitment tag) allowed = commitment_again tag allowed
request_again_by grammar.Daemon (request.Membership tag index count) allowed = membership_again tag index count allowed
request_again_by grammar.Daemon (request.Incremental tag older newer) allowed = incremental_again tag older newer allowed
request_again_by grammar.Daemon (request.Entry tag index) allowed = entry_again tag index allowed
request_again_by grammar.Daemon (request.Close tag) allowed = close_again tag allowed
request_again_by grammar.Daemon (request.State tag) allowed = state_again tag allowed
request_again_by grammar.Daemon (request.Place tag event_kind) allowed = place_again tag event_kind allowed
request_again_by grammar.Daemon (request.PlacedAppend tag event_kind place payload) allowed = placed_append_again tag event_kind place payload allowed

pub request_size_by : (grammar : Grammar) (asked : Request) → IsRequestBy grammar asked → IsBodySize (length (request_body asked))
request_size_by grammar.Plain asked allowed = request_size asked allowed
request_size_by grammar.Daemon (request.Append tag event_kind payload) allowed = (omega arith, omega (arith, allowed.3))
request_size_by grammar.Daemon (request.Commitment tag) allowed = (omega arith, omega arith)
request_size_by grammar.Daemon (request.Membership tag index count) allowed = (omega arith, omega arith)
request_size_by grammar.Daemon (request.Incremental tag older newer) allowed = (omega arith, omega arith)
request_size_by grammar.Daemon (request.Entry tag index) allowed = (omega arith, omega arith)
request_size_by grammar.Daemon (request.Close tag) allowed = (omega arith, omega arith)
request_size_by grammar.Daemon (request.State tag) allowed = (omega arith, omega arith)
request_size_by grammar.Daemon (request.Place tag event_kind) allowed = (omega arith, omega arith)
request_size_by grammar.Daemon (request.PlacedAppend tag event_kind place payload) allowed = (omega arith, omega (arith, allowed.4))

-- ---- what every session may ask, a daemon's clients may ask in the same bytes

not_alone : (first : ℕ) (fields : List ℕ) (read : Request) → (a b c : Bool) → eqb first 7 ≡ a → eqb first 8 ≡ b → eqb first 9 ≡ c → fields_in (kind_at first) fields ≡ Some read
    → fields_in (alone_or a b c (kind_at first)) fields ≡ Some read
not_alone first fields read true b c is_a is_b is_c e =
    let none : fields_in (kind_at 7) fields ≡ Some read = subst (λ (byte : ℕ). fields_in (kind_at byte) fields ≡ Some read) (eqb-true first 7 is_a) e in
    absurd cc
not_alone first fields read false true c is_a is_b is_c e =
    let none : fields_in (kind_at 8) fields ≡ Some read = subst (λ (byte : ℕ). fields_in (kind_at byte) fields ≡ Some read) (eqb-true first 8 is_b) e in
    absurd cc
not_alone first fields read false false true is_a is_b is_c e =
    let none : fields_in (kind_at 9) fields ≡ Some read = subst (λ (byte : ℕ). fields_in (kind_at byte) fields ≡ Some read) (eqb-true first 9 is_c) e in
    absurd cc
not_alone first fields read false false false is_a is_b is_c e = e

pub daemon_reads : (body : List ℕ) (asked : Request) → request_in body ≡ Some asked → request_by grammar.Daemon body ≡ Some asked
unfolding request_by
daemon_reads [] asked e = absurd cc
daemon_reads (first ∷ fields) asked e = not_alone first fields asked (eqb first 7) (eqb first 8) (eqb first 9) refl refl refl e

state_alone : (fields : List ℕ) (asked : Request) → state_in fields ≡ Some asked → IsDaemonsAlone asked
unfolding state_in
state_alone fields asked e = subst IsDaemonsAlone (guard_some (eqb (length fields) 4) (request.State (number_at w32 0 fields)) asked e).1 tt

place_alone : (fields : List ℕ) (asked : Request) → place_in fields ≡ Some asked → IsDaemonsAlone asked
unfolding place_in
place_alone fields asked e = subst IsDaemonsAlone (guard_some (eqb (length fields) 8) (request.Place (number_at w32 0 fields) (number_at w32 4 fields)) asked e).1 tt

placed_append_alone : (fields : List ℕ) (asked : Request) → placed_append_in fields ≡ Some asked → IsDaemonsAlone asked
unfolding placed_append_in
placed_append_alone fields asked e =
    subst IsDaemonsAlone (guard_some ((leb 16 (length fields) && leb (length fields) (16 + MAX_PLACED_PAYLOAD)) && not (eqb (number_at w32 4 fields) RESERVED_KIND))
    (request.PlacedAppend (number_at w32 0 fields) (number_at w32 4 fields) (number_at w64 8 fields) (drop 16 fields)) asked e).1 tt

alone_or_not : (first : ℕ) (fields : List ℕ) (asked : Request) → (a b c : Bool) → fields_in (alone_or a b c (kind_at first)) fields ≡ Some asked
    → IsDaemonsAlone asked ⊎ (fields_in (kind_at first) fields ≡ Some asked)
alone_or_not first fields asked true b c e = inl (state_alone fields asked e)
alone_or_not first fields asked false true c e = inl (place_alone fields asked e)
alone_or_not first fields asked false false true e = inl (placed_append_alone fields asked e)
alone_or_not first fields asked false false false e = inr e

pub daemon_only : (body : List ℕ) (asked : Request) → request_by grammar.Daemon body ≡ Some asked → IsDaemonsAlone asked ⊎ (request_in body ≡ Some asked)
unfolding request_by
daemon_only [] asked e = absurd cc
daemon_only (first ∷ fields) asked e = alone_or_not first fields asked (eqb first 7) (eqb first 8) (eqb first 9) e

-- ---- what was read is a request with that body

pub found_by : (grammar : Grammar) (body : List ℕ) (read : Result RequestView Malformed) → AreBytes body → request_read read ≡ request_by grammar body
    → IfOk read (λ view. IsRequestBy grammar (request_shown view) × (body ≡ request_body (request_shown view)))
found_by grammar body (Ok view) fits e =
    let found = request_found_by grammar body (request_shown view) fits (sym e) in
    (found.allowed, found.same)
found_by grammar body (Err fault) fits e = tt
