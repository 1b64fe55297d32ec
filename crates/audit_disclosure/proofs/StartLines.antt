-- The lines of where an export begins.
use Rattle.std.specs.Prelude.{codes, nat_eq}
use Rattle.std.specs.Fmt.{decimal}
use Rattle.std.specs.List.{starts_with}
use Rattle.std.proofs.Common.{inl, inr, ◌≡◌, ◌≢◌, ◌⊎◌, ◌∙◌, ℕ, ◌/◌, ◌%◌, ◌<◌, ◌^◌, ◌==◌, Bool, true, false, cond, List, [], ◌∷◌, ◌++◌, replicate, refl, sym, ap, arith, append_assoc}
use Rattle.std.proofs.Math.Nat.{zero-div}
use Rattle.std.proofs.lemmas.Bool.{cases_Bool, eqb-true}
use Rattle.std.proofs.lemmas.Fmt.{decimal_is_IsNumeral}
use Rattle.std.proofs.lemmas.List.{ext_get_or, get_or-replicate}
use Rattle.hex.specs.Hex.{encode_lower}
use Rattle.audit_base.specs.declared.limits.TheConstants.{LAYERS}
use Rattle.audit_tree.specs.Frontier.{FrontierData, IsSized}
use Rattle.audit_tree.specs.Continued.{no_hash, empty_frontier}
use Rattle.audit_chain.specs.Entries.{first_link}
use Rattle.audit_text.specs.NumberedLine.{numbered_line}
use Rattle.audit_verify.specs.StateText.{node_lines}
use Rattle.audit_text.specs.Fields.{field_line}
use Rattle.audit_text.proofs.FieldLines.{digits_feedless, hash_feedless}
use Rattle.audit_text.specs.Fields.{Splits}
use Rattle.audit_disclosure.specs.declared.disclosure.DisclosedKey.{DisclosedKey}
use Rattle.audit_disclosure.specs.declared.disclosure.Start.{Start}
use Rattle.audit_disclosure.specs.DisclosureText.{IsSoundStart, disclosed_lines, later_lines, start_lines, disclosure_text}

abbrev pub start_made : List ℕ → FrontierData → Start
start_made link tree = record { link = link; tree = tree }

pub text_is : (start : Start) (keys : List DisclosedKey) → disclosure_text start keys ≡ start_lines start ++ disclosed_lines keys
unfolding disclosure_text
text_is start keys = refl

-- a start has no lines, or those of a later one
pub lines_are : (start : Start) → ((start.tree.count ≡ 0) × (start_lines start ≡ [])) ⊎ (start_lines start ≡ later_lines start)
unfolding start_lines
lines_are start = elim (cases_Bool (start.tree.count == 0)) [
  | inl none ↦ inl (eqb-true start.tree.count 0 none, ap (λ (b : Bool). cond b [] (later_lines start)) none)
  | inr some ↦ inr (ap (λ (b : Bool). cond b [] (later_lines start)) some)
]

pub keys_have_no_count : (keys : List DisclosedKey) → starts_with nat_eq (disclosed_lines keys) (codes "count ") ≡ false
unfolding numbered_line
keys_have_no_count [] = refl
keys_have_no_count (one ∷ keys) = refl

pub later_has_count : (start : Start) (rest : List ℕ) → starts_with nat_eq (later_lines start ++ rest) (codes "count ") ≡ true
later_has_count start rest = refl

abbrev frontier_with : ℕ → List (List ℕ) → FrontierData
frontier_with count hashes = record { count = count; hashes = hashes }

no_one : (count layer : ℕ) → count ≡ 0 → count / 2 ^ layer % 2 ≢ 1
no_one count layer none is = let e : 0 % 2 ≡ 1 = ap (λ n. n % 2) (sym (ap (λ n. n / 2 ^ layer) none ∙ zero-div (2 ^ layer))) ∙ is in omega (arith, e)

empty_tree : (tree : FrontierData) → IsSized tree.count tree.hashes → tree.count ≡ 0 → tree ≡ empty_frontier
empty_tree tree sized none =
    let hashes : tree.hashes ≡ replicate LAYERS no_hash =
    ext_get_or [] tree.hashes (replicate LAYERS no_hash) sized.long (λ k lt. let low : k < LAYERS = omega (arith, lt, sized.long) in
    sized.clean k low (no_one tree.count k none) ∙ sym (get_or-replicate LAYERS k no_hash [] low)) in
    ap (λ n. frontier_with n tree.hashes) none ∙ ap (frontier_with 0) hashes

pub first_start_is : (start : Start) → IsSoundStart start → start.tree.count ≡ 0 → start ≡ start_made first_link empty_frontier
first_start_is start sound none =
    ap (λ l. start_made l start.tree) (sound.fits.first none) ∙ ap (start_made first_link) (empty_tree start.tree sound.fits.tree none)

-- the fields at the start of a text
pub record AreStartFields (start : Start) (rest count link after : List ℕ) : Type 0 where
  pub count_is : count ≡ decimal start.tree.count
  pub link_is : link ≡ encode_lower start.link
  pub after_is : after ≡ node_lines start.tree.count start.tree.hashes ++ rest

later_parts : (start : Start) (rest : List ℕ) → later_lines start ++ rest ≡ field_line (codes "count") (decimal start.tree.count) ++ (field_line (codes "link") (encode_lower start.link) ++ (node_lines start.tree.count start.tree.hashes ++ rest))
later_parts start rest =
    append_assoc (field_line (codes "count") (decimal start.tree.count)) (field_line (codes "link") (encode_lower start.link) ++ node_lines start.tree.count start.tree.hashes) rest
    ∙ ap (λ t. field_line (codes "count") (decimal start.tree.count) ++ t) (append_assoc (field_line (codes "link") (encode_lower start.link)) (node_lines start.tree.count start.tree.hashes) rest)

pub start_fields : (start : Start) (rest : List ℕ) → IsSoundStart start → (text v1 t1 v2 t2 : List ℕ) → Splits text v1 t1 → Splits t1 v2 t2 → text ≡ later_lines start ++ rest → AreStartFields start rest v1 v2 t2
start_fields start rest sound text v1 t1 v2 t2 s1 s2 is =
    let numeral = decimal_is_IsNumeral start.tree.count (omega (arith, sound.fits.tree.most)) in
    let nodes : List ℕ = node_lines start.tree.count start.tree.hashes ++ rest in
    let count = s1 (codes "count") (decimal start.tree.count) (field_line (codes "link") (encode_lower start.link) ++ nodes) (refl, (refl, (refl, (refl, (refl, tt))))) (refl, (refl, (refl, (refl, (refl, tt)))))
    (digits_feedless (decimal start.tree.count) numeral.0.1) (is ∙ later_parts start rest) in
    let link = s2 (codes "link") (encode_lower start.link) nodes (refl, (refl, (refl, (refl, tt)))) (refl, (refl, (refl, (refl, tt)))) (hash_feedless start.link sound.link.bytes) count.1 in
    record { count_is = count.0; link_is = link.0; after_is = link.1 }
