-- The commitments that increments join to that of a known log are those of its first entries, or there is a collision.
use Rattle.std.proofs.Common.{◌≡◌, ◌∙◌, ◌⊎◌, inl, inr, ℕ, ◌-◌, ◌^◌, ◌≤◌, List, [], ◌∷◌, Some, None, length, map, take, drop, sym, ap, subst, arith, take-take, length-take-le}
use Rattle.std.specs.Int.{w64, trailing_zeros}
use Rattle.std.proofs.lemmas.List.{length-map, take-map}
use Rattle.sha2.specs.Sha256.{sha256}
use Rattle.audit_base.specs.Hashes.{AreHashes}
use Rattle.audit_tree.specs.Subtree.{leaf_hash_of, subtree_hash, root_of, depth}
use Rattle.audit_tree.specs.Paths.{path, increment_path}
use Rattle.audit_tree.proofs.HashLengths.{increment-hashes, leaf-hashes}
use Rattle.audit_proof.specs.declared.commitment.Commitment.{Commitment}
use Rattle.audit_proof.specs.declared.steps.Versions.{Versions}
use Rattle.audit_proof.specs.Acceptance.{AcceptsIncrement, commitment_to, roots_from_increment}
use Rattle.audit_proof.specs.Climb.{Climbed, climb, two_values, whole}
use Rattle.audit_proof.proofs.MadeIncrement.{made_roots}
use Rattle.audit_proof.proofs.SharedNodes.{same_reached}
use Rattle.audit_verify.proofs.Commitments.{same_commitment}
use Rattle.audit_wire_ask.specs.Joined.{IsJoined, IsVouchedFor}
use Rattle.audit_wire_read.specs.Increments.{IncrementCollides}
use Rattle.audit_wire_read.specs.Newest.{Extends}
use Rattle.audit_wire_read.specs.Runs.{HasCollision}
use Rattle.audit_wire_read.proofs.SameClimbs.{newer_climb, same_climb}

all_used : {V : Type 0} (climbed : Climbed V) (value : V) → whole climbed ≡ Some value → climbed ≡ Some (value, [])
all_used None value h = absurd (cc h)
all_used (Some (top, [])) value h = ap (λ v. Some (v, [])) (let e : top ≡ value = cc h in e)
all_used (Some (top, hash ∷ rest)) value h = absurd (cc h)

abbrev both : List ℕ → List ℕ → Versions
both older newer = record { older = older; newer = newer }

-- an increment to the commitment of some entries is the one that their tree makes, so the older commitment is theirs
pub older_is : (texts : List (List ℕ)) (older : Commitment) (hashes : List (List ℕ)) → AcceptsIncrement sha256 older (commitment_to texts) hashes → AreHashes hashes
    → (older ≡ commitment_to (take older.count texts)) ⊎ IncrementCollides texts
older_is texts older [] accepted are = absurd (cc accepted.roots)
older_is texts older (first ∷ hashes) accepted are =
    let n = older.count in
    let m = length texts in
    let leaves = map leaf_hash_of texts in
    let layer = trailing_zeros w64 n in
    let top = depth n in
    let height = depth m - layer in
    let long : length leaves ≡ m = length-map texts leaf_hash_of in
    let order : n ≤ length leaves = omega (arith, accepted.order, long) in
    let made_first = subtree_hash sha256 layer (drop (n - 2 ^ layer) leaves) in
    let made_rest = path sha256 layer (depth (length leaves) - layer) (n - 1) leaves in
    let theirs = both older.root (root_of sha256 leaves) in
    let own = both (root_of sha256 (take n leaves)) (root_of sha256 leaves) in
    let mine : climb (two_values sha256 top) layer height (n - 1) m (both first first) hashes ≡ Some (theirs, []) = all_used _ theirs accepted.roots in
    let made : climb (two_values sha256 top) layer height (n - 1) m (both made_first made_first) made_rest ≡ Some (own, []) =
    all_used _ own (ap (λ k. roots_from_increment sha256 n k (increment_path sha256 leaves n)) (sym long)
    ∙ made_roots leaves n accepted.some order (omega (arith, accepted.small, long))) in
    let path_is = increment-hashes n leaves (leaf-hashes texts) accepted.some order in
    let same = same_climb layer height (n - 1) m first made_first (root_of sha256 leaves) hashes made_rest [] [] (are 0 [] (omega arith)) (path_is 0 [] (omega arith))
    (newer_climb sha256 top layer height (n - 1) m (both first first) theirs hashes [] mine)
    (newer_climb sha256 top layer height (n - 1) m (both made_first made_first) own made_rest [] made) in
    elim same [
      | inr collide ↦ inr record { older = older; hashes = first ∷ hashes; accepted = accepted; collide = collide }
      | inl is ↦
          (let rest_is : hashes ≡ made_rest = is.first ∙ sym is.second in
          let moved : climb (two_values sha256 top) layer height (n - 1) m (both first first) hashes ≡ Some (own, []) =
          ap (λ f. climb (two_values sha256 top) layer height (n - 1) m (both f f) hashes) is.value
          ∙ ap (λ hs. climb (two_values sha256 top) layer height (n - 1) m (both made_first made_first) hs) rest_is ∙ made in
          let roots = same_reached theirs own [] [] (sym mine ∙ moved) in
          inl (same_commitment n (length (take n texts)) older.root (root_of sha256 (map leaf_hash_of (take n texts)))
          (sym (length-take-le n texts accepted.order))
          (ap (λ (v : Versions). v.older) roots.0 ∙ ap (root_of sha256) (take-map leaf_hash_of n texts))))
    ]

-- it is the commitment to the first entries, or says nothing
abbrev pub Fits : List (List ℕ) → Commitment → Type 0
Fits texts commitment = (commitment.count ≡ 0) ⊎ ((commitment.count ≤ length texts) × (commitment ≡ commitment_to (take commitment.count texts)))

-- what is joined to one of these is one
pub joined_fits : (texts : List (List ℕ)) (older newer : Commitment) → Fits texts newer → IsJoined older newer → Fits texts older ⊎ HasCollision texts
joined_fits texts older newer fits (inl none) = inl (inl none)
joined_fits texts older newer (inl none) (inr (hashes, accepted, are)) = absurd (omega (arith, none, accepted.some, accepted.order))
joined_fits texts older newer (inr (within, is)) (inr (hashes, accepted, are)) =
    let n = older.count in
    let m = newer.count in
    elim (older_is (take m texts) older hashes (subst (λ (c : Commitment). AcceptsIncrement sha256 older c hashes) is accepted) are) [
      | inl same ↦ inl (inr (omega (arith, within, accepted.order), same ∙ ap commitment_to (take-take n m texts accepted.order)))
      | inr collide ↦ inr record { size = m; within = within; found = inl collide }
    ]

pub vouched_fits : (texts : List (List ℕ)) (older newer : Commitment) → Fits texts newer → IsVouchedFor older newer → Fits texts older ⊎ HasCollision texts
vouched_fits texts older newer fits (inl same) = inl (subst (Fits texts) (sym same) fits)
vouched_fits texts older newer fits (inr increment) = joined_fits texts older newer fits (inr increment)

pub extends_fits : (texts : List (List ℕ)) (older newer : Commitment) → Fits texts newer → Extends older newer → Fits texts older ⊎ HasCollision texts
extends_fits texts older newer fits (inl same) = inl (subst (Fits texts) same fits)
extends_fits texts older newer fits (inr (fewer, joined)) = joined_fits texts older newer fits joined
