-- A log that extends the commitment to some entries.
use Rattle.std.proofs.Common.{◌≡◌, ◌∙◌, ◌⊎◌, ℕ, ◌≤◌, List, length, map, take, sym, ap, subst, arith}
use Rattle.std.specs.List.{take-map}
use Rattle.std.proofs.lemmas.List.{length-map, length-take-le}
use Rattle.sha2.specs.Sha256.{sha256}
use Rattle.audit_chain.specs.Event.{EventData}
use Rattle.audit_chain.specs.Entries.{first_link, log_entries}
use Rattle.audit_chain.proofs.Sizes.{length-entries_from}
use Rattle.audit_tree.specs.Subtree.{leaf_hash_of, root_of}
use Rattle.audit_proof.specs.Acceptance.{commitment_to}
use Rattle.audit_proof.specs.declared.commitment.Commitment.{Commitment}
use Rattle.audit_store.specs.Extending.{ExtendsCommitment}
use Rattle.audit_proof.specs.TreesCollide.{TreesCollide}
use Rattle.audit_verify.proofs.Commitments.{same_commitment}
use Rattle.audit_proof.proofs.SameEntries.{same_entries}

module _ (older : Commitment) (witnessed : List (List ℕ)) (first_key : List ℕ) (events : List EventData) {leaves : List (List ℕ)}
    (are : leaves ≡ map leaf_hash_of (log_entries first_key events)) (extends : ExtendsCommitment older leaves) (of_them : older ≡ commitment_to witnessed) where
  abbrev entries : List (List ℕ)
  entries = log_entries first_key events

  theirs : ExtendsCommitment older (map leaf_hash_of entries)
  theirs = subst (ExtendsCommitment older) are extends

  within : older.count ≤ length entries
  within = omega (arith, theirs.count, length-map entries leaf_hash_of)

  pub as_many : length witnessed ≤ length events
  as_many = omega (arith, ap (λ (c : Commitment). c.count) of_them, within, length-entries_from first_key first_link events)

  pub first_are : (take older.count entries ≡ witnessed) ⊎ TreesCollide (take older.count entries) witnessed
  first_are =
      let texts = take older.count entries in
      let own : older ≡ commitment_to texts =
      same_commitment older.count (length texts) older.root (root_of sha256 (map leaf_hash_of texts))
      (sym (length-take-le older.count entries within))
      (sym theirs.root ∙ ap (root_of sha256) (take-map leaf_hash_of older.count entries)) in
      same_entries texts witnessed (sym own ∙ of_them)
