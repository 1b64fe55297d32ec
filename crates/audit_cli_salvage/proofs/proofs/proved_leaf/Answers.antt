use Rattle.std.proofs.Common.{◌∙◌, refl, ap}
use Rattle.std.proofs.lemmas.Bool.{iff_false}
use Rattle.audit_proof.specs.ProofBytes.{member_in}
use Rattle.audit_tree.specs.Subtree.{leaf_hash_of}
use Rattle.audit_cli_salvage.proofs.ProofFiles.{leaf_shown, not_accepted}
use Rattle.audit_cli_salvage.proofs.proofs.proved_leaf.Goals as goal

pub returns-then-not-is_accepted-clause-fault : goal.returns-then-not-is_accepted-clause-fault
returns-then-not-is_accepted-clause-fault g c =
    not_accepted (g.R.Read.remaining c.args.reader.now) c.in_ok-bytes.bytes.items c.deref.result.now (member_in c.in_ok-proof.proof) c.in_ok-bytes.ensures.whole c.deref.ensures.value c.in_ok-proof.ensures.ok c.args.commitment.now (iff_false c.is_accepted.ensures c.if-not-is_accepted.true)

pub returns-clause-shown : goal.returns-clause-shown
returns-clause-shown g c =
    leaf_shown (g.R.Read.remaining c.args.reader.now) c.in_ok-bytes.bytes.items c.deref.result.now (member_in c.in_ok-proof.proof) c.in_ok-bytes.ensures.whole c.deref.ensures.value c.in_ok-proof.ensures.ok c.args.commitment.now _ (c.if-not-is_accepted.ensures.0 refl) refl (c.leaf_hash.ensures ∙ ap leaf_hash_of c.deref-2.ensures.value)
