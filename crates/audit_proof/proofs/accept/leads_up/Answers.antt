use Rattle.std.proofs.Common.{replicate, ◌∙◌}
use Rattle.audit_proof.proofs.Leads.{leads_from, leads_some, leads_only}
use Rattle.audit_proof.proofs.accept.leads_up.Goals as goal

pub returns-clause-exact : goal.returns-clause-exact
returns-clause-exact g c =
    let H = g.T.TextHash.value_of in
    let found = c.root_of_member in
    rw c.is_some.ensures (
      leads_some H c.args.commitment.now c.args.index (replicate 32 0) c.args.hashes.now found.result found.ensures.root,
      leads_only H c.args.commitment.now c.args.index (replicate 32 0) c.args.hashes.now found.result found.ensures.none,
    )

pub returns-clause-accepted : goal.returns-clause-accepted
returns-clause-accepted g c = λ leaf accepted.
    let H = g.T.TextHash.value_of in
    let found = c.root_of_member in
    c.is_some.ensures ∙ leads_only H c.args.commitment.now c.args.index (replicate 32 0) c.args.hashes.now found.result found.ensures.none
    (leads_from H c.args.commitment.now c.args.index leaf c.args.hashes.now accepted)
