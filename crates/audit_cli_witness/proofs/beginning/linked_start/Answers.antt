use Rattle.std.proofs.Common.{inl, subst}
use Rattle.audit_proof.specs.declared.commitment.Commitment.{Commitment}
use Rattle.audit_link.specs.Accepted.{IsLinkJudgment}
use Rattle.audit_link.specs.Links.{link_in}
use Rattle.audit_cli_witness.proofs.beginning.linked_start.Goals as goal

pub returns : goal.returns
returns c =
    let link = link_in c.in_ok-link.link in
    record {
      start = tt;
      fault = inl (
        c.in_default.not-Accepted,
        link,
        c.in_ok-link.ensures.spelled,
        subst (λ (start : Commitment). IsLinkJudgment c.args.old.now start link c.in_ok-judgment.judgment) c.next_commitment-start.ensures c.in_ok-judgment.ensures,
      );
    }
