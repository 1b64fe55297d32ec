use Rattle.std.proofs.Common.{inl, inr, refl, sym, ◌∙◌}
use Rattle.std.proofs.lemmas.Option.{none-some}
use Rattle.std.proofs.lemmas.Result.{err_from_is_err_and}
use Rattle.audit_proof.specs.ProofBytes.{member_in}
use Rattle.audit_wire_ask.proofs.Conversations.{converses_more}
use Rattle.audit_wire_ask.proofs.Failures.{vouched_after, fails_member_after, member_unvouched}
use Rattle.audit_wire_ask.proofs.asking.member_proof.Goals as goal

pub returns-clause-done : goal.returns-clause-done
returns-clause-done g c =
    let v = c.in_ok-vouch.ensures.done in
    let proof = c.in_ok-proof.proof in (
      c.in_ok-newest.newest,
      member_in proof,
      c.in_ok-proof.ensures.index,
      c.in_ok-proof.ensures.count,
      c.in_ok-write_member.ensures.ok,
      record {
        root = c.in-Some.root;
        accepted = rw (c.in_ok-proof.ensures.index, c.in_ok-proof.ensures.count, sym c.deref.ensures.value, sym c.deref-2.ensures.value) c.in-Some.ensures.root;
        vouched = rw (c.in_ok-proof.ensures.index, c.in_ok-proof.ensures.count) (vouched_after _ _ _ _ _ _ _ _ _ _ (converses_more _ _ _ _ _ _ _ _ _ _ c.in_ok-newest.ensures.done c.in_ok-proof.ensures.done) v);
      },
    )

pub returns-in_err-newest-clause-fault : goal.returns-in_err-newest-clause-fault
returns-in_err-newest-clause-fault g c =
    let p = err_from_is_err_and c.from_residual.result c.from_residual.ensures.1 in
    rw (p.1, p.2) (inl c.in_err-newest.ensures.fault)

pub returns-in_err-proof-clause-fault : goal.returns-in_err-proof-clause-fault
returns-in_err-proof-clause-fault g c =
    let p = err_from_is_err_and c.from_residual-in_err-proof.result c.from_residual-in_err-proof.ensures.1 in
    rw (p.1, p.2) (fails_member_after _ _ _ _ _ _ _ _ _ _ c.in_ok-newest.ensures.done c.in_err-proof.ensures.fault)

pub returns-in_err-vouch-clause-fault : goal.returns-in_err-vouch-clause-fault
returns-in_err-vouch-clause-fault g c =
    let p = err_from_is_err_and c.from_residual-in_err-vouch.result c.from_residual-in_err-vouch.ensures.1 in
    rw (p.1, p.2)
    (member_unvouched _ _ _ _ _ _ _ _ _ _ _ _ _ (converses_more _ _ _ _ _ _ _ _ _ _ c.in_ok-newest.ensures.done c.in_ok-proof.ensures.done)
    (rw (sym c.deref.ensures.value, sym c.deref-2.ensures.value) c.in-Some.ensures.root) c.in_err-vouch.ensures.other c.in_err-vouch.ensures.fault)

pub returns-in_default-clause-fault : goal.returns-in_default-clause-fault
returns-in_default-clause-fault g c = inr (
  c.in_ok-newest.newest,
  inr (inl (
    c.in_ok-proof.proof.hashes.items,
    c.in_ok-proof.proof.entry.items,
    inl (
      refl,
      converses_more _ _ _ _ _ _ _ _ _ _ c.in_ok-newest.ensures.done c.in_ok-proof.ensures.done,
      λ root accepted. none-some _ (sym c.in_default.is ∙ c.root_of_membership.ensures.only root (rw (c.deref.ensures.value, c.deref-2.ensures.value) accepted)),
    ),
  )),
)

pub returns-in_err-write_member-clause-fault : goal.returns-in_err-write_member-clause-fault
returns-in_err-write_member-clause-fault g c =
    let p = err_from_is_err_and c.from_residual-in_err-write_member.result c.from_residual-in_err-write_member.ensures.1 in
    let v = c.in_ok-vouch.ensures.done in
    let proof = c.in_ok-proof.proof in
    rw (p.1, p.2) (inr (
      c.in_ok-newest.newest,
      inr (inr (
        refl,
        member_in proof,
        c.in_ok-proof.ensures.index,
        c.in_ok-proof.ensures.count,
        record {
          root = c.in-Some.root;
          accepted = rw (c.in_ok-proof.ensures.index, c.in_ok-proof.ensures.count, sym c.deref.ensures.value, sym c.deref-2.ensures.value) c.in-Some.ensures.root;
          vouched = rw (c.in_ok-proof.ensures.index, c.in_ok-proof.ensures.count) (vouched_after _ _ _ _ _ _ _ _ _ _ (converses_more _ _ _ _ _ _ _ _ _ _ c.in_ok-newest.ensures.done c.in_ok-proof.ensures.done) v);
        },
      )),
    ))
