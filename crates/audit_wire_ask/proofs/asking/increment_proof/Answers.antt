use Rattle.std.proofs.Common.{inl, inr, refl, sym, ◌∙◌}
use Rattle.std.proofs.lemmas.Option.{none-some}
use Rattle.std.proofs.lemmas.Result.{err_from_is_err_and}
use Rattle.audit_proof.specs.ProofBytes.{increment_in}
use Rattle.audit_wire_ask.proofs.Conversations.{converses_more}
use Rattle.audit_wire_ask.proofs.Failures.{vouched_after, fails_increment_after, increment_unvouched}
use Rattle.audit_wire_ask.proofs.asking.increment_proof.Goals as goal

pub returns-clause-done : goal.returns-clause-done
returns-clause-done g c =
    let v = c.in_ok-vouch.ensures.done in
    let proof = c.in_ok-proof.proof in (
      c.in_ok-newest.newest,
      increment_in proof,
      c.in_ok-proof.ensures.older,
      c.in_ok-proof.ensures.newer,
      c.in_ok-write_increment.ensures.ok,
      record {
        older_root = c.in-Some.roots.0;
        newer_root = c.in-Some.roots.1;
        accepted = rw (c.in_ok-proof.ensures.older, c.in_ok-proof.ensures.newer, sym c.deref.ensures.value) c.in-Some.ensures.roots;
        vouched = rw (c.in_ok-proof.ensures.older, c.in_ok-proof.ensures.newer) (vouched_after _ _ _ _ _ _ _ _ _ _ (converses_more _ _ _ _ _ _ _ _ _ _ c.in_ok-newest.ensures.done c.in_ok-proof.ensures.done) v);
      },
    )

pub returns-in_err-newest-clause-fault : goal.returns-in_err-newest-clause-fault
returns-in_err-newest-clause-fault g c =
    let p = err_from_is_err_and c.from_residual.result c.from_residual.ensures.1 in
    rw (p.1, p.2) (inl c.in_err-newest.ensures.fault)

pub returns-in_err-proof-clause-fault : goal.returns-in_err-proof-clause-fault
returns-in_err-proof-clause-fault g c =
    let p = err_from_is_err_and c.from_residual-in_err-proof.result c.from_residual-in_err-proof.ensures.1 in
    rw (p.1, p.2) (fails_increment_after _ _ _ _ _ _ _ _ _ _ c.in_ok-newest.ensures.done c.in_err-proof.ensures.fault)

pub returns-in_err-vouch-clause-fault : goal.returns-in_err-vouch-clause-fault
returns-in_err-vouch-clause-fault g c =
    let p = err_from_is_err_and c.from_residual-in_err-vouch.result c.from_residual-in_err-vouch.ensures.1 in
    rw (p.1, p.2)
    (increment_unvouched _ _ _ _ _ _ _ _ _ _ c.in-Some.roots.0 c.in-Some.roots.1 _ (converses_more _ _ _ _ _ _ _ _ _ _ c.in_ok-newest.ensures.done c.in_ok-proof.ensures.done)
    (rw (sym c.deref.ensures.value) c.in-Some.ensures.roots) c.in_err-vouch.ensures.other c.in_err-vouch.ensures.fault)

pub returns-in_default-clause-fault : goal.returns-in_default-clause-fault
returns-in_default-clause-fault g c = inr (
  c.in_ok-newest.newest,
  inr (inl (
    c.in_ok-proof.proof.hashes.items,
    inl (
      refl,
      converses_more _ _ _ _ _ _ _ _ _ _ c.in_ok-newest.ensures.done c.in_ok-proof.ensures.done,
      λ root accepted. none-some _ (sym c.in_default.is ∙ c.roots_of_increment.ensures.only accepted.0 root (rw (c.deref.ensures.value) accepted.1)),
    ),
  )),
)

pub returns-in_err-write_increment-clause-fault : goal.returns-in_err-write_increment-clause-fault
returns-in_err-write_increment-clause-fault g c =
    let p = err_from_is_err_and c.from_residual-in_err-write_increment.result c.from_residual-in_err-write_increment.ensures.1 in
    let v = c.in_ok-vouch.ensures.done in
    let proof = c.in_ok-proof.proof in
    rw (p.1, p.2) (inr (
      c.in_ok-newest.newest,
      inr (inr (
        refl,
        increment_in proof,
        c.in_ok-proof.ensures.older,
        c.in_ok-proof.ensures.newer,
        record {
          older_root = c.in-Some.roots.0;
          newer_root = c.in-Some.roots.1;
          accepted = rw (c.in_ok-proof.ensures.older, c.in_ok-proof.ensures.newer, sym c.deref.ensures.value) c.in-Some.ensures.roots;
          vouched = rw (c.in_ok-proof.ensures.older, c.in_ok-proof.ensures.newer) (vouched_after _ _ _ _ _ _ _ _ _ _ (converses_more _ _ _ _ _ _ _ _ _ _ c.in_ok-newest.ensures.done c.in_ok-proof.ensures.done) v);
        },
      )),
    ))
