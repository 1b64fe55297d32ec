use Rattle.std.proofs.Common.{inl, inr, refl, sym, rules, arith, IsTrue}
use Rattle.std.proofs.lemmas.Result.{err_from_is_err_and}
use Rattle.audit_wire_ask.proofs.Conversations.{converses_more}
use Rattle.audit_wire_ask.proofs.Failures.{fails_to_prove_after}
use Rattle.audit_wire_ask.proofs.asking.entry_of.Goals as goal

pub returns-clause-done : goal.returns-clause-done
returns-clause-done g c = (
  c.in_ok-newest.newest,
  record {
    conversation = converses_more _ _ _ _ _ _ _ _ _ _ c.in_ok-newest.ensures.done c.in_ok-proof.ensures.done;
    hashes = c.in_ok-proof.proof.hashes.items;
    accepted = rw (sym c.deref.ensures.value, sym c.deref-2.ensures.value) (c.accepts_member.ensures.exact.0 (search rules));
    alone = rw (sym c.deref-3.ensures.value) (c.is_one_entry.ensures.0 (search rules));
  },
)

pub returns-in_err-newest-clause-fault : goal.returns-in_err-newest-clause-fault
returns-in_err-newest-clause-fault g c =
    let p = err_from_is_err_and c.from_residual.result c.from_residual.ensures.1 in
    rw (p.1, p.2) (inl c.in_err-newest.ensures.fault)

pub returns-in_err-proof-clause-fault : goal.returns-in_err-proof-clause-fault
returns-in_err-proof-clause-fault g c =
    let p = err_from_is_err_and c.from_residual-in_err-proof.result c.from_residual-in_err-proof.ensures.1 in
    rw (p.1, p.2) (fails_to_prove_after _ _ _ _ _ _ _ _ _ c.in_ok-newest.ensures.done c.in_err-proof.ensures.fault)

pub returns-then-not-accepts_member-clause-fault : goal.returns-then-not-accepts_member-clause-fault
returns-then-not-accepts_member-clause-fault g c = inr (
  c.in_ok-newest.newest,
  inr (
    c.in_ok-proof.proof.hashes.items,
    c.in_ok-proof.proof.entry.items,
    converses_more _ _ _ _ _ _ _ _ _ _ c.in_ok-newest.ensures.done c.in_ok-proof.ensures.done,
    inl (refl, λ accepted. let is : IsTrue c.accepts_member.result = c.accepts_member.ensures.exact.1 (rw (c.deref.ensures.value, c.deref-2.ensures.value) accepted) in absurd (grind arith)),
  ),
)

pub returns-then-not-is_one_entry-clause-fault : goal.returns-then-not-is_one_entry-clause-fault
returns-then-not-is_one_entry-clause-fault g c = inr (
  c.in_ok-newest.newest,
  inr (
    c.in_ok-proof.proof.hashes.items,
    c.in_ok-proof.proof.entry.items,
    converses_more _ _ _ _ _ _ _ _ _ _ c.in_ok-newest.ensures.done c.in_ok-proof.ensures.done,
    inr (
      refl,
      rw (sym c.deref.ensures.value, sym c.deref-2.ensures.value) (c.accepts_member.ensures.exact.0 (search rules)),
      λ one. let is : IsTrue c.is_one_entry.result = c.is_one_entry.ensures.1 (rw c.deref-3.ensures.value one) in absurd (grind arith),
    ),
  ),
)
