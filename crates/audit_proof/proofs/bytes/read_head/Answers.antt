use Rattle.std.proofs.Common.{ℕ, get_or, Some, refl, ap, ◌∙◌}
use Rattle.std.proofs.lemmas.Bool.{lt-ltb, le-ltb, eq-eqb, ne_eqb}
use Rattle.audit_proof.specs.declared.bytes.Head.{Head}
use Rattle.audit_proof.specs.ProofBytes.{head_of, number_in}
use Rattle.audit_proof.proofs.bytes.read_head.Goals as goal

pub returns-then-bytes-lt-HEAD_LEN-clause-head : goal.returns-then-bytes-lt-HEAD_LEN-clause-head
unfolding head_of
returns-then-bytes-lt-HEAD_LEN-clause-head c = rw (lt-ltb _ _ c.if-bytes-lt-HEAD_LEN.true) refl

pub returns-then-bytes-mark-clause-head : goal.returns-then-bytes-mark-clause-head
unfolding head_of
returns-then-bytes-mark-clause-head c = rw (le-ltb _ _ c.if-bytes-lt-HEAD_LEN.false, ne_eqb _ _ c.if-bytes-mark.true) refl

pub returns-clause-head : goal.returns-clause-head
unfolding head_of number_in
returns-clause-head c =
    rw (le-ltb _ _ c.if-bytes-lt-HEAD_LEN.false, eq-eqb _ _ c.if-bytes-mark.false)
    (let h : ℕ → ℕ → Head = λ a b. record { first = a; second = b; number = get_or c.args.bytes.now 17 0 } in
    ap (λ a. Some (h a c.u64_at-2.result)) c.u64_at.ensures ∙ ap (λ b. Some (h (number_in c.args.bytes.now 1) b)) c.u64_at-2.ensures)
