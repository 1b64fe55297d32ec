use Rattle.std.proofs.Common.{sym, ap, ◌∙◌, arith}
use Rattle.std.proofs.lemmas.Result.{err_from_is_err_and}
use Rattle.audit_tree.specs.Subtree.{leaf_hash_of}
use Rattle.audit_verify.specs.declared.fault.VerifyFault.{VerifyFault}
use Rattle.audit_disclosure.proofs.MatchedSteps.{linked_none, linked_one, linked_full, matched_end, unmatched_end, unmatched_by, ok_end, err_end}
use Rattle.audit_disclosure.proofs.matching.match_export.Goals as goal

pub loop-tree-init : goal.loop-tree-init
loop-tree-init g c = linked_none c.copy-tree.ensures.sized (c.new-entries.ensures (g.R.Read.remaining c.args.reader.now)) c.copy-tree.ensures.same

pub returns-in_err-next_entry-clause-fault : goal.returns-in_err-next_entry-clause-fault
returns-in_err-next_entry-clause-fault g c =
    let p = err_from_is_err_and c.from_residual.result c.from_residual.ensures.1 in
    let built = c.loop-tree.invariant in
    let stops = c.in_err-next_entry.ensures.next c.args.start.now (g.R.Read.remaining c.args.reader.now) built.entries built.read in
    rw (p.1, p.2) (unmatched_by c.args.commitment.now c.in_err-next_entry.field-0.0 built stops)

pub returns-in_err-next_entry-clause-read : goal.returns-in_err-next_entry-clause-read
returns-in_err-next_entry-clause-read g c =
    let p = err_from_is_err_and c.from_residual.result c.from_residual.ensures.1 in
    let built = c.loop-tree.invariant in
    let stops = c.in_err-next_entry.ensures.next c.args.start.now (g.R.Read.remaining c.args.reader.now) built.entries built.read in
    rw (p.1, p.2) stops.reader

pub loop-tree-preserved-then-count-lt-MAX_COUNT : goal.loop-tree-preserved-then-count-lt-MAX_COUNT
loop-tree-preserved-then-count-lt-MAX_COUNT g c =
    let built = c.loop-tree.invariant in
    let one = rw c.if-branch.true at (c.in_ok-next_entry.ensures.next c.args.start.now (g.R.Read.remaining c.args.reader.now) built.entries built.read) in
    let counted = rw c.if-branch.true at c.in_ok-next_entry.ensures.counted in
    linked_one built one counted.0 (c.leaf_hash.ensures ∙ ap leaf_hash_of c.held.ensures) c.push.ensures.after (omega (arith, c.count.ensures.count, c.if-count-lt-MAX_COUNT.true))

pub loop-tree-preserved : goal.loop-tree-preserved
loop-tree-preserved g c =
    let built = c.loop-tree.invariant in
    let one = rw c.if-branch.true at (c.in_ok-next_entry.ensures.next c.args.start.now (g.R.Read.remaining c.args.reader.now) built.entries built.read) in
    let counted = rw c.if-branch.true at c.in_ok-next_entry.ensures.counted in
    linked_full built one counted.0 (omega (arith, c.count.ensures.count, c.if-count-lt-MAX_COUNT.false))

pub returns-clause-matched : goal.returns-clause-matched
returns-clause-matched g c =
    let built = c.loop-tree.invariant in
    let ended = rw c.if-branch.false at (c.in_ok-next_entry.ensures.next c.args.start.now (g.R.Read.remaining c.args.reader.now) built.entries built.read) in
    let counted = rw c.if-branch.false at c.in_ok-next_entry.ensures.counted in
    ok_end c.judge_end.result _ _ (λ given right. matched_end c.args.commitment.now c.end.result given built ended counted c.end.ensures right) c.judge_end.ensures.right

pub returns-clause-fault : goal.returns-clause-fault
returns-clause-fault g c =
    let built = c.loop-tree.invariant in
    let ended = rw c.if-branch.false at (c.in_ok-next_entry.ensures.next c.args.start.now (g.R.Read.remaining c.args.reader.now) built.entries built.read) in
    err_end c.judge_end.result _ _ (λ fault wrong. unmatched_end c.args.commitment.now c.end.result fault built ended c.end.ensures wrong) c.judge_end.ensures.wrong

pub returns-clause-read : goal.returns-clause-read
returns-clause-read g c =
    err_end c.judge_end.result _ _ (λ fault wrong is. absurd (let e = sym (ap (λ (f : VerifyFault). f.cause) wrong.0) ∙ is in cc)) c.judge_end.ensures.wrong

pub returns-clause-memory : goal.returns-clause-memory
returns-clause-memory g c =
    err_end c.judge_end.result _ _ (λ fault wrong is. absurd (let e = sym (ap (λ (f : VerifyFault). f.cause) wrong.0) ∙ is in cc)) c.judge_end.ensures.wrong
