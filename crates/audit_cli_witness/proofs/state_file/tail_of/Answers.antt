use Rattle.std.proofs.Common.{◌≡◌, ◌<◌, ◌-◌, ◌^◌, length, arith}
use Rattle.std.proofs.lemmas.Grind.{common_steps}
use Rattle.audit_cli_witness.proofs.StateLines.{whole_known, tail_known}
use Rattle.audit_cli_witness.proofs.EndFaults.{whole_sound, whole_failed, end_sound, end_long, end_bad, cause_at, numbered_from}
use Rattle.audit_cli_witness.proofs.state_file.tail_of.Goals as goal

pub returns-then-start-eq0-clause-read : goal.returns-then-start-eq0-clause-read
returns-then-start-eq0-clause-read g c = whole_known _ _ _ _ _ c.tail_in.ensures.read (rw c.deref.ensures.value c.in_ok-text.ensures.read) c.if-start-eq0.true

pub returns-then-start-eq0-clause-sound : goal.returns-then-start-eq0-clause-sound
returns-then-start-eq0-clause-sound g c =
    whole_sound c.tail_in.result _ _ _ c.args.size c.tail_in.ensures.read (rw c.deref.ensures.value c.in_ok-text.ensures.read) c.saturating_sub-start.ensures c.if-start-eq0.true

pub returns-then-start-eq0-clause-failed : goal.returns-then-start-eq0-clause-failed
returns-then-start-eq0-clause-failed g c =
    whole_failed _ c.tail_in.result _ _ _ c.args.size c.tail_in.ensures.bad (rw c.deref.ensures.value c.in_ok-text.ensures.read) c.saturating_sub-start.ensures c.if-start-eq0.true

pub returns-in-Ok-clause-read : goal.returns-in-Ok-clause-read
returns-in-Ok-clause-read g c =
    let some : 0 < length c.in-Ok.tail.kept.items = grind (arith, common_steps) in
    tail_known c.in-Ok.tail _ c.deref-2.result.now _ c.split_line.result.1.now c.saturating_sub-start.result c.args.size c.in-Ok.ensures.read
    (rw c.deref-2.ensures.value c.in_ok-text.ensures.read) (record { first = c.split_line.ensures.first; after = c.split_line.ensures.after }) some

pub returns-in-Ok-clause-sound : goal.returns-in-Ok-clause-sound
returns-in-Ok-clause-sound g c =
    let some : 0 < length c.in-Ok.tail.kept.items = grind (arith, common_steps) in
    end_sound c.in-Ok.tail _ c.deref-2.result.now _ c.split_line.result.1.now c.saturating_sub-start.result c.args.size c.in-Ok.ensures.read
    (rw c.deref-2.ensures.value c.in_ok-text.ensures.read) (record { first = c.split_line.ensures.first; after = c.split_line.ensures.after }) c.saturating_sub-start.ensures c.if-start-eq0.false some

pub returns-in-Ok-2-clause-failed : goal.returns-in-Ok-2-clause-failed
returns-in-Ok-2-clause-failed g c =
    let none : length c.in-Ok.tail.kept.items ≡ 0 = grind (arith, common_steps) in
    let small : c.args.size < 2 ^ 64 = omega (arith, c.ranges.size.fits) in
    end_long (g.T.StateText.failed c.bad_line.new.file) c.bad_line.result c.in-Ok.tail (g.T.StateText.text c.args.file.now) c.deref-2.result.now c.split_line.result.0.now c.split_line.result.1.now c.saturating_sub-start.result c.args.size small
    c.in-Ok.ensures.read (rw c.deref-2.ensures.value c.in_ok-text.ensures.read) (record { first = c.split_line.ensures.first; after = c.split_line.ensures.after }) c.saturating_sub-start.ensures c.if-start-eq0.false none
    (rw c.in_ok-text.ensures.kept at c.bad_line.ensures.failed)

pub returns-in-Err-BadStateLine-clause-failed : goal.returns-in-Err-BadStateLine-clause-failed
returns-in-Err-BadStateLine-clause-failed g c =
    let small : c.args.size < 2 ^ 64 = omega (arith, c.ranges.size.fits) in
    let fault = c.bad_line-in-Err-BadStateLine.result in
    end_bad (g.T.StateText.failed c.bad_line-in-Err-BadStateLine.new.file) fault (g.T.StateText.text c.args.file.now) c.deref-2.result.now c.split_line.result.0.now c.split_line.result.1.now c.saturating_sub-start.result c.args.size c.in-Err-BadStateLine.line small
    (cause_at c.tail_in-2.result c.in-Err-BadStateLine.field-0 c.in-Err-BadStateLine.line c.split_line.result.1.now c.in-Err-BadStateLine.is c.in-Err-BadStateLine.field-0-is c.tail_in-2.ensures.bad)
    (rw c.deref-2.ensures.value c.in_ok-text.ensures.read) (record { first = c.split_line.ensures.first; after = c.split_line.ensures.after }) c.saturating_sub-start.ensures c.if-start-eq0.false
    (numbered_from (g.T.StateText.failed c.bad_line-in-Err-BadStateLine.new.file) (g.T.StateText.text c.args.file.now) c.saturating_sub-before.result (c.args.size - length c.split_line.result.1.now) c.in-Err-BadStateLine.line fault c.saturating_sub-before.ensures
    (rw c.in_ok-text.ensures.kept at c.bad_line-in-Err-BadStateLine.ensures.failed))
