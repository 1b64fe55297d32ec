use Rattle.std.proofs.Common.{◌≡◌, ◌+◌, ◌-◌, ℕ, List, IfSome, length, sym, subst, arith}
use Rattle.std.proofs.lemmas.Bool.{iff_false}
use Rattle.std.proofs.lemmas.Result.{err_from_is_err_and}
use Rattle.audit_link.specs.OpenedEntry.{IsEntryOf, IsSoleEntry}
use Rattle.audit_verify.specs.declared.fault.Cause.TheVariants.{WrongCommitment}
use Rattle.audit_disclosure.specs.LinkReading.{end_of_reading}
use Rattle.audit_disclosure.specs.ShownEntries.{shown_event}
use Rattle.audit_cli_disclosure.specs.ShownExport.{StopsShown}
use Rattle.audit_cli_disclosure.specs.ShownReport.{shown_text}
use Rattle.audit_cli_disclosure.proofs.ShownSteps.{held_entry, shown_none, shown_one, shown_all, other_end, stopped_again, entry_unwritten, last_unwritten, unwritten_report}
use Rattle.audit_cli_disclosure.proofs.showing.show_again.Goals as goal

pub loop-line-init : goal.loop-line-init
loop-line-init g c = shown_none (g.W.Write.contents c.args.writer.now) (c.new-entries.ensures (g.R.Read.remaining c.args.reader.now)) c.requires c.as_slice-keys.ensures.value

pub returns-in_err-next_entry-clause-fault : goal.returns-in_err-next_entry-clause-fault
returns-in_err-next_entry-clause-fault g c =
    let p = err_from_is_err_and c.from_residual.result c.from_residual.ensures.1 in
    let had = c.loop-line.invariant in
    let stops = c.in_err-next_entry.ensures.next c.args.disclosure.now.start (g.R.Read.remaining c.args.reader.now) had.entries had.read in
    rw (p.1, p.2) (stopped_again c.args.form c.args.disclosure.now.start c.args.disclosure.now.keys.items c.loop-line.keys.now (g.W.Write.contents c.args.writer.now) (g.W.Write.contents c.loop-line.writer) c.args.accepted.now c.in_err-next_entry.field-0.0 had stops)

pub returns-in_err-next_entry-clause-report : goal.returns-in_err-next_entry-clause-report
returns-in_err-next_entry-clause-report g c =
    let p = err_from_is_err_and c.from_residual.result c.from_residual.ensures.1 in
    let had = c.loop-line.invariant in
    let stops = c.in_err-next_entry.ensures.next c.args.disclosure.now.start (g.R.Read.remaining c.args.reader.now) had.entries had.read in
    rw (p.1, p.2) stops.reader

pub write_entry-requires : goal.write_entry-requires
write_entry-requires g c =
    let had = c.loop-line.invariant in
    let taken = rw c.if-branch.true at (c.in_ok-next_entry.ensures.next c.args.disclosure.now.start (g.R.Read.remaining c.args.reader.now) had.entries had.read) in
    subst IsSoleEntry (sym c.held.ensures) (taken.parts, held_entry taken)

pub returns-in_err-write_entry-clause-fault : goal.returns-in_err-write_entry-clause-fault
returns-in_err-write_entry-clause-fault g c =
    let p = err_from_is_err_and c.from_residual-in_err-write_entry.result c.from_residual-in_err-write_entry.ensures.1 in
    let had = c.loop-line.invariant in
    let taken = rw c.if-branch.true at (c.in_ok-next_entry.ensures.next c.args.disclosure.now.start (g.R.Read.remaining c.args.reader.now) had.entries had.read) in
    let counted = rw c.if-branch.true at c.in_ok-next_entry.ensures.counted in
    let place : c.count-index.result - 1 ≡ c.args.disclosure.now.start.tree.count + length had.entries = omega (arith, c.count-index.ensures, counted.0, had.read.count) in
    let is = subst (λ (bytes : List ℕ). IsEntryOf bytes taken.parts) (sym c.held.ensures) (held_entry taken) in
    rw (p.1, p.2) (entry_unwritten c.args.form c.args.disclosure.now.start c.args.disclosure.now.keys.items c.loop-line.keys.now (g.W.Write.contents c.args.writer.now) (g.W.Write.contents c.loop-line.writer) (g.W.Write.contents c.write_entry.new.writer) c.args.accepted.now (c.count-index.result - 1) c.key_for-key.result.0 c.in_err-write_entry.field-0.0
    had taken place c.key_for-key.ensures.key (c.in_err-write_entry.ensures.fault taken.parts is))

pub returns-in_err-write_entry-clause-report : goal.returns-in_err-write_entry-clause-report
returns-in_err-write_entry-clause-report g c =
    let p = err_from_is_err_and c.from_residual-in_err-write_entry.result c.from_residual-in_err-write_entry.ensures.1 in
    let had = c.loop-line.invariant in
    let taken = rw c.if-branch.true at (c.in_ok-next_entry.ensures.next c.args.disclosure.now.start (g.R.Read.remaining c.args.reader.now) had.entries had.read) in
    let is = subst (λ (bytes : List ℕ). IsEntryOf bytes taken.parts) (sym c.held.ensures) (held_entry taken) in
    rw (p.1, p.2) (unwritten_report (g.W.Write.contents c.loop-line.writer) (g.W.Write.contents c.write_entry.new.writer) (shown_text c.args.form (c.count-index.result - 1) taken.parts (shown_event c.key_for-key.result.0 taken.parts))
    c.in_err-write_entry.field-0.0 (c.in_err-write_entry.ensures.fault taken.parts is))

pub loop-line-preserved : goal.loop-line-preserved
loop-line-preserved g c =
    let had = c.loop-line.invariant in
    let taken = rw c.if-branch.true at (c.in_ok-next_entry.ensures.next c.args.disclosure.now.start (g.R.Read.remaining c.args.reader.now) had.entries had.read) in
    let counted = rw c.if-branch.true at c.in_ok-next_entry.ensures.counted in
    let place : c.count-index.result - 1 ≡ c.args.disclosure.now.start.tree.count + length had.entries = omega (arith, c.count-index.ensures, counted.0, had.read.count) in
    let is = subst (λ (bytes : List ℕ). IsEntryOf bytes taken.parts) (sym c.held.ensures) (held_entry taken) in
    shown_one (c.count-index.result - 1) c.key_for-key.result.0 had taken place c.key_for-key.ensures.key (λ other from. c.key_for-key.ensures.later other (omega (arith, from))) c.key_for-key.ensures.order (c.in_ok-write_entry.ensures.written taken.parts is)

pub returns-in_err-write_last-clause-fault : goal.returns-in_err-write_last-clause-fault
returns-in_err-write_last-clause-fault g c =
    let p = err_from_is_err_and c.from_residual-in_err-write_last.result c.from_residual-in_err-write_last.ensures.1 in
    let had = c.loop-line.invariant in
    let ended = rw c.if-branch.false at (c.in_ok-next_entry.ensures.next c.args.disclosure.now.start (g.R.Read.remaining c.args.reader.now) had.entries had.read) in
    let reached : end_of_reading c.next_entry.new.self ≡ c.args.accepted.now = c.has_reached.ensures.0 c.if-not-has_reached.false in
    rw (p.1, p.2) (last_unwritten c.args.form c.args.disclosure.now.start c.args.disclosure.now.keys.items c.loop-line.keys.now (g.W.Write.contents c.args.writer.now) (g.W.Write.contents c.loop-line.writer) (g.W.Write.contents c.write_last.new.writer) c.args.accepted.now c.in_err-write_last.field-0.0 had ended reached c.in_err-write_last.ensures.fault)

pub returns-clause-shown : goal.returns-clause-shown
returns-clause-shown g c =
    let had = c.loop-line.invariant in
    let ended = rw c.if-branch.false at (c.in_ok-next_entry.ensures.next c.args.disclosure.now.start (g.R.Read.remaining c.args.reader.now) had.entries had.read) in
    let reached : end_of_reading c.next_entry.new.self ≡ c.args.accepted.now = c.has_reached.ensures.0 c.if-not-has_reached.false in
    shown_all c.args.form c.args.disclosure.now.start c.args.disclosure.now.keys.items c.loop-line.keys.now (g.W.Write.contents c.args.writer.now) (g.W.Write.contents c.loop-line.writer) (g.W.Write.contents c.write_last.new.writer) c.args.accepted.now had ended reached c.in_ok-write_last.ensures.written

pub returns-then-not-has_reached-clause-fault : goal.returns-then-not-has_reached-clause-fault
returns-then-not-has_reached-clause-fault g c =
    let had = c.loop-line.invariant in
    let ended = rw c.if-branch.false at (c.in_ok-next_entry.ensures.next c.args.disclosure.now.start (g.R.Read.remaining c.args.reader.now) had.entries had.read) in
    subst (λ (n : ℕ). IfSome (g.R.Read.remaining c.args.reader.now) (λ again. StopsShown c.args.form c.args.disclosure.now.start c.args.disclosure.now.keys.items c.args.accepted.now again (g.W.Write.contents c.args.writer.now) (g.W.Write.contents c.loop-line.writer) (record { index = n; cause = WrongCommitment })))
    (sym c.count.ensures) (other_end c.args.form c.args.disclosure.now.start c.args.disclosure.now.keys.items c.loop-line.keys.now (g.W.Write.contents c.args.writer.now) (g.W.Write.contents c.loop-line.writer) c.args.accepted.now had ended (iff_false c.has_reached.ensures c.if-not-has_reached.true))
