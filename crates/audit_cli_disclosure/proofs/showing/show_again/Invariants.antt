use Rattle.std.proofs.Common.{◌-◌, ◌^◌}
use Rattle.audit_cli_disclosure.proofs.ShownSteps.{HasShown}
use Rattle.audit_cli_disclosure.proofs.showing.show_again.Given as goal

-- the lines of the linked entries read so far were written, and the keys that are left are those of later entries
abbrev pub invariant-loop-line : goal.invariant-loop-line
invariant-loop-line g l = HasShown l.fn.form l.fn.disclosure.start l.fn.disclosure.keys.items (g.R.Read.remaining l.fn.reader) (g.R.Read.remaining l.reader) l.entries l.keys
    (g.W.Write.contents l.fn.writer) (g.W.Write.contents l.writer)

abbrev pub decreases-loop-line : goal.decreases-loop-line
decreases-loop-line g l = 2 ^ 34 - l.entries.count
