use Rattle.std.proofs.Common.{◌-◌, ◌^◌}
use Rattle.audit_disclosure.proofs.TakenKeys.{HasTakenChosen}
use Rattle.audit_disclosure.proofs.making.keys_again.Given as goal

-- the keys of the chosen entries read so far were taken
abbrev pub invariant-loop-keys : goal.invariant-loop-keys
invariant-loop-keys g l = HasTakenChosen l.choice l.fn.from (g.R.Read.remaining l.fn.reader) (g.R.Read.remaining l.reader) l.entries l.key l.keys.items

abbrev pub decreases-loop-keys : goal.decreases-loop-keys
decreases-loop-keys g l = 2 ^ 34 - l.entries.count
