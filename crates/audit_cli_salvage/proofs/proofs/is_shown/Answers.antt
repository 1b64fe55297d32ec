use Rattle.std.proofs.lemmas.List.{drop_more}
use Rattle.audit_cli_salvage.proofs.Shown.{shown_here, not_here}
use Rattle.audit_cli_salvage.proofs.proofs.is_shown.Goals as goal

pub returns-then-shows : goal.returns-then-shows
returns-then-shows c = λ parts is.
    shown_here c.args.proofs.now _ _ _ c.args.index parts (c.loop-proved.invariant parts is) (drop_more c.args.proofs.now c.loop-proved.proved-index _ c.loop-proved-test.true) c.if-shows.true (c.shows.ensures parts is)

pub loop-proved-preserved : goal.loop-proved-preserved
loop-proved-preserved c = λ parts is.
    not_here c.args.proofs.now _ _ _ c.args.index parts (c.loop-proved.invariant parts is) (drop_more c.args.proofs.now c.loop-proved.proved-index _ c.loop-proved-test.true) c.if-shows.false (c.shows.ensures parts is)
