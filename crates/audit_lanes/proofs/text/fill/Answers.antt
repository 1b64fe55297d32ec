use Rattle.std.proofs.Common.{◌∙◌}
use Rattle.audit_lanes.proofs.Filling.{filled_by, filled_none, filled_whole}
use Rattle.audit_lanes.proofs.text.fill.Goals as goal

pub returns-then-piece-ge-BLOCK_LEN-clause-filled : goal.returns-then-piece-ge-BLOCK_LEN-clause-filled
returns-then-piece-ge-BLOCK_LEN-clause-filled c =
    filled_whole c.args.block.now _ c.args.piece.now c.args.used c.if-used-eq0.true (c.copy_from_slice.ensures.after ∙ c.split_at.ensures.front)

pub returns-then-count-eq0-clause-filled : goal.returns-then-count-eq0-clause-filled
returns-then-count-eq0-clause-filled c =
    filled_none c.args.block.now c.args.piece.now c.args.used c.min-count.result c.requires c.told-block c.min-count.ensures c.if-count-eq0.true

pub returns-clause-filled : goal.returns-clause-filled
returns-clause-filled c =
    filled_by c.args.block.now _ c.args.piece.now c.args.used c.min-count.result _ c.requires c.told-block c.min-count.ensures
    (c.copy_from_slice-2.ensures.after ∙ c.split_at-2.ensures.front)
