use Rattle.std.proofs.Common.{◌∙◌, ap, ◌++◌, drop, length}
use Rattle.std.proofs.lemmas.List.{drop-replicate}
use Rattle.audit_mac.proofs.mac.zero_extended.Goals as goal

pub returns : goal.returns
returns c =
    let key = c.args.key.now in
    c.write_front.ensures
    ∙ ap (λ block. key ++ drop (length key) block) c.zero_block-block.ensures
    ∙ ap (λ rest. key ++ rest) (drop-replicate (length key) _ 0)
