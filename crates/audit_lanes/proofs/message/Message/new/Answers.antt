use Rattle.std.proofs.Common.{◌++◌, length, ap, ◌∙◌}
use Rattle.audit_lanes.proofs.Filling.{padding_by}
use Rattle.audit_lanes.proofs.message.Message.new.Goals as goal

pub returns : goal.returns
returns c = ap (λ rest. c.args.text ++ rest) (c.new-padding.ensures ∙ padding_by c.total.result (length c.args.text) c.total.ensures)
