use Rattle.std.proofs.Common.{ap, ◌∙◌}
use Rattle.audit_serve_ready.specs.Slot.{closed}
use Rattle.audit_serve_ready.proofs.Sending.{closes}
use Rattle.audit_serve_ready.proofs.slot.Slot.close.Goals as goal

pub returns : goal.returns
returns g c =
    let i = c.self.inside in
    closes c.args.why i.client i.reception i.unread i.kept c.clear.new.self i.noted ∙ ap (closed c.args.why) c.self.view_is
