use Rattle.std.proofs.Common.{◌∙◌}
use Rattle.audit_serve_ready.proofs.Asking.{some_left}
use Rattle.audit_serve_ready.proofs.unread.Unread.is_empty.Goals as goal

pub returns-clause-some : goal.returns-clause-some
returns-clause-some c = λ apart none.
    let i = c.self.inside in
    some_left i.piece.items i.start i.end c.self.invariant.0 c.self.invariant.1 apart (c.self.view_is ∙ none)
