use Rattle.std.proofs.Common.{◌≡◌, ◌+◌, ◌-◌, take, drop, arith, refl, ap, sym, ◌∙◌}
use Rattle.std.proofs.lemmas.List.{drop-take}
use Rattle.audit_lanes.proofs.padding.Padding.fill.Goals as goal

pub returns-clause-filled : goal.returns-clause-filled
returns-clause-filled c =
    let it = c.self.inside in
    let to : it.from + (it.to - it.from) ≡ it.to = omega (arith, c.self.invariant) in
    let same : take (it.to - it.from) (drop it.from it.bytes) ≡ drop it.from (take it.to it.bytes) =
    sym (drop-take it.from (it.to - it.from) it.bytes) ∙ ap (λ k. drop it.from (take k it.bytes)) to in
    rw (c.fill.ensures.used, same, c.self.view_is) at c.fill.ensures.filled
