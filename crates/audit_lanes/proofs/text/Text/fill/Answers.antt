use Rattle.std.proofs.Common.{◌≡◌, ◌-◌, ◌++◌, length, take, drop, min, arith, refl, ap, ◌∙◌, length-append}
use Rattle.audit_lanes.proofs.Filling.{filled_more, drop-pieces}
use Rattle.audit_lanes.proofs.text.Text.fill.Goals as goal

pub returns-clause-filled : goal.returns-clause-filled
returns-clause-filled c =
    let text = c.self.inside in
    let two = filled_more _ _ text.prefix.now text.first.now c.fill-used.ensures.filled c.fill-used-2.ensures.filled in
    filled_more _ _ (text.prefix.now ++ text.first.now) text.second.now two c.fill-used-3.ensures.filled ∙ ap (take 64) c.self.view_is

pub returns-clause-rest : goal.returns-clause-rest
returns-clause-rest c =
    let text = c.self.inside in
    let two : 64 - c.fill-used.result.0 ≡ 64 - length text.prefix.now = omega (arith, c.fill-used.ensures.used) in
    let three : 64 - c.fill-used-2.result.0 ≡ 64 - length (text.prefix.now ++ text.first.now) =
    omega (arith, c.fill-used.ensures.used, c.fill-used-2.ensures.used, length-append text.prefix.now text.first.now) in
    rw (
      ← c.self.view_is,
      c.fill-used.ensures.rest,
      c.fill-used-2.ensures.rest,
      c.fill-used-3.ensures.rest,
      two,
      three,
      drop-pieces 64 (text.prefix.now ++ text.first.now) text.second.now,
      drop-pieces 64 text.prefix.now text.first.now,
    ) refl
