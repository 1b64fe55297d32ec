use Rattle.std.proofs.Common.{◌≡◌, ◌+◌, ◌-◌, ◌≤◌, ◌++◌, length, take, drop, min, arith, refl, ap, sym, ◌∙◌, length-append}
use Rattle.std.proofs.lemmas.List.{take_all}
use Rattle.audit_lanes.proofs.Filling.{filled_more, drop-pieces}
use Rattle.audit_lanes.proofs.message.Message.next_block.Goals as goal

pub returns-clause-block : goal.returns-clause-block
returns-clause-block c = λ long.
    let it = c.self.inside in
    let all : min 64 (c.fill-used.result + length it.padding) ≡ 64 = omega (arith, c.fill-used.ensures.used, ap length c.self.view_is, length-append it.text it.padding) in
    let block : take 64 c.fill.new.block ≡ take 64 (it.text ++ it.padding) =
    filled_more _ _ it.text it.padding c.fill-used.ensures.filled (rw all at c.fill.ensures.filled) in
    sym (take_all 64 c.fill.new.block (omega (arith, c.fill.array_long))) ∙ block ∙ ap (take 64) c.self.view_is

pub returns-clause-rest : goal.returns-clause-rest
returns-clause-rest c =
    let it = c.self.inside in
    let room : 64 - c.fill-used.result ≡ 64 - length it.text = omega (arith, c.fill-used.ensures.used) in
    rw (← c.self.view_is, c.fill-used.ensures.rest, c.fill.ensures.rest, room, drop-pieces 64 it.text it.padding) refl
