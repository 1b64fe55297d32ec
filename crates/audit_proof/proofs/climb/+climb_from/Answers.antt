use Rattle.std.proofs.Common.{◌≡◌, ◌+◌, ◌-◌, ◌*◌, ◌%◌, ◌^◌, suc, Some, drop, sym, ap, ◌∙◌, arith}
use Rattle.std.proofs.lemmas.Nat.{one_shl}
use Rattle.audit_proof.specs.Climb.{climb, up_alone, up_with}
use Rattle.audit_proof.proofs.ClimbLemmas.{climb-none, climb-alone, climb-right, climb-left, climb-lost}
use Rattle.audit_proof.proofs.climb.+climb_from.Goals as goal

pub returns-then-way-eq0-clause-reached : goal.returns-then-way-eq0-clause-reached
returns-then-way-eq0-clause-reached g t c =
    let way = c.args.way in
    rw c.if-way-eq0.true (sym (climb-none (g.C.Climber.steps c.args.climber.now) way.from way.place way.count c.args.value c.args.hashes.now))

pub returns-in-None-clause-reached : goal.returns-in-None-clause-reached
returns-in-None-clause-reached g t c =
    let steps = g.C.Climber.steps c.args.climber.now in
    let way = c.args.way in
    let height = way.height - 1 in
    let up : suc height ≡ way.height = omega (arith, c.if-way-eq0.false) in
    let half : 1 * 2 ^ (way.from + height) % 2 ^ 64 ≡ 2 ^ (way.from + height) =
    one_shl (way.from + height) 64 (omega (arith, c.requires.top, c.if-way-eq0.false)) in
    ap (up_with (steps.with_left (way.from + height)))
    ((rw c.in_right_half.ensures at c.in-None.ensures.reached) ∙ ap (λ n. climb steps way.from height (way.place - n) (way.count - n) c.args.value c.args.hashes.now) half)
    ∙ sym (climb-left steps way.from height way.place way.count c.args.value c.args.hashes.now (omega (arith, half, c.if-half-way.true)))
    ∙ ap (λ k. climb steps way.from k way.place way.count c.args.value c.args.hashes.now) up

pub returns-in-Some-clause-reached : goal.returns-in-Some-clause-reached
returns-in-Some-clause-reached g t c =
    let steps = g.C.Climber.steps c.args.climber.now in
    let way = c.args.way in
    let height = way.height - 1 in
    let up : suc height ≡ way.height = omega (arith, c.if-way-eq0.false) in
    let half : 1 * 2 ^ (way.from + height) % 2 ^ 64 ≡ 2 ^ (way.from + height) =
    one_shl (way.from + height) 64 (omega (arith, c.requires.top, c.if-way-eq0.false)) in
    c.reach_with.ensures.reached
    ∙ ap (up_with (steps.with_left (way.from + height)))
    ((rw c.in_right_half.ensures at c.in-Some.ensures.reached) ∙ ap (λ n. climb steps way.from height (way.place - n) (way.count - n) c.args.value c.args.hashes.now) half)
    ∙ sym (climb-left steps way.from height way.place way.count c.args.value c.args.hashes.now (omega (arith, half, c.if-half-way.true)))
    ∙ ap (λ k. climb steps way.from k way.place way.count c.args.value c.args.hashes.now) up

pub returns-in-None-climb_from-clause-reached : goal.returns-in-None-climb_from-clause-reached
returns-in-None-climb_from-clause-reached g t c =
    let steps = g.C.Climber.steps c.args.climber.now in
    let way = c.args.way in
    let height = way.height - 1 in
    let up : suc height ≡ way.height = omega (arith, c.if-way-eq0.false) in
    let half : 1 * 2 ^ (way.from + height) % 2 ^ 64 ≡ 2 ^ (way.from + height) =
    one_shl (way.from + height) 64 (omega (arith, c.requires.top, c.if-way-eq0.false)) in
    sym (climb-lost steps way.from height way.place way.count c.args.value c.args.hashes.now
    (omega (arith, half, c.if-half-way.false)) (sym (rw c.in_left_half.ensures at c.in-None-climb_from.ensures.reached)))
    ∙ ap (λ k. climb steps way.from k way.place way.count c.args.value c.args.hashes.now) up

pub returns-then-way-half-clause-reached : goal.returns-then-way-half-clause-reached
returns-then-way-half-clause-reached g t c =
    let steps = g.C.Climber.steps c.args.climber.now in
    let way = c.args.way in
    let height = way.height - 1 in
    let up : suc height ≡ way.height = omega (arith, c.if-way-eq0.false) in
    let half : 1 * 2 ^ (way.from + height) % 2 ^ 64 ≡ 2 ^ (way.from + height) =
    one_shl (way.from + height) 64 (omega (arith, c.requires.top, c.if-way-eq0.false)) in
    ap (λ n. Some (c.reach_alone.result.value, drop n c.args.hashes.now)) c.reach_alone.ensures.used
    ∙ ap (λ v. Some (v, drop c.in-Some-climb_from.lower.used c.args.hashes.now)) c.reach_alone.ensures.value
    ∙ ap (up_alone (steps.alone (way.from + height))) (rw c.in_left_half.ensures at c.in-Some-climb_from.ensures.reached)
    ∙ sym (climb-alone steps way.from height way.place way.count c.args.value c.args.hashes.now
    (omega (arith, half, c.if-half-way.false)) (omega (arith, half, c.if-way-half.true)))
    ∙ ap (λ k. climb steps way.from k way.place way.count c.args.value c.args.hashes.now) up

pub returns-else-way-half-clause-reached : goal.returns-else-way-half-clause-reached
returns-else-way-half-clause-reached g t c =
    let steps = g.C.Climber.steps c.args.climber.now in
    let way = c.args.way in
    let height = way.height - 1 in
    let up : suc height ≡ way.height = omega (arith, c.if-way-eq0.false) in
    let half : 1 * 2 ^ (way.from + height) % 2 ^ 64 ≡ 2 ^ (way.from + height) =
    one_shl (way.from + height) 64 (omega (arith, c.requires.top, c.if-way-eq0.false)) in
    c.reach_with-else-way-half.ensures.reached
    ∙ ap (up_with (steps.with_right (way.from + height))) (rw c.in_left_half.ensures at c.in-Some-climb_from.ensures.reached)
    ∙ sym (climb-right steps way.from height way.place way.count c.args.value c.args.hashes.now
    (omega (arith, half, c.if-half-way.false)) (omega (arith, half, c.if-way-half.false)))
    ∙ ap (λ k. climb steps way.from k way.place way.count c.args.value c.args.hashes.now) up
