use Rattle.std.proofs.Common.{◌≡◌, ap, ◌*◌, ◌∙◌, arith}
use Rattle.sha2.specs.Sha256.{add_state, compress, rounds, schedule}
use Rattle.audit_lanes.specs.States.{hash_in_lane}
use Rattle.audit_lanes.specs.Lanes.{of_four}
use Rattle.audit_lanes.proofs.compress.compress.Goals as goal

pub schedule-init : goal.schedule-init
schedule-init c = λ k l.
    let b = of_four c.args.a.now c.args.b.now c.args.c.now c.args.d.now k in
    let window = c.load_blocks-words.ensures k l in (
      window,
      c.first_rounds-first.ensures k l b window ∙ ap (λ h. rounds h (schedule b 48) 16) (c.words.ensures k l),
    )

pub schedule-preserved : goal.schedule-preserved
schedule-preserved c = λ k l.
    let b = of_four c.args.a.now c.args.b.now c.args.c.now c.args.d.now k in
    c.sixteen_steps-next.ensures k l b (hash_in_lane c.args.states k) (c.schedule.invariant k l)

pub returns : goal.returns
unfolding compress
returns c = λ k l.
    let done : 16 * c.schedule.turn ≡ 64 = omega (arith, c.schedule.auto.turn-end (omega arith)) in
    let held = c.schedule.invariant k l in
    c.plus.ensures k l ∙ ap (add_state (hash_in_lane c.args.states k)) (rw done at held.1)
