use Rattle.std.proofs.Common.{rules, ◌≡◌, inl, inr, ◌∙◌, arith, length, slice_index}
use Rattle.std.proofs.lemmas.List.{get_or-set_same, get_or-set_other}
use Rattle.std.proofs.lemmas.Bool.{cases_lt}
use Rattle.sha2.proofs.Schedule256.{IsWindow_first}
use Rattle.audit_lanes.specs.Lanes.{lane, of_four}
use Rattle.audit_lanes.proofs.LaneLemmas.{lane-set, length-lane}
use Rattle.audit_lanes.proofs.compress.load_blocks.Goals as goal

pub load-preserved : goal.load-preserved
load-preserved c = (
  search rules,
  λ k l i lt.
      let w = lane k c.load.w in
      let long : length w ≡ 16 = length-lane c.load.w k ∙ c.load.invariant.0 in
      rw (lane-set c.load.w k c.load.i c.load_four-words.result)
      (elim (cases_lt i c.load.i) [
        | inl a ↦ get_or-set_other w c.load.i i (slice_index c.load_four-words.result k) 0 (omega arith) ∙ c.load.invariant.1 k l i a
        | inr b ↦
            let e : c.load.i ≡ i = omega arith in
            rw (← e) (get_or-set_same w c.load.i (slice_index c.load_four-words.result k) 0 (omega arith) ∙ c.load_four-words.ensures k l)
      ]),
)

pub returns : goal.returns
returns c = λ k l.
    IsWindow_first (of_four c.args.a.now c.args.b.now c.args.c.now c.args.d.now k) (lane k c.load.w)
    (length-lane c.load.w k ∙ c.load.invariant.0) (λ i lt. c.load.invariant.1 k l i (omega arith))
