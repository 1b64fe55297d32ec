use Rattle.std.proofs.Common.{◌≡◌, ◌+◌, ◌-◌, ◌*◌, ◌%◌, ◌^◌, ℕ, suc, List, Some, None, drop, sym, ap, ◌∙◌, arith}
use Rattle.std.proofs.lemmas.Nat.{one_shl}
use Rattle.audit_proof.specs.declared.climb.Reached.{Reached}
use Rattle.audit_proof.specs.Climb.{Climbed, climb, one_value, up_alone, up_with}
use Rattle.audit_proof.proofs.ClimbLemmas.{climb-none, climb-alone, climb-right, climb-left, climb-lost}
use Rattle.audit_proof.proofs.Meetings.{meeting_moved, meeting_up}
use Rattle.audit_proof.proofs.meeting.+meet.Goals as goal

pub returns-then-way-eq0 : goal.returns-then-way-eq0
returns-then-way-eq0 g t c =
    let steps = one_value g.T.TextHash.value_of in
    let way = c.args.way in
    let left = c.args.left.now in
    let right = c.args.right.now in
    let begin = λ (value : List ℕ) (hashes : List (List ℕ)) (start : Reached (List ℕ)) (same : start.value ≡ value) (none : start.used ≡ 0).
    ap (λ k. climb steps way.from k way.place way.count value hashes) c.if-way-eq0.true
    ∙ climb-none steps way.from way.place way.count value hashes
    ∙ ap (λ v. Some (v, hashes)) (sym same)
    ∙ ap (λ n. Some (start.value, drop n hashes)) (sym none) in
    record {
      left_reached = begin left.value.now left.hashes.now c.start.result c.start.ensures.value c.start.ensures.used;
      right_reached = begin right.value.now right.hashes.now c.start-then-way-eq0.result c.start-then-way-eq0.ensures.value c.start-then-way-eq0.ensures.used;
      left_used = omega (arith, c.start.ensures.used);
      right_used = omega (arith, c.start-then-way-eq0.ensures.used);
      different = λ same. c.requires.differ (sym c.start.ensures.value ∙ same ∙ c.start-then-way-eq0.ensures.value);
    }

pub returns-in-Apart : goal.returns-in-Apart
returns-in-Apart g t c =
    let H = g.T.TextHash.value_of in
    let steps = one_value H in
    let way = c.args.way in
    let height = way.height - 1 in
    let left = c.args.left.now in
    let right = c.args.right.now in
    let up : suc height ≡ way.height = omega (arith, c.if-way-eq0.false) in
    let half : 1 * 2 ^ (way.from + height) % 2 ^ 64 ≡ 2 ^ (way.from + height) =
    one_shl (way.from + height) 64 (omega (arith, c.requires.top, c.if-way-eq0.false)) in
    let apart = rw c.in_right_half.ensures at (rw c.in-Apart.is at c.in_ok-other.ensures) in
    let over = λ (value : List ℕ) (hashes : List (List ℕ)) (below : Climbed (List ℕ)) (reached : climb steps way.from height (way.place - 1 * 2 ^ (way.from + height) % 2 ^ 64) (way.count - 1 * 2 ^ (way.from + height) % 2 ^ 64) value hashes ≡ below).
    ap (up_with (steps.with_left 0)) (sym reached ∙ ap (λ n. climb steps way.from height (way.place - n) (way.count - n) value hashes) half)
    ∙ sym (climb-left steps way.from height way.place way.count value hashes (omega (arith, half, c.if-half-way.true)))
    ∙ ap (λ k. climb steps way.from k way.place way.count value hashes) up in
    meeting_moved H left.hashes.now right.hashes.now c.meet_with.result _ _ _ _ c.meet_with.ensures
    (over left.value.now left.hashes.now _ apart.left_reached) (over right.value.now right.hashes.now _ apart.right_reached)

pub returns-in_default : goal.returns-in_default
returns-in_default g t c =
    let H = g.T.TextHash.value_of in
    let steps = one_value H in
    let way = c.args.way in
    let height = way.height - 1 in
    let left = c.args.left.now in
    let right = c.args.right.now in
    let up : suc height ≡ way.height = omega (arith, c.if-way-eq0.false) in
    let half : 1 * 2 ^ (way.from + height) % 2 ^ 64 ≡ 2 ^ (way.from + height) =
    one_shl (way.from + height) 64 (omega (arith, c.requires.top, c.if-way-eq0.false)) in
    let lost = λ (value : List ℕ) (hashes : List (List ℕ)) (none : climb steps way.from height (way.place - 1 * 2 ^ (way.from + height) % 2 ^ 64) (way.count - 1 * 2 ^ (way.from + height) % 2 ^ 64) value hashes ≡ None).
    ap (λ k. climb steps way.from k way.place way.count value hashes) (sym up)
    ∙ climb-left steps way.from height way.place way.count value hashes (omega (arith, half, c.if-half-way.true))
    ∙ ap (up_with (steps.with_left 0)) (ap (λ n. climb steps way.from height (way.place - n) (way.count - n) value hashes) (sym half) ∙ none) in
    meeting_up H left.hashes.now right.hashes.now c.in_ok-other.other _ _ _ _ (rw c.in_right_half.ensures at c.in_ok-other.ensures) c.in_default.not-Apart
    (lost left.value.now left.hashes.now) (lost right.value.now right.hashes.now)

pub returns-then-way-half : goal.returns-then-way-half
returns-then-way-half g t c =
    let H = g.T.TextHash.value_of in
    let steps = one_value H in
    let way = c.args.way in
    let height = way.height - 1 in
    let left = c.args.left.now in
    let right = c.args.right.now in
    let up : suc height ≡ way.height = omega (arith, c.if-way-eq0.false) in
    let half : 1 * 2 ^ (way.from + height) % 2 ^ 64 ≡ 2 ^ (way.from + height) =
    one_shl (way.from + height) 64 (omega (arith, c.requires.top, c.if-way-eq0.false)) in
    let apart = rw c.in_left_half.ensures at (rw c.in-Apart-2.is at c.in_ok-other-2.ensures) in
    let over = λ (value : List ℕ) (hashes : List (List ℕ)) (below : Climbed (List ℕ)) (reached : climb steps way.from height way.place way.count value hashes ≡ below).
    ap (up_alone (steps.alone 0)) (sym reached)
    ∙ sym (climb-alone steps way.from height way.place way.count value hashes (omega (arith, half, c.if-half-way.false)) (omega (arith, half, c.if-way-half.true)))
    ∙ ap (λ k. climb steps way.from k way.place way.count value hashes) up in
    meeting_moved H left.hashes.now right.hashes.now c.meet_alone.result _ _ _ _ (c.meet_alone.ensures left.hashes.now right.hashes.now apart.left_used apart.right_used)
    (over left.value.now left.hashes.now _ apart.left_reached) (over right.value.now right.hashes.now _ apart.right_reached)

pub returns-else-way-half : goal.returns-else-way-half
returns-else-way-half g t c =
    let H = g.T.TextHash.value_of in
    let steps = one_value H in
    let way = c.args.way in
    let height = way.height - 1 in
    let left = c.args.left.now in
    let right = c.args.right.now in
    let up : suc height ≡ way.height = omega (arith, c.if-way-eq0.false) in
    let half : 1 * 2 ^ (way.from + height) % 2 ^ 64 ≡ 2 ^ (way.from + height) =
    one_shl (way.from + height) 64 (omega (arith, c.requires.top, c.if-way-eq0.false)) in
    let apart = rw c.in_left_half.ensures at (rw c.in-Apart-2.is at c.in_ok-other-2.ensures) in
    let over = λ (value : List ℕ) (hashes : List (List ℕ)) (below : Climbed (List ℕ)) (reached : climb steps way.from height way.place way.count value hashes ≡ below).
    ap (up_with (steps.with_right 0)) (sym reached)
    ∙ sym (climb-right steps way.from height way.place way.count value hashes (omega (arith, half, c.if-half-way.false)) (omega (arith, half, c.if-way-half.false)))
    ∙ ap (λ k. climb steps way.from k way.place way.count value hashes) up in
    meeting_moved H left.hashes.now right.hashes.now c.meet_with-else-way-half.result _ _ _ _ c.meet_with-else-way-half.ensures
    (over left.value.now left.hashes.now _ apart.left_reached) (over right.value.now right.hashes.now _ apart.right_reached)

pub returns-in_default-2 : goal.returns-in_default-2
returns-in_default-2 g t c =
    let H = g.T.TextHash.value_of in
    let steps = one_value H in
    let way = c.args.way in
    let height = way.height - 1 in
    let left = c.args.left.now in
    let right = c.args.right.now in
    let up : suc height ≡ way.height = omega (arith, c.if-way-eq0.false) in
    let half : 1 * 2 ^ (way.from + height) % 2 ^ 64 ≡ 2 ^ (way.from + height) =
    one_shl (way.from + height) 64 (omega (arith, c.requires.top, c.if-way-eq0.false)) in
    let lost = λ (value : List ℕ) (hashes : List (List ℕ)) (none : climb steps way.from height way.place way.count value hashes ≡ None).
    ap (λ k. climb steps way.from k way.place way.count value hashes) (sym up)
    ∙ climb-lost steps way.from height way.place way.count value hashes (omega (arith, half, c.if-half-way.false)) none in
    meeting_up H left.hashes.now right.hashes.now c.in_ok-other-2.other _ _ _ _ (rw c.in_left_half.ensures at c.in_ok-other-2.ensures) c.in_default-2.not-Apart
    (lost left.value.now left.hashes.now) (lost right.value.now right.hashes.now)
