use Rattle.std.proofs.Common.{◌≡◌, ◌+◌, ◌-◌, ◌*◌, ◌%◌, ◌^◌, suc, ap, ◌∙◌, arith}
use Rattle.std.proofs.lemmas.Nat.{one_shl}
use Rattle.std.proofs.Math.Nat.{pow-suc}
use Rattle.audit_proof.proofs.SharedNodes.{mod-after, shared-first, shared-alone, shares-half, shares-left, shares-right, lost-left, lost-right}
use Rattle.audit_proof.proofs.shared_node.+shared_node.Goals as goal

pub returns-then-way-eq0 : goal.returns-then-way-eq0
returns-then-way-eq0 g t c =
    let node = c.first_node in
    shared-first g.T.TextHash.value_of c.args.climber.now.older_depth c.args.way c.args.index c.args.first.now c.args.hashes.now node.result
    c.if-way-eq0.true c.requires.room c.requires.index c.requires.begun c.requires.ended
    node.ensures.layer node.ensures.value node.ensures.older node.ensures.newer node.ensures.used

pub returns-then-index-half : goal.returns-then-index-half
returns-then-index-half g t c =
    let H = g.T.TextHash.value_of in
    let top = c.args.climber.now.older_depth in
    let way = c.args.way in
    let height = way.height - 1 in
    let half = 1 * 2 ^ (way.from + height) % 2 ^ 64 in
    let up : suc height ≡ way.height = omega (arith, c.if-way-eq0.false) in
    let half_is : half ≡ 2 ^ (way.from + height) = one_shl (way.from + height) 64 (omega (arith, c.requires.top, c.if-way-eq0.false)) in
    shares-half H top way height half c.args.index c.args.first.now c.args.hashes.now up half_is c.left_node.result c.if-half-way.true c.requires.place c.if-index-half.true c.requires.older (rw c.in_right_half-right.ensures at c.left_node.ensures)

pub returns-in-None : goal.returns-in-None
returns-in-None g t c =
    let H = g.T.TextHash.value_of in
    let top = c.args.climber.now.older_depth in
    let way = c.args.way in
    let height = way.height - 1 in
    let half = 1 * 2 ^ (way.from + height) % 2 ^ 64 in
    let up : suc height ≡ way.height = omega (arith, c.if-way-eq0.false) in
    let half_is : half ≡ 2 ^ (way.from + height) = one_shl (way.from + height) 64 (omega (arith, c.requires.top, c.if-way-eq0.false)) in
    lost-left H top way height half c.args.index c.args.first.now c.args.hashes.now up half_is c.if-half-way.true (rw c.in_right_half-right.ensures at (rw c.in-None.is at c.in_ok-shared_node.ensures))

pub returns-in-Some : goal.returns-in-Some
returns-in-Some g t c =
    let H = g.T.TextHash.value_of in
    let top = c.args.climber.now.older_depth in
    let way = c.args.way in
    let height = way.height - 1 in
    let half = 1 * 2 ^ (way.from + height) % 2 ^ 64 in
    let up : suc height ≡ way.height = omega (arith, c.if-way-eq0.false) in
    let half_is : half ≡ 2 ^ (way.from + height) = one_shl (way.from + height) 64 (omega (arith, c.requires.top, c.if-way-eq0.false)) in
    shares-left H top way height half c.args.index c.args.first.now c.args.hashes.now up half_is c.with_left.result c.in-Some.lower c.if-half-way.true c.if-index-half.false c.requires.index c.requires.older
    (rw c.in_right_half-right.ensures at (rw c.in-Some.is at c.in_ok-shared_node.ensures)) c.with_left.ensures

pub returns-in-None-2 : goal.returns-in-None-2
returns-in-None-2 g t c =
    let H = g.T.TextHash.value_of in
    let top = c.args.climber.now.older_depth in
    let way = c.args.way in
    let height = way.height - 1 in
    let half = 1 * 2 ^ (way.from + height) % 2 ^ 64 in
    let up : suc height ≡ way.height = omega (arith, c.if-way-eq0.false) in
    let half_is : half ≡ 2 ^ (way.from + height) = one_shl (way.from + height) 64 (omega (arith, c.requires.top, c.if-way-eq0.false)) in
    lost-right H top way height half c.args.index c.args.first.now c.args.hashes.now up half_is c.if-half-way.false (rw c.in_left_half.ensures at (rw c.in-None-2.is at c.in_ok-shared_node-2.ensures))

pub returns-then-way-half : goal.returns-then-way-half
returns-then-way-half g t c =
    let H = g.T.TextHash.value_of in
    let top = c.args.climber.now.older_depth in
    let way = c.args.way in
    let height = way.height - 1 in
    let half = 1 * 2 ^ (way.from + height) % 2 ^ 64 in
    let up : suc height ≡ way.height = omega (arith, c.if-way-eq0.false) in
    let half_is : half ≡ 2 ^ (way.from + height) = one_shl (way.from + height) 64 (omega (arith, c.requires.top, c.if-way-eq0.false)) in
    shared-alone H top way height half c.args.index c.args.first.now c.args.hashes.now up half_is c.in-Some-2.lower c.if-half-way.false c.if-way-half.true c.requires.index
    (rw c.in_left_half.ensures at (rw c.in-Some-2.is at c.in_ok-shared_node-2.ensures))

pub returns-else-way-half : goal.returns-else-way-half
returns-else-way-half g t c =
    let H = g.T.TextHash.value_of in
    let top = c.args.climber.now.older_depth in
    let way = c.args.way in
    let height = way.height - 1 in
    let half = 1 * 2 ^ (way.from + height) % 2 ^ 64 in
    let up : suc height ≡ way.height = omega (arith, c.if-way-eq0.false) in
    let half_is : half ≡ 2 ^ (way.from + height) = one_shl (way.from + height) 64 (omega (arith, c.requires.top, c.if-way-eq0.false)) in
    shares-right H top way height half c.args.index c.args.first.now c.args.hashes.now up half_is c.with_right.result c.in-Some-2.lower c.if-half-way.false c.if-way-half.false c.requires.index
    (rw c.in_left_half.ensures at (rw c.in-Some-2.is at c.in_ok-shared_node-2.ensures)) c.with_right.ensures

pub shared_node-requires : goal.shared_node-requires
shared_node-requires g t c κs within =
    let way = c.args.way in
    let height = way.height - 1 in
    let half = 1 * 2 ^ (way.from + height) % 2 ^ 64 in
    let up : way.from + way.height ≡ suc (way.from + height) = omega (arith, c.if-way-eq0.false) in
    let half_is : half ≡ 2 ^ (way.from + height) = one_shl (way.from + height) 64 (omega (arith, c.requires.top, c.if-way-eq0.false)) in
    let width : 2 ^ (way.from + way.height) ≡ 2 ^ (way.from + height) * 2 = ap (λ k. 2 ^ k) up ∙ pow-suc 2 (way.from + height) in
    let back : way.place - half + 1 ≡ way.place + 1 - 2 ^ (way.from + height) = omega (arith, half_is, c.if-half-way.true) in
    let ended : (way.place - half + 1) % 2 ^ way.from ≡ 0 = ap (λ n. n % 2 ^ way.from) back
    ∙ mod-after way.from (way.from + height) (way.place + 1) (omega arith) (omega (arith, half_is, c.if-half-way.true))
    ∙ c.requires.ended in
    rw c.in_right_half-right.ensures (
      omega (arith, c.if-way-eq0.false),
      (
        within,
        (
          omega (arith, c.requires.top),
          (
            omega (arith, c.requires.place, c.if-half-way.true),
            (
              omega (arith, width, half_is, c.requires.room, c.if-half-way.true),
              (
                omega (arith, c.requires.index),
                (
                  c.requires.begun,
                  (omega (arith, c.requires.older), ended),
                ),
              ),
            ),
          ),
        ),
      ),
    )
