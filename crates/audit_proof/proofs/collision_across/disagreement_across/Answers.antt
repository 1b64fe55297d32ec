use Rattle.std.proofs.Common.{◌≡◌, ◌-◌, ◌*◌, ◌%◌, ◌^◌, take, drop, length, length-drop, arith, inl, inr}
use Rattle.std.proofs.lemmas.List.{take_all}
use Rattle.std.proofs.lemmas.Nat.{one_shl}
use Rattle.audit_tree.proofs.Depth.{depth-least}
use Rattle.audit_proof.proofs.AcrossIncrement.{shallower, climb-above, climb-below}
use Rattle.audit_proof.proofs.collision_across.disagreement_across.Goals as goal

pub overflow_shl-width : goal.overflow_shl-width
overflow_shl-width g c =
    omega (arith, c.in_ok-node.ensures.inside, depth-least c.args.older.now.count 24 c.requires.left.small)

pub meet_leaves-requires-clause-top : goal.meet_leaves-requires-clause-top
meet_leaves-requires-clause-top g c =
    omega (arith, c.in_ok-node.ensures.inside, depth-least c.args.older.now.count 24 c.requires.left.small)

pub collision_above-requires-clause-layer : goal.collision_above-requires-clause-layer
collision_above-requires-clause-layer g c =
    omega (arith, c.in_ok-node.ensures.inside, shallower c.args.older.now.count c.args.newer.now.count c.requires.increment.order)

pub collision_above-requires-clause-left : goal.collision_above-requires-clause-left
collision_above-requires-clause-left g c =
    let H = g.T.TextHash.value_of in
    let node = c.in_ok-node in
    let layer = node.node.layer in
    let width : 1 * 2 ^ layer % 2 ^ 64 ≡ 2 ^ layer = one_shl layer 64 (omega (arith, node.ensures.inside, depth-least c.args.older.now.count 24 c.requires.left.small)) in
    let hashes = c.args.right.now.hashes.now in
    let top = c.in-Apart.right_top in
    let apart = rw c.in-Apart.is at c.in_ok-collision.ensures in
    let rest : take (length hashes - top.used) (drop top.used hashes) ≡ drop top.used hashes =
    take_all (length hashes - top.used) (drop top.used hashes) (omega (arith, length-drop top.used hashes)) in
    rw rest (climb-above H c.args.newer.now c.args.index layer (H c.args.right.now.text.now) hashes
    (omega (arith, node.ensures.inside, shallower c.args.older.now.count c.args.newer.now.count c.requires.increment.order))
    (omega (arith, node.ensures.full, c.requires.increment.order)) c.requires.right top.value (drop top.used hashes)
    (rw width at apart.right_reached))

pub collision_above-requires-else-is_same_hash-clause-left : goal.collision_above-requires-else-is_same_hash-clause-left
collision_above-requires-else-is_same_hash-clause-left g c =
    let H = g.T.TextHash.value_of in
    let node = c.in_ok-node in
    let layer = node.node.layer in
    let width : 1 * 2 ^ layer % 2 ^ 64 ≡ 2 ^ layer = one_shl layer 64 (omega (arith, node.ensures.inside, depth-least c.args.older.now.count 24 c.requires.left.small)) in
    let hashes = c.args.left.now.hashes.now in
    let top = c.in-Apart.left_top in
    let apart = rw c.in-Apart.is at c.in_ok-collision.ensures in
    let rest : take (length hashes - top.used) (drop top.used hashes) ≡ drop top.used hashes =
    take_all (length hashes - top.used) (drop top.used hashes) (omega (arith, length-drop top.used hashes)) in
    rw rest (climb-above H c.args.older.now c.args.index layer (H c.args.left.now.text.now) hashes
    node.ensures.inside node.ensures.full c.requires.left top.value (drop top.used hashes)
    (rw width at apart.left_reached))

pub unreachable-requires : goal.unreachable-requires
unreachable-requires g c =
    let H = g.T.TextHash.value_of in
    let node = c.in_ok-node in
    let layer = node.node.layer in
    let width : 1 * 2 ^ layer % 2 ^ 64 ≡ 2 ^ layer = one_shl layer 64 (omega (arith, node.ensures.inside, depth-least c.args.older.now.count 24 c.requires.left.small)) in
    let left = c.args.left.now in
    let right = c.args.right.now in
    elim (rw c.in-Lost.is at c.in_ok-collision.ensures) [
      | inl lost ↦ climb-below H c.args.older.now c.args.index layer (H left.text.now) left.hashes.now node.ensures.inside node.ensures.full c.requires.left (rw width at lost)
      | inr lost ↦ climb-below H c.args.newer.now c.args.index layer (H right.text.now) right.hashes.now
          (omega (arith, node.ensures.inside, shallower c.args.older.now.count c.args.newer.now.count c.requires.increment.order))
          (omega (arith, node.ensures.full, c.requires.increment.order)) c.requires.right (rw width at lost)
    ]
