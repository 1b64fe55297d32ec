use Rattle.std.proofs.Common.{◌≡◌, ◌+◌, ◌-◌, ◌%◌, ◌^◌, ◌∷◌, ap, ◌∙◌, arith, rules}
use Rattle.std.specs.Int.{w64, trailing_zeros}
use Rattle.audit_tree.proofs.Depth.{depth-room}
use Rattle.audit_tree.proofs.OlderNode.{older_node}
use Rattle.audit_tree.proofs.TrailingZeros.{last_layer}
use Rattle.audit_proof.specs.declared.climb.Way.{Way}
use Rattle.audit_proof.proofs.AcrossIncrement.{shared-roots}
use Rattle.audit_proof.proofs.collision_across.shared_by.Goals as goal

pub shared_node-requires-clause-top : goal.shared_node-requires-clause-top
shared_node-requires-clause-top g c =
    let accepted = c.requires.accepted in
    let node = older_node c.args.older.now.count c.args.newer.now.count (omega (arith, accepted.some)) accepted.order accepted.small in
    omega (arith, node.top, c.increment_way-way.ensures.top)

pub shared_node-requires-clause-room : goal.shared_node-requires-clause-room
shared_node-requires-clause-room g c =
    let accepted = c.requires.accepted in
    let way = c.increment_way-way.ensures.way in
    omega (
      arith,
      ap (λ k. 2 ^ k) c.increment_way-way.ensures.top,
      depth-room c.args.newer.now.count,
      accepted.order,
      accepted.some,
      ap (λ (w : Way). w.place) way,
    )

pub shared_node-requires-clause-begun : goal.shared_node-requires-clause-begun
shared_node-requires-clause-begun g c =
    let accepted = c.requires.accepted in
    let m = c.args.older.now.count in
    let own = older_node m m (omega (arith, accepted.some)) (omega arith) (omega (arith, accepted.order, accepted.small)) in
    omega (arith, own.below, c.depth_of.ensures.depth, ap (λ (w : Way). w.from) c.increment_way-way.ensures.way)

pub shared_node-requires-clause-ended : goal.shared_node-requires-clause-ended
shared_node-requires-clause-ended g c =
    let accepted = c.requires.accepted in
    let m = c.args.older.now.count in
    let way = c.increment_way-way.ensures.way in
    let last = last_layer m (omega (arith, accepted.some)) (omega (arith, accepted.order, accepted.small)) in
    let count : m - 1 + 1 ≡ m = omega (arith, accepted.some) in
    ap (λ (w : Way). (w.place + 1) % 2 ^ w.from) way ∙ ap (λ n. n % 2 ^ trailing_zeros w64 m) count ∙ last.divides

pub returns : goal.returns
returns g c =
    let H = g.T.TextHash.value_of in
    let accepted = c.requires.accepted in
    let older = c.args.older.now in
    let newer = c.args.newer.now in
    let first = c.in-Some.first.now in
    let rest = c.in-Some.rest.now in
    let split : c.args.increment.now ≡ first ∷ rest = search rules in
    shared-roots H older newer c.args.index first rest c.in-Some-2.node accepted.some accepted.order accepted.small
    (rw split at accepted.roots)
    (rw (c.in-Some-2.is, c.increment_way-way.ensures.way, c.depth_of.ensures.depth) at c.in_ok-node.ensures)
