use Rattle.std.proofs.Common.{arith, subst, ℕ, List, ◌-◌, ◌≡◌, ◌+◌, ◌^◌, ◌<◌, ◌≤◌, [], length, get_or, sym, ap, ◌∙◌}
use Rattle.audit_tree.proofs.OlderNode.{older_node}
use Rattle.audit_tree.specs.Frontier.{FrontierData}
use Rattle.audit_tree.specs.Subtree.{depth}
use Rattle.audit_tree.proofs.PathLemmas.{start_of}
use Rattle.audit_wire_ask.proofs.OlderNodes.{AreOrdered, ordered, none_yet, first_in, rest_in, sibling_place, nodes_begun, next_within, nodes_left, nodes_right, nodes_lone, nodes_whole}
use Rattle.audit_wire_ask.proofs.older.nodes_in.Goals as goal
use Rattle.audit_wire_ask.proofs.older.nodes_in.Goals.{then-place-eq1+in_ok-nodes, else-place-eq1+then-place-layer, else-place-eq1+else-place-layer}

pub bounds-nodes-lowest : goal.bounds-nodes-lowest
bounds-nodes-lowest c =
    let node = older_node c.args.older c.args.newer c.requires.some c.requires.order c.requires.small in
    omega (arith, node.below, node.top)

pub overflow_shr-place : goal.overflow_shr-place
overflow_shr-place c =
    let node = older_node c.args.older c.args.newer c.requires.some c.requires.order c.requires.small in
    omega (arith, node.top, c.loop-layer-test.true, c.depth_of-layer-end.ensures.depth)

pub bounds-nodes-layer : goal.bounds-nodes-layer
bounds-nodes-layer c =
    let node = older_node c.args.older c.args.newer c.requires.some c.requires.order c.requires.small in
    omega (arith, node.top, c.loop-layer-test.true, c.depth_of-layer-end.ensures.depth)

pub overflow_shl-place : goal.overflow_shl-place
overflow_shl-place c =
    let node = older_node c.args.older c.args.newer c.requires.some c.requires.order c.requires.small in
    omega (arith, node.top, c.loop-layer-test.true, c.depth_of-layer-end.ensures.depth)

pub loop-layer-init : goal.loop-layer-init
loop-layer-init c = record {
  few = omega arith;
  made = λ leaves counted is.
      nodes_begun leaves c.args.older (ordered leaves c.args.older c.args.newer counted c.requires.some c.requires.order c.requires.small) c.hashes.result.now c.in_ok-first.first.now (ap length c.hashes.ensures.hashes ∙ c.hashes.ensures.sized.long)
      (none_yet c.hashes.result.now (c.hashes.ensures.hashes ∙ ap (λ (f : FrontierData). f.hashes) c.new-none.ensures.empty))
      (first_in (sym c.in_ok-first.ensures.cases.0 ∙ is));
}

pub loop-layer-preserved : goal.loop-layer-preserved
loop-layer-preserved c =
    let l = c.loop-layer in
    let node = older_node c.args.older c.args.newer c.requires.some c.requires.order c.requires.small in
    let low : l.layer < 24 = omega (arith, node.top, c.loop-layer-test.true, c.depth_of-layer-end.ensures.depth) in
    let order : c.args.older ≤ 2 ^ 24 = omega (arith, c.requires.order, c.requires.small) in
    let are : (leaves : List (List ℕ)) → length leaves ≡ c.args.newer → AreOrdered leaves c.args.older = λ leaves counted. ordered leaves c.args.older c.args.newer counted c.requires.some c.requires.order c.requires.small in
    record {
      few = elim c.if-place-eq1.branch [
        | then-place-eq1+in_ok-nodes w ↦ omega (arith, l.invariant.few, w.used-is)
        | else-place-eq1+then-place-layer w ↦ omega (arith, l.invariant.few, w.used-is)
        | else-place-eq1+else-place-layer w ↦ omega (arith, l.invariant.few, w.used-is)
      ];
      made = λ leaves counted is. elim c.if-place-eq1.branch [
        | then-place-eq1+in_ok-nodes w ↦
            rw (w.used-is, w.nodes-is) (nodes_left leaves c.args.older (are leaves counted) l.layer l.used l.nodes w.in_ok-nodes.field-0.now l.auto.layer
            (omega (arith, c.loop-layer-test.true, c.depth_of-layer-end.ensures.depth, ap depth counted)) w.if-place-eq1.true (l.invariant.made leaves counted is)
            (w.in_ok-nodes.ensures.lookup.3.1 [] ∙ ap (λ hs. get_or hs l.used []) (rest_in (sym c.in_ok-first.ensures.cases.0 ∙ is))))
        | else-place-eq1+then-place-layer w ↦
            rw (w.used-is, w.nodes-is) (nodes_right leaves c.args.older (are leaves counted) l.layer l.used l.nodes l.auto.layer w.if-place-eq1.false
            (subst (λ n. start_of (c.args.older - 1) l.layer + 2 ^ l.layer < n) (sym counted) (subst (λ n. n < c.args.newer) (sibling_place c.args.older l.layer low c.requires.some order) w.if-place-layer.true)) (l.invariant.made leaves counted is))
        | else-place-eq1+else-place-layer w ↦
            rw (w.used-is, w.nodes-is) (nodes_lone leaves c.args.older (are leaves counted) l.layer l.used l.nodes l.auto.layer w.if-place-eq1.false
            (subst (λ n. n ≤ start_of (c.args.older - 1) l.layer + 2 ^ l.layer) (sym counted) (subst (λ n. c.args.newer ≤ n) (sibling_place c.args.older l.layer low c.requires.some order) w.if-place-layer.false)) (l.invariant.made leaves counted is))
      ];
    }

pub returns-in_err-nodes : goal.returns-in_err-nodes
returns-in_err-nodes c = λ leaves counted is.
    let l = c.loop-layer in
    let has = l.invariant.made leaves counted is in
    let within = next_within leaves c.args.older (ordered leaves c.args.older c.args.newer counted c.requires.some c.requires.order c.requires.small) l.layer l.auto.layer
    (omega (arith, c.loop-layer-test.true, c.depth_of-layer-end.ensures.depth, ap depth counted)) c.if-place-eq1.true in
    absurd (omega (arith, within, has.passed, c.in_err-nodes.ensures.lookup.3, ap length (rest_in (sym c.in_ok-first.ensures.cases.0 ∙ is))))

pub returns : goal.returns
returns c = λ leaves counted is.
    let l = c.loop-layer in
    nodes_whole leaves c.args.older (ordered leaves c.args.older c.args.newer counted c.requires.some c.requires.order c.requires.small) l.layer l.used l.nodes
    (omega (arith, c.loop-layer-test.false, c.depth_of-layer-end.ensures.depth, ap depth counted)) (l.invariant.made leaves counted is)
