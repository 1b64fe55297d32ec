use Rattle.std.proofs.Common.{◌≡◌, ◌-◌, ◌++◌, vec_len, vec_capacity, [], ◌∷◌, refl, sym, ap, ◌∙◌, arith}
use Rattle.std.proofs.lemmas.List.{append-nil, append_assoc}
use Rattle.sha2.specs.Sha256.{sha256}
use Rattle.audit_tree.specs.Paths.{siblings_at}
use Rattle.audit_tree.proofs.PathLemmas.{siblings_at-more, siblings_at-zero}
use Rattle.audit_tree.proofs.paths.push_siblings.Goals.{in-Some, in_default}
use Rattle.audit_tree.proofs.paths.push_siblings.Goals as goal

pub loop-layer-init : goal.loop-layer-init
loop-layer-init c =
    let leaves = c.args.frozen.now.leaves in
    let none = ap (siblings_at sha256 leaves c.args.count c.args.leaf c.args.from) (let e : c.args.from - c.args.from ≡ 0 = omega arith in e)
    ∙ siblings_at-zero sha256 c.args.from leaves c.args.count c.args.leaf in
    record {
      items = sym (ap (λ hs. c.args.hashes.now.items ++ hs) none ∙ append-nil c.args.hashes.now.items);
      few = omega arith;
      capacity = refl;
    }

pub loop-layer-preserved : goal.loop-layer-preserved
loop-layer-preserved c =
    let l = c.loop-layer in
    let leaves = c.args.frozen.now.leaves in
    let old = c.args.hashes.now.items in
    let so_far = siblings_at sha256 leaves c.args.count c.args.leaf c.args.from (l.layer - c.args.from) in
    let more = siblings_at-more sha256 c.args.from leaves c.args.count c.args.leaf l.layer l.auto.layer in
    elim c.match-sibling_of.branch [
      | in-Some w ↦ record {
        items = ap (λ v. v.items) w.hashes-is ∙ w.push_reserved.ensures.items
            ∙ ap (λ hs. hs ++ w.in-Some.hash ∷ []) l.invariant.items
            ∙ append_assoc old so_far (w.in-Some.hash ∷ [])
            ∙ ap (λ hs. old ++ hs) (ap (λ hs. so_far ++ hs) w.in-Some.ensures ∙ sym more);
        few = omega (arith, ap (λ v. vec_len v) w.hashes-is, w.push_reserved.ensures.len, l.invariant.few, l.auto.layer);
        capacity = ap (λ v. vec_capacity v) w.hashes-is ∙ w.push_reserved.ensures.capacity ∙ l.invariant.capacity;
      }
      | in_default w ↦ record {
        items = ap (λ v. v.items) w.hashes-is ∙ l.invariant.items
            ∙ ap (λ hs. old ++ hs) (sym (append-nil so_far) ∙ ap (λ hs. so_far ++ hs) w.in_default.ensures ∙ sym more);
        few = omega (arith, ap (λ v. vec_len v) w.hashes-is, l.invariant.few, l.auto.layer);
        capacity = ap (λ v. vec_capacity v) w.hashes-is ∙ l.invariant.capacity;
      }
    ]
