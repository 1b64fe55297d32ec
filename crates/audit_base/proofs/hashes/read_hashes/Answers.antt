use Rattle.std.proofs.Common.{◌++◌, ◌∷◌, [], sym, ap, ◌∙◌, rules, add-one}
use Rattle.audit_base.specs.Hashes.{first_hashes}
use Rattle.audit_base.proofs.HashRows.{first_hashes-more, first_hashes-none}
use Rattle.audit_base.proofs.hashes.read_hashes.Goals as goal

pub loop-place-init : goal.loop-place-init
loop-place-init c = record {
  items = c.in_ok-hashes.ensures.items ∙ sym (first_hashes-none c.args.bytes.now);
  len = search rules;
  room = search rules;
}

pub loop-place-preserved : goal.loop-place-preserved
loop-place-preserved c =
    let l = c.loop-place in
    record {
      items = c.push_reserved.ensures.items
          ∙ ap (λ hs. hs ++ c.array_at.result.now ∷ []) l.invariant.items
          ∙ ap (λ h. first_hashes l.place c.args.bytes.now ++ h ∷ []) c.array_at.ensures
          ∙ sym (rw add-one (first_hashes-more l.place c.args.bytes.now));
      len = search rules;
      room = search rules;
    }
