use Rattle.std.proofs.Common.{◌+◌, ◌∙◌, ◌∷◌, [], ◌++◌, replicate, ap, arith}
use Rattle.std.proofs.lemmas.List.{replicate-append-replicate}
use Rattle.audit_serve_ready.specs.Slot.{vacant}
use Rattle.audit_serve_ready.proofs.slot.vacant_slots.Goals as goal

pub loop-init : goal.loop-init
loop-init g c = record { new = c.in_ok-slots.ensures.items; len = c.in_ok-slots.ensures.len; capacity = c.in_ok-slots.ensures.exact }

pub loop-preserved : goal.loop-preserved
loop-preserved g c =
    let pushed = c.push_reserved.ensures in
    record {
      new = pushed.items
          ∙ ap (λ slot. c.loop.slots.items ++ slot ∷ []) c.in_ok-vacant.ensures
          ∙ ap (λ slots. slots ++ vacant ∷ []) c.loop.invariant.new
          ∙ replicate-append-replicate c.loop.counter 1 vacant;
      len = pushed.len ∙ ap (λ n. n + 1) c.loop.invariant.len;
      capacity = pushed.capacity ∙ c.loop.invariant.capacity;
    }

pub returns : goal.returns
returns g c = c.loop.invariant.new ∙ ap (λ n. replicate n vacant) (omega arith)
