use denote.Enum.Bare.{same_true}
use Rattle.std.proofs.Common.{◌≡◌, ◌≢◌, ◌∙◌, refl, inl, inr, sym, rules}
use Rattle.audit_serve_ready.specs.contracts.turns.Pass.{the_type}
use Rattle.audit_serve_ready.specs.declared.turns.Pass.{Pass}
use Rattle.audit_serve_ready.specs.declared.turns.Pass.TheVariants as variant
use Rattle.audit_serve_ready.proofs.serving.serve_round.Goals as goal

idle_only : (pass : Pass) → pass ≢ variant.Withheld → pass ≢ variant.Moved → pass ≡ variant.Idle
idle_only variant.Idle apart rest = refl
idle_only variant.Moved apart rest = absurd (rest refl)
idle_only variant.Withheld apart rest = absurd (apart refl)

pub returns-then-eq-clause-over : goal.returns-then-eq-clause-over
returns-then-eq-clause-over g c = λ stops. inr (c.in_ok-pass.ensures.withheld (same_true the_type (search rules) _ _ (sym c.if-eq.ensures)))

pub returns-in-Again-clause-on : goal.returns-in-Again-clause-on
returns-in-Again-clause-on g c = λ goes.
    let apart : c.in_ok-pass.pass ≢ variant.Withheld = search rules in
    record {
      unpaused = c.serve_pass.new.door;
      serves = (c.in_ok-pass.ensures.once apart).0;
      moved = c.eq-moved.result;
      idle = λ still.
          let rest : c.in_ok-pass.pass ≢ variant.Moved = search rules in
          (c.in_ok-pass.ensures.once apart).1 (idle_only c.in_ok-pass.pass apart rest);
      moves = λ moving. (c.in_ok-pass.ensures.once apart).2 (same_true the_type (search rules) _ _ (sym c.eq-moved.ensures ∙ moving));
      paused = c.in-Again.ensures;
    }

pub returns-in-Again-clause-owes : goal.returns-in-Again-clause-owes
returns-in-Again-clause-owes g c = λ goes. c.in_ok-pass.ensures.owes (search rules)

pub returns-in-Stop-clause-over : goal.returns-in-Stop-clause-over
returns-in-Stop-clause-over g c = λ stops.
    let apart : c.in_ok-pass.pass ≢ variant.Withheld = search rules in
    inl (record {
      unpaused = c.serve_pass.new.door;
      serves = (c.in_ok-pass.ensures.once apart).0;
      moved = c.eq-moved.result;
      idle = λ still.
          let rest : c.in_ok-pass.pass ≢ variant.Moved = search rules in
          (c.in_ok-pass.ensures.once apart).1 (idle_only c.in_ok-pass.pass apart rest);
      moves = λ moving. (c.in_ok-pass.ensures.once apart).2 (same_true the_type (search rules) _ _ (sym c.eq-moved.ensures ∙ moving));
      paused = c.in-Stop.ensures;
    })
