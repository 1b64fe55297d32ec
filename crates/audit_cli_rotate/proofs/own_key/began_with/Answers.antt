use Rattle.std.proofs.Common.{◌∙◌, List, ℕ, sym, ap, subst, arith}
use Rattle.std.specs.Prelude.{IsTrue, ◌↔◌}
use Rattle.audit_chain.specs.Key.{evolved_key}
use Rattle.audit_cli_rotate.specs.OwnKey.{IsAuthenticatedUnder}
use Rattle.audit_cli_rotate.proofs.OwnKey.{first_authenticated, held_open, held_closed, was_read}
use Rattle.audit_cli_rotate.proofs.own_key.began_with.Goals as goal

pub returns-then-closed-clause-judged : goal.returns-then-closed-clause-judged
returns-then-closed-clause-judged g c = record {
  by_key = λ is_open. let header = c.closed.ensures.header in let yes = c.if-closed.true in absurd (grind (arith, header, yes, is_open));
  by_entry = λ _. record {
    reads = c.in_ok-first.ensures.reads;
    entry = c.in_ok-first.first.items;
    read = was_read c.args.store.now c.entry.new.self c.in_ok-first.first c.in_ok-first.ensures.entry;
    judged = subst (λ (bytes : List ℕ). IsTrue c.is_authenticated.result ↔ IsAuthenticatedUnder c.args.key.now bytes) c.deref.ensures.value c.is_authenticated.ensures;
  };
}

pub returns-then-closed-clause-own : goal.returns-then-closed-clause-own
returns-then-closed-clause-own g c = λ origin events holds same.
    let closed = held_closed c.args.store.now origin events holds (sym c.closed.ensures.header ∙ c.if-closed.true) in
    let read = c.in_ok-first.ensures.log origin events holds closed.1 in
    c.is_authenticated.ensures.1 (subst (λ (key : List ℕ). IsAuthenticatedUnder key c.deref.result.now) same
    (first_authenticated origin.first_key events c.deref.result.now closed.0 holds.events_are.layout.log.fits.events_are (c.deref.ensures.value ∙ read)))

pub returns-clause-own : goal.returns-clause-own
returns-clause-own g c = λ origin events holds same.
    let is_open = sym c.closed.ensures.header ∙ c.if-closed.false in
    c.has_key.ensures.1 (c.key_after.ensures ∙ ap (λ (key : List ℕ). evolved_key key c.commitment.result.count) (sym same)
    ∙ ap (evolved_key origin.first_key) c.commitment.ensures.count ∙ held_open c.args.store.now origin events holds is_open)
