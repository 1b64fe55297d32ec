use Rattle.std.proofs.Common.{inl, inr, take, refl, sym}
use Rattle.std.proofs.lemmas.Bool.{iff_false}
use Rattle.std.proofs.lemmas.List.{length-take-le}
use Rattle.audit_c.proofs.Alone.{event_with}
use Rattle.audit_c.proofs.opening.open_view.Goals as goal

pub returns-then-not-proves_entry-clause-opened : goal.returns-then-not-proves_entry-clause-opened
returns-then-not-proves_entry-clause-opened c = inr (inl (refl, iff_false c.proves_entry.ensures c.if-not-proves_entry.true))

pub returns-in_default-clause-opened : goal.returns-in_default-clause-opened
returns-in_default-clause-opened c =
    let none = rw c.in_default.is at c.open_alone.ensures in
    inr (inr (refl, c.proves_entry.ensures.0 c.if-not-proves_entry.false, none.0))

pub returns-clause-opened : goal.returns-clause-opened
returns-clause-opened c =
    let opened = c.in-Some.opened in
    let found = rw c.in-Some.is at c.open_alone.ensures in
    inl (
      refl,
      c.proves_entry.ensures.0 c.if-not-proves_entry.false,
      record {
        event = event_with opened.kind (take opened.size c.open_alone.new.payload);
        reads = found.1;
        index = refl;
        kind = refl;
        size = sym (length-take-le opened.size c.open_alone.new.payload found.0);
        opened = refl;
      },
    )
