use Rattle.std.specs.Prelude.{option_to_list}
use Rattle.std.proofs.Common.{◌≡◌, ◌∙◌, inl, inr, is_some, true, Some, None, refl, sym, ap, subst, rules, arith, true≢false}
use Rattle.audit_serve_passes.specs.Rights.{only_reads}
use Rattle.audit_serve_door.specs.Choice.{next_entry}
use Rattle.audit_serve_door.specs.Idle.{places_held, seated}
use Rattle.audit_serve_door.specs.Entering.{heads_of}
use Rattle.audit_serve_door.specs.Waits.{heard_at, NoArrival, Passes, IsTakenOut, ChangesWaiters}
use Rattle.audit_serve_door.proofs.Passing.{changes_refl}
use Rattle.audit_serve_door.proofs.Entering.{nobody_enters, nobody_next, next_is_gone}
use Rattle.audit_serve_door.proofs.Calls.{none_given, one_given, none_here, turned_further}
use Rattle.audit_serve_door.proofs.socket_door.SocketDoorDoor.next_client.Goals as goal

pub loop-tries-init : goal.loop-tries-init
loop-tries-init g c = (changes_refl g.J.Journal.notes c.args.self.now.waiting c.args.self.now.journal, refl, refl, refl, refl, λ some. absurd (omega (arith, some)))

pub returns-then-not-has_other : goal.returns-then-not-has_other
returns-then-not-has_other g c =
    none_given g.L.Accepts.model g.J.Journal.notes g.W.Watch.left c.args.self.now c.loop-tries.self c.args.place None refl c.loop-tries.invariant.1 c.loop-tries.invariant.2 c.loop-tries.invariant.3 c.loop-tries.invariant.0
    (inl (nobody_enters (places_held c.args.self.now.places) c.loop-tries.self.waiting (search rules) (search rules)))

pub returns-in_err-number : goal.returns-in_err-number
returns-in_err-number g c =
    let none : next_entry (heads_of c.loop-tries.self.waiting) (places_held c.loop-tries.self.places) ≡ None = search rules in
    none_given g.L.Accepts.model g.J.Journal.notes g.W.Watch.left c.args.self.now c.loop-tries.self c.args.place c.from_residual.result c.from_residual.ensures c.loop-tries.invariant.1 c.loop-tries.invariant.2 c.loop-tries.invariant.3 c.loop-tries.invariant.0
    (inl (nobody_next (places_held c.args.self.now.places) c.loop-tries.self.waiting (subst (λ places. next_entry (heads_of c.loop-tries.self.waiting) (places_held places) ≡ None) c.loop-tries.invariant.3 none)))

pub returns-then-not-has : goal.returns-then-not-has
returns-then-not-has g c =
    let number = c.in_ok-number.number in
    let next : next_entry (heads_of c.loop-tries.self.waiting) (places_held c.loop-tries.self.places) ≡ Some number = search rules in
    let gone : heard_at c.loop-tries.self.waiting number ≡ None = none_here _ (search rules) in
    none_given g.L.Accepts.model g.J.Journal.notes g.W.Watch.left c.args.self.now c.loop-tries.self c.args.place None refl c.loop-tries.invariant.1 c.loop-tries.invariant.2 c.loop-tries.invariant.3 c.loop-tries.invariant.0
    (inl (next_is_gone (places_held c.args.self.now.places) c.loop-tries.self.waiting number (subst (λ places. next_entry (heads_of c.loop-tries.self.waiting) (places_held places) ≡ Some number) c.loop-tries.invariant.3 next) gone))

pub returns-in_err-arrival : goal.returns-in_err-arrival
returns-in_err-arrival g c =
    let there : is_some (heard_at c.loop-tries.self.waiting c.in_ok-number.number) ≡ true = search rules in
    let nobody : heard_at c.loop-tries.self.waiting c.in_ok-number.number ≡ None = search rules in
    absurd (true≢false (sym there ∙ ap is_some nobody))

pub returns-in-Some : goal.returns-in-Some
returns-in-Some g c =
    let number = c.in_ok-number.number in
    let same : c.seat.new.self.waiting ≡ c.take.new.self = search rules in
    let journal : c.seat.new.self.journal ≡ c.loop-tries.self.journal = search rules in
    let next : next_entry (heads_of c.loop-tries.self.waiting) (places_held c.loop-tries.self.places) ≡ Some number = search rules in
    let newcomer = c.in-Some.newcomer in
    let seats : c.seat.new.self.places ≡ seated c.args.place number (only_reads newcomer.rights) c.loop-tries.self.now c.loop-tries.self.places = search rules in
    one_given g.L.Accepts.model g.J.Journal.notes g.W.Watch.left c.args.self.now c.seat.new.self c.args.place number newcomer (c.seat.ensures.entrances ∙ c.loop-tries.invariant.1) (c.seat.ensures.flags ∙ c.loop-tries.invariant.2)
    (record {
      left = c.loop-tries.self.waiting;
      turned = subst (ChangesWaiters g.J.Journal.notes NoArrival c.args.self.now.waiting c.loop-tries.self.waiting c.args.self.now.journal) (sym journal) c.loop-tries.invariant.0;
      number = number;
      next = subst (λ places. next_entry (heads_of c.loop-tries.self.waiting) (places_held places) ≡ Some number) c.loop-tries.invariant.3 next;
      arrival = c.in_ok-arrival.arrival;
      waited = search rules;
      client = search rules;
      out = subst (IsTakenOut number c.loop-tries.self.waiting) (sym same) c.take.ensures.out;
    })
    (seats ∙ ap (λ now. seated c.args.place number (only_reads newcomer.rights) now c.loop-tries.self.places) c.loop-tries.invariant.4 ∙ ap (seated c.args.place number (only_reads newcomer.rights) c.args.self.now.now) c.loop-tries.invariant.3)

pub loop-tries-preserved : goal.loop-tries-preserved
loop-tries-preserved g c =
    let arrival = c.in_ok-arrival.arrival in
    let waited : heard_at c.loop-tries.self.waiting c.in_ok-number.number ≡ Some arrival = search rules in
    let turned = turned_further g.J.Journal.notes arrival c.args.self.now.waiting c.loop-tries.self.waiting c.take.new.self c.seat.new.self.waiting c.args.self.now.journal c.loop-tries.self.journal c.seat.new.self.journal c.loop-tries.invariant.0
    (subst (λ found. Passes NoArrival (option_to_list found) c.loop-tries.self.waiting c.take.new.self) waited c.take.ensures.out.passes) c.seat.ensures.stay (search rules) in
    let places : c.seat.new.self.places ≡ c.loop-tries.self.places = search rules in (
      turned.0,
      c.seat.ensures.entrances ∙ c.loop-tries.invariant.1,
      c.seat.ensures.flags ∙ c.loop-tries.invariant.2,
      places ∙ c.loop-tries.invariant.3,
      c.seat.ensures.now ∙ c.loop-tries.invariant.4,
      λ some. turned.1,
    )

pub returns : goal.returns
returns g c =
    none_given g.L.Accepts.model g.J.Journal.notes g.W.Watch.left c.args.self.now c.loop-tries.self c.args.place None refl c.loop-tries.invariant.1 c.loop-tries.invariant.2 c.loop-tries.invariant.3 c.loop-tries.invariant.0
    (inr (c.loop-tries.invariant.5 (search rules)))
