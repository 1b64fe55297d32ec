use Rattle.std.proofs.Common.{◌≡◌, ◌+◌, ◌<◌, length, refl, sym, ap, subst, ◌∙◌, rules, arith, true≢false}
use Rattle.audit_serve_passes.proofs.Transitions.{in_any}
use Rattle.audit_serve_ready.specs.Slot.{vacant, client_of, has_client, kept_of}
use Rattle.audit_serve_ready.specs.Rounds.{is_done, ChangesPlaces, IsLetGo}
use Rattle.audit_serve_ready.specs.Backlog.{AreWithinBacklog}
use Rattle.audit_serve_ready.proofs.Bounds.{less_within}
use Rattle.audit_serve_ready.proofs.Goings.{Leaving, HasGone, gone_changed, gone_here, gone_still, leaving_none, leaving_stays, leaving_goes, had_client}
use Rattle.audit_serve_ready.proofs.clients.let_go.Goals as goal
use Rattle.audit_serve_ready.proofs.clients.let_go.Goals.{then-may_go, else-may_go}

pub loop-place-init : goal.loop-place-init
loop-place-init g c = (leaving_none g.C.SessionCore.model g.D.Stream.ReadyStream.calls g.D.Door.calls c.args.core.now c.args.door.now c.args.slots.now, (λ still. refl), (λ moving. absurd (true≢false (sym moving))), λ backlog within. within)

pub loop-place-preserved : goal.loop-place-preserved
loop-place-preserved g c =
    let M = g.C.SessionCore.model in
    let N = g.D.Stream.ReadyStream.calls in
    let E = g.D.Door.calls in
    let l = c.loop-place in
    let core = c.args.core.now in
    let begun = c.args.slots.now in
    let was = c.args.door.now in
    let within : l.place < length l.slots = search rules in
    let below : l.place < length begun = search rules in
    let same = in_any l.slots l.place vacant c.index-slots-place.result within in
    elim c.if-may_go.branch [
      | then-may_go w ↦
          let done = ap (is_done M l.place core) same ∙ sym c.may_go.ensures ∙ w.if-may_go.true in
          let there = in_any l.slots l.place vacant w.index-slots-place-then-may_go.result within in
          let told = w.part_with.ensures.told (sym (ap has_client there) ∙ had_client M N E l.place core _ done) in (
            subst (λ door. Leaving M N E core (l.place + 1) was door begun c.if-may_go.slots) (sym w.door-is)
                (subst (λ slots. Leaving M N E core (l.place + 1) was w.part_with.new.door begun slots) (sym w.slots-is)
                (leaving_goes M N E l.place core was l.door w.part_with.new.door told.0 begun l.slots _ w.part_with.new.slot w.is_cut_off.result within l.invariant.0 (sym there) w.is_cut_off.ensures.by done
                (ap client_of there ∙ told.1) (c.requires.empty l.place below) told.2 w.part_with.ensures.left)),
            (λ still. absurd (cc (w.moved-is, still))),
            (λ moving. subst (HasGone (l.place + 1) begun) (sym w.slots-is) (gone_here l.place begun l.slots w.part_with.new.slot within (sym (ap has_client (l.invariant.0.others l.place (omega arith))) ∙ had_client M N E l.place core _ done) w.part_with.ensures.left)),
            (λ backlog inside. subst (λ slots. AreWithinBacklog M backlog core slots) (sym w.slots-is)
                (less_within M backlog l.place core l.slots c.index-slots-place.result w.part_with.new.slot within (omega (arith, ap (λ slot. length (kept_of slot)) w.part_with.ensures.left)) (l.invariant.3 backlog inside))),
          )
      | else-may_go w ↦
          let stays = ap (is_done M l.place core) same ∙ sym c.may_go.ensures ∙ w.if-may_go.false in (
            subst (λ door. Leaving M N E core (l.place + 1) was door begun c.if-may_go.slots) (sym w.door-is)
                (subst (λ slots. Leaving M N E core (l.place + 1) was l.door begun slots) (sym w.slots-is) (leaving_stays M N E l.place core was l.door begun l.slots l.invariant.0 stays)),
            (λ still. w.slots-is ∙ l.invariant.1 (sym w.moved-is ∙ still)),
            (λ moving. subst (HasGone (l.place + 1) begun) (sym w.slots-is) (gone_still l.place begun l.slots (l.invariant.2 (sym w.moved-is ∙ moving)))),
            (λ backlog inside. subst (λ slots. AreWithinBacklog M backlog core slots) (sym w.slots-is) (l.invariant.3 backlog inside)),
          )
    ]

pub returns-clause-went : goal.returns-clause-went
returns-clause-went g c = λ backlog first.
    let l = c.loop-place in
    let all : l.place ≡ length c.args.slots.now = search rules in
    subst (λ count. ChangesPlaces g.C.SessionCore.model g.D.Stream.ReadyStream.calls g.D.Door.calls backlog (IsLetGo g.C.SessionCore.model) count first c.args.door.now l.door c.args.core.now c.args.core.now c.args.slots.now l.slots) all
    (l.invariant.0.went backlog first)

pub returns-clause-none_done : goal.returns-clause-none_done
returns-clause-none_done g c = λ k within. c.loop-place.invariant.0.none_done k (search rules)

pub returns-clause-moves : goal.returns-clause-moves
returns-clause-moves g c = λ moving same. gone_changed c.loop-place.place c.args.slots.now c.loop-place.slots (c.loop-place.invariant.2 moving) same
