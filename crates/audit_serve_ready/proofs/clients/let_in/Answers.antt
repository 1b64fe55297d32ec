use Rattle.std.proofs.Common.{◌≡◌, ◌||◌, ◌+◌, ◌<◌, length, refl, sym, subst, ◌∙◌, ap, rules}
use Rattle.audit_serve_passes.proofs.Transitions.{in_any}
use Rattle.audit_serve_ready.specs.Slot.{vacant}
use Rattle.audit_serve_ready.specs.Places.{slot_at}
use Rattle.audit_serve_ready.specs.Rounds.{is_free}
use Rattle.audit_serve_ready.specs.Backlog.{AreWithinBacklog}
use Rattle.audit_serve_ready.proofs.TurnByTurn.{neither_of}
use Rattle.audit_serve_ready.proofs.Comings.{Coming, free_ended, free_vacant, coming_none, coming_taken, coming_offered, came_in}
use Rattle.audit_serve_ready.proofs.clients.let_in.Goals as goal
use Rattle.audit_serve_ready.proofs.clients.let_in.Goals.{then-is_free, else-is_free}

pub loop-place-init : goal.loop-place-init
loop-place-init g c = (coming_none g.C.SessionCore.model g.D.Stream.ReadyStream.calls g.D.Door.calls c.args.core.now c.args.door.now c.args.slots.now, (λ still. refl), c.requires.idle, c.requires.empty, (λ k. refl), (λ backlog within. within))

pub let_in_at-moved-requires-clause-ended : goal.let_in_at-moved-requires-clause-ended
let_in_at-moved-requires-clause-ended g c =
    free_ended g.C.SessionCore.model g.D.Stream.ReadyStream.calls g.D.Door.calls c.loop-place.place c.loop-place.core _ (sym c.is_free.ensures ∙ c.if-is_free.true)

pub let_in_at-moved-requires-clause-vacant : goal.let_in_at-moved-requires-clause-vacant
let_in_at-moved-requires-clause-vacant g c =
    let M = g.C.SessionCore.model in
    let l = c.loop-place in
    let within : l.place < length l.slots = search rules in
    free_vacant M g.D.Stream.ReadyStream.calls g.D.Door.calls l.place l.core (slot_at l.place l.slots)
    (ap (is_free M l.place l.core) (in_any l.slots l.place vacant c.index-slots-place.result within) ∙ sym c.is_free.ensures ∙ c.if-is_free.true)

pub loop-place-preserved : goal.loop-place-preserved
loop-place-preserved g c =
    let M = g.C.SessionCore.model in
    let N = g.D.Stream.ReadyStream.calls in
    let E = g.D.Door.calls in
    let l = c.loop-place in
    let old = c.args.core.now in
    let begun = c.args.slots.now in
    let was = c.args.door.now in
    let within : l.place < length l.slots = search rules in
    let same = in_any l.slots l.place vacant c.index-slots-place.result within in
    elim c.if-is_free.branch [
      | then-is_free w ↦
          let free = ap (is_free M l.place l.core) same ∙ sym c.is_free.ensures ∙ w.if-is_free.true in
          let came = w.let_in_at-moved.ensures.came in (
            subst (λ moved. Coming M N E moved (l.place + 1) was c.if-is_free.door old c.if-is_free.core begun c.if-is_free.slots) (sym w.moved-is)
                (subst (λ door. Coming M N E (l.moved || w.let_in_at-moved.result) (l.place + 1) was door old c.if-is_free.core begun c.if-is_free.slots) (sym w.door-is)
                (subst (λ core. Coming M N E (l.moved || w.let_in_at-moved.result) (l.place + 1) was w.let_in_at-moved.new.door old core begun c.if-is_free.slots) (sym w.core-is)
                (subst (λ slots. Coming M N E (l.moved || w.let_in_at-moved.result) (l.place + 1) was w.let_in_at-moved.new.door old w.let_in_at-moved.new.core begun slots) (sym w.slots-is)
                (coming_offered M N E l.moved w.let_in_at-moved.result l.place was l.door w.let_in_at-moved.new.door old l.core w.let_in_at-moved.new.core begun l.slots w.let_in_at-moved.new.slots came.0 came.1 l.invariant.0 free came.2 came.3 came.4 came.5 came.6 w.let_in_at-moved.ensures.alone)))),
            (λ still. w.slots-is ∙ w.let_in_at-moved.ensures.still (neither_of l.moved w.let_in_at-moved.result (sym w.moved-is ∙ still)).1 ∙ l.invariant.1 (neither_of l.moved w.let_in_at-moved.result (sym w.moved-is ∙ still)).0),
            subst (λ core. M.Idle core) (sym w.core-is) w.let_in_at-moved.ensures.idle,
            (λ k below. ap (λ core. M.output core k) w.core-is ∙ w.let_in_at-moved.ensures.outputs k ∙ l.invariant.3 k below),
            (λ k. ap (λ core. M.output core k) w.core-is ∙ w.let_in_at-moved.ensures.outputs k ∙ l.invariant.4 k),
            (λ backlog inside. subst (λ core. AreWithinBacklog M backlog core c.if-is_free.slots) (sym w.core-is) (subst (λ slots. AreWithinBacklog M backlog w.let_in_at-moved.new.core slots) (sym w.slots-is) (w.let_in_at-moved.ensures.within backlog (l.invariant.5 backlog inside)))),
          )
      | else-is_free w ↦
          let taken = ap (is_free M l.place l.core) same ∙ sym c.is_free.ensures ∙ w.if-is_free.false in (
            subst (λ moved. Coming M N E moved (l.place + 1) was c.if-is_free.door old c.if-is_free.core begun c.if-is_free.slots) (sym w.moved-is)
                (subst (λ door. Coming M N E l.moved (l.place + 1) was door old c.if-is_free.core begun c.if-is_free.slots) (sym w.door-is)
                (subst (λ core. Coming M N E l.moved (l.place + 1) was l.door old core begun c.if-is_free.slots) (sym w.core-is)
                (subst (λ slots. Coming M N E l.moved (l.place + 1) was l.door old l.core begun slots) (sym w.slots-is)
                (coming_taken M N E l.moved l.place was l.door old l.core begun l.slots l.invariant.0 taken)))),
            (λ still. w.slots-is ∙ l.invariant.1 (sym w.moved-is ∙ still)),
            subst (λ core. M.Idle core) (sym w.core-is) l.invariant.2,
            (λ k below. ap (λ core. M.output core k) w.core-is ∙ l.invariant.3 k below),
            (λ k. ap (λ core. M.output core k) w.core-is ∙ l.invariant.4 k),
            (λ backlog inside. subst (λ core. AreWithinBacklog M backlog core c.if-is_free.slots) (sym w.core-is) (subst (λ slots. AreWithinBacklog M backlog l.core slots) (sym w.slots-is) (l.invariant.5 backlog inside))),
          )
    ]

pub returns-clause-came : goal.returns-clause-came
returns-clause-came g c =
    let M = g.C.SessionCore.model in
    let N = g.D.Stream.ReadyStream.calls in
    let E = g.D.Door.calls in
    let l = c.loop-place in
    let all : l.place ≡ length c.args.slots.now = search rules in
    came_in M N E l.moved (length c.args.slots.now) c.args.door.now l.door c.args.core.now l.core c.args.slots.now l.slots
    (subst (λ count. Coming M N E l.moved count c.args.door.now l.door c.args.core.now l.core c.args.slots.now l.slots) all l.invariant.0)
