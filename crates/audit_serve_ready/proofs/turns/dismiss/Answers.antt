use Rattle.std.proofs.Common.{◌≡◌, ◌⊎◌, inl, ◌<◌, ◌+◌, true, [], if◌then◌else◌, length, refl, sym, ap, subst, ◌∙◌, rules, arith}
use Rattle.audit_serve_passes.proofs.Transitions.{in_any}
use Rattle.audit_serve_ready.specs.Places.{slot_at}
use Rattle.audit_serve_ready.specs.declared.note.Note.TheVariants.{Dismissed}
use Rattle.audit_serve_ready.specs.Slot.{vacant, client_of, closed, kept_of, is_mute}
use Rattle.audit_serve_ready.specs.Rounds.{IsJudgedByDoor, JudgesClients}
use Rattle.audit_serve_ready.specs.Backlog.{AreWithinBacklog}
use Rattle.audit_serve_ready.proofs.Bounds.{accounted_length, less_within, closed_or}
use Rattle.audit_serve_ready.proofs.Sending.{mute_closed, closed_accounted}
use Rattle.audit_serve_ready.proofs.PlaceByPlace.{judged_none, judged_more, judged_same}
use Rattle.audit_serve_ready.proofs.turns.dismiss.Goals as goal
use Rattle.audit_serve_ready.proofs.turns.dismiss.Goals.{then-is_dismissed, else-is_dismissed}

pub loop-place-init : goal.loop-place-init
loop-place-init g c = (judged_none g.D.Door.calls c.args.door.now c.args.slots.now, λ backlog within. within, λ k. inl refl)

pub loop-place-preserved : goal.loop-place-preserved
loop-place-preserved g c =
    let M = g.C.SessionCore.model in
    let N = g.D.Stream.ReadyStream.calls in
    let E = g.D.Door.calls in
    let l = c.loop-place in
    let core = c.args.core.now in
    let begun = c.args.slots.now in
    let was = c.args.door.now in
    let now = c.is_dismissed.new.door in
    let within : l.place < length l.slots = search rules in
    let below : l.place < length begun = search rules in
    let slot = slot_at l.place begun in
    let same = in_any l.slots l.place vacant c.index-slots-place.result within in
    let is = sym same ∙ l.invariant.0.others l.place (omega arith) in
    let asked = c.is_dismissed.ensures in
    let judged = subst (λ s. IsJudgedByDoor l.place (client_of s) asked.0 s (if c.is_dismissed.result then closed Dismissed s else s)) is asked.2 in
    elim c.if-is_dismissed.branch [
      | then-is_dismissed w ↦
          let there = sym (in_any l.slots l.place vacant w.index-slots-place-then-is_dismissed.result within) ∙ l.invariant.0.others l.place (omega arith) in
          let new : w.close.new.self ≡ closed Dismissed slot = w.close.ensures ∙ ap (closed Dismissed) there in
          let less = accounted_length N [] [] slot (closed Dismissed slot) (closed_accounted N Dismissed slot) in (
            subst (λ slots. JudgesClients E (l.place + 1) was now begun slots) (sym w.slots-is)
                (judged_more E l.place was l.door now begun l.slots w.close.new.self asked.0 below l.invariant.0 asked.1
                (subst (λ s. IsJudgedByDoor l.place (client_of slot) asked.0 slot s) (ap (λ b. if b then closed Dismissed slot else slot) w.if-is_dismissed.true ∙ sym new) judged)),
            (λ backlog inside. subst (λ slots. AreWithinBacklog M backlog core slots) (sym w.slots-is)
                (less_within M backlog l.place core l.slots c.index-slots-place.result w.close.new.self within (omega (arith, less, ap (λ s. length (kept_of s)) new, ap (λ s. length (kept_of s)) is)) (l.invariant.1 backlog inside))),
            (λ k. subst (λ slots. (slot_at k slots ≡ slot_at k begun) ⊎ (is_mute (slot_at k slots) ≡ true)) (sym w.slots-is) (closed_or l.place k begun l.slots w.close.new.self within (ap is_mute new ∙ mute_closed Dismissed slot) (l.invariant.2 k))),
          )
      | else-is_dismissed w ↦ (
        subst (λ slots. JudgesClients E (l.place + 1) was now begun slots) (sym w.slots-is)
            (judged_same E l.place was l.door now begun l.slots asked.0 l.invariant.0 asked.1
            (subst (λ s. IsJudgedByDoor l.place (client_of slot) asked.0 slot s) (ap (λ b. if b then closed Dismissed slot else slot) w.if-is_dismissed.false) judged)),
        (λ backlog inside. subst (λ slots. AreWithinBacklog M backlog core slots) (sym w.slots-is) (l.invariant.1 backlog inside)),
        (λ k. subst (λ slots. (slot_at k slots ≡ slot_at k begun) ⊎ (is_mute (slot_at k slots) ≡ true)) (sym w.slots-is) (l.invariant.2 k)),
      )
    ]

pub returns-clause-judges : goal.returns-clause-judges
returns-clause-judges g c =
    let l = c.loop-place in
    let all : l.place ≡ length c.args.slots.now = search rules in
    subst (λ count. JudgesClients g.D.Door.calls count c.args.door.now l.door c.args.slots.now l.slots) all l.invariant.0
