use Rattle.std.proofs.Common.{◌≡◌, ◌<◌, ℕ, List, [], length, refl, ap, subst, ◌∙◌, inl, inr, rules, arith}
use Rattle.std.proofs.lemmas.Bool.{cases_eq}
use Rattle.audit_serve_passes.specs.Core.{no_bytes, bytes_for}
use Rattle.audit_serve_passes.proofs.Transitions.{no_calls}
use Rattle.audit_serve_passes.specs.Streams.{StreamCall}
use Rattle.audit_serve_ready.specs.Places.{WritesPlaces}
use Rattle.audit_serve_ready.proofs.PlaceWrites.{writes_start, writes_more}
use Rattle.audit_serve_ready.proofs.Bounds.{written_within, unread_set, mute_set}
use Rattle.audit_serve_ready.proofs.turns.write_turns.Goals as goal

pub loop-session-init : goal.loop-session-init
loop-session-init g c = (
  (no_bytes, no_calls, writes_start g.C.SessionCore.model g.S.ReadyStream.calls c.args.core.now c.args.slots.now),
  (λ k within. absurd (omega (arith, within))),
  (λ idle. idle),
  (λ backlog idle within. within),
  (λ k. refl),
  (λ k mute. mute),
)

pub loop-session-preserved : goal.loop-session-preserved
loop-session-preserved g c =
    let M = g.C.SessionCore.model in
    let l = c.loop-session in
    let new = c.write_turn-moved.new.core in
    let done = c.write_turn-moved.ensures.done in
    let within : l.session < length l.slots = search rules in (
      writes_more M g.S.ReadyStream.calls l.moved c.write_turn-moved.result l.session c.args.core.now l.core new l.invariant.0.0 l.invariant.0.1 done.0 c.args.slots.now l.slots c.index-slots-session.result c.write_turn-moved.new.slot within l.invariant.0.2 done.1 done.2,
      (λ other below. elim (cases_eq other l.session) [
        | inl same ↦ ap (M.output new) same ∙ c.write_turn-moved.ensures.empty
        | inr apart ↦ c.write_turn-moved.ensures.others other apart ∙ l.invariant.1 other (omega (arith, below, apart))
      ]),
      (λ idle. c.write_turn-moved.ensures.idle (l.invariant.2 idle)),
      (λ backlog idle begun.
          let were = l.invariant.3 backlog idle begun in
          let idle_now = l.invariant.2 idle in
          written_within M backlog l.session l.core new l.slots c.index-slots-session.result c.write_turn-moved.new.slot within idle_now (c.write_turn-moved.ensures.idle idle_now)
          c.write_turn-moved.ensures.kept c.write_turn-moved.ensures.empty c.write_turn-moved.ensures.others [] (bytes_for l.session done.0) done.1 were),
      (λ k. unread_set l.session k l.slots c.index-slots-session.result c.write_turn-moved.new.slot within c.write_turn-moved.ensures.unread ∙ l.invariant.4 k),
      (λ k mute. mute_set l.session k l.slots c.index-slots-session.result c.write_turn-moved.new.slot within c.write_turn-moved.ensures.mute (l.invariant.5 k mute)),
    )

pub returns-clause-done : goal.returns-clause-done
returns-clause-done g c =
    let l = c.loop-session in
    let all : l.session ≡ length c.args.slots.now = search rules in
    subst (λ count. (taken : ℕ → List ℕ) × (calls : ℕ → List StreamCall) × WritesPlaces g.S.ReadyStream.calls (g.C.SessionCore.model.DidSteps c.args.core.now l.core) l.moved count taken calls c.args.slots.now l.slots) all l.invariant.0
