use Rattle.std.proofs.Common.{◌≡◌, ◌∙◌, true, [], length, set, get_or, refl, sym, ap, subst}
use Rattle.audit_serve_passes.proofs.Transitions.{in_any}
use Rattle.audit_serve_passes.proofs.Turns.{if_err}
use Rattle.audit_serve_ready.specs.Slot.{vacant}
use Rattle.audit_serve_ready.specs.Backlog.{MayAsk}
use Rattle.audit_serve_ready.proofs.Passes.{nothing_served, stops_place_then}
use Rattle.audit_serve_ready.proofs.TurnByTurn.{turns_none, one_turn}
use Rattle.audit_serve_ready.specs.Reading.{is_had, has_moved, HasTurn, TakesTurns}
use Rattle.audit_serve_ready.specs.Places.{slot_at}
use Rattle.audit_serve_ready.proofs.Bounds.{marked, at_any, within_set, keeps_set, mark_set, asked_there}
use Rattle.audit_serve_ready.proofs.turns.turn_of.Goals as goal

pub returns-then-not-is_due-clause-done : goal.returns-then-not-is_due-clause-done
returns-then-not-is_due-clause-done g c =
    turns_none g.C.SessionCore.model g.S.ReadyStream.calls c.args.bounds.backlog c.args.had_turn.now c.args.core.now c.args.slots.now
    (λ k within unmarked live is. absurd (cc (c.is_due.ensures.due (sym (ap (λ j. get_or c.args.had_turn.now j true) is) ∙ unmarked) (sym (ap (g.C.SessionCore.model.ended c.args.core.now []) is) ∙ live), c.if-not-is_due.true)))

pub returns-then-not-is_due-clause-within : goal.returns-then-not-is_due-clause-within
returns-then-not-is_due-clause-within g c = λ unowed inside. (unowed, inside)

pub returns-then-not-is_due-clause-kept : goal.returns-then-not-is_due-clause-kept
returns-then-not-is_due-clause-kept g c = λ k had. (had, refl)

pub returns-then-not-is_due-clause-asked : goal.returns-then-not-is_due-clause-asked
returns-then-not-is_due-clause-asked g c = λ whole due may. absurd (cc (c.is_due.ensures.due due may.live, c.if-not-is_due.true))

pub returns-in_err-turn-clause-stopped : goal.returns-in_err-turn-clause-stopped
returns-in_err-turn-clause-stopped g c =
    let M = g.C.SessionCore.model in
    let N = g.S.ReadyStream.calls in
    let core = c.args.core.now in
    let slots = c.args.slots.now in
    if_err c.from_residual.result
    (stops_place_then M N c.args.session core core c.read_turn.new.core slots slots c.index-slots-session.result c.read_turn.new.slot c.requires.there (nothing_served N {Did = M.DidSteps core core} slots (M.nothing_done core)) c.in_err-turn.ensures.stopped)

pub returns-clause-done : goal.returns-clause-done
returns-clause-done g c =
    let M = g.C.SessionCore.model in
    let N = g.S.ReadyStream.calls in
    let core = c.args.core.now in
    let slots = c.args.slots.now in
    let k = c.args.session in
    let turn = c.in_ok-turn.ensures.done in
    subst (λ moved. TakesTurns M N c.args.bounds.backlog c.args.questions.now.left c.read_turn.new.questions.left moved (λ j. j ≡ k) c.args.had_turn.now (set c.args.had_turn.now k c.is_had.result) core c.read_turn.new.core slots (set slots k c.read_turn.new.slot)) (sym c.has_moved.ensures)
    (one_turn M N c.args.bounds.backlog (has_moved c.in_ok-turn.turn) k c.args.had_turn.now c.is_had.result core c.read_turn.new.core slots c.read_turn.new.slot c.requires.there (c.if-not-is_due.ensures.turn refl) (c.if-not-is_due.ensures.live refl)
    (subst (λ had. HasTurn M N c.args.bounds.backlog c.args.questions.now.left c.read_turn.new.questions.left (has_moved c.in_ok-turn.turn) k had core c.read_turn.new.core (slot_at k slots) c.read_turn.new.slot) (sym c.is_had.ensures)
    (subst (λ slot. HasTurn M N c.args.bounds.backlog c.args.questions.now.left c.read_turn.new.questions.left (has_moved c.in_ok-turn.turn) k (is_had c.in_ok-turn.turn) core c.read_turn.new.core slot c.read_turn.new.slot) (sym (in_any slots k vacant c.index-slots-session.result c.requires.there)) turn)))

pub returns-clause-within : goal.returns-clause-within
returns-clause-within g c = λ unowed inside.
    let M = g.C.SessionCore.model in
    let k = c.args.session in
    let core = c.args.core.now in
    let slots = c.args.slots.now in
    let turn = c.in_ok-turn.ensures.within in
    let due = c.if-not-is_due.ensures.turn refl in (
      marked M (length slots) k c.args.had_turn.now c.is_had.result core c.read_turn.new.core unowed turn.others c.requires.there due (λ none. (c.in_ok-turn.ensures.idle (sym c.is_had.ensures ∙ none)).0),
      within_set M c.args.bounds.backlog k core c.read_turn.new.core slots c.read_turn.new.slot c.requires.there turn.others turn.ended
          (turn.within (c.if-not-is_due.ensures.live refl) (unowed k c.requires.there due) (at_any M c.args.bounds.backlog k core slots c.index-slots-session.result c.requires.there inside)) inside,
    )

pub returns-clause-kept : goal.returns-clause-kept
returns-clause-kept g c = keeps_set c.args.session c.args.had_turn.now c.is_had.result c.args.slots.now c.read_turn.new.slot (c.if-not-is_due.ensures.turn refl)

pub returns-clause-asked : goal.returns-clause-asked
returns-clause-asked g c = λ whole due may.
    let M = g.C.SessionCore.model in
    let k = c.args.session in
    let slots = c.args.slots.now in
    let same = in_any slots k vacant c.index-slots-session.result c.requires.there in
    let may_here = subst (MayAsk M c.args.bounds.backlog k c.args.core.now) same may in (
      asked_there M c.args.bounds.backlog k c.args.core.now slots c.index-slots-session.result c.read_turn.new.slot c.requires.there (c.in_ok-turn.ensures.asked whole may_here),
      mark_set k c.args.had_turn.now c.is_had.result (λ none. may_here.unread (c.in_ok-turn.ensures.idle (sym c.is_had.ensures ∙ none)).1),
    )
