use Rattle.std.proofs.Common.{◌≡◌, ◌+◌, ◌<◌, ◌≤◌, ℕ, List, ◌∷◌, [], length, take, drop, sym, ap, subst, ◌∙◌, arith, true≢false}
use Rattle.audit_serve_ready.specs.declared.limits.TheConstants.{MAX_READ}
use Rattle.audit_serve_passes.specs.Steps.{a_piece}
use Rattle.audit_serve_passes.specs.Core.{GoesBy, asked_by, no_bytes}
use Rattle.audit_serve_ready.specs.Slot.{unread_of}
use Rattle.audit_serve_ready.specs.Reading.{has_moved, IsFedPiece}
use Rattle.audit_serve_ready.specs.Places.{StopsAtPlace}
use Rattle.audit_serve_ready.proofs.Visits.{is_fed, fed_stopped}
use Rattle.audit_serve_passes.specs.Owing.{IsBeyondAllowance}
use Rattle.audit_serve_ready.specs.Backlog.{IsTurnWithin, HasTakenRequest}
use Rattle.audit_serve_ready.proofs.Asking.{took, put_off}
use Rattle.audit_serve_ready.proofs.Bounds.{turn_taken, unread_length}
use Rattle.audit_serve_ready.proofs.turns.feed_turn.Goals as goal
use Rattle.audit_serve_ready.proofs.turns.feed_turn.Goals.{then-taken-gt0, else-taken-gt0}

pub advance-requires-clause-within : goal.advance-requires-clause-within
advance-requires-clause-within g c =
    let bytes : c.unread.result.now ≡ unread_of c.args.slot.now = c.unread.ensures.bytes c.requires.live in
    subst (λ (all : List ℕ). c.in-Ok.taken ≤ length all) bytes c.in-Ok.ensures.within

pub returns-after-taken-gt0-clause-done : goal.returns-after-taken-gt0-clause-done
returns-after-taken-gt0-clause-done g c =
    let M = g.C.SessionCore.model in
    let N = g.S.ReadyStream.calls in
    let old = c.args.core.now in
    let new = c.feed_within.new.self in
    let slot = c.args.slot.now in
    let taken = c.in-Ok.taken in
    let k = c.args.session in
    let bytes : c.unread.result.now ≡ unread_of slot = c.unread.ensures.bytes c.requires.live in
    let moved = has_moved c.if-taken-gt0.result in
    subst (λ after. IsFedPiece M N c.args.backlog c.args.questions.now.left c.feed_within.new.allowance.questions.left moved k old new slot after) (sym c.advance.ensures)
    (is_fed M N c.args.backlog moved k taken old new slot c.requires.live (subst (λ (all : List ℕ). length all ≤ MAX_READ) bytes c.unread.ensures.most)
    (subst (λ (all : List ℕ). M.DidSteps old new (a_piece k (take taken all) ∷ []) no_bytes) bytes c.in-Ok.ensures.did)
    (λ still. elim c.if-taken-gt0.branch [
      | then-taken-gt0 w ↦ absurd (true≢false (sym (ap has_moved w.result-is) ∙ still))
      | else-taken-gt0 w ↦ omega (arith, w.if-taken-gt0.false)
    ])
    (λ moving. elim c.if-taken-gt0.branch [
      | then-taken-gt0 w ↦ omega (arith, w.if-taken-gt0.true)
      | else-taken-gt0 w ↦ absurd (true≢false (sym moving ∙ ap has_moved w.result-is))
    ])
    (subst (λ (all : List ℕ). taken ≤ length all) bytes c.in-Ok.ensures.within)
    (put_off M c.args.backlog k c.share.result c.args.questions.now old slot taken c.feed_within.new.allowance c.requires.live (c.share.ensures.exact c.requires.live)
    (subst (λ (all : List ℕ). taken < length all → IsBeyondAllowance M k old (take taken all) all c.feed_within.new.allowance) bytes c.in-Ok.ensures.stops)
    (subst (λ (all : List ℕ). M.requests old k (take taken all) ≡ [] → c.feed_within.new.allowance ≡ record { session = c.share.result; questions = c.args.questions.now }) bytes c.in-Ok.ensures.unspent)
    (subst (λ (all : List ℕ). c.share.result.left ≤ c.feed_within.new.allowance.session.left + M.replies old k (take taken all)) bytes c.in-Ok.ensures.spent))
    (record {
      fewer = c.in-Ok.ensures.fewer;
      spent = omega (arith, subst (λ (all : List ℕ). c.args.questions.now.left ≤ c.feed_within.new.allowance.questions.left + asked_by (M.requests old k (take taken all))) bytes c.in-Ok.ensures.asked);
    }))

pub returns-in-Err-clause-stopped : goal.returns-in-Err-clause-stopped
returns-in-Err-clause-stopped g c =
    let M = g.C.SessionCore.model in
    let N = g.S.ReadyStream.calls in
    let old = c.args.core.now in
    let new = c.feed_within.new.self in
    let slot = c.args.slot.now in
    let k = c.args.session in
    let bytes : c.unread.result.now ≡ unread_of slot = c.unread.ensures.bytes c.requires.live in
    subst (λ after. StopsAtPlace N (M.DidStepsInPart old new) k slot after) (sym c.drop_unread.ensures)
    (fed_stopped M N k old new slot c.requires.live (subst (λ (all : List ℕ). length all ≤ MAX_READ) bytes c.unread.ensures.most)
    (subst (λ (all : List ℕ). GoesBy M (a_piece k all) old new) bytes c.in-Err.ensures.reaches))

pub returns-after-taken-gt0-clause-within : goal.returns-after-taken-gt0-clause-within
returns-after-taken-gt0-clause-within g c =
    let M = g.C.SessionCore.model in
    let old = c.args.core.now in
    let new = c.feed_within.new.self in
    let slot = c.args.slot.now in
    let k = c.args.session in
    subst (λ after. IsTurnWithin M c.args.backlog k old new slot after) (sym c.advance.ensures)
    (turn_taken M c.args.backlog k c.share.result old new slot _ (a_piece k (take c.in-Ok.taken c.unread.result.now) ∷ []) no_bytes (unread_length (drop c.in-Ok.taken (unread_of slot)) slot) c.share.ensures.left c.share.ensures.whole c.in-Ok.ensures.did c.in-Ok.ensures.owes)

pub returns-after-taken-gt0-clause-asked : goal.returns-after-taken-gt0-clause-asked
returns-after-taken-gt0-clause-asked g c =
    let M = g.C.SessionCore.model in
    let old = c.args.core.now in
    let slot = c.args.slot.now in
    let k = c.args.session in
    let bytes : c.unread.result.now ≡ unread_of slot = c.unread.ensures.bytes c.requires.live in λ whole may.
    subst (λ after. HasTakenRequest M c.args.backlog k old slot after) (sym c.advance.ensures)
    (took M c.args.backlog k c.share.result c.args.questions.now old slot c.in-Ok.taken c.feed_within.new.allowance c.requires.live may whole (c.share.ensures.exact c.requires.live)
    (subst (λ (all : List ℕ). c.in-Ok.taken ≤ length all) bytes c.in-Ok.ensures.within)
    (subst (λ (all : List ℕ). c.in-Ok.taken < length all → IsBeyondAllowance M k old (take c.in-Ok.taken all) all c.feed_within.new.allowance) bytes c.in-Ok.ensures.stops)
    (subst (λ (all : List ℕ). M.requests old k (take c.in-Ok.taken all) ≡ [] → c.feed_within.new.allowance ≡ record { session = c.share.result; questions = c.args.questions.now }) bytes c.in-Ok.ensures.unspent))
