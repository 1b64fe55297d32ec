use Rattle.std.proofs.Common.{ℕ, ◌≡◌, ◌-◌, ◌≤◌, Ok, Err, List, length, take, drop, subst, arith, length-drop}
use Rattle.std.proofs.lemmas.List.{take_all}
use Rattle.audit_server.specs.declared.session.Front.{Front}
use Rattle.audit_server.specs.declared.session.Front.TheVariants as front
use Rattle.audit_server.specs.Feeding.{IsFront, IsWholeFeed}
use Rattle.audit_server.proofs.Pieces.{fed_start, fed_more, fed_part, fed_last, fed_withheld, fed_err}
use Rattle.audit_server.proofs.session.Session.feed_live.Goals as goal

tail_is : (taken : ℕ) (piece : List ℕ) → taken ≤ length piece → take (length piece - taken) (drop taken piece) ≡ drop taken piece
tail_is taken piece within = take_all (length piece - taken) (drop taken piece) (omega (arith, within, length-drop taken piece))

pub loop-more-init : goal.loop-more-init
loop-more-init g c = fed_start c.args.session c.args.piece.now c.args.self.now c.args.committer.now c.args.limit.now c.requires.live c.requires.sound

pub take_front-requires-clause-live : goal.take_front-requires-clause-live
take_front-requires-clause-live g c = c.loop-more.invariant.live

pub loop-more-smaller : goal.loop-more-smaller
loop-more-smaller g c =
    let within : c.loop-more.taken ≤ length c.args.piece.now = c.loop-more.invariant.within in
    let front : IsWholeFeed c.args.session (drop c.loop-more.taken c.args.piece.now) c.in-Ok-Request.more c.loop-more.self c.take_front.new.self c.loop-more.committer c.take_front.new.committer c.loop-more.limit c.take_front.new.limit =
    subst (λ (tail : List ℕ). IsWholeFeed c.args.session tail c.in-Ok-Request.more c.loop-more.self c.take_front.new.self c.loop-more.committer c.take_front.new.committer c.loop-more.limit c.take_front.new.limit) (tail_is c.loop-more.taken c.args.piece.now within)
    (subst (λ (it : Front). IsFront c.args.session (take (length c.args.piece.now - c.loop-more.taken) (drop c.loop-more.taken c.args.piece.now)) c.loop-more.self c.take_front.new.self c.loop-more.committer c.take_front.new.committer c.loop-more.limit c.take_front.new.limit (Ok it))
    c.in-Ok-Request.field-0-is c.in-Ok-Request.ensures) in
    omega (arith, front.some, front.within, within, length-drop c.loop-more.taken c.args.piece.now)

pub loop-more-preserved : goal.loop-more-preserved
loop-more-preserved g c =
    let within : c.loop-more.taken ≤ length c.args.piece.now = c.loop-more.invariant.within in
    let front : IsWholeFeed c.args.session (drop c.loop-more.taken c.args.piece.now) c.in-Ok-Request.more c.loop-more.self c.take_front.new.self c.loop-more.committer c.take_front.new.committer c.loop-more.limit c.take_front.new.limit =
    subst (λ (tail : List ℕ). IsWholeFeed c.args.session tail c.in-Ok-Request.more c.loop-more.self c.take_front.new.self c.loop-more.committer c.take_front.new.committer c.loop-more.limit c.take_front.new.limit) (tail_is c.loop-more.taken c.args.piece.now within)
    (subst (λ (it : Front). IsFront c.args.session (take (length c.args.piece.now - c.loop-more.taken) (drop c.loop-more.taken c.args.piece.now)) c.loop-more.self c.take_front.new.self c.loop-more.committer c.take_front.new.committer c.loop-more.limit c.take_front.new.limit (Ok it))
    c.in-Ok-Request.field-0-is c.in-Ok-Request.ensures) in
    fed_more c.args.session c.args.piece.now c.loop-more.taken c.args.self.now c.loop-more.self c.take_front.new.self c.args.committer.now c.loop-more.committer c.take_front.new.committer c.args.limit.now c.loop-more.limit c.take_front.new.limit c.loop-more.invariant c.in-Ok-Request.more front

pub returns-in-Ok-Part : goal.returns-in-Ok-Part
returns-in-Ok-Part g c =
    let P : List ℕ → Front → Type 0 = λ tail it. IsFront c.args.session tail c.loop-more.self c.take_front.new.self c.loop-more.committer c.take_front.new.committer c.loop-more.limit c.take_front.new.limit (Ok it) in
    fed_part c.args.session c.args.piece.now c.loop-more.taken c.args.self.now c.loop-more.self c.take_front.new.self c.args.committer.now c.loop-more.committer c.take_front.new.committer c.args.limit.now c.loop-more.limit c.take_front.new.limit c.loop-more.invariant
    (subst (λ (tail : List ℕ). P tail front.Part) (tail_is c.loop-more.taken c.args.piece.now c.loop-more.invariant.within)
    (subst (P (take (length c.args.piece.now - c.loop-more.taken) (drop c.loop-more.taken c.args.piece.now))) c.in-Ok-Part.field-0-is c.in-Ok-Part.ensures))

pub returns-in-Ok-Last : goal.returns-in-Ok-Last
returns-in-Ok-Last g c =
    let P : List ℕ → Front → Type 0 = λ tail it. IsFront c.args.session tail c.loop-more.self c.take_front.new.self c.loop-more.committer c.take_front.new.committer c.loop-more.limit c.take_front.new.limit (Ok it) in
    fed_last c.args.session c.args.piece.now c.loop-more.taken c.args.self.now c.loop-more.self c.take_front.new.self c.args.committer.now c.loop-more.committer c.take_front.new.committer c.args.limit.now c.loop-more.limit c.take_front.new.limit c.loop-more.invariant
    (subst (λ (tail : List ℕ). P tail front.Last) (tail_is c.loop-more.taken c.args.piece.now c.loop-more.invariant.within)
    (subst (P (take (length c.args.piece.now - c.loop-more.taken) (drop c.loop-more.taken c.args.piece.now))) c.in-Ok-Last.field-0-is c.in-Ok-Last.ensures))

pub returns-in-Ok-Withheld : goal.returns-in-Ok-Withheld
returns-in-Ok-Withheld g c =
    let P : List ℕ → Front → Type 0 = λ tail it. IsFront c.args.session tail c.loop-more.self c.take_front.new.self c.loop-more.committer c.take_front.new.committer c.loop-more.limit c.take_front.new.limit (Ok it) in
    fed_withheld c.args.session c.args.piece.now c.loop-more.taken c.args.self.now c.loop-more.self c.take_front.new.self c.args.committer.now c.loop-more.committer c.take_front.new.committer c.args.limit.now c.loop-more.limit c.take_front.new.limit c.loop-more.invariant c.in-Ok-Withheld.more
    (subst (λ (tail : List ℕ). P tail (front.Withheld c.in-Ok-Withheld.more)) (tail_is c.loop-more.taken c.args.piece.now c.loop-more.invariant.within)
    (subst (P (take (length c.args.piece.now - c.loop-more.taken) (drop c.loop-more.taken c.args.piece.now))) c.in-Ok-Withheld.field-0-is c.in-Ok-Withheld.ensures))

pub returns-in-Err : goal.returns-in-Err
returns-in-Err g c =
    fed_err c.args.session c.args.piece.now c.loop-more.taken c.args.self.now c.loop-more.self c.take_front.new.self c.args.committer.now c.loop-more.committer c.take_front.new.committer c.args.limit.now c.loop-more.limit c.take_front.new.limit c.loop-more.invariant c.in-Err.fault
    (subst (λ (tail : List ℕ). IsFront c.args.session tail c.loop-more.self c.take_front.new.self c.loop-more.committer c.take_front.new.committer c.loop-more.limit c.take_front.new.limit (Err c.in-Err.fault)) (tail_is c.loop-more.taken c.args.piece.now c.loop-more.invariant.within)
    c.in-Err.ensures)
