use Rattle.std.proofs.Common.{◌∷◌, [], take, drop, refl, sym, inr}
use Rattle.std.proofs.lemmas.List.{take-append-drop}
use Rattle.audit_serve_passes.specs.Steps.{a_piece}
use Rattle.audit_server.proofs.Serving.{did_ok}
use Rattle.audit_server.proofs.Durably.{piece_goes}
use Rattle.audit_server.proofs.Owing.{was_sound, within_owes, within_stops, within_unspent, within_spent, within_asked, within_fewer}
use Rattle.audit_server.proofs.session_core.CoreSessionCore.feed_within.Goals as goal

pub returns-in-Ok-clause-reaches : goal.returns-in-Ok-clause-reaches
returns-in-Ok-clause-reaches g c =
    let piece = c.args.piece.now in
    let taken = c.in-Ok.taken in
    (_, inr (take taken piece, drop taken piece, sym (take-append-drop taken piece), refl), c.in-Ok.ensures.durable)

pub returns-in-Ok-clause-did : goal.returns-in-Ok-clause-did
returns-in-Ok-clause-did g c = did_ok (a_piece c.args.session (take c.in-Ok.taken c.args.piece.now) ∷ []) c.args.self.now c.feed_within.new.self (λ here. cc (c.in-Ok.ensures.broken here).0) c.in-Ok.ensures.done

pub returns-in-Err-clause-reaches : goal.returns-in-Err-clause-reaches
returns-in-Err-clause-reaches g c = piece_goes c.args.session c.args.piece.now c.args.self.now c.feed_within.new.self c.in-Err.refused c.in-Err.ensures.durable

pub returns-in-Ok-clause-owes : goal.returns-in-Ok-clause-owes
returns-in-Ok-clause-owes g c =
    within_owes c.args.session c.args.piece.now c.in-Ok.taken c.args.self.now c.feed_within.new.self c.args.allowance.now c.feed_within.new.allowance (c.in-Ok.ensures.end (was_sound c.args.self.now (λ here. cc (c.in-Ok.ensures.broken here).0)))

pub returns-in-Ok-clause-stops : goal.returns-in-Ok-clause-stops
returns-in-Ok-clause-stops g c =
    within_stops c.args.session c.args.piece.now c.in-Ok.taken c.args.self.now c.feed_within.new.self c.args.allowance.now c.feed_within.new.allowance (c.in-Ok.ensures.end (was_sound c.args.self.now (λ here. cc (c.in-Ok.ensures.broken here).0)))

pub returns-in-Ok-clause-unspent : goal.returns-in-Ok-clause-unspent
returns-in-Ok-clause-unspent g c =
    within_unspent c.args.session c.args.piece.now c.in-Ok.taken c.args.self.now c.feed_within.new.self c.args.allowance.now c.feed_within.new.allowance (c.in-Ok.ensures.end (was_sound c.args.self.now (λ here. cc (c.in-Ok.ensures.broken here).0)))

pub returns-in-Ok-clause-spent : goal.returns-in-Ok-clause-spent
returns-in-Ok-clause-spent g c =
    within_spent c.args.session c.args.piece.now c.in-Ok.taken c.args.self.now c.feed_within.new.self c.args.allowance.now c.feed_within.new.allowance (c.in-Ok.ensures.end (was_sound c.args.self.now (λ here. cc (c.in-Ok.ensures.broken here).0)))

pub returns-in-Ok-clause-asked : goal.returns-in-Ok-clause-asked
returns-in-Ok-clause-asked g c =
    within_asked c.args.session c.args.piece.now c.in-Ok.taken c.args.self.now c.feed_within.new.self c.args.allowance.now c.feed_within.new.allowance (c.in-Ok.ensures.end (was_sound c.args.self.now (λ here. cc (c.in-Ok.ensures.broken here).0)))

pub returns-in-Ok-clause-fewer : goal.returns-in-Ok-clause-fewer
returns-in-Ok-clause-fewer g c =
    within_fewer c.args.session c.args.piece.now c.in-Ok.taken c.args.self.now c.feed_within.new.self c.args.allowance.now c.feed_within.new.allowance (c.in-Ok.ensures.end (was_sound c.args.self.now (λ here. cc (c.in-Ok.ensures.broken here).0)))
