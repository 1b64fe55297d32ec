use Rattle.std.proofs.Common.{◌≡◌, ◌++◌, ◌≤◌, List, ℕ, length, rules, subst, [], ◌∷◌}
use Rattle.audit_serve_passes.specs.declared.limits.TheConstants.{MAX_PIECE}
use Rattle.audit_serve_passes.specs.Steps.{a_piece}
use Rattle.audit_serve_passes.specs.Core.{GoesBy, no_bytes}
use Rattle.audit_serve_sockets.proofs.Feeding.{nothing_fed, piece_fed}
use Rattle.audit_serve_sockets.proofs.Reaching.{feed_refused}
use Rattle.audit_serve_sockets.proofs.looping.send.Goals as goal

pub loop-rest-init : goal.loop-rest-init
loop-rest-init g c = record { fed = nothing_fed c.args.core.now c.args.bytes.now; room = c.requires.room }

pub loop-rest-preserved : goal.loop-rest-preserved
loop-rest-preserved g c =
    let M = g.C.SessionCore.model in
    let within : length c.split_at.result.0.now ≤ MAX_PIECE = search rules in
    let split : c.loop-rest.rest.now ≡ c.split_at.result.0.now ++ c.split_at.result.1.now = search rules in
    record {
      fed = piece_fed c.args.core.now c.loop-rest.core c.feed.new.self c.args.bytes.now c.loop-rest.rest.now c.split_at.result.0.now c.split_at.result.1.now c.loop-rest.invariant.fed split within
          (subst (λ (piece : List ℕ). M.DidSteps c.loop-rest.core c.feed.new.self (a_piece 0 piece ∷ []) no_bytes) c.in_ok-arrived.ensures.arrived c.in_default.ensures.did);
      room = search rules;
    }

pub returns-in-Err-clause-reaches : goal.returns-in-Err-clause-reaches
returns-in-Err-clause-reaches g c =
    let M = g.C.SessionCore.model in
    let within : length c.split_at.result.0.now ≤ MAX_PIECE = search rules in
    let split : c.loop-rest.rest.now ≡ c.split_at.result.0.now ++ c.split_at.result.1.now = search rules in
    feed_refused c.args.core.now c.loop-rest.core c.feed.new.self c.args.bytes.now c.loop-rest.rest.now c.split_at.result.0.now c.split_at.result.1.now c.loop-rest.invariant.fed split within
    (subst (λ (piece : List ℕ). GoesBy M (a_piece 0 piece) c.loop-rest.core c.feed.new.self) c.in_ok-arrived.ensures.arrived c.feed.ensures.reaches)
