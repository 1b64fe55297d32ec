use Rattle.std.proofs.Common.{◌≤◌, length, rules}
use Rattle.audit_serve_passes.specs.declared.limits.TheConstants.{MAX_PIECE}
use Rattle.audit_serve_passes.proofs.Turns.{if_err, piece_turn, end_turn, piece_stopped, end_stopped}
use Rattle.audit_serve_passes.proofs.reading.read_turn.Goals as goal
use Rattle.audit_serve_passes.proofs.reading.read_turn.Goals.{in_default-via-in-Ok+else-count-gt0, in_default-via-in_default}

pub returns-in-Ok-clause-done : goal.returns-in-Ok-clause-done
returns-in-Ok-clause-done g c =
    let most : length c.read.new.buffer ≤ MAX_PIECE = search rules in
    piece_turn g.C.SessionCore.model g.S.SessionStream.model c.args.session c.in-Ok.count c.read.new.buffer c.args.core.now c.feed.new.self c.args.stream.now c.read.new.self
    c.feed.result c.in-Ok.ensures.did c.in-Ok.ensures.within c.if-count-gt0.true most c.feed.ensures.did

pub returns-in_default-clause-done : goal.returns-in_default-clause-done
returns-in_default-clause-done g c =
    end_turn g.C.SessionCore.model g.S.SessionStream.model c.args.session c.read.new.buffer c.args.core.now c.end.new.self c.args.stream.now c.read.new.self
    c.read.result c.end.result c.read.ensures.did
    (λ count is. elim c.in_default.branch [ in_default-via-in-Ok+else-count-gt0 w ↦ search (rules, w, is) | in_default-via-in_default w ↦ search (rules, w, is) ])
    c.end.ensures.did

pub returns-in-Ok-clause-stopped : goal.returns-in-Ok-clause-stopped
returns-in-Ok-clause-stopped g c =
    let most : length c.read.new.buffer ≤ MAX_PIECE = search rules in
    if_err c.feed.result
    (piece_stopped g.C.SessionCore.model g.S.SessionStream.model c.args.session c.in-Ok.count c.read.new.buffer c.args.core.now c.feed.new.self c.args.stream.now c.read.new.self
    c.in-Ok.ensures.did c.in-Ok.ensures.within c.if-count-gt0.true most c.feed.ensures.reaches)

pub returns-in_default-clause-stopped : goal.returns-in_default-clause-stopped
returns-in_default-clause-stopped g c =
    if_err c.end.result
    (end_stopped g.C.SessionCore.model g.S.SessionStream.model c.args.session c.read.new.buffer c.args.core.now c.end.new.self c.args.stream.now c.read.new.self
    c.read.result c.read.ensures.did
    (λ count is. elim c.in_default.branch [ in_default-via-in-Ok+else-count-gt0 w ↦ search (rules, w, is) | in_default-via-in_default w ↦ search (rules, w, is) ])
    c.end.ensures.reaches)
