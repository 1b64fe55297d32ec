use Rattle.std.proofs.Common.{[]}
use Rattle.audit_serve_door.proofs.Passing.{changes_refl}
use Rattle.audit_serve_door.proofs.Arriving.{comes_quietly, comes_anywhere, receives_refl, received_nobody, received_quietly}
use Rattle.audit_serve_door.proofs.socket_door.announce.Goals as goal

pub returns-then-number-ge-FIRST_ORDER : goal.returns-then-number-ge-FIRST_ORDER
returns-then-number-ge-FIRST_ORDER g c = receives_refl g.L.Accepts.model g.J.Journal.notes c.args.entrances.now c.args.waiting.now c.args.journal.now

pub returns-then-number-ge-FIRST_CLIENT : goal.returns-then-number-ge-FIRST_CLIENT
returns-then-number-ge-FIRST_CLIENT g c = received_nobody g.L.Accepts.model g.J.Journal.notes c.args.entrances.now c.args.waiting.now _ c.args.journal.now _ c.hear.ensures

pub returns-then-number-eq-STOP : goal.returns-then-number-eq-STOP
returns-then-number-eq-STOP g c = receives_refl g.L.Accepts.model g.J.Journal.notes c.args.entrances.now c.args.waiting.now c.args.journal.now

pub returns-then-number-entrances : goal.returns-then-number-entrances
returns-then-number-entrances g c =
    received_quietly g.L.Accepts.model g.J.Journal.notes _ c.args.entrances.now c.announce-then-number-entrances.new.self c.args.waiting.now c.args.waiting.now c.args.journal.now c.args.journal.now c.if-number-entrances.true
    (comes_anywhere g.L.Accepts.model [] c.args.entrances.now _ c.index-entrances-number.result c.announce-then-number-entrances.new.self c.if-number-entrances.true (comes_quietly g.L.Accepts.model _ c.announce-then-number-entrances.new.self c.announce-then-number-entrances.ensures))
    (changes_refl g.J.Journal.notes c.args.waiting.now c.args.journal.now)

pub returns-else-number-entrances : goal.returns-else-number-entrances
returns-else-number-entrances g c = receives_refl g.L.Accepts.model g.J.Journal.notes c.args.entrances.now c.args.waiting.now c.args.journal.now
