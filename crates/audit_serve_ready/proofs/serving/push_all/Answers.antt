use Rattle.std.proofs.Common.{◌<◌, ◌≤◌, length, rules}
use Rattle.audit_serve_ready.proofs.Offers.{offers_none, offers_more, offers_all}
use Rattle.audit_serve_ready.proofs.serving.push_all.Goals as goal

pub loop-place-init : goal.loop-place-init
loop-place-init g c = offers_none g.S.ReadyStream.calls c.args.slots.now

pub loop-place-preserved : goal.loop-place-preserved
loop-place-preserved g c =
    let l = c.loop-place in
    let within : l.place < length l.slots = search rules in
    offers_more g.S.ReadyStream.calls l.place c.args.slots.now l.slots c.index-slots-place.result c.push-moved.new.self within l.invariant c.push-moved.ensures

pub returns : goal.returns
returns g c =
    let l = c.loop-place in
    let most : length c.args.slots.now ≤ l.place = search rules in
    offers_all g.S.ReadyStream.calls c.args.slots.now l.slots l.place most l.invariant
