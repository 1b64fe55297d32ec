use Rattle.audit_serve_ready.proofs.Sending.{sent_then}
use Rattle.audit_serve_ready.proofs.slot.Slot.send.Goals as goal

pub returns : goal.returns
returns g c = sent_then g.S.ReadyStream.calls c.push.result c.args.bytes.items c.args.self.now c.keep.new.self c.push.new.self c.keep.ensures.accounted c.keep.ensures.unread c.keep.ensures.dropped c.keep.ensures.shut c.keep.ensures.noted c.push.ensures
