use Rattle.std.proofs.Common.{◌∙◌}
use Rattle.audit_serve_sockets.proofs.Lines.{nothing_written, line_more}
use Rattle.audit_serve_sockets.proofs.replying.write_frames.Goals as goal

pub loop-rest-init : goal.loop-rest-init
loop-rest-init g c = nothing_written _ _

pub loop-rest-preserved : goal.loop-rest-preserved
loop-rest-preserved g c =
    line_more _ _ _ _ _ _ _ c.deref.result.now c.loop-rest.invariant c.in-Some.ensures.found c.in-Some.ensures.size (c.deref.ensures.value ∙ c.in_ok-put_frame.ensures) c.in_ok-write_text.ensures.written
