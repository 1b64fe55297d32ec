use Rattle.std.proofs.Common.{◌≡◌, Err, inr, subst, rules}
use Rattle.std.specs.Io.KnownBytes.{Keeps}
use Rattle.audit_serve_sockets.specs.declared.loop_fault.RelayError.TheVariants as relay
use Rattle.audit_serve_sockets.specs.Frames.{AreUnfinished, HasLines}
use Rattle.audit_serve_sockets.proofs.Lines.{lines_kept}
use Rattle.audit_serve_sockets.proofs.Feeding.{replied}
use Rattle.audit_serve_sockets.proofs.Reaching.{output_taken, output_cut_off}
use Rattle.audit_serve_sockets.proofs.looping.reply.Goals as goal

pub returns-clause-done : goal.returns-clause-done
returns-clause-done g c =
    let same : c.deref-2.result.now ≡ c.take_output-output.result.items = search rules in
    let kept : Keeps (g.W.LineOutput.contents c.write_frames.new.writer) (g.W.LineOutput.contents c.flush_text.new.self) = search rules in
    replied c.args.core.now c.flush.new.self c.take_output-output.new.self (g.W.LineOutput.contents c.args.writer.now) (g.W.LineOutput.contents c.flush_text.new.self) c.take_output-output.result.items c.in_default.ensures.did c.take_output-output.ensures.did
    (lines_kept _ _ _ _ (subst (HasLines (g.W.LineOutput.contents c.args.writer.now) (g.W.LineOutput.contents c.write_frames.new.writer)) same c.in_ok-write_frames.ensures.written) kept)

pub returns-in_err-replies-clause-reaches : goal.returns-in_err-replies-clause-reaches
returns-in_err-replies-clause-reaches g c = output_taken c.args.core.now c.flush.new.self c.take_output-output.new.self c.take_output-output.result.items c.in_default.ensures.did c.take_output-output.ensures.did

pub returns-in_err-write_frames-clause-reaches : goal.returns-in_err-write_frames-clause-reaches
returns-in_err-write_frames-clause-reaches g c = output_taken c.args.core.now c.flush.new.self c.take_output-output.new.self c.take_output-output.result.items c.in_default.ensures.did c.take_output-output.ensures.did

pub returns-in_err-flush_text-clause-reaches : goal.returns-in_err-flush_text-clause-reaches
returns-in_err-flush_text-clause-reaches g c = output_taken c.args.core.now c.flush.new.self c.take_output-output.new.self c.take_output-output.result.items c.in_default.ensures.did c.take_output-output.ensures.did

pub returns-clause-reaches : goal.returns-clause-reaches
returns-clause-reaches g c = output_taken c.args.core.now c.flush.new.self c.take_output-output.new.self c.take_output-output.result.items c.in_default.ensures.did c.take_output-output.ensures.did

pub returns-in_err-write_frames-clause-lost : goal.returns-in_err-write_frames-clause-lost
returns-in_err-write_frames-clause-lost g c is =
    let same : c.deref-2.result.now ≡ c.take_output-output.result.items = search rules in
    let lost : c.write_frames.result ≡ Err relay.Connection = search rules in
    inr (output_cut_off c.args.core.now c.flush.new.self c.take_output-output.new.self c.take_output-output.result.items c.in_default.ensures.did c.take_output-output.ensures.did (subst AreUnfinished same (c.write_frames.ensures.cut_off lost)))
