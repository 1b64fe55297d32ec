use Rattle.std.proofs.Common.{◌≡◌, ◌≤◌, ◌∙◌, ◌+◌, ◌++◌, ℕ, length, vec_len, ap, subst, arith, rules, List, Ok, true}
use Rattle.std.specs.Io.Buffered.{reader_remaining}
use Rattle.audit_wire.specs.Stream.{request_frame}
use Rattle.audit_serve_sockets.specs.declared.limits.TheConstants.{MAX_DIGITS}
use Rattle.audit_wire_ask.specs.Sending.{event_request, event_to_send}
use Rattle.audit_wire_ask.proofs.TakenLines.{line_taken}
use Rattle.audit_wire_ask.proofs.EventLines.{sent_event}
use Rattle.audit_wire_ask.proofs.taking.take_line.Goals as goal

pub returns-clause-taken : goal.returns-clause-taken
returns-clause-taken g c =
    let put = c.in_ok-put_event.ensures.put in
    let line = c.next_line.new.line.items in
    let long : vec_len c.next_line.new.line ≡ length line = search rules in
    let short : length line ≤ MAX_DIGITS = omega (arith, c.if-len-gt-MAX_DIGITS.false, c.len.ensures, long) in
    let there : c.in_ok-next_line.field-0 ≡ true = search rules in
    let event = sent_event c.args.places c.args.form line put.0 (subst (λ (l : List ℕ). event_to_send c.args.places c.args.form l ≡ Ok put.0) c.deref.ensures.value put.1) in
    let earlier : c.in_ok-earlier.earlier ≡ c.args.before + c.args.count = c.in_ok-earlier.ensures.lines.0 in (
      put.0,
      line_taken c.args.form (reader_remaining g.I.Read.remaining c.args.input.now) (reader_remaining g.I.Read.remaining c.next_line.new.reader) line put.0 (c.in_ok-next_line.ensures.read (ap Ok there)) short event,
      put.2 ∙ ap (λ (n : ℕ). c.args.frames.now.items ++ request_frame (event_request c.args.places n put.0)) earlier,
    )
