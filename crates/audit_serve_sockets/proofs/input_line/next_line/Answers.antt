use Rattle.std.proofs.Common.{◌≡◌, ◌<◌, length, vec_len, sym, ap, ◌∙◌, subst, arith, rules, Some}
use Rattle.audit_serve_sockets.specs.declared.limits.TheConstants.{MAX_DIGITS}
use Rattle.audit_serve_sockets.specs.Input.{TakesByte}
use Rattle.audit_serve_sockets.proofs.Inputs.{HasTaken, one_taken, feed_taken, end_of_line, long_line, some_when}
use Rattle.audit_serve_sockets.proofs.input_line.next_line.Goals as goal

pub returns-in-None-clause-read : goal.returns-in-None-clause-read
returns-in-None-clause-read g c = λ is.
    let long : vec_len c.loop.line ≡ length c.loop.line.items = search rules in
    let some : 0 < vec_len c.loop.line = some_when c.is_empty.result (vec_len c.loop.line) c.is_empty.ensures (cc is) in
    end_of_line (g.R.LineInput.remaining c.args.reader.now) (g.R.LineInput.remaining c.loop.reader) (g.R.LineInput.remaining c.next_byte.new.self) c.loop.line.items c.loop.invariant.taken
    (subst (TakesByte (g.R.LineInput.remaining c.loop.reader) (g.R.LineInput.remaining c.next_byte.new.self)) c.in-None.is c.in_ok-next_byte.ensures.taken) (omega (arith, some, long))

pub returns-in-Some-eq10-clause-read : goal.returns-in-Some-eq10-clause-read
returns-in-Some-eq10-clause-read g c = λ is.
    let feed : c.in-Some-eq10.field-0 ≡ 10 = search rules in
    feed_taken (g.R.LineInput.remaining c.args.reader.now) (g.R.LineInput.remaining c.loop.reader) (g.R.LineInput.remaining c.next_byte.new.self) c.loop.line.items c.loop.invariant.taken
    (subst (TakesByte (g.R.LineInput.remaining c.loop.reader) (g.R.LineInput.remaining c.next_byte.new.self)) (c.in-Some-eq10.is ∙ ap Some feed) c.in_ok-next_byte.ensures.taken)

pub loop-preserved : goal.loop-preserved
loop-preserved g c =
    let old = g.R.LineInput.remaining c.args.reader.now in
    let next = g.R.LineInput.remaining c.next_byte.new.self in
    let feed : c.in-Some.byte ≡ 10 → ⊥ = search rules in
    record {
      taken = subst (HasTaken old next) (sym c.in_ok-push-in-Some.ensures.items)
          (one_taken old (g.R.LineInput.remaining c.loop.reader) next c.loop.line.items c.in-Some.byte c.loop.invariant.taken
          (subst (TakesByte (g.R.LineInput.remaining c.loop.reader) next) c.in-Some.is c.in_ok-next_byte.ensures.taken) feed);
      counted = search rules;
    }

pub returns-clause-read : goal.returns-clause-read
returns-clause-read g c = λ is.
    let long : MAX_DIGITS < length c.loop.line.items = search rules in
    long_line (g.R.LineInput.remaining c.args.reader.now) (g.R.LineInput.remaining c.loop.reader) c.loop.line.items c.loop.invariant.taken long
