use Rattle.std.proofs.Common.{◌≡◌, ◌+◌, ℕ, ap, subst, arith, rules, Ok, None, true, false}
use Rattle.std.specs.Io.Buffered.{reader_remaining}
use Rattle.audit_wire_ask.specs.Sending.{TakesNext, TakesRound}
use Rattle.audit_wire_ask.proofs.TakenLines.{round_more, round_end, round_fault, taken_more}
use Rattle.audit_wire_ask.proofs.taking.take_lines.Goals as goal

pub returns-then-not-is_at_hand-clause-taken : goal.returns-then-not-is_at_hand-clause-taken
returns-then-not-is_at_hand-clause-taken g c = round_more c.loop-count.invariant.taken

pub returns-in-Ok-false-clause-taken : goal.returns-in-Ok-false-clause-taken
returns-in-Ok-false-clause-taken g c =
    let is : c.in-Ok-false.field-0 ≡ false = search rules in
    round_end c.loop-count.invariant.taken
    (subst (TakesNext c.args.places c.args.form (reader_remaining g.I.Read.remaining c.loop-count.input) (reader_remaining g.I.Read.remaining c.take_line.new.input) (c.args.before + c.loop-count.count) c.loop-count.frames.items c.take_line.new.frames.items) is
    c.in-Ok-false.ensures.taken)

pub returns-in-Err-clause-taken : goal.returns-in-Err-clause-taken
returns-in-Err-clause-taken g c = round_fault (reader_remaining g.I.Read.remaining c.take_line.new.input) c.in-Err.error c.loop-count.invariant.taken c.in-Err.ensures.kept c.in-Err.ensures.fault

pub loop-count-preserved : goal.loop-count-preserved
loop-count-preserved g c =
    let is : c.in-Ok-true.field-0 ≡ true = search rules in
    record {
      taken = taken_more c.loop-count.invariant.taken
          (subst (TakesNext c.args.places c.args.form (reader_remaining g.I.Read.remaining c.loop-count.input) (reader_remaining g.I.Read.remaining c.take_line.new.input) (c.args.before + c.loop-count.count) c.loop-count.frames.items c.take_line.new.frames.items) is
          c.in-Ok-true.ensures.taken);
      fits = omega (arith, c.in-Ok-true.ensures.fits (ap Ok is));
    }

pub returns-clause-taken : goal.returns-clause-taken
returns-clause-taken g c =
    let whole : c.loop-count.count ≡ c.args.window = omega (arith, c.loop-count-test.false, c.loop-count.auto.count-end) in
    subst (λ (n : ℕ). TakesRound c.args.places c.args.form (reader_remaining g.I.Read.remaining c.args.input.now) (reader_remaining g.I.Read.remaining c.loop-count.input) c.args.before c.loop-count.frames.items (record { count = n; more = true; error = None })) whole
    (round_more c.loop-count.invariant.taken)
