use Rattle.std.proofs.Common.{◌≡◌, ◌+◌, sym, subst, arith, inr, refl, length, rules}
use Rattle.std.proofs.lemmas.Bool.{eqb-true, eqb-false}
use Rattle.audit_text.specs.Lines.{IsCutInLines}
use Rattle.audit_cli_witness.proofs.StateLines.{IsReadUpTo, none_read, one_line_more, all_lines_read, last_read_if}
use Rattle.audit_cli_witness.proofs.BadLines.{bad_line_found, last_faults, not_read}
use Rattle.audit_cli_witness.proofs.state_lines.tail_in.Goals as goal

pub loop-rest-init : goal.loop-rest-init
loop-rest-init c = record { read = rw c.new-kept.ensures.items (none_read c.args.text.now) }

pub loop-rest-preserved : goal.loop-rest-preserved
loop-rest-preserved c =
    let some = eqb-false _ _ (sym c.loop-rest-test.ensures) in
    let cut : IsCutInLines c.loop-rest.rest.now c.split_at_first.result.0.now c.split_at_first.result.1.now = record { first = c.split_at_first.ensures.before; after = c.split_at_first.ensures.after } in
    record {
      read = subst (λ kept. IsReadUpTo c.args.text.now kept c.split_at_first.result.1.now) (sym c.in_ok-push.ensures.items)
          (one_line_more c.args.text.now c.loop-rest.kept.items c.in-Some.commitment c.loop-rest.rest.now c.split_at_first.result.0.now c.split_at_first.result.1.now c.loop-rest.invariant.read (omega (arith, some)) cut c.if-line-rest.false (sym c.in-Some.ensures));
    }

pub returns-then-line-rest-clause-read : goal.returns-then-line-rest-clause-read
returns-then-line-rest-clause-read c =
    let some = eqb-false _ _ (sym c.loop-rest-test.ensures) in
    let cut : IsCutInLines c.loop-rest.rest.now c.split_at_first.result.0.now c.split_at_first.result.1.now = record { first = c.split_at_first.ensures.before; after = c.split_at_first.ensures.after } in
    last_read_if c.args.text.now c.loop-rest.kept.items c.loop-rest.rest.now c.split_at_first.result.0.now c.split_at_first.result.1.now c.last_in.result c.loop-rest.invariant.read (omega (arith, some)) cut c.if-line-rest.true c.last_in.ensures.read

pub returns-clause-read : goal.returns-clause-read
returns-clause-read c = all_lines_read c.args.text.now c.loop-rest.kept.items c.loop-rest.rest.now c.loop-rest.invariant.read (eqb-true _ _ (sym c.loop-rest-test.ensures))

pub returns-then-line-rest-clause-bad : goal.returns-then-line-rest-clause-bad
returns-then-line-rest-clause-bad c =
    let some = eqb-false _ _ (sym c.loop-rest-test.ensures) in
    let cut : IsCutInLines c.loop-rest.rest.now c.split_at_first.result.0.now c.split_at_first.result.1.now = record { first = c.split_at_first.ensures.before; after = c.split_at_first.ensures.after } in
    last_faults c.args.text.now c.loop-rest.kept.items c.loop-rest.rest.now c.split_at_first.result.0.now c.split_at_first.result.1.now c.last_in.result c.loop-rest.invariant.read (omega (arith, some)) cut c.if-line-rest.true c.last_in.ensures.bad

pub returns-in_default-clause-bad : goal.returns-in_default-clause-bad
returns-in_default-clause-bad c =
    let some = eqb-false _ _ (sym c.loop-rest-test.ensures) in
    let cut : IsCutInLines c.loop-rest.rest.now c.split_at_first.result.0.now c.split_at_first.result.1.now = record { first = c.split_at_first.ensures.before; after = c.split_at_first.ensures.after } in
    let size : c.len.result ≡ length c.loop-rest.kept.items = search rules in
    rw size (inr (length c.loop-rest.kept.items + 1, refl, bad_line_found c.args.text.now c.loop-rest.kept.items c.loop-rest.rest.now c.split_at_first.result.0.now c.split_at_first.result.1.now c.loop-rest.invariant.read (omega (arith, some)) cut c.if-line-rest.false (not_read _ _ c.commitment_in_word.ensures c.in_default.not-Some)))
