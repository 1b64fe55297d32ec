use Rattle.std.specs.Prelude.{is_some}
use Rattle.std.specs.List.{after_first}
use Rattle.std.proofs.Common.{◌≡◌, ◌∙◌, ◌-◌, ◌++◌, [], ◌∷◌, ap, length, length-append, append_assoc, arith}
use Rattle.audit_cli_offline.specs.CommitmentWord.{is_colon}
use Rattle.audit_cli_witness.specs.State.{with_colon}
use Rattle.audit_cli_witness.proofs.TornLines.{zeros_torn, torn_zeros, more_zeros}
use Rattle.audit_cli_witness.proofs.state_lines.is_torn.Goals as goal

pub loop-digits-preserved : goal.loop-digits-preserved
loop-digits-preserved c =
    let so_far = c.loop-digits.invariant in
    let long = length-append so_far.0 (48 ∷ []) in (
      so_far.0 ++ 48 ∷ [],
      c.in_ok-push.ensures.items ∙ ap (λ l. l ++ 48 ∷ []) so_far.1 ∙ append_assoc (with_colon c.args.part.now) so_far.0 (48 ∷ []),
      more_zeros so_far.0 so_far.2,
      omega (arith, so_far.3, long),
      omega (arith, so_far.3, long, c.loop-digits-test.true),
    )

pub returns-clause-torn : goal.returns-clause-torn
returns-clause-torn c =
    let zeros = c.loop-digits.invariant in
    zeros_torn c.args.part.now zeros.0 c.deref.result.now c.is_some.result (c.deref.ensures.value ∙ zeros.1) (c.is_some.ensures ∙ ap (λ o. is_some o) c.commitment_in_word.ensures)

pub returns-clause-other : goal.returns-clause-other
returns-clause-other c =
    let zeros = c.loop-digits.invariant in
    let long : length zeros.0 ≡ 64 - length (after_first is_colon c.args.part.now) = omega (arith, zeros.3, zeros.4, c.loop-digits-test.false) in
    torn_zeros c.args.part.now zeros.0 c.deref.result.now c.is_some.result (c.deref.ensures.value ∙ zeros.1) (c.is_some.ensures ∙ ap (λ o. is_some o) c.commitment_in_word.ensures) zeros.2 long
