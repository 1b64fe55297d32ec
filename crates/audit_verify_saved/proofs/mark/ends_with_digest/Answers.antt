use Rattle.std.proofs.Common.{◌≡◌, ◌∙◌, ◌++◌, ◌-◌, [], length, take, sym, ap, append-nil}
use Rattle.std.specs.Prelude.{codes}
use Rattle.hex.specs.Hex.{encode_lower}
use Rattle.sha2.specs.Sha256.{sha256}
use Rattle.audit_text.specs.Fields.{field_line}
use Rattle.audit_verify_saved.proofs.Parts.{digest_line}
use Rattle.audit_verify_saved.proofs.mark.ends_with_digest.Goals as goal

pub returns-in-Some : goal.returns-in-Some
returns-in-Some c =
    let line = field_line (codes "sha256") c.digits_of-digits.result in
    let same : line ≡ digest_line (take (length c.args.text.now - length c.args.rest.now) c.args.text.now) = ap (λ d. field_line (codes "sha256") d) (c.digits_of-digits.ensures ∙ ap encode_lower c.digest_before-digest.ensures) in (
      λ empty. (rw c.in-Some.is at c.after_line.ensures.found) ∙ ap (λ t. line ++ t) (c.is_none.ensures.0 empty) ∙ append-nil line ∙ same,
      λ is. c.is_none.ensures.1 (rw c.in-Some.is at (c.after_line.ensures.only [] (is ∙ sym same ∙ sym (append-nil line)))),
    )

pub returns-in-None : goal.returns-in-None
returns-in-None c =
    let line = field_line (codes "sha256") c.digits_of-digits.result in
    let same : line ≡ digest_line (take (length c.args.text.now - length c.args.rest.now) c.args.text.now) = ap (λ d. field_line (codes "sha256") d) (c.digits_of-digits.ensures ∙ ap encode_lower c.digest_before-digest.ensures) in (
      λ impossible. absurd (let h = impossible in cc),
      λ is. absurd (rw c.in-None.is at (c.after_line.ensures.only [] (is ∙ sym same ∙ sym (append-nil line)))),
    )
