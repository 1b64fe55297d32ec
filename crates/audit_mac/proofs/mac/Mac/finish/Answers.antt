use Rattle.std.proofs.Common.{◌∙◌, ap, ◌++◌}
use Rattle.sha2.specs.Sha256.{sha256}
use Rattle.audit_mac.specs.Hmac.{hmac, masked_key}
use Rattle.audit_mac.proofs.mac.Mac.finish.Goals as goal

pub returns : goal.returns
unfolding hmac
returns c = λ key text taken.
    let digest = c.as_slice.ensures ∙ c.finalize-digest.ensures _ taken.inside in
    c.finalize.ensures _ (c.update.ensures _ taken.outside)
    ∙ ap (λ inner. sha256 (masked_key key 0x5c ++ inner)) digest
