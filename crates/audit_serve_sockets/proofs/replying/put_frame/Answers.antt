use Rattle.std.proofs.Common.{◌≡◌, ◌∙◌, ℕ, List, ◌++◌, length, codes, ap, sym, arith, Result, Ok, Err, OnOk, is_ok, if◌then◌else◌}
use Rattle.std.specs.Int.{w16, to_be_bytes}
use Rattle.hex.specs.Hex.{encode_lower}
use Rattle.audit_serve_sockets.proofs.Lines.{hex_of_both}
use Rattle.audit_serve_sockets.proofs.replying.put_frame.Goals as goal

when_added : {E : Type 0} (added : Result (Unit {0}) E) (now line old wanted : List ℕ) → now ≡ if is_ok added then line else old
    → line ≡ wanted → OnOk added (now ≡ wanted)
when_added (Ok done) now line old wanted items same = items ∙ same
when_added (Err error) now line old wanted items same = tt

pub returns : goal.returns
returns c =
    let body = c.args.body.now in
    let size = c.to_be_bytes.ensures ∙ ap (to_be_bytes w16) (omega (arith, c.requires)) in
    let both = c.in_ok-push_hex-2.ensures ∙ ap (λ l. l ++ encode_lower body) (c.in_ok-push_hex.ensures
    ∙ ap (λ l. l ++ encode_lower c.to_be_bytes.result) c.clear.ensures.items ∙ ap encode_lower size)
    ∙ sym (hex_of_both (to_be_bytes w16 (length body)) body) in
    when_added c.extend_from_slice.result _ _ _ _ c.extend_from_slice.ensures.items (ap (λ l. l ++ codes "\n") both)
