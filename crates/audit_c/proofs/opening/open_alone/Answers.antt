use Rattle.std.proofs.Common.{rules, arith, length, take, refl, ap, ◌≡◌, ◌≤◌, ◌∙◌}
use Rattle.audit_chain.specs.Keystream.{keystream, xor_bytes}
use Rattle.audit_c.proofs.Alone.{begins_with, as_long, whole, event_with}
use Rattle.audit_c.proofs.opening.open_alone.Goals as goal

pub returns-in_default : goal.returns-in_default
returns-in_default c = (λ sole. let e = c.read_entry.ensures.only sole.0 (begins_with c.args.entry.now sole.0 sole.1) in absurd (grind arith), refl)

pub returns-then-size-entry : goal.returns-then-size-entry
returns-then-size-entry c = (
  λ sole.
      let same : c.size.result ≡ length c.args.entry.now =
      c.size.ensures.size ∙ as_long c.args.entry.now c.in-Ok.view sole.0 c.read_entry.result (search rules) (c.read_entry.ensures.only sole.0 (begins_with c.args.entry.now sole.0 sole.1)) sole.1 in
      absurd (grind (arith, same, c.if-size-entry.true)),
  refl,
)

pub returns : goal.returns
returns c =
    let view = c.in-Ok.view in
    let key = c.args.key.now in
    let payload = c.decrypt-size.new.payload in
    let within : c.decrypt-size.result ≤ length payload =
    omega (arith, c.decrypt-size.ensures.size, c.decrypt-size.ensures.long, c.cipher.ensures.parts.within, ap length c.cipher.ensures.cipher, c.requires) in
    let long : c.size.result ≡ length c.args.entry.now = omega (arith, c.if-size-entry.false) in
    let event = ap (λ kind. event_with kind (take c.decrypt-size.result payload)) c.kind-kind.ensures.kind
    ∙ ap (event_with view.kind) (c.decrypt-size.ensures.opened ∙ ap (λ cipher. xor_bytes cipher (keystream key (length cipher))) c.cipher.ensures.cipher) in
    (within, (view, whole c.args.entry.now view c.size.result c.in-Ok.ensures.found c.size.ensures.size long, event))
