-- Laws of recorded calls.
use Rattle.std.specs.Prelude.{◌≡◌, ℕ, ◌≤◌, cond, List, [], ◌∷◌, length, refl}
use Rattle.std.proofs.Common.{◌∙◌, ap, arith}
use Rattle.std.proofs.lemmas.Bool.{le-leb}
use Rattle.audit_disk.specs.Held.{Held}
use Rattle.audit_disk.specs.HeldLaws.{length-after_write, length-after_sync}
use Rattle.audit_disk.specs.declared.call.Call.{Call}
use Rattle.audit_disk.specs.declared.call.Effect.{Effect}
use Rattle.audit_disk.specs.declared.call.Effect.TheVariants.{Write, Sync}
use Rattle.audit_disk.specs.Memory.{after_call, after_calls, calls_until, latest}

-- if no call is later than a moment, the calls up to the moment are all calls
pub calls_until_all : (calls : List Call) (moment : ℕ) → latest calls ≤ moment → calls_until moment calls ≡ calls
calls_until_all [] moment le = refl
calls_until_all (call ∷ calls) moment le =
    ap (λ b. cond b (call ∷ calls_until moment calls) (calls_until moment calls))
    (le-leb call.moment moment (omega arith))
    ∙ ap (λ (rest : List Call). call ∷ rest) (calls_until_all calls moment (omega arith))

pub length-after_call : (effect : Effect) (held : List Held) → length (after_call effect held) ≡ length held
length-after_call (Write at block) held = length-after_write held at block
length-after_call Sync held = length-after_sync held

pub length-after_calls : (calls : List Call) (held : List Held) → length (after_calls calls held) ≡ length held
length-after_calls [] held = refl
length-after_calls (call ∷ calls) held = length-after_calls calls (after_call call.effect held)
    ∙ length-after_call call.effect held
