-- A device that records its calls.
use Rattle.std.specs.Prelude.{ℕ, max, nat_le, List, [], ◌∷◌, map}
use Rattle.std.specs.List.{filter}
use Rattle.audit_disk.specs.Held.{Held, settled, after_write, after_sync}
use Rattle.audit_disk.specs.declared.block.Block.{Block}
use Rattle.audit_disk.specs.declared.call.Call.{Call}
use Rattle.audit_disk.specs.declared.call.Effect.{Effect}
use Rattle.audit_disk.specs.declared.call.Effect.TheVariants.{Write, Sync}

abbrev pub after_call : Effect → List Held → List Held
after_call (Write at block) held = after_write held at block
after_call Sync held = after_sync held

-- the sectors after these calls, in order
abbrev pub after_calls : List Call → List Held → List Held
after_calls [] held = held
after_calls (call ∷ calls) held = after_calls calls (after_call call.effect held)

-- the calls up to a moment
abbrev pub calls_until : ℕ → List Call → List Call
calls_until moment calls = filter (λ (call : Call). nat_le call.moment moment) calls

-- what the sectors held at this moment, starting from synced content
abbrev pub held_at : List Block → List Call → ℕ → List Held
held_at start calls moment = after_calls (calls_until moment calls) (map settled start)

-- the moment of the last call
abbrev pub latest : List Call → ℕ
latest [] = 0
latest (call ∷ calls) = max call.moment (latest calls)
