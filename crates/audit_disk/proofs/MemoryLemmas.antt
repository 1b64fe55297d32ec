-- The calls of a device that records them.
use Rattle.std.proofs.Common.{◌≡◌, ℕ, ◌+◌, ◌≤◌, max, nat_le, cond, List, [], ◌∷◌, ◌++◌, map, refl, sym, ◌∙◌, ap, arith}
use Rattle.std.specs.List.{filter}
use Rattle.std.proofs.lemmas.Bool.{lt-leb}
use Rattle.std.proofs.lemmas.List.{append-nil}
use Rattle.std.proofs.lemmas.List.Elements.{filter-append}
use Rattle.audit_disk.specs.Held.{Held, settled}
use Rattle.audit_disk.specs.Memory.{after_call, after_calls, held_at, latest}
use Rattle.audit_disk.specs.MemoryLaws.{calls_until_all}
use Rattle.audit_disk.specs.declared.block.Block.{Block}
use Rattle.audit_disk.specs.declared.call.Call.{Call}

pub latest-push : (calls : List Call) (call : Call) → latest (calls ++ call ∷ []) ≡ max (latest calls) call.moment
latest-push [] call = omega arith
latest-push (first ∷ calls) call = omega (arith, latest-push calls call)

pub after_calls-append : (calls later : List Call) (held : List Held) → after_calls (calls ++ later) held ≡ after_calls later (after_calls calls held)
after_calls-append [] later held = refl
after_calls-append (call ∷ calls) later held = after_calls-append calls later (after_call call.effect held)

-- what an honest device records of its past, and one more call
module _ (start : List Block) (calls : List Call) (clock : ℕ) (stamped : latest calls ≤ clock) where
  -- up to now these are all the calls
  pub held_now : held_at start calls clock ≡ after_calls calls (map settled start)
  held_now = ap (λ (all : List Call). after_calls all (map settled start)) (calls_until_all calls clock stamped)

  -- a call that has failed leaves what is held
  pub held_same : (later : ℕ) → clock ≤ later → held_at start calls later ≡ held_at start calls clock
  held_same later le = ap (λ (all : List Call). after_calls all (map settled start)) (calls_until_all calls later (omega arith)) ∙ sym held_now

  module _ (call : Call) (next : call.moment ≡ clock + 1) where
    -- what was held at an earlier moment stays
    pub held_before : (moment : ℕ) → moment ≤ clock → held_at start (calls ++ call ∷ []) moment ≡ held_at start calls moment
    held_before moment le =
        let p = λ (it : Call). nat_le it.moment moment in
        ap (λ (all : List Call). after_calls all (map settled start))
        (filter-append p calls (call ∷ [])
        ∙ ap (λ b. filter p calls ++ cond b (call ∷ []) []) (lt-leb call.moment moment (omega arith))
        ∙ append-nil (filter p calls))

    pub held_next : held_at start (calls ++ call ∷ []) (clock + 1) ≡ after_call call.effect (held_at start calls clock)
    held_next =
        ap (λ (all : List Call). after_calls all (map settled start)) (calls_until_all (calls ++ call ∷ []) (clock + 1) (omega (arith, latest-push calls call)))
        ∙ after_calls-append calls (call ∷ []) (map settled start)
        ∙ ap (λ (held : List Held). after_call call.effect held) (sym held_now)
