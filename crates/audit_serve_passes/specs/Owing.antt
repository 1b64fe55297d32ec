-- How many bytes of replies a core owes its sessions, and how its calls change that.
use Rattle.std.specs.Prelude.{◌≡◌, ◌⊎◌, ℕ, ◌+◌, ◌≤◌, true, false, None, IfSome, List, ◌∷◌, ◌++◌}
use Rattle.audit_serve_passes.specs.declared.allowance.Demand.{Demand}
use Rattle.audit_serve_passes.specs.declared.allowance.Share.{Share}
use Rattle.audit_serve_passes.specs.declared.allowance.Allowance.{Allowance}
use Rattle.audit_serve_passes.specs.Allowance.{admits}
use Rattle.audit_serve_passes.specs.Core.{CoreModel, RequestKind, appending, asking}

-- What is owed grew by at most a share; or, if nothing had been taken of it, by at most one reply, which may be longer.
abbrev pub GrowsWithin : Share → ℕ → ℕ → ℕ → Type 0
GrowsWithin share longest old new = (new ≤ old + share.left) ⊎ ((share.is_whole ≡ true) × (new ≤ old + longest))

module _ {C : Type 0} (M : CoreModel C) where
  abbrev pub OwesNoMore : C → C → Type 0
  OwesNoMore old new = (k : ℕ) → M.owed new k ≤ M.owed old k

  abbrev pub OwesOthersNoMore : ℕ → C → C → Type 0
  OwesOthersNoMore k old new = (other : ℕ) → (other ≡ k → ⊥) → M.owed new other ≤ M.owed old other

  -- bytes of a session were taken within its share
  pub record OwesWithin (k : ℕ) (share : Share) (old new : C) : Type 0 where
    pub own : GrowsWithin share M.longest (M.owed old k) (M.owed new k)
    pub others : OwesOthersNoMore k old new

  -- a session was ended
  pub record OwesAtEnd (k : ℕ) (old new : C) : Type 0 where
    pub own : M.owed new k ≤ M.owed old k + M.refusal
    pub others : OwesOthersNoMore k old new

  -- Of a session's bytes `fed` was taken. The next request that the piece completes is of this kind.
  pub record IsNextRequest (k : ℕ) (core : C) (fed piece : List ℕ) (kind : RequestKind) : Type 0 where
    pub later : List RequestKind
    pub next : M.requests core k piece ≡ M.requests core k fed ++ kind ∷ later

  -- what taking a request of a kind may queue: an append has no share in what questions may ask for, and a question has
  -- at most the longest reply of its kind
  abbrev pub IsDemandFor : RequestKind → Demand → Type 0
  IsDemandFor appending demand = (demand.reply ≤ M.acknowledgement) × (demand.question ≡ None)
  IsDemandFor (asking reply) demand = (demand.reply ≤ reply) × IfSome demand.question (λ bytes. bytes ≤ reply)

  -- The next request isn't admitted by an allowance.
  pub record IsBeyondAllowance (k : ℕ) (core : C) (fed piece : List ℕ) (allowance : Allowance) : Type 0 where
    pub kind : RequestKind
    pub is : IsNextRequest k core fed piece kind
    pub demand : Demand
    pub most : demand.reply ≤ M.longest
    pub its : IsDemandFor kind demand
    pub over : admits allowance demand ≡ false
