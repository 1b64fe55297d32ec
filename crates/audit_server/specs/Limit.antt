-- What limits the requests that a piece brings into the queue.
use Rattle.std.specs.Prelude.{◌≡◌, ℕ, ◌≤◌, Bool, true, false, List, [], ◌∷◌, Option, Some, None}
use Rattle.audit_server_commit.specs.Arrivals.{Arrival, an_append, a_question}
use Rattle.audit_server_commit.specs.LongestReplies.{longest_answer, longest_reply}
use Rattle.audit_serve_passes.specs.declared.allowance.Demand.{Demand}
use Rattle.audit_serve_passes.specs.declared.allowance.Allowance.{Allowance}
use Rattle.audit_serve_passes.specs.Allowance.{admits, spent}
use Rattle.audit_server.specs.declared.limit.Limit.{Limit}
use Rattle.audit_server.specs.declared.limit.Limit.TheVariants as limit

abbrev pub limit_admits : Limit → Demand → Bool
limit_admits limit.Unlimited demand = true
limit_admits (limit.Within allowance) demand = admits allowance demand

abbrev pub limit_after : Demand → Limit → Limit
limit_after demand limit.Unlimited = limit.Unlimited
limit_after demand (limit.Within allowance) = limit.Within (spent demand allowance)

abbrev pub allowance_left : Allowance → Limit → Allowance
allowance_left allowance limit.Unlimited = allowance
allowance_left allowance (limit.Within left) = left

-- An append has no price. The price of a question is at most its longest reply.
abbrev pub IsPriceOf : Arrival → Option ℕ → Type 0
IsPriceOf (an_append append) price = price ≡ None
IsPriceOf (a_question question) (Some price) = price ≤ longest_answer question.query
IsPriceOf (a_question question) None = ⊥

pub record IsDemandOf (arrival : Arrival) (demand : Demand) : Type 0 where
  pub reply : demand.reply ≡ longest_reply arrival
  pub price : IsPriceOf arrival demand.question

-- an arrival that a limit doesn't admit
pub record IsNotAdmitted (arrival : Arrival) (limit : Limit) : Type 0 where
  pub demand : Demand
  pub its : IsDemandOf arrival demand
  pub over : limit_admits limit demand ≡ false

-- these arrivals were taken in order, each within what those before it had left
abbrev pub AreAdmitted : List Arrival → Limit → Limit → Type 0
AreAdmitted [] old new = new ≡ old
AreAdmitted (arrival ∷ arrivals) old new = (demand : Demand) × IsDemandOf arrival demand
    × (limit_admits old demand ≡ true) × AreAdmitted arrivals (limit_after demand old) new
