-- The answer to the question for the state of a store, and when each error of it comes.
use Rattle.std.specs.Prelude.{◌≡◌, ℕ, Option, List, [], ◌∷◌}
use Rattle.audit_wire.specs.declared.request.Request.TheVariants as request
use Rattle.audit_wire.specs.declared.reply.Reply.{Reply}
use Rattle.audit_wire.specs.declared.reply.Reply.TheVariants as reply
use Rattle.audit_wire_ask.specs.declared.asking.TheConstants.{ASKED_TAG}
use Rattle.audit_wire_ask.specs.declared.fault.ClientError.{ClientError}
use Rattle.audit_wire_ask.specs.declared.store_state.StoreState.{StoreState}
use Rattle.audit_wire_ask.specs.Failing.{HasNoAnswer}

abbrev pub state_reply : StoreState → Reply
state_reply state = reply.State ASKED_TAG state.commitment.count state.commitment.root state.end state.sectors
    state.generation state.version state.closed

abbrev pub IsStateReply : Reply → Type 0
IsStateReply given = (state : StoreState) × (given ≡ state_reply state)

-- the state was asked for, and there was no answer, or another
abbrev pub FailsState : Option (List ℕ) → Option (List ℕ) → Option (List ℕ) → Option (List ℕ) → ClientError → Type 0
FailsState written_old written_new read_old read_new error =
    HasNoAnswer written_old written_new read_old read_new (request.State ASKED_TAG ∷ []) [] ASKED_TAG IsStateReply error
