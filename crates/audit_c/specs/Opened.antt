-- The event of an inclusion proof, opened with the key of its entry's keystream.
use Rattle.std.specs.Prelude.{◌≡◌, ◌⊎◌, ℕ, Option, None, Some, List, length, take}
use Rattle.audit_chain.specs.EventData.{EventData}
use Rattle.audit_proof.specs.declared.commitment.Commitment.{Commitment}
use Rattle.audit_proof.specs.ProofBytes.{Member}
use Rattle.audit_link.specs.OpenedEntry.{IsSoleEntry, ReadsAs}
use Rattle.audit_c.specs.declared.answers.TheConstants.{OK, NOT_ACCEPTED, BAD_PROOF}
use Rattle.audit_c.specs.declared.given_event.GivenEvent.{GivenEvent}
use Rattle.audit_c.specs.Judged.{ProvesEntry}

-- The proof's entry reads as this event under the key.
pub record HasOpened (key : List ℕ) (proof : Member) (said : GivenEvent) (payload : List ℕ) : Type 0 where
  pub event : EventData
  pub reads : ReadsAs key proof.entry event
  pub index : said.index ≡ proof.index
  pub kind : said.kind ≡ event.kind
  pub size : said.size ≡ length event.payload
  pub opened : take said.size payload ≡ event.payload

-- the answer for a proof
abbrev pub IsMemberOpened : List ℕ → Member → Commitment → GivenEvent → List ℕ → ℕ → Type 0
IsMemberOpened key proof commitment said payload answer =
    ((answer ≡ OK) × ProvesEntry proof commitment × HasOpened key proof said payload)
    ⊎ (((answer ≡ NOT_ACCEPTED) × ¬ ProvesEntry proof commitment)
    ⊎ ((answer ≡ BAD_PROOF) × ProvesEntry proof commitment × ¬ IsSoleEntry proof.entry))

-- and for the bytes of one, or of none
abbrev pub IsOpenedAnswer : List ℕ → Option Member → Commitment → GivenEvent → List ℕ → ℕ → Type 0
IsOpenedAnswer key None commitment said payload answer = answer ≡ BAD_PROOF
IsOpenedAnswer key (Some proof) commitment said payload answer = IsMemberOpened key proof commitment said payload answer
