-- The result of checking the link in a file against the commitments of two logs.
use denote.Ref.{Bor}
use Rattle.std.specs.Prelude.{◌≡◌, ◌≢◌, ◌⊎◌, ℕ, Option, Some, None, Result, Ok, Err, List, IfSome, codes}
use Rattle.std.specs.Io.KnownBytes.{Appends, Keeps}
use Rattle.audit_disk.specs.FileFacts.{FileFacts}
use Rattle.audit_text.specs.Writing.{WritesInPart}
use Rattle.audit_text.specs.declared.fault.LinesError.TheVariants as lines
use Rattle.audit_proof.specs.declared.commitment.Commitment.{Commitment}
use Rattle.audit_cli_offline.specs.CommitmentWord.{commitment_in_word}
use Rattle.audit_link.specs.Links.{LinkData}
use Rattle.audit_link.specs.LinkBytes.{SpellsLink}
use Rattle.audit_link.specs.Accepted.{IsLinkJudgment}
use Rattle.audit_link.specs.declared.checking.LinkJudgment.{LinkJudgment}
use Rattle.audit_link.specs.declared.checking.LinkJudgment.TheVariants.{Accepted, OldHalf, NewHalf}
use Rattle.audit_store.specs.declared.store_error.StoreError.TheVariants as store
use Rattle.audit_cli_base.specs.declared.fault.CommandError.{CommandError}
use Rattle.audit_cli_base.specs.declared.fault.CommandError.TheVariants.{Lines, Refused, BadProof, NotAccepted}
use Rattle.audit_cli_store.specs.declared.link_checking.LinkCheck.{LinkCheck}

-- a word isn't a commitment, or the second one is missing
abbrev pub LacksSecond : Option (Bor (List ℕ)) → Type 0
LacksSecond None = Unit {0}
LacksSecond (Some word) = commitment_in_word word.now ≡ None

abbrev pub LacksCommitment : LinkCheck → Type 0
LacksCommitment asked = (commitment_in_word asked.old.now ≡ None) ⊎ LacksSecond asked.new

-- the commitment in the second word
abbrev pub IsSecond : Option (Bor (List ℕ)) → Commitment → Type 0
IsSecond None commitment = ⊥
IsSecond (Some word) commitment = commitment_in_word word.now ≡ Some commitment

-- why no link was read
abbrev pub IsUnreadFile : CommandError → List ℕ → Type 0
IsUnreadFile BadProof bytes = (link : LinkData) → SpellsLink bytes link → ⊥
IsUnreadFile (Lines cause) bytes = (cause ≡ lines.Read) ⊎ (cause ≡ lines.Memory)
IsUnreadFile (Refused error) bytes = error ≡ store.Memory
IsUnreadFile _ bytes = ⊥

-- the line of a judgment
abbrev pub link_line : LinkJudgment → List ℕ
link_line Accepted = codes "accepted\n"
link_line OldHalf = codes "not accepted: old half\n"
link_line NewHalf = codes "not accepted: new half\n"

-- the result of writing the line of a judgment
abbrev pub WritesLinkLine : LinkJudgment → Result Unit CommandError → Option (List ℕ) → Option (List ℕ) → Type 0
WritesLinkLine judgment (Ok _) before after = (judgment ≡ Accepted) × Appends before after (link_line judgment)
WritesLinkLine judgment (Err NotAccepted) before after = (judgment ≢ Accepted) × Appends before after (link_line judgment)
WritesLinkLine judgment (Err (Lines lines.Write)) before after = WritesInPart before after (link_line judgment)
WritesLinkLine judgment _ before after = ⊥

-- the bytes are a link, which is judged so
pub record IsJudgedLink (bytes : List ℕ) (old new : Commitment) (judgment : LinkJudgment) : Type 0 where
  pub link : LinkData
  pub spells : SpellsLink bytes link
  pub judged : IsLinkJudgment old new link judgment

-- what the result of a check states about the bytes, and what was written
abbrev pub IsLinkChecked : Result Unit CommandError → List ℕ → Commitment → Commitment → Option (List ℕ)
    → Option (List ℕ) → Type 0
IsLinkChecked (Ok _) bytes old new before after = IsJudgedLink bytes old new Accepted
    × Appends before after (link_line Accepted)
IsLinkChecked (Err NotAccepted) bytes old new before after = (judgment : LinkJudgment) × (judgment ≢ Accepted)
    × IsJudgedLink bytes old new judgment × Appends before after (link_line judgment)
IsLinkChecked (Err BadProof) bytes old new before after = ((link : LinkData) → SpellsLink bytes link → ⊥)
    × Keeps before after
IsLinkChecked (Err (Lines lines.Read)) bytes old new before after = Keeps before after
IsLinkChecked (Err (Lines lines.Memory)) bytes old new before after = Keeps before after
IsLinkChecked (Err (Lines lines.Write)) bytes old new before after = (judgment : LinkJudgment)
    × IsJudgedLink bytes old new judgment × WritesInPart before after (link_line judgment)
IsLinkChecked (Err (Refused error)) bytes old new before after = (error ≡ store.Memory) × Keeps before after
IsLinkChecked _ bytes old new before after = ⊥

module _ {F : Type 0} (facts : F → FileFacts) (remaining : F → Option (List ℕ)) where
  -- the link in a file that was opened at the named path, to read, is accepted under the commitments, and the line was
  -- written
  pub record ChecksLinkAt (asked : LinkCheck) (before after : Option (List ℕ)) : Type 0 where
    pub file : F
    pub opened : (facts file).opened_to_read asked.link.now
    pub old : Commitment
    pub old_is : commitment_in_word asked.old.now ≡ Some old
    pub new : Commitment
    pub new_is : IsSecond asked.new new
    pub written : IfSome (remaining file) (λ bytes. IsJudgedLink bytes old new Accepted
        × Appends before after (link_line Accepted))
