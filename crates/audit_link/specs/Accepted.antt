-- What a link shows to a witness that holds the two commitments, and has no key.
use Rattle.std.specs.Prelude.{◌≡◌, ◌≢◌, ◌-◌, List, Option, Some, None}
use Rattle.sha2.specs.Sha256.{sha256}
use Rattle.audit_chain.specs.EventData.{EventData}
use Rattle.audit_proof.specs.Acceptance.{AcceptsMembership, commitment_to}
use Rattle.audit_proof.specs.declared.commitment.Commitment.{Commitment}
use Rattle.audit_link.specs.declared.checking.LinkJudgment.{LinkJudgment}
use Rattle.audit_link.specs.declared.checking.LinkJudgment.TheVariants.{Accepted, OldHalf, NewHalf}
use Rattle.audit_link.specs.declared.kind_count.KindCount.{KindCount}
use Rattle.audit_link.specs.Counts.{AreCounts}
use Rattle.audit_link.specs.OpenedEntry.{ReadsAs}
use Rattle.audit_link.specs.Links.{LinkData, Keyed, closing_bytes, entries_in, commitment_event, counts_event}

-- the last entry under the old commitment is a closing one
abbrev pub AcceptsOldHalf : Commitment → LinkData → Type 0
AcceptsOldHalf old link = AcceptsMembership sha256 old (old.count - 1) (closing_bytes link.last) link.hashes

-- an entry of a link reads as this event under its key
abbrev pub SaysEvent : Keyed → EventData → Type 0
SaysEvent keyed event = ReadsAs keyed.key keyed.entry event

-- The new commitment is that of two entries, which read as the old log's last commitment and as these numbers.
pub record SaysCounts (old new : Commitment) (link : LinkData) (counts : List KindCount) : Type 0 where
  pub commitment : new ≡ commitment_to (entries_in link)
  pub first : SaysEvent link.first (commitment_event old)
  pub counts_are : AreCounts counts
  pub second : SaysEvent link.second (counts_event counts)

abbrev pub AcceptsNewHalf : Commitment → Commitment → LinkData → Type 0
AcceptsNewHalf old new link = (counts : List KindCount) × SaysCounts old new link counts

-- both halves are so
pub record AcceptsLink (old new : Commitment) (link : LinkData) : Type 0 where
  pub old_half : AcceptsOldHalf old link
  pub new_half : AcceptsNewHalf old new link

-- accepted; or the first half that isn't so
abbrev pub IsLinkJudgment : Commitment → Commitment → LinkData → LinkJudgment → Type 0
IsLinkJudgment old new link Accepted = AcceptsLink old new link
IsLinkJudgment old new link OldHalf = ¬ (AcceptsOldHalf old link)
IsLinkJudgment old new link NewHalf = AcceptsOldHalf old link × ¬ (AcceptsNewHalf old new link)

-- the numbers that an entry of a link reads as, if it does
abbrev pub AreCountsOf : Keyed → Option (List KindCount) → Type 0
AreCountsOf keyed (Some counts) = AreCounts counts × SaysEvent keyed (counts_event counts)
AreCountsOf keyed None = (counts : List KindCount) → AreCounts counts → SaysEvent keyed (counts_event counts) → ⊥

-- one entry reads as two events, under two keys
pub record ShowTwoTexts (one other : Keyed) (event another : EventData) : Type 0 where
  pub same_entry : one.entry ≡ other.entry
  pub other_key : one.key ≢ other.key
  pub one_says : SaysEvent one event
  pub other_says : SaysEvent other another
  pub other_event : event ≢ another
