-- What becomes of two stores, of which the second was prepared.
use denote.Ref.{Bor}
use Rattle.std.specs.Prelude.{◌≡◌, ◌⊎◌, ◌-◌, ℕ, ◌<◌, true, false, Option, Some, None, Result, Ok, Err, List, [], ◌++◌}
use Rattle.std.specs.Prelude.{codes, take, drop}
use Rattle.std.specs.Io.KnownBytes.{Appends, Keeps}
use Rattle.audit_disk_model.specs.declared.sectors.Sectors as sectors
use Rattle.audit_disk.specs.FileFacts.{FileFacts}
use Rattle.audit_proof.specs.declared.commitment.Commitment.{Commitment}
use Rattle.audit_log.specs.declared.header.Header.{Header}
use Rattle.audit_link.specs.Accepted.{AcceptsLink, AreCountsOf}
use Rattle.audit_link.specs.Counts.{added_all}
use Rattle.audit_link.specs.LinkBytes.{link_bytes}
use Rattle.audit_link.specs.Links.{LinkData, link_in}
use Rattle.audit_link.specs.declared.kind_count.KindCount.{KindCount}
use Rattle.audit_store.specs.Queries.{OnlyRead}
use Rattle.audit_store.specs.Store.{active_header, index_of}
use Rattle.audit_store.specs.declared.store.Store.{Store}
use Rattle.audit_store.specs.declared.store_error.StoreError.{StoreError}
use Rattle.audit_join.specs.Brought.{AreBrought}
use Rattle.audit_join.specs.Counting.{StopsCounting}
use Rattle.audit_join.specs.FirstKey.{IsJudgedFirst}
use Rattle.audit_join.specs.Joined.{EndsWith, IsJunction, open_count}
use Rattle.audit_join.specs.JoinOutcome.{HasJoined, StopsJoining}
use Rattle.audit_join.specs.declared.join_error.JoinError.{JoinError}
use Rattle.audit_join.specs.declared.junction.Junction.{Junction}
use Rattle.audit_text.specs.AckLine.{ack_line}
use Rattle.audit_text.specs.NumberedLine.{numbered_line}
use Rattle.audit_text.specs.Writing.{WritesInPart}
use Rattle.audit_cli_base.specs.declared.fault.CommandError.{CommandError}
use Rattle.audit_cli_base.specs.declared.fault.CommandError.TheVariants.{Refused}
use Rattle.audit_cli_rotate.specs.LinkFile.{HasLinkAt, HasBytesAt, HasNoLinkAt, HasOthersAt, IsLinkUnread, IsCallFault}
use Rattle.audit_cli_rotate.specs.PreparedFaults.{of_join}
use Rattle.audit_cli_rotate.specs.declared.prepared_error.PreparedError.{PreparedError}
use Rattle.audit_cli_rotate.specs.declared.prepared_error.PreparedError.TheVariants.{Command, OwnKey, NotEmpty}
use Rattle.audit_cli_rotate.specs.declared.prepared_error.PreparedError.TheVariants.{OtherLink, OtherLog}

-- the lines that closing a log and appending two events to a store without any print, with the two headers
unfoldable pub joined_lines : Header → Header → List ℕ
joined_lines old next =
    numbered_line (codes "closed ") old.count old.root ++ ack_line 0 next.count next.root

-- A link is accepted under the commitments of two stores, and says these numbers. The log of the first one is closed.
pub record IsLinkOf (counts : List KindCount) (old next : Header) (link : LinkData) : Type 0 where
  pub closed : old.closed ≡ true
  pub last : Commitment
  pub last_is : EndsWith last old
  pub new : Commitment
  pub new_is : EndsWith new next
  pub accepts : AcceptsLink last new link
  pub says : AreCountsOf link.second (Some counts)

module _ {D : Type 0} {g : sectors.Ghosts D} where
  -- these numbers with the events of a log from an index on, but for the closing one
  abbrev pub counted_from : ℕ → Store D g → List KindCount → List KindCount
  counted_from first old counts =
      added_all (take (open_count (active_header old) - first) (drop first (index_of old).kinds)) counts

module _ {D : Type 0} {g : sectors.Ghosts D} {E : Type 0} {h : sectors.Ghosts E} where
  -- Why there is no junction to an empty store: the first key of the old log is its own; or a store returned an error,
  -- or has no room.
  abbrev pub IsNoJunction : Store D g → Store E h → PreparedError → Type 0
  IsNoJunction old next OwnKey = IsJudgedFirst old next true
  IsNoJunction old next (Command (Refused error)) = Unit {0}
  IsNoJunction old next _ = ⊥

module _ {F : Type 0} (facts : F → FileFacts) (remaining : F → Option (List ℕ)) where
  module _ {D : Type 0} {g : sectors.Ghosts D} where
    -- The numbers that the link in a file brought to a log, with its events but the first two, which are the link's.
    pub record AreCountedAfter (after : List ℕ) (old : Store D g) (counts : List KindCount) : Type 0 where
      pub link : LinkData
      pub at : HasLinkAt facts remaining after link
      pub brought : List KindCount
      pub brought_is : AreBrought old link (Some brought)
      pub counts_are : counts ≡ counted_from 2 old brought

    -- The numbers of a log's events by kind. If there is a link by which it goes on, what that link brought is counted on.
    abbrev pub AreCounted : Option (Bor (List ℕ)) → Store D g → List KindCount → Type 0
    AreCounted None old counts = counts ≡ counted_from 0 old []
    AreCounted (Some after) old counts = AreCountedAfter after.now old counts

    -- Why they weren't counted, after a link: it couldn't be read, or an entry of the log; the log doesn't begin with
    -- its entries; or there are too many. `Failed` says that a call of the system failed.
    abbrev pub IsNotCountedAfter : Type 0 → List ℕ → Store D g → PreparedError → Type 0
    IsNotCountedAfter Failed after old fault =
        ((cause : CommandError) × (fault ≡ Command cause) × IsLinkUnread facts remaining Failed after cause)
        ⊎ ((link : LinkData) × HasLinkAt facts remaining after link
        × (((error : StoreError) × (fault ≡ Command (Refused error)))
        ⊎ (((fault ≡ OtherLog) × AreBrought old link None)
        ⊎ ((brought : List KindCount) × AreBrought old link (Some brought)
        × ((error : JoinError) × (fault ≡ of_join error) × StopsCounting 2 old brought error)))))

    -- the same with such a link or without
    abbrev pub IsNotCounted : Type 0 → Option (Bor (List ℕ)) → Store D g → PreparedError → Type 0
    IsNotCounted Failed None old fault = (error : JoinError) × (fault ≡ of_join error) × StopsCounting 0 old [] error
    IsNotCounted Failed (Some after) old fault = IsNotCountedAfter Failed after.now old fault

  -- `Synced` says which folder was synced, and `Failed` that a call of the system failed.
  module _ (Synced : List ℕ → Type 0) (Failed : Type 0) {D : Type 0} {g : sectors.Ghosts D} {E : Type 0}
      {h : sectors.Ghosts E} where
    -- The next store is empty, under another key than the first one of the old log. The link to it is in its file: until
    -- then the stores were only read.
    pub record IsLinkKept (path : List ℕ) (counts : List KindCount) (old looked : Store D g) (next : Store E h)
        (junction : Junction) : Type 0 where
      pub empty : (active_header next).count ≡ 0
      pub judged : IsJudgedFirst old next false
      pub junction_is : IsJunction (active_header next).key (active_header next).last_link counts junction
      pub kept : HasBytesAt facts remaining Synced path (link_bytes (link_in junction.link))
      pub reads : OnlyRead old looked

    -- the link is in its file, and then the two stores were joined
    pub record JoinsEmpty (path : List ℕ) (counts : List KindCount) (old closed : Store D g) (empty next : Store E h)
        : Type 0 where
      pub looked : Store D g
      pub junction : Junction
      pub linked : IsLinkKept path counts old looked empty junction
      pub joined : HasJoined junction looked closed empty next

    -- the link is in its file, and then the two stores weren't joined
    pub record StopsEmpty (path : List ℕ) (counts : List KindCount) (old closed : Store D g) (empty next : Store E h)
        (fault : PreparedError) : Type 0 where
      pub looked : Store D g
      pub junction : Junction
      pub linked : IsLinkKept path counts old looked empty junction
      pub cause : StoreError
      pub fault_is : fault ≡ Command (Refused cause)
      pub stops : StopsJoining junction cause looked closed empty next

    -- the link in the file at the path leads from one log to another, and says these numbers
    pub record IsFoundJoined (path : List ℕ) (counts : List KindCount) (old : Store D g) (next : Store E h)
        : Type 0 where
      pub link : LinkData
      pub kept : HasBytesAt facts remaining Synced path (link_bytes link)
      pub joins : IsLinkOf counts (active_header old) (active_header next) link

    -- Why the link from one log to another wasn't found in the file at the path: that couldn't be opened, has none, or
    -- has another link.
    abbrev pub LacksLinkOf : List ℕ → List KindCount → Store D g → Store E h → Type 0
    LacksLinkOf path counts old next = Failed
        ⊎ (HasNoLinkAt facts remaining path
        ⊎ ((link : LinkData) × HasLinkAt facts remaining path link
        × (IsLinkOf counts (active_header old) (active_header next) link → ⊥)))

    -- The file at the path, or what is there instead, isn't the link: that to an empty store, or one that was found.
    abbrev pub IsOtherThanLink : List ℕ → List KindCount → Store D g → Store E h → Type 0
    IsOtherThanLink path counts old next = Failed
        ⊎ ((link : LinkData) × HasOthersAt facts remaining path (link_bytes link)
        × ((((active_header next).count ≡ 0) × ((junction : Junction) × (link ≡ link_in junction.link)
        × IsJunction (active_header next).key (active_header next).last_link counts junction))
        ⊎ IsLinkOf counts (active_header old) (active_header next) link))

    -- Why the two weren't joined while they were only looked at. Of the errors of other commands a file fault needs a
    -- call that failed, and none is a wrong argument.
    abbrev pub IsLeftUnjoined : List ℕ → List KindCount → Store D g → Store E h → PreparedError → Type 0
    IsLeftUnjoined path counts old next OwnKey = ((active_header next).count ≡ 0) × IsJudgedFirst old next true
    IsLeftUnjoined path counts old next NotEmpty = (0 < (active_header next).count) × LacksLinkOf path counts old next
    IsLeftUnjoined path counts old next OtherLink = IsOtherThanLink path counts old next
    IsLeftUnjoined path counts old next (Command cause) = IsCallFault Failed cause
    IsLeftUnjoined path counts old next _ = ⊥

    -- the stores were only looked at
    abbrev pub AreLookedAt : Store D g → Store D g → Store E h → Store E h → Type 0
    AreLookedAt old looked next left = OnlyRead old looked × (left ≡ next)

    -- The log was joined to an empty store; or was found to be joined to it. After an error the stores were only looked
    -- at, and this is why; or the link is in its file, and they weren't joined.
    abbrev pub JoinsCounted : List ℕ → List KindCount → Store D g → Store D g → Store E h → Store E h
        → Result (Unit {0}) PreparedError → Type 0
    JoinsCounted path counts old left next new (Ok done) =
        JoinsEmpty path counts old left next new
        ⊎ (IsFoundJoined path counts old next × AreLookedAt old left next new)
    JoinsCounted path counts old left next new (Err fault) =
        (IsLeftUnjoined path counts old next fault × AreLookedAt old left next new)
        ⊎ StopsEmpty path counts old left next new fault

    -- the same with the numbers that the words ask for, once these were counted
    abbrev pub JoinsStores : Option (Bor (List ℕ)) → List ℕ → Store D g → Store D g → Store E h → Store E h
        → Result (Unit {0}) PreparedError → Type 0
    JoinsStores after path old left next new (Ok done) = (counts : List KindCount) × (looked : Store D g)
        × OnlyRead old looked × AreCounted after old counts × JoinsCounted path counts looked left next new (Ok done)
    JoinsStores after path old left next new (Err fault) =
        (IsNotCounted Failed after old fault × AreLookedAt old left next new)
        ⊎ ((counts : List KindCount) × (looked : Store D g)
        × OnlyRead old looked × AreCounted after old counts × JoinsCounted path counts looked left next new (Err fault))

    -- and the lines of both were written; after an error nothing was written, or a prefix of the lines of two stores that
    -- are joined
    abbrev pub JoinsPrepared : Option (Bor (List ℕ)) → List ℕ → Store D g → Store D g → Store E h → Store E h
        → Option (List ℕ) → Option (List ℕ) → Result (Unit {0}) PreparedError → Type 0
    JoinsPrepared after path old left next new before written (Ok done) =
        JoinsStores after path old left next new (Ok done)
        × Appends before written (joined_lines (active_header left) (active_header new))
    JoinsPrepared after path old left next new before written (Err fault) =
        (JoinsStores after path old left next new (Err fault) × Keeps before written)
        ⊎ (JoinsStores after path old left next new (Ok tt)
        × WritesInPart before written (joined_lines (active_header left) (active_header new)))
