-- All entries of a log, which are asked for ahead of their replies and judged together.
use Rattle.std.specs.Prelude.{◌≡◌, ◌<◌, ◌≤◌, ℕ, zero, suc, ◌+◌, ◌-◌, Bool, true, false, Option, List, [], ◌∷◌}
use Rattle.std.specs.Prelude.{◌++◌, length, map, take}
use Rattle.std.specs.List.{flat_map, concat, filter}
use Rattle.std.specs.Io.KnownBytes.{Appends}
use Rattle.audit_text.specs.Writing.{WritesInPart}
use Rattle.sha2.specs.Sha256.{sha256}
use Rattle.audit_tree.specs.Subtree.{leaf_hash_of, root_of}
use Rattle.audit_proof.specs.declared.commitment.Commitment.{Commitment}
use Rattle.audit_proof.specs.Acceptance.{commitment_to, AcceptsIncrement, IsMadeIncrement}
use Rattle.audit_tree.specs.Frontier.{FrontierData, IsFrontierOf}
use Rattle.audit_tree.specs.Continued.{root_after, frontier_after, empty_frontier}
use Rattle.audit_wire.specs.declared.request.Request.{Request}
use Rattle.audit_wire.specs.declared.request.Request.TheVariants as request
use Rattle.audit_wire.specs.declared.reply.Reply.{Reply}
use Rattle.audit_wire.specs.declared.reply.Reply.TheVariants as reply
use Rattle.audit_wire.specs.Stream.{request_frame}
use Rattle.audit_wire_ask.specs.declared.asking.TheConstants.{NEWEST_TAG, ASKED_TAG}
use Rattle.audit_wire_ask.specs.declared.exporting.TheConstants.{LAST_TAG}
use Rattle.audit_wire_ask.specs.declared.exporting.Export.{Export}
use Rattle.audit_wire_ask.specs.Conversation.{ReadsReply, Converses}

-- the tag of the request for an entry
abbrev pub entry_tag : ℕ → ℕ
entry_tag index = ASKED_TAG + index

-- the requests for the first entries, in order
abbrev pub entry_requests : ℕ → List Request
entry_requests zero = []
entry_requests (suc count) = entry_requests count ++ request.Entry (entry_tag count) count ∷ []

-- the replies with these entries, of which the first has this index
abbrev pub entry_replies : ℕ → List (List ℕ) → List Reply
entry_replies index [] = []
entry_replies index (entry ∷ entries) = reply.Entry (entry_tag index) entry ∷ entry_replies (suc index) entries

-- the tag of the request for the increment from the first entries, as many as these, to the newest commitment
abbrev pub piece_tag : ℕ → ℕ
piece_tag count = LAST_TAG - count

abbrev pub asks_no_increment : Request → Bool
asks_no_increment (request.Incremental tag older newer) = false
asks_no_increment _ = true

abbrev pub gives_no_increment : Reply → Bool
gives_no_increment (reply.Incremental tag hashes) = false
gives_no_increment _ = true

-- but for increments, these are the requests for the entries from one index on up to another, in order, and the replies
-- with these entries
pub record AreForEntries (asked : List Request) (given : List Reply) (first ahead : ℕ) (entries : List (List ℕ))
    : Type 0 where
  pub requests : entry_requests ahead ≡ entry_requests first ++ filter asks_no_increment asked
  pub replies : filter gives_no_increment given ≡ entry_replies first entries

-- the commitment to what a frontier is of, and to these entries after it
abbrev pub commitment_from : FrontierData → List (List ℕ) → Commitment
commitment_from begun entries = record {
  count = begun.count + length entries;
  root = root_after begun (map leaf_hash_of entries);
}

-- an increment to the newest commitment that the tree of these leaves makes, from as many of them
abbrev pub IsMadeFrom : List (List ℕ) → ℕ → Commitment → List (List ℕ) → Type 0
IsMadeFrom leaves first newest hashes =
    IsMadeIncrement leaves (record { count = first; root = root_of sha256 (take first leaves) }) newest hashes

-- The frontier of as many entries as come before an export. Its hashes are in an increment that is accepted from them
-- to the newest commitment; if a tree makes it, the frontier is that of the tree's first leaves.
pub record IsBegunBy (first : ℕ) (newest : Commitment) (hashes : List (List ℕ)) (begun : FrontierData) : Type 0 where
  pub count : begun.count ≡ first
  pub accepted : AcceptsIncrement sha256 (commitment_from begun []) newest hashes
  pub made : (leaves : List (List ℕ)) → IsMadeFrom leaves first newest hashes → IsFrontierOf begun (take first leaves)

-- an export from the first entry on begins at nothing, any other one at such a frontier
abbrev pub Begins : ℕ → Commitment → List (List ℕ) → FrontierData → Type 0
Begins zero newest hashes begun = begun ≡ empty_frontier
Begins (suc before) newest hashes begun = IsBegunBy (suc before) newest hashes begun

-- the newest commitment is asked for first, and the increment from the entries before, if there are any
abbrev pub first_requests : ℕ → Commitment → List Request
first_requests zero newest = []
first_requests (suc before) newest = request.Incremental ASKED_TAG (suc before) newest.count ∷ []

abbrev pub first_replies : ℕ → List (List ℕ) → List Reply
first_replies zero hashes = []
first_replies (suc before) hashes = reply.Incremental ASKED_TAG hashes ∷ []

abbrev pub opening_requests : ℕ → Commitment → List Request
opening_requests first newest = request.Commitment NEWEST_TAG ∷ first_requests first newest

abbrev pub opening_replies : ℕ → Commitment → List (List ℕ) → List Reply
opening_replies first newest hashes =
    reply.Commitment NEWEST_TAG newest.count newest.root ∷ first_replies first hashes

-- In a conversation that began with the newest commitment, the server gave these entries in order, from one index on,
-- and increments; the commitment is that to what came before and to them.
pub record GivesExport (written_old written_new read_old read_new : Option (List ℕ)) (first : ℕ)
    (entries : List (List ℕ)) : Type 0 where
  pub newest : Commitment
  pub hashes : List (List ℕ)
  pub begun : FrontierData
  pub begins : Begins first newest hashes begun
  pub asked : List Request
  pub given : List Reply
  pub about : AreForEntries asked given begun.count newest.count entries
  pub conversation : Converses written_old written_new read_old read_new
      (opening_requests first newest ++ asked) (opening_replies first newest hashes ++ given)
  pub newest_is : newest ≡ commitment_from begun entries
  pub whole : first ≡ 0 → newest ≡ commitment_to entries

-- the entries were written one after another, and their number and size are returned
pub record WritesExport (old new : Option (List ℕ)) (entries : List (List ℕ)) (export : Export) : Type 0 where
  pub written : Appends old new (concat entries)
  pub count : export.count ≡ length entries
  pub size : export.size ≡ length (concat entries)

-- a prefix of the bytes was written, and not all of them
pub record WritesFront (old new : Option (List ℕ)) (bytes : List ℕ) : Type 0 where
  pub front : List ℕ
  pub rest : List ℕ
  pub split : bytes ≡ front ++ rest
  pub appended : Appends old new front
  pub lacks : 0 < length rest

-- the requests for the entries from one index on up to another were written to a connection
pub record AsksEntries (old new : Option (List ℕ)) (asked next : ℕ) : Type 0 where
  pub requests : List Request
  pub sent : Appends old new (flat_map request_frame requests)
  pub plain : filter asks_no_increment requests ≡ requests
  pub all : entry_requests next ≡ entry_requests asked ++ requests

-- the same up to an index after `index`, and at most `end`; but only a prefix of their bytes was written
pub record AsksInPart (old new : Option (List ℕ)) (asked index end : ℕ) : Type 0 where
  pub next : ℕ
  pub further : index < next
  pub within : next ≤ end
  pub requests : List Request
  pub part : WritesInPart old new (flat_map request_frame requests)
  pub plain : filter asks_no_increment requests ≡ requests
  pub all : entry_requests next ≡ entry_requests asked ++ requests

-- requests for increments were written, or none, and their replies read
pub record AsksIncrements (written_old written_new read_old read_new : Option (List ℕ)) : Type 0 where
  pub asked : List Request
  pub given : List Reply
  pub conversation : Converses written_old written_new read_old read_new asked given
  pub requests : filter asks_no_increment asked ≡ []
  pub replies : filter gives_no_increment given ≡ []

-- the entry of this index was read, added to the frontier and written, and its size is returned
pub record ReceivesEntry (read_old read_new : Option (List ℕ)) (frontier_old frontier_new : FrontierData)
    (old new : Option (List ℕ)) (index size : ℕ) : Type 0 where
  pub entry : List ℕ
  pub read : ReadsReply read_old read_new (reply.Entry (entry_tag index) entry)
  pub leaf : frontier_new ≡ frontier_after frontier_old (leaf_hash_of entry ∷ [])
  pub written : Appends old new entry
  pub size_is : size ≡ length entry

-- the entries after those of a frontier were asked for, up to an index, and read up to another, added to the frontier
-- and written
pub record ReceivesEntries (written_old written_new read_old read_new : Option (List ℕ))
    (begun frontier : FrontierData) (old new : Option (List ℕ)) (ahead index size : ℕ) : Type 0 where
  pub entries : List (List ℕ)
  pub counted : begun.count + length entries ≡ index
  pub asked : List Request
  pub given : List Reply
  pub about : AreForEntries asked given begun.count ahead entries
  pub conversation : Converses written_old written_new read_old read_new asked given
  pub leaves : frontier ≡ frontier_after begun (map leaf_hash_of entries)
  pub written : Appends old new (concat entries)
  pub size_is : size ≡ length (concat entries)
