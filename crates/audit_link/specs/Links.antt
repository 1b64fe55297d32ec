-- A link from a log to the next one.
use Rattle.std.specs.Prelude.{◌≡◌, ℕ, ◌≤◌, List, [], ◌∷◌, ◌++◌, length, codes}
use Rattle.std.specs.Fmt.{decimal}
use Rattle.hex.specs.Hex.{encode_lower}
use Rattle.audit_base.specs.Hashes.{AreHashes}
use Rattle.audit_base.specs.declared.limits.TheConstants.{HASH_LEN, MAX_MEMBER_HASHES, RESERVED_KIND}
use Rattle.audit_chain.specs.EventData.{EventData}
use Rattle.audit_chain.specs.Key.{next_key, entry_key}
use Rattle.audit_chain.specs.Entry.{entry_bytes, link_after, sealed_entry}
use Rattle.audit_chain.specs.Entries.{first_link}
use Rattle.audit_proof.specs.declared.commitment.Commitment.{Commitment}
use Rattle.audit_link.specs.declared.kind_count.KindCount.{KindCount}
use Rattle.audit_link.specs.declared.link.ClosingEntry.{ClosingEntry}
use Rattle.audit_link.specs.declared.link.KeyedEntry.{KeyedEntry}
use Rattle.audit_link.specs.declared.link.Link.{Link}
use Rattle.audit_link.specs.CountsText.{counts_text}
use Rattle.audit_link.specs.OpenedEntry.{IsSoleEntry}

-- an entry, and the key of its keystream
pub record Keyed : Type 0 where
  pub key : List ℕ
  pub entry : List ℕ

-- The content of a link: the hashes of a membership proof of the old log's closing entry, whose link and MAC these are;
-- and the first two entries of the new log.
pub record LinkData : Type 0 where
  pub hashes : List (List ℕ)
  pub last : ClosingEntry
  pub first : Keyed
  pub second : Keyed

abbrev pub keyed_in : KeyedEntry → Keyed
keyed_in keyed = record { key = keyed.key; entry = keyed.entry.items }

abbrev pub link_in : Link → LinkData
link_in link = record {
  hashes = link.hashes.items;
  last = link.last;
  first = keyed_in link.first;
  second = keyed_in link.second;
}

-- what can be encoded: few whole hashes, and each part with its size
pub record IsLink (link : LinkData) : Type 0 where
  pub few : length link.hashes ≤ MAX_MEMBER_HASHES
  pub hashes : AreHashes link.hashes
  pub last_link : length link.last.link ≡ HASH_LEN
  pub last_tag : length link.last.tag ≡ HASH_LEN
  pub first_key : length link.first.key ≡ HASH_LEN
  pub second_key : length link.second.key ≡ HASH_LEN
  pub first : IsSoleEntry link.first.entry
  pub second : IsSoleEntry link.second.entry

-- the entry that closes a log
abbrev pub closing_bytes : ClosingEntry → List ℕ
closing_bytes last = entry_bytes RESERVED_KIND [] last.link last.tag

-- the entries that begin the new log
abbrev pub entries_in : LinkData → List (List ℕ)
entries_in link = link.first.entry ∷ link.second.entry ∷ []

-- COUNT:ROOT, as an auditor keeps a commitment
abbrev pub commitment_payload : Commitment → List ℕ
commitment_payload commitment = decimal commitment.count ++ codes ":" ++ encode_lower commitment.root

-- the events that begin the new log: the old one's last commitment, and the numbers of events by kind
abbrev pub commitment_event : Commitment → EventData
commitment_event commitment = record { kind = 0; payload = commitment_payload commitment }

abbrev pub counts_event : List KindCount → EventData
counts_event counts = record { kind = 0; payload = counts_text counts }

-- an entry that is sealed under a key of the chain, and the key of its keystream
abbrev pub keyed_entry : List ℕ → List ℕ → EventData → Keyed
keyed_entry key last_link event = record {
  key = entry_key key event.kind;
  entry = sealed_entry key last_link event;
}

-- the link from a log with this last commitment to the one that begins with this key
abbrev pub link_between : List ℕ → Commitment → List KindCount → ClosingEntry → List (List ℕ) → LinkData
link_between first_key old counts last hashes =
    let first = commitment_event old in
    record {
      hashes = hashes;
      last = last;
      first = keyed_entry first_key first_link first;
      second = keyed_entry (next_key first_key) (link_after first_key first_link first) (counts_event counts);
    }
