-- Whether a log began with a key.
use Rattle.std.specs.Prelude.{◌≡◌, ◌↔◌, ℕ, Bool, true, false, Err, List, IsTrue}
use Rattle.std.proofs.Common.{Global}
use Rattle.audit_mac.specs.Hmac.{hmac}
use Rattle.audit_disk_model.specs.declared.sectors.Sectors as sectors
use Rattle.audit_chain.specs.Key.{evolved_key}
use Rattle.audit_chain.specs.EntryForm.{EntryParts, BeginsWithEntry}
use Rattle.audit_log.specs.declared.header.Header.{Header}
use Rattle.audit_store.specs.EntryRead.{IsIndexedEntryRead}
use Rattle.audit_store.specs.Queries.{OnlyRead, IsEntry}
use Rattle.audit_store.specs.Store.{device, active_header, index_of}
use Rattle.audit_store.specs.declared.store.Store.{Store}
use Rattle.audit_store.specs.declared.store_error.StoreError.{StoreError}

-- the current key of a log is the one that this key becomes after as many events
abbrev pub IsEvolvedFrom : List ℕ → Header → Type 0
IsEvolvedFrom key header = evolved_key key header.count ≡ header.key

-- the bytes begin with an entry that was authenticated under this key
abbrev pub IsAuthenticatedUnder : List ℕ → List ℕ → Type 0
IsAuthenticatedUnder key bytes = (parts : EntryParts) × BeginsWithEntry bytes parts × (parts.tag ≡ hmac key parts.link)

module _ {D : Type 0} {g : sectors.Ghosts D} where
  -- whether the first entry of a closed log, as it was read, was authenticated under this key
  pub record IsJudgedByEntry (key : List ℕ) (old new : Store D g) (is_own : Bool) : Type 0 where
    pub reads : OnlyRead old new
    pub entry : List ℕ
    pub read : IsIndexedEntryRead (device old) (active_header old) (index_of old) 0 entry
    pub judged : IsTrue is_own ↔ IsAuthenticatedUnder key entry

  -- Whether a log began with this key. An open log is judged by its current key, and isn't touched; a closed one keeps
  -- no key, and is judged by its first entry.
  pub record IsJudged (key : List ℕ) (old new : Store D g) (is_own : Bool) : Type 0 where
    pub by_key : (active_header old).closed ≡ false
        → (new ≡ old) × (IsTrue is_own ↔ IsEvolvedFrom key (active_header old))
    pub by_entry : (active_header old).closed ≡ true → IsJudgedByEntry key old new is_own

  -- the first entry of a closed log couldn't be read, and nothing has changed
  pub record LacksFirstEntry (old new : Store D g) (error : StoreError) : Type 0 where
    pub closed : (active_header old).closed ≡ true
    pub reads : OnlyRead old new
    pub refused : IsEntry {Z = Global} old new 0 (Err error)
