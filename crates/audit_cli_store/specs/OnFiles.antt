-- What a request does with the file of a store that it names.
use denote.Ref.{Bor}
use Rattle.std.specs.Prelude.{◌≡◌, ◌⊎◌, ◌≤◌, ℕ, ◌-◌, Bool, true, false, Option, Some, None, Result, Ok, List}
use Rattle.std.specs.Prelude.{[], ◌++◌, length, codes, IfSome, OnOk, IsErr, if◌then◌else◌}
use Rattle.std.specs.Str.{bytes_eq}
use Rattle.std.specs.Fmt.{decimal}
use Rattle.std.specs.Io.KnownBytes.{Appends, Keeps}
use Rattle.audit_chain.specs.EventData.{EventData}
use Rattle.audit_disk_model.specs.View.{View}
use Rattle.audit_disk_model.specs.declared.sectors.Sectors as sectors
use Rattle.audit_disk.specs.FileFacts.{FileFacts, IsMadeDevice}
use Rattle.audit_disk.specs.Positioned.{PositionedView}
use Rattle.audit_disk.specs.SectorSource.{source_of}
use Rattle.audit_disk.specs.declared.files.TheConstants.{OWNER_ONLY}
use Rattle.audit_log.specs.declared.header.Header.{Header}
use Rattle.audit_store_commit.specs.Layout.{IsRecoverable}
use Rattle.audit_store_commit.specs.Origin.{Origin}
use Rattle.audit_store.specs.ReadOnlyOpening.{at_rest}
use Rattle.audit_store.specs.Store.{active_header, Holds, IsFormatted}
use Rattle.audit_store.specs.declared.store.Store.{Store}
use Rattle.audit_cli_base.specs.Arguments.{selects_output, sectors_asked, proof_asked, number_asked}
use Rattle.audit_cli_base.specs.Blank.{IsBlankUpTo}
use Rattle.audit_cli_base.specs.KeyFile.{IsKeyAt}
use Rattle.audit_cli_base.specs.Mode.{IsMode}
use Rattle.audit_cli_base.specs.OpenedStore.{FindsHeader, IsDeviceAt, IsReadDeviceAt, IsStoreAt}
use Rattle.audit_cli_base.specs.declared.arguments.ProofRequest.{ProofRequest}
use Rattle.audit_cli_base.specs.declared.fault.CommandError.{CommandError}
use Rattle.audit_cli_store.specs.Closing.{ClosesLog, IsNotAsked}
use Rattle.audit_cli_store.specs.Exports.{export_after}
use Rattle.audit_cli_store.specs.Headers.{ShowsHeader}
use Rattle.audit_cli_store.specs.LinkChecks.{ChecksLinkAt}
use Rattle.audit_cli_store.specs.OpenedProofs.{OpensProofAt}
use Rattle.audit_cli_store.specs.Proofs.{AsksOutside, proof_of_log}
use Rattle.audit_cli_store.specs.Shown.{printed_state}
use Rattle.audit_cli_store.specs.declared.answering.StoreQuestion.{StoreQuestion}
use Rattle.audit_cli_store.specs.declared.answering.StoreQuestion.TheVariants.{State, Entries}
use Rattle.audit_cli_store.specs.declared.request.Access.{Access}
use Rattle.audit_cli_store.specs.declared.request.Access.TheVariants.{Repair}
use Rattle.audit_cli_store.specs.declared.request.Request.{Request}
use Rattle.audit_cli_store.specs.declared.request.Request.TheVariants as request
use Rattle.audit_cli_store.specs.declared.request.Site.{Site}
use Rattle.audit_cli_store.specs.declared.request.Site.TheVariants.{NewFile, InPlace}

-- how many sectors of a device have to be blank before it is formatted without being erased: 1 MiB
abbrev pub blank_front : ℕ
blank_front = 2048

-- ---- what is put to OUT

-- what the command's output gets of contents for OUT: the contents if OUT is standard output, and then the line about
-- them, but for the name `-`
abbrev pub put_text : List ℕ → List ℕ → List ℕ → List ℕ
put_text out contents line =
    (if selects_output out then contents else []) ++ (if bytes_eq out (codes "-") then [] else line)

-- contents were put to the output, or to somewhere else, of which nothing is known
abbrev pub IsPutTo : {X : Type 0} → (Option (List ℕ) → Option (List ℕ) → X → Type 0) → Bool → Option (List ℕ)
    → Option (List ℕ) → X → Type 0
IsPutTo puts true before after extent = puts before after extent
IsPutTo puts false before after extent = Keeps before after
    × ((empty : Option (List ℕ)) × (full : Option (List ℕ)) × puts empty full extent)

abbrev pub exported_line : ℕ → ℕ → List ℕ
exported_line count size = codes "exported " ++ decimal count ++ codes " " ++ decimal size ++ codes "\n"

-- the entries from an index on, and the line with their number and size
abbrev pub exported_text : List ℕ → ℕ → List ℕ → List EventData → List ℕ
exported_text out first first_key events =
    put_text out (export_after first first_key events)
    (exported_line (length events - first) (length (export_after first first_key events)))

-- a proof, and the line with its size
abbrev pub proved_text : List ℕ → List ℕ → List ℕ
proved_text out proof = put_text out proof (codes "proof " ++ decimal (length proof) ++ codes "\n")

-- ---- answers about a store

module _ {D : Type 0} {g : sectors.Ghosts D} where
  abbrev pub AnswersAbout : StoreQuestion → Store D g → Option (List ℕ) → Option (List ℕ) → Type 0
  AnswersAbout (State form) store before after = Appends before after (printed_state form (active_header store))
  AnswersAbout (Entries out first) store before after =
      (origin : Origin) (events : List EventData) → Holds store origin events
      → Appends before after (exported_text out.now first origin.first_key events)

-- the same about the store on a device: the header that an opening finds there, or the events that an honest device has
abbrev pub AnswersOn : StoreQuestion → View → Option (List ℕ) → Option (List ℕ) → Type 0
AnswersOn (State form) disk before after =
    (header : Header) × FindsHeader disk header × Appends before after (printed_state form header)
AnswersOn (Entries out first) disk before after =
    (origin : Origin) (events : List EventData) → disk.honest → IsRecoverable origin events disk.content
    → Appends before after (exported_text out.now first origin.first_key events)

-- the bytes are the proof about the events of an honest device
abbrev pub ProvesOn : ProofRequest → View → List ℕ → Type 0
ProvesOn asked disk bytes =
    (origin : Origin) (events : List EventData) → disk.honest → IsRecoverable origin events disk.content
    → (AsksOutside asked (length events) → ⊥) → bytes ≡ proof_of_log origin.first_key events asked

module _ {F : Type 0} (facts : F → FileFacts) (positioned : F → PositionedView) {E : Type 0}
    (h : sectors.Ghosts E) where
  -- the device of the file at this path, as a command with this access opens it
  abbrev pub IsDeviceFor : Access → List ℕ → E → Type 0
  IsDeviceFor Repair path disk = IsDeviceAt facts positioned path (h.view disk)
  IsDeviceFor _ path disk = IsReadDeviceAt facts positioned path (h.view disk)

  -- what an opening sees of it
  abbrev pub view_for : Access → E → View
  view_for Repair disk = h.view disk
  view_for _ disk = at_rest (source_of (h.view disk))

  -- a question about the store in the file at this path was answered
  pub record AnswersAt (access : Access) (path : List ℕ) (question : StoreQuestion) (before after : Option (List ℕ))
      : Type 0 where
    pub disk : E
    pub at : IsDeviceFor access path disk
    pub answers : AnswersOn question (view_for access disk) before after

  -- the bytes are a proof about it
  pub record IsProofAt (access : Access) (path : List ℕ) (asked : ProofRequest) (bytes : List ℕ) : Type 0 where
    pub disk : E
    pub at : IsDeviceFor access path disk
    pub proves : ProvesOn asked (view_for access disk) bytes

  -- a proof about it was put to OUT
  pub record ProvesAt (access : Access) (path : List ℕ) (asked : ProofRequest) (out : List ℕ)
      (before after : Option (List ℕ)) : Type 0 where
    pub proof : List ℕ
    pub proves : IsProofAt access path asked proof
    pub put : Appends before after (proved_text out proof)

  -- the log of the store that was opened at this path was closed, or wasn't; or the result is an error, and nothing was
  -- written
  abbrev pub ClosesAt : List ℕ → Option (List ℕ) → Option (List ℕ) → Result (Unit {0}) CommandError → Type 0
  ClosesAt path before after result =
      ((opened : Store E h) × (left : Store E h) × IsStoreAt facts positioned path opened
      × (IsNotAsked opened left before after result ⊎ ClosesLog opened left before after result))
      ⊎ (IsErr result × Keeps before after)

  -- ---- format

  module _ (remaining : F → Option (List ℕ)) where
    -- a device was formatted with the key in a file, and the line with its size was written
    pub record FormatsDevice (disk : View) (key_file : List ℕ) (before after : Option (List ℕ)) : Type 0 where
      pub first_key : List ℕ
      pub key_is : IsKeyAt facts remaining key_file first_key
      pub store : Store E h
      pub formatted : IsFormatted disk first_key store
      pub line : Appends before after (codes "formatted " ++ decimal disk.size ++ codes "\n")

    -- the device of a new file at this path, with the permissions and the size that were asked for
    pub record FormatsNewFile (path : List ℕ) (mode : Option (Bor (List ℕ))) (sectors key_file : List ℕ)
        (before after : Option (List ℕ)) : Type 0 where
      pub bits : ℕ
      pub owner : mode ≡ None → bits ≡ OWNER_ONLY
      pub bits_are : IfSome mode (λ word. IsMode word.now bits)
      pub count : ℕ
      pub count_is : sectors_asked sectors ≡ Ok count
      pub disk : E
      pub made : IsMadeDevice facts positioned path bits count (h.view disk)
      pub size : (h.view disk).size ≡ count
      pub formatted : FormatsDevice (h.view disk) key_file before after

    -- the device of the file at this path, which is as large as was asked for at least, and blank unless it is erased
    pub record FormatsInPlace (path : List ℕ) (erase : Bool) (sectors key_file : List ℕ)
        (before after : Option (List ℕ)) : Type 0 where
      pub count : ℕ
      pub count_is : sectors_asked sectors ≡ Ok count
      pub disk : E
      pub at : IsDeviceAt facts positioned path (h.view disk)
      pub size : count ≤ (h.view disk).size
      pub blank : erase ≡ false → (h.view disk).honest → IsBlankUpTo (h.view disk) blank_front
      pub formatted : FormatsDevice (h.view disk) key_file before after

    abbrev pub FormatsSite : List ℕ → Site → List ℕ → List ℕ → Option (List ℕ) → Option (List ℕ) → Type 0
    FormatsSite path (NewFile mode) sectors key_file before after =
        FormatsNewFile path mode sectors key_file before after
    FormatsSite path (InPlace erase) sectors key_file before after =
        FormatsInPlace path erase sectors key_file before after

    -- ---- the whole command

    -- on success what was asked for was done with the file that was named; a close says so of an error, too
    abbrev pub IsDoneOnFile : Request → Option (List ℕ) → Option (List ℕ) → Result (Unit {0}) CommandError → Type 0
    IsDoneOnFile (request.Close file) before after result = ClosesAt file.now before after result
    IsDoneOnFile (request.Open asked) before after result =
        OnOk result (OpensProofAt facts remaining asked before after)
    IsDoneOnFile (request.CheckLink asked) before after result =
        OnOk result (ChecksLinkAt facts remaining asked before after)
    IsDoneOnFile (request.Format file site sectors key_file) before after (Ok done) =
        FormatsSite file.now site sectors.now key_file.now before after
    IsDoneOnFile (request.Show file access form) before after (Ok done) =
        AnswersAt access file.now (State form) before after
    IsDoneOnFile (request.ShowHeader file form) before after (Ok done) =
        ShowsHeader facts positioned h file.now form before after
    IsDoneOnFile (request.Export file out access from) before after (Ok done) =
        (first : ℕ) × (number_asked from 0 ≡ Ok first) × AnswersAt access file.now (Entries out first) before after
    IsDoneOnFile (request.Prove file kind first second out access) before after (Ok done) =
        (asked : ProofRequest) × (proof_asked kind.now first.now second.now ≡ Some asked)
        × ProvesAt access file.now asked out.now before after
    IsDoneOnFile _ before after result = Unit {0}
