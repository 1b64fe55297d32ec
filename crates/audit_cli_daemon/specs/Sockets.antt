-- The sockets of a daemon: at which paths they listen, and the rights of those who come by them.
use denote.Ref.{Bor}
use Rattle.std.specs.Prelude.{◌≡◌, ◌⊎◌, ℕ, ℤ, Option, Some, None, List, [], ◌∷◌, ◌++◌, map}
use Rattle.std.specs.List.{AllByRecursion, AllZip}
use Rattle.audit_disk.specs.FileFacts.{FileFacts}
use Rattle.audit_serve_passes.specs.declared.rights.Rights.{Rights}
use Rattle.audit_serve_sockets.specs.Bound.{SocketFacts, ListensAt, IsNameGone, IsLockGone, CallFailed}
use Rattle.audit_store.specs.declared.store_error.StoreError.TheVariants.{Memory}
use Rattle.audit_cli_base.specs.declared.fault.CommandError.{CommandError}
use Rattle.audit_cli_base.specs.declared.fault.CommandError.TheVariants.{File, Refused}
use Rattle.audit_cli_daemon.specs.Rights.{rights_at}
use Rattle.audit_cli_daemon.specs.Sources.{SourceData, words_of, sources_in}
use Rattle.audit_cli_daemon.specs.declared.sockets.MadeSocket.{MadeSocket}
use Rattle.audit_cli_daemon.specs.declared.sockets.Sockets.{Sockets}

-- the rights that clients have who come by them; those of the last one are these
abbrev pub rights_served : Sockets → Rights → List Rights
rights_served sockets others = rights_at sockets.readers (sources_in (words_of sockets.sources.now)) others

-- their paths, in the same order: that for readers, those of the sources, and that for all others
abbrev pub path_of_readers : Option (Bor (List ℕ)) → List (List ℕ)
path_of_readers None = []
path_of_readers (Some path) = path.now ∷ []

abbrev pub path_of_source : SourceData → List ℕ
path_of_source source = source.path

abbrev pub paths_at : Option (Bor (List ℕ)) → List SourceData → List ℕ → List (List ℕ)
paths_at readers sources others = path_of_readers readers ++ (map path_of_source sources ++ others ∷ [])

abbrev pub paths_served : Sockets → List (List ℕ)
paths_served sockets = paths_at sockets.readers (sources_in (words_of sockets.sources.now)) sockets.clients.now

-- what was made of a socket isn't there any more: its file, and its lock unless that shows a socket that is abandoned
pub record IsRemoved {F : Type 0} (facts : SocketFacts) (made : MadeSocket F) : Type 0 where
  pub file : IsNameGone facts made.path.now made.name
  pub lock : IsLockGone facts made.lock

-- nor is anything that was made of these
abbrev pub AreRemoved : {F : Type 0} → SocketFacts → List (MadeSocket F) → Type 0
AreRemoved facts made = AllByRecursion (IsRemoved facts) made

-- at each of these paths a socket listens, whose file has these permission bits; these are their descriptors, in order
abbrev pub ListenAt : SocketFacts → ℕ → List (List ℕ) → List ℤ → Type 0
ListenAt facts mode paths descriptors = AllZip (λ path descriptor. ListensAt facts path mode descriptor) paths descriptors

-- what is known of sockets by the calls that made them, and that accepting at one of them doesn't wait
abbrev pub prompt_sockets : SocketFacts → (ℤ → Type 0) → SocketFacts
prompt_sockets facts Prompt = record {
  listens = λ path descriptor. facts.listens path descriptor × Prompt descriptor;
  permits = facts.permits;
  connects = facts.connects;
  removes = facts.removes;
  lacks = facts.lacks;
}

-- A call failed by which sockets are made: one of the system or of a file; or the one by which accepting doesn't wait,
-- as `Unprompted` says.
abbrev pub BindFailed : {F : Type 0} → Type 0 → Type 0 → (F → FileFacts) → Type 0
BindFailed Failed Unprompted facts = CallFailed Failed facts ⊎ Unprompted

-- why sockets weren't made: a call failed, or memory was refused
abbrev pub IsBindFault : Type 0 → CommandError → Type 0
IsBindFault Failed File = Failed
IsBindFault Failed (Refused error) = error ≡ Memory
IsBindFault Failed _ = ⊥
