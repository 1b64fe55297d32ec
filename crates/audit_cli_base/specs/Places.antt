-- The places of stores, as looks found them.
use Rattle.std.specs.Prelude.{ℕ, List}
use Rattle.audit_disk.specs.declared.file_identity.FileIdentity.{FileIdentity}
use Rattle.audit_cli_base.specs.declared.store_watch.StoreWatch.{StoreWatch}

-- a look found that a store isn't in its place, as `Lacks` says of a system, a path, an identity and its sectors
abbrev pub IsOutOfPlace : {R : Type 0} → (R → List ℕ → FileIdentity → ℕ → Type 0) → StoreWatch R → Type 0
IsOutOfPlace Lacks watch = Lacks watch.rt.now watch.path.now watch.identity watch.sectors
