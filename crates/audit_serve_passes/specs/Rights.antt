-- What a session may ask for.
use Rattle.std.specs.Prelude.{ℕ, Bool, true, false, not, ◌==◌, nat_eq, Option, Some, None, is_some, length}
use Rattle.std.specs.Prelude.{replicate, filter}
use Rattle.std.specs.List.{list_any}
use Rattle.std.specs.Option.{option_eq}
use Rattle.audit_serve_passes.specs.declared.bound_kinds.BoundKinds.{BoundKinds}
use Rattle.audit_serve_passes.specs.declared.bound_kinds.TheConstants.{MAX_BOUND_KINDS}
use Rattle.audit_serve_passes.specs.declared.rights.Rights.{Rights}
use Rattle.audit_serve_passes.specs.declared.rights.Rights.TheVariants as rights

-- a kind of events is bound to a source
abbrev pub is_bound : BoundKinds → ℕ → Bool
is_bound bound kind = list_any (λ place. option_eq nat_eq place (Some kind)) bound.kinds

abbrev pub no_kinds : BoundKinds
no_kinds = record { kinds = replicate MAX_BOUND_KINDS None }

-- how many kinds are bound
abbrev pub bound_count : BoundKinds → ℕ
bound_count bound = length (filter is_some bound.kinds)

-- whatever can be asked for
abbrev pub all_rights : Rights
all_rights = rights.Close no_kinds

-- nothing but questions may be asked
abbrev pub only_reads : Rights → Bool
only_reads rights.Read = true
only_reads _ = false

-- an event of a kind may be appended: by its source any of its own, by others any that isn't bound
abbrev pub may_append : Rights → ℕ → Bool
may_append rights.Read kind = false
may_append (rights.Source own) kind = kind == own
may_append (rights.Append bound) kind = not (is_bound bound kind)
may_append (rights.Close bound) kind = not (is_bound bound kind)

abbrev pub may_close : Rights → Bool
may_close (rights.Close bound) = true
may_close _ = false
