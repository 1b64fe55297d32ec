-- The looks of a witness, one after another.
use Rattle.std.specs.Prelude.{◌≡◌, ℕ, ◌^◌, ◌-◌, false, Option, List, [], ◌∷◌, length, Result, Ok, Err}
use Rattle.std.specs.List.{flat_map, AllByRecursion}
use Rattle.std.specs.Io.KnownBytes.{Appends}
use Rattle.audit_wire_ask.specs.declared.watching.Sight.{Sight}
use Rattle.audit_cli_connection.specs.declared.fault.RemoteError.{RemoteError}
use Rattle.audit_cli_connection.specs.declared.post.Post.{Post}
use Rattle.audit_cli_connection.specs.Faults.{is_passing_fault}
use Rattle.audit_cli_connection.specs.ServerCalls.{ServersModel, a_look, a_rest}
use Rattle.audit_cli_witness.specs.Looking.{PrintsLook, FollowsLook, IsFollowed, look_line}

module _ {F : Type 0} (servers : ServersModel F) where
  -- A witness looked once, and printed what it saw, if anything.
  pub record LooksOnce (post : Post) (was now : F) (old new : Option (List ℕ)) (failed : Type 0)
      (result : Result (Unit {0}) RemoteError) : Type 0 where
    pub sight : Result Sight RemoteError
    pub looked : servers.DidCalls was now (a_look post sight ∷ [])
    pub printed : PrintsLook post.is_quiet sight old new failed result

  -- A witness looked again and again, with a pause after each look, and this is what each saw. Each saw something or
  -- failed for a while, and their lines were printed in order.
  pub record LooksOn (post : Post) (every : ℕ) (was now : F) (old new : Option (List ℕ))
      (seen : List (Result Sight RemoteError)) : Type 0 where
    pub did : servers.DidCalls was now (flat_map (λ saw. a_look post saw ∷ a_rest every ∷ []) seen)
    pub followed : AllByRecursion IsFollowed seen
    pub printed : Appends old new (flat_map (look_line post.is_quiet) seen)

  -- A witness looked so, and then for the last time: that look failed for more than a while, or its line couldn't be
  -- printed.
  pub record LooksLast (post : Post) (every : ℕ) (was now : F) (old new : Option (List ℕ)) (failed : Type 0)
      (fault : RemoteError) : Type 0 where
    pub seen : List (Result Sight RemoteError)
    pub mid : F
    pub between : Option (List ℕ)
    pub earlier : LooksOn post every was mid old between seen
    pub sight : Result Sight RemoteError
    pub looked : servers.DidCalls mid now (a_look post sight ∷ [])
    pub ended : FollowsLook post.is_quiet sight between new failed (Err fault)
    pub lasting : is_passing_fault fault ≡ false

  -- It looked until there was a last look, or as often as a number counts.
  abbrev pub LooksToTheEnd : Post → ℕ → F → F → Option (List ℕ) → Option (List ℕ) → Type 0
      → Result (Unit {0}) RemoteError → Type 0
  LooksToTheEnd post every was now old new failed (Ok done) = (seen : List (Result Sight RemoteError))
      × (length seen ≡ 2 ^ 64 - 1) × LooksOn post every was now old new seen
  LooksToTheEnd post every was now old new failed (Err fault) = LooksLast post every was now old new failed fault
