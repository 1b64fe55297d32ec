-- The looks of a witness, one after another.
use Rattle.std.specs.Prelude.{Bool, Option, Result, Ok, Err}
use Rattle.std.specs.List.{flat_map, AllByRecursion}
use Rattle.std.specs.Io.KnownBytes.{Appends}
use Rattle.std.proofs.Common.{◌≡◌, ◌∙◌, ℕ, ◌+◌, List, [], ◌∷◌, ◌++◌, length, length-append, append-nil, ap, sym, subst, arith}
use Rattle.std.proofs.KnownBytes.{Appends-nil, Appends-kept, Appends-trans}
use Rattle.std.proofs.lemmas.Grind.{flat_map-append}
use Rattle.audit_wire_ask.specs.declared.watching.Sight.{Sight}
use Rattle.audit_cli_connection.specs.declared.fault.RemoteError.{RemoteError}
use Rattle.audit_cli_connection.specs.declared.post.Post.{Post}
use Rattle.audit_cli_witness.specs.Looking.{FollowsLook, IsFollowed, look_line}
use Rattle.audit_cli_witness.specs.Looks.{LooksOn}
use Rattle.audit_cli_connection.specs.ServerCalls.{ServerCall, ServersModel, a_look, a_rest}

followed_more : (seen : List (Result Sight RemoteError)) (saw : Result Sight RemoteError) → AllByRecursion IsFollowed seen → IsFollowed saw → AllByRecursion IsFollowed (seen ++ saw ∷ [])
followed_more [] saw all one = (one, tt)
followed_more (first ∷ seen) saw all one = (all.0, followed_more seen saw all.1 one)

followed_of : (quiet : Bool) (saw : Result Sight RemoteError) (old new : Option (List ℕ)) (failed : Type 0) (reported : Option RemoteError) → FollowsLook quiet saw old new failed (Ok reported) → IsFollowed saw
followed_of quiet (Ok sight) old new failed reported follows = tt
followed_of quiet (Err fault) old new failed reported follows = follows.0

line_of : (quiet : Bool) (saw : Result Sight RemoteError) (old new : Option (List ℕ)) (failed : Type 0) (reported : Option RemoteError) → FollowsLook quiet saw old new failed (Ok reported) → Appends old new (look_line quiet saw)
line_of quiet (Ok sight) old new failed reported follows = follows.1
line_of quiet (Err fault) old new failed reported follows = Appends-kept old old new [] (Appends-nil old) follows.2

pub one_more_look : (seen : List (Result Sight RemoteError)) (saw : Result Sight RemoteError) (looks : ℕ) → length seen ≡ looks → length (seen ++ saw ∷ []) ≡ looks + 1
one_more_look seen saw looks count = omega (arith, count, length-append seen (saw ∷ []))

module _ {F : Type 0} (servers : ServersModel F) (post : Post) (every : ℕ) where
  pub no_looks : (now : F) (known : Option (List ℕ)) → LooksOn servers post every now now known known []
  no_looks now known = record { did = servers.nothing_called now; followed = tt; printed = Appends-nil known }

  pub looks_more : (was mid rested now : F) (old between new : Option (List ℕ)) (seen : List (Result Sight RemoteError)) (saw : Result Sight RemoteError) (failed : Type 0) (reported : Option RemoteError) → LooksOn servers post every was mid old between seen
      → servers.DidCalls mid rested (a_look post saw ∷ []) → servers.DidCalls rested now (a_rest every ∷ []) → FollowsLook post.is_quiet saw between new failed (Ok reported) → LooksOn servers post every was now old new (seen ++ saw ∷ [])
  looks_more was mid rested now old between new seen saw failed reported before looked rests follows =
      let calls : Result Sight RemoteError → List ServerCall = λ one. a_look post one ∷ a_rest every ∷ [] in
      let line : Result Sight RemoteError → List ℕ = look_line post.is_quiet in
      record {
        did = subst (servers.DidCalls was now) (sym (flat_map-append calls seen (saw ∷ [])))
            (servers.more_called was mid now (flat_map calls seen) (calls saw) before.did (servers.more_called mid rested now (a_look post saw ∷ []) (a_rest every ∷ []) looked rests));
        followed = followed_more seen saw before.followed (followed_of post.is_quiet saw between new failed reported follows);
        printed = subst (Appends old new) (ap (λ (l : List ℕ). flat_map line seen ++ l) (sym (append-nil (line saw))) ∙ sym (flat_map-append line seen (saw ∷ [])))
            (Appends-trans old between new (flat_map line seen) (line saw) before.printed (line_of post.is_quiet saw between new failed reported follows));
      }
