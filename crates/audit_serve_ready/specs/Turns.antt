-- How often each session has the first turn.
use Rattle.std.specs.Prelude.{ℕ, ◌+◌, ◌==◌, if◌then◌else◌, List, [], ◌∷◌}
use Rattle.audit_serve_ready.specs.Clients.{ClientChange, a_pass, a_coming, a_refusal, a_going, next_first}

-- how many passes there are
abbrev pub passes_in : {S : Type 0} → List (ClientChange S) → ℕ
passes_in [] = 0
passes_in (a_pass steps taken calls ∷ changes) = 1 + passes_in changes
passes_in (a_coming k client ∷ changes) = passes_in changes
passes_in (a_refusal k client ∷ changes) = passes_in changes
passes_in (a_going k ∷ changes) = passes_in changes

-- how many of them have session k first, if the first of them has session `first` first
abbrev pub own_turns : {S : Type 0} → ℕ → ℕ → List (ClientChange S) → ℕ
own_turns k first [] = 0
own_turns k first (a_pass steps taken calls ∷ changes) =
    (if first == k then 1 else 0) + own_turns k (next_first first) changes
own_turns k first (a_coming j client ∷ changes) = own_turns k first changes
own_turns k first (a_refusal j client ∷ changes) = own_turns k first changes
own_turns k first (a_going j ∷ changes) = own_turns k first changes
