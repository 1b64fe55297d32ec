-- What changes tell of the client of one place, as long as it stays.
use Rattle.std.specs.Prelude.{◌≡◌, ℕ, List, [], ◌∷◌, ◌++◌}
use Rattle.audit_serve_passes.specs.Steps.{StepData}
use Rattle.audit_serve_passes.specs.Streams.{StreamCall}
use Rattle.audit_serve_ready.specs.Clients.{ClientChange, a_pass, a_coming, a_refusal, a_going}

-- the steps of all passes, in order
abbrev pub steps_in : {S : Type 0} → List (ClientChange S) → List StepData
steps_in [] = []
steps_in (a_pass steps taken calls ∷ changes) = steps ++ steps_in changes
steps_in (a_coming k client ∷ changes) = steps_in changes
steps_in (a_refusal k client ∷ changes) = steps_in changes
steps_in (a_going k ∷ changes) = steps_in changes

-- all bytes that were taken of the output of a session
abbrev pub taken_in : {S : Type 0} → ℕ → List (ClientChange S) → List ℕ
taken_in k [] = []
taken_in k (a_pass steps taken calls ∷ changes) = taken k ++ taken_in k changes
taken_in k (a_coming j client ∷ changes) = taken_in k changes
taken_in k (a_refusal j client ∷ changes) = taken_in k changes
taken_in k (a_going j ∷ changes) = taken_in k changes

-- all calls of the streams that were in a place
abbrev pub calls_in : {S : Type 0} → ℕ → List (ClientChange S) → List StreamCall
calls_in k [] = []
calls_in k (a_pass steps taken calls ∷ changes) = calls k ++ calls_in k changes
calls_in k (a_coming j client ∷ changes) = calls_in k changes
calls_in k (a_refusal j client ∷ changes) = calls_in k changes
calls_in k (a_going j ∷ changes) = calls_in k changes

-- nobody comes to a place or goes from it
abbrev pub StaysAt : {S : Type 0} → ℕ → List (ClientChange S) → Type 0
StaysAt k [] = Unit {0}
StaysAt k (a_pass steps taken calls ∷ changes) = StaysAt k changes
StaysAt k (a_coming j client ∷ changes) = (k ≡ j → ⊥) × StaysAt k changes
StaysAt k (a_refusal j client ∷ changes) = StaysAt k changes
StaysAt k (a_going j ∷ changes) = (k ≡ j → ⊥) × StaysAt k changes
