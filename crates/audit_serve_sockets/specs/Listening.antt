-- The connections that a socket accepts.
use Rattle.std.specs.Prelude.{Result, Ok, Err, List, [], ◌∷◌, ◌++◌}

-- How contracts see a socket on which connections arrive.
pub record ListenerModel (L T : Type 0) : Type 1 where
  -- from the first state to the second these connections were accepted, in order
  pub Accepted : L → L → List T → Type 0
  pub none_accepted : (socket : L) → Accepted socket socket []
  pub more_accepted : (old mid new : L) (first next : List T) → Accepted old mid first → Accepted mid new next
      → Accepted old new (first ++ next)

-- the connection that a call with this result accepted, if any
abbrev pub accepted_by : {T E : Type 0} → Result T E → List T
accepted_by (Ok connection) = connection ∷ []
accepted_by (Err error) = []

-- nothing is known of the connections
abbrev pub unknown_connections : {L T : Type 0} → ListenerModel L T
unknown_connections = record {
  Accepted = λ old new connections. Unit {0};
  none_accepted = λ socket. tt;
  more_accepted = λ old mid new first next before after. tt;
}
