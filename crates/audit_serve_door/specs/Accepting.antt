-- The connections that a socket accepts without waiting for them.
use Rattle.std.specs.Prelude.{Result, Ok, Err, List, [], ◌∷◌, ◌++◌}

-- How contracts see a socket on which connections come in.
pub record AcceptModel (L S : Type 0) : Type 1 where
  -- from the first state to the second these connections were accepted, in order
  pub DidAccept : L → L → List S → Type 0
  pub none_did : (socket : L) → DidAccept socket socket []
  pub more_did : (old mid new : L) (first next : List S) → DidAccept old mid first → DidAccept mid new next
      → DidAccept old new (first ++ next)

-- the connection that a call with this result accepted, if any
abbrev pub connection_of : {S E : Type 0} → Result S E → List S
connection_of (Ok connection) = connection ∷ []
connection_of (Err error) = []

-- nothing is known of the connections
abbrev pub unknown_accepting : {L S : Type 0} → AcceptModel L S
unknown_accepting = record {
  DidAccept = λ old new connections. Unit {0};
  none_did = λ socket. tt;
  more_did = λ old mid new first next before after. tt;
}
