-- How a piece that was sent through a connection is lost.
use Rattle.std.specs.Prelude.{◌≢◌, ◌⊎◌, ℕ, List}
use Rattle.audit_serve_sockets.specs.declared.link.Link.{Link}

-- A call failed at the end that sends or at the end that reads, or what was read isn't what was sent. The arguments before
-- the piece say of an end that its last call failed, or read these bytes.
abbrev pub LosesPiece : {W R : Type 0} → (W → Type 0) → (R → Type 0) → (R → List ℕ → Type 0) → List ℕ → W → R → Type 0
LosesPiece Unwritten Unread Gave piece from to =
    Unwritten from ⊎ (Unread to ⊎ ((bytes : List ℕ) × (Gave to bytes × (bytes ≢ piece))))

-- so was a piece that was sent from the first end to the second
abbrev pub LosesSome : {W R : Type 0} → (W → Type 0) → (R → Type 0) → (R → List ℕ → Type 0) → W → R → Type 0
LosesSome Unwritten Unread Gave from to = (piece : List ℕ) × LosesPiece Unwritten Unread Gave piece from to

-- the two ends of a link
abbrev pub client_end : {A B : Type 0} → Link A B → A
client_end link = link.client

abbrev pub server_end : {A B : Type 0} → Link A B → B
server_end link = link.server
