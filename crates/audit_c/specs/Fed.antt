-- What a verifier was fed, in pieces of any lengths: the entries of some events, and the start of the next one.
use Rattle.std.specs.Prelude.{◌≡◌, ◌⊎◌, ◌==◌, ℕ, ◌+◌, ◌≤◌, min, List, [], ◌∷◌, ◌++◌, Some, length, map, take}
use Rattle.audit_base.specs.declared.limits.TheConstants.{MAX_COUNT, MAX_ENTRY}
use Rattle.audit_chain.specs.EventData.{EventData}
use Rattle.audit_tree.specs.Subtree.{leaf_hash_of}
use Rattle.audit_tree.specs.Frontier.{FrontierData, IsSized}
use Rattle.audit_tree.specs.Continued.{frontier_after}
use Rattle.audit_proof.specs.declared.commitment.Commitment.{Commitment}
use Rattle.audit_verify.specs.declared.fault.Cause.{Cause}
use Rattle.audit_verify.specs.Causes.{cause_number}
use Rattle.audit_verify.specs.State.{StateData, entries_from_state}
use Rattle.audit_verify.specs.Verdict.{IsExternal}
use Rattle.audit_verify.specs.Continuing.{IsVerifiedFrom, IsFaultFrom}
use Rattle.audit_verify.specs.GivenUp.{IsBegun}
use Rattle.audit_verify.specs.Reading.{ReadingState, HasReadFrom}
use Rattle.audit_c.specs.declared.answers.TheConstants.{OK, MORE}
use Rattle.audit_c.specs.declared.verifier.Verifier.{Verifier}
use Rattle.audit_c.specs.declared.given_event.GivenEvent.{GivenEvent}

-- the bytes of the next entry so far
abbrev pub held_in : Verifier → List ℕ
held_in v = take v.held v.bytes

-- a verifier as a reader of entries, after it was fed `total` bytes
abbrev pub reader_of : Verifier → ℕ → ReadingState
reader_of v total = record {
  key = v.key;
  link = v.link;
  count = v.count;
  closed = v.closed == 1;
  held = held_in v;
  total = total;
  limit = total;
}

abbrev pub tree_of : Verifier → FrontierData
tree_of v = record { count = min v.count MAX_COUNT; hashes = v.nodes }

-- From a state on the verifier was fed these bytes: the entries of these events, all of them valid, and then the start
-- of the next one, which it holds. Where the bytes were cut makes no difference.
pub record HasBeenFed (from : StateData) (fed : List ℕ) (events : List EventData) (v : Verifier) : Type 0 where
  pub read : HasReadFrom from (length fed) (Some fed) (Some []) (reader_of v (length fed)) events
  pub begun : IsBegun (v.closed == 1) (held_in v)
  pub tree : v.count ≤ MAX_COUNT
      → tree_of v ≡ frontier_after from.frontier (map leaf_hash_of (entries_from_state from events))
  pub sized : IsSized (min v.count MAX_COUNT) v.nodes
  pub room : v.held ≤ MAX_ENTRY
  pub right : v.fault ≡ OK

-- An event was handed out: its entry ends after this many bytes of the piece.
pub record HasHandedOut (from : StateData) (fed : List ℕ) (events : List EventData) (piece : List ℕ) (v : Verifier)
    (given : GivenEvent) (payload : List ℕ) : Type 0 where
  pub event : EventData
  pub taken : given.taken ≤ length piece
  pub goes_on : HasBeenFed from (fed ++ take given.taken piece) (events ++ event ∷ []) v
  pub index : given.index ≡ from.frontier.count + length events
  pub kind : given.kind ≡ event.kind
  pub size : given.size ≡ length event.payload
  pub opened : take given.size payload ≡ event.payload

-- The bytes have this fault, whatever follows and whatever the commitment, and it is kept.
pub record HasStopped (from : StateData) (bytes : List ℕ) (v : Verifier) (answer : ℕ) : Type 0 where
  pub cause : Cause
  pub number : answer ≡ cause_number cause
  pub inside : ¬ IsExternal cause
  pub fault : (commitment : Commitment) (more : List ℕ)
      → IsFaultFrom from commitment (bytes ++ more) (record { index = v.count; cause = cause })
  pub kept : v.fault ≡ answer

-- what a piece leads to
abbrev pub IsFedOn : StateData → List ℕ → List EventData → List ℕ → Verifier → GivenEvent → List ℕ → ℕ → Type 0
IsFedOn from fed events piece v given payload answer =
    ((answer ≡ OK) × HasHandedOut from fed events piece v given payload)
    ⊎ (((answer ≡ MORE) × HasBeenFed from (fed ++ piece) events v)
    ⊎ HasStopped from (fed ++ piece) v answer)

-- the verdict on the bytes that were fed
pub record HasEndFault (from : StateData) (fed : List ℕ) (commitment : Commitment) (v : Verifier) (answer : ℕ) : Type 0
  where
    pub cause : Cause
    pub number : answer ≡ cause_number cause
    pub inside : ¬ IsExternal cause
    pub fault : IsFaultFrom from commitment fed (record { index = v.count; cause = cause })

abbrev pub IsFedVerdict : StateData → List ℕ → List EventData → Commitment → Verifier → ℕ → Type 0
IsFedVerdict from fed events commitment v answer =
    ((answer ≡ OK) × IsVerifiedFrom from commitment fed events) ⊎ HasEndFault from fed commitment v answer

-- the same in a closed log, where no event can follow
abbrev pub IsFedShut : StateData → List ℕ → List EventData → List ℕ → Verifier → ℕ → Type 0
IsFedShut from fed events piece v answer =
    ((answer ≡ MORE) × HasBeenFed from (fed ++ piece) events v) ⊎ HasStopped from (fed ++ piece) v answer
