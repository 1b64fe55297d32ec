-- Steps of a verifier: more bytes, one more event, a fault, the end.
use Rattle.std.proofs.Common.{inl, inr, ◌≡◌, ◌≢◌, Bool, true, false, ℕ, ◌+◌, ◌≤◌, min, Some, List, [], ◌∷◌, ◌++◌, length, take, drop, refl, sym, ap, ◌∙◌, subst, arith, length-append, append_assoc, append-nil}
use Rattle.std.specs.Prelude.{◌==◌}
use Rattle.std.proofs.lemmas.Bool.{cases_lt}
use Rattle.std.proofs.Math.Seq.{take-length}
use Rattle.std.proofs.lemmas.List.{drop_at, drop_all}
use Rattle.audit_base.specs.declared.limits.TheConstants.{MAX_COUNT, MAX_ENTRY}
use Rattle.audit_chain.specs.Key.{next_key}
use Rattle.audit_chain.specs.EventData.{EventData}
use Rattle.audit_chain.specs.Entry.{sealed_entry}
use Rattle.audit_chain.specs.EntryForm.{IsCutShort}
use Rattle.audit_tree.specs.Subtree.{leaf_hash_of}
use Rattle.audit_tree.specs.Frontier.{FrontierData, IsSized}
use Rattle.audit_tree.specs.Continued.{root_after, frontier_after}
use Rattle.audit_tree.proofs.ContinuedTrees.{frontier_further, after_none}
use Rattle.audit_proof.specs.declared.commitment.Commitment.{Commitment}
use Rattle.audit_verify.specs.declared.fault.Cause.{Cause}
use Rattle.audit_verify.specs.declared.fault.Cause.TheVariants.{Short, WrongCommitment, BadClose}
use Rattle.audit_verify.specs.Causes.{cause_number}
use Rattle.audit_verify.specs.State.{StateData, bytes_from_state, next_state, commitment_after}
use Rattle.audit_verify.specs.Verdict.{IsWrongNext}
use Rattle.audit_verify.specs.Continuing.{IsVerifiedFrom, IsFaultFrom}
use Rattle.audit_verify.specs.GivenUp.{IsBegun}
use Rattle.audit_verify.specs.Reading.{ReadingState, HasReadFrom, IsRightSeal}
use Rattle.audit_verify.proofs.Following.{made, wrong_more}
use Rattle.audit_verify.proofs.GivingUp.{wrong_at}
use Rattle.audit_verify.proofs.RightEntries.{begun_empty, begun_open, next_closed}
use Rattle.audit_verify.proofs.ReadingSteps.{taken_none, taken_entry, ended}
use Rattle.audit_verify.proofs.OneVerdict.{wrong_from}
use Rattle.audit_verify.proofs.Commitments.{leaves_after}
use Rattle.audit_verify.proofs.Built.{leaves_more, too_many, continues_by, committed_by, refused_by}
use Rattle.audit_c.specs.declared.answers.TheConstants.{OK}
use Rattle.audit_c.specs.declared.verifier.Verifier.{Verifier}
use Rattle.audit_c.specs.Fed.{HasBeenFed, HasEndFault, held_in, reader_of, tree_of}
use Rattle.audit_c.specs.Passed.{HasPassed}

-- a reader of entries with these parts, after it was fed `total` bytes
abbrev reads : List ℕ → List ℕ → ℕ → Bool → List ℕ → ℕ → ReadingState
reads key link count closed held total = record { key = key; link = link; count = count; closed = closed; held = held; total = total; limit = total }

same_reads : (v : Verifier) (total : ℕ) {key link held : List ℕ} {count : ℕ} {closed : Bool} → v.key ≡ key → v.link ≡ link → v.count ≡ count → (v.closed == 1) ≡ closed → held_in v ≡ held
    → reads key link count closed held total ≡ reader_of v total
same_reads v total {key = key} {link = link} {held = held} {count = count} {closed = closed} key_is link_is count_is closed_is held_is =
    ap (λ k. reads k link count closed held total) (sym key_is)
    ∙ ap (λ l. reads v.key l count closed held total) (sym link_is)
    ∙ ap (λ c. reads v.key v.link c closed held total) (sym count_is)
    ∙ ap (λ c. reads v.key v.link v.count c held total) (sym closed_is)
    ∙ ap (λ h. reads v.key v.link v.count (v.closed == 1) h total) (sym held_is)

-- nothing was fed
pub fed_none : (from : StateData) (v : Verifier) → IsSized from.frontier.count from.frontier.hashes → v.key ≡ from.key → v.link ≡ from.link → v.count ≡ from.frontier.count
    → (v.closed == 1) ≡ from.closed → v.nodes ≡ from.frontier.hashes → held_in v ≡ [] → v.held ≤ MAX_ENTRY → v.fault ≡ OK → HasBeenFed from [] [] v
fed_none from v sized key link count closed nodes held room right =
    let few : min v.count MAX_COUNT ≡ from.frontier.count = omega (arith, count, sized.most) in
    let tree : tree_of v ≡ from.frontier = ap (λ n. with_nodes n v.nodes) few ∙ ap (with_nodes from.frontier.count) nodes in
    record {
      read = subst (λ s. HasReadFrom from 0 (Some []) (Some []) s []) (same_reads v 0 key link count closed held)
          (taken_none from 0 (Some []) from.key from.link from.frontier.count from.closed [] refl refl refl refl refl);
      begun = begun_empty (v.closed == 1) (held_in v) held;
      tree = λ _. tree ∙ sym (after_none from.frontier sized);
      sized = subst (λ (f : FrontierData). IsSized f.count f.hashes) (sym tree) sized;
      room = room;
      right = right;
    }
  where
    with_nodes : ℕ → List (List ℕ) → FrontierData
    with_nodes count hashes = record { count = count; hashes = hashes }

-- more bytes of the next entry
pub grown : {from : StateData} {fed : List ℕ} {events : List EventData} {old : ReadingState} (part : List ℕ) → HasReadFrom from (length fed) (Some fed) (Some []) old events
    → IsBegun old.closed old.held → length part ≤ MAX_ENTRY
    → HasReadFrom from (length (fed ++ part)) (Some (fed ++ part)) (Some []) (reads old.key old.link old.count old.closed (old.held ++ part) (length (fed ++ part))) events
grown {from = from} {fed = fed} {events = events} {old = old} part has begun short =
    let all : List ℕ = bytes_from_state from events in
    let split : fed ≡ all ++ old.held = has.taken ∙ append-nil (all ++ old.held) in
    let joined : fed ++ part ≡ all ++ (old.held ++ part) = ap (λ front. front ++ part) split ∙ append_assoc all old.held part in
    record {
      each = has.each;
      closing = has.closing;
      key = has.key;
      link = has.link;
      count = has.count;
      closed = has.closed;
      taken = joined ∙ sym (append-nil (all ++ (old.held ++ part)));
      total = ap length joined;
      limit_is = refl;
      within = omega arith;
      last_read = record {
        before = all ++ old.held;
        last = part;
        split = append_assoc all old.held part;
        begun = subst (IsBegun old.closed) (sym (drop_at all old.held (length all) refl)) begun;
        within = omega (arith, ap length split, length-append fed part);
        short = short;
      };
    }

pub fed_more : {from : StateData} {fed : List ℕ} {events : List EventData} {old : Verifier} (new : Verifier) (part : List ℕ) → HasBeenFed from fed events old
    → new.key ≡ old.key → new.link ≡ old.link → new.nodes ≡ old.nodes → new.count ≡ old.count → (new.closed == 1) ≡ (old.closed == 1) → new.fault ≡ old.fault
    → new.held ≤ MAX_ENTRY → held_in new ≡ held_in old ++ part → length part ≤ MAX_ENTRY → IsBegun (new.closed == 1) (held_in new) → HasBeenFed from (fed ++ part) events new
fed_more {from = from} {fed = fed} {events = events} {old = old} new part has key link nodes count closed fault room held short begun =
    let tree : tree_of new ≡ tree_of old = ap (λ n. with_nodes (min n MAX_COUNT) new.nodes) count ∙ ap (with_nodes (min old.count MAX_COUNT)) nodes in
    let total = length (fed ++ part) in
    record {
      read = subst (λ s. HasReadFrom from total (Some (fed ++ part)) (Some []) s events) (same_reads new total key link count closed held) (grown part has.read has.begun short);
      begun = begun;
      tree = λ few. tree ∙ has.tree (omega (arith, few, count));
      sized = subst (λ (f : FrontierData). IsSized f.count f.hashes) (sym tree) has.sized;
      room = room;
      right = fault ∙ has.right;
    }
  where
    with_nodes : ℕ → List (List ℕ) → FrontierData
    with_nodes count hashes = record { count = count; hashes = hashes }

-- the same, where the bytes still end before the entry does
pub fed_short : {from : StateData} {fed : List ℕ} {events : List EventData} {old : Verifier} (new : Verifier) (piece : List ℕ) (taken : ℕ) → HasBeenFed from fed events old
    → new.key ≡ old.key → new.link ≡ old.link → new.nodes ≡ old.nodes → new.count ≡ old.count → new.closed ≡ old.closed → new.fault ≡ old.fault
    → (new.closed == 1) ≡ false → new.held ≡ old.held + taken → new.held ≤ MAX_ENTRY → held_in new ≡ held_in old ++ take taken piece → IsCutShort (held_in new)
    → taken ≡ length piece → HasBeenFed from (fed ++ piece) events new
fed_short {from = from} {fed = fed} {events = events} {old = old} new piece taken has key link nodes count closed fault goes_on more room held cut all =
    let whole : take taken piece ≡ piece = ap (λ n. take n piece) all ∙ take-length piece in
    let short : length (take taken piece) ≤ MAX_ENTRY = omega (arith, ap length whole, all, more, room) in
    subst (λ part. HasBeenFed from (fed ++ part) events new) whole
    (fed_more new (take taken piece) has key link nodes count (ap (λ n. n == 1) closed) fault room held short (begun_open (new.closed == 1) (held_in new) goes_on cut))

-- one more event
pub fed_event : {from : StateData} {fed : List ℕ} {events : List EventData} {old : Verifier} (mid new : Verifier) (part : List ℕ) {key : List ℕ} {size kind : ℕ} {link : List ℕ} → HasBeenFed from fed events old
    → key ≡ old.key → mid.count ≡ old.count → mid.nodes ≡ old.nodes → mid.fault ≡ old.fault → held_in mid ≡ held_in old ++ part → length part ≤ MAX_ENTRY → (old.closed == 1) ≡ false
    → (seal : IsRightSeal old.key old.link (held_in old ++ part) size kind link) → size ≡ length (held_in old ++ part) → HasPassed mid key size kind link new
    → HasBeenFed from (fed ++ part) (events ++ seal.event ∷ []) new
fed_event {from = from} {fed = fed} {events = events} {old = old} mid new part {size = size} {kind = kind} {link = link} has key_is count nodes fault held short goes_on seal whole passed =
    let bytes = held_in old ++ part in
    let total = length (fed ++ part) in
    let read = grown part has.read has.begun short in
    let rest : drop size bytes ≡ [] = drop_all size bytes (omega (arith, whole)) in
    let empty : held_in new ≡ [] = ap (λ n. take n new.bytes) passed.held in
    let next = taken_entry read goes_on seal in
    let tree : tree_of mid ≡ tree_of old = ap (λ n. with_nodes (min n MAX_COUNT) mid.nodes) count ∙ ap (with_nodes (min old.count MAX_COUNT)) nodes in
    let leaf = ap leaf_hash_of (ap (take size) held ∙ seal.entry.front) in
    record {
      read = subst (λ s. HasReadFrom from total (Some (fed ++ part)) (Some []) s (events ++ seal.event ∷ []))
          (same_reads new total (passed.key_is ∙ ap next_key key_is) passed.link_is (passed.count ∙ ap (λ n. n + 1) count) passed.closed (empty ∙ sym rest)) next;
      begun = begun_empty (new.closed == 1) (held_in new) empty;
      tree = λ few.
          passed.more (omega (arith, few, passed.count))
          ∙ ap (λ h. frontier_after (tree_of mid) (h ∷ [])) leaf
          ∙ ap (λ f. frontier_after f (leaf_hash_of (sealed_entry old.key old.link seal.event) ∷ [])) (tree ∙ has.tree (omega (arith, few, passed.count, count)))
          ∙ frontier_further from.frontier (leaves_after from events) (leaf_hash_of (sealed_entry old.key old.link seal.event) ∷ [])
          ∙ ap (frontier_after from.frontier) (sym (leaves_more seal.event has.read));
      sized = passed.sized;
      room = omega (arith, passed.held);
      right = passed.fault ∙ fault ∙ has.right;
    }
  where
    with_nodes : ℕ → List (List ℕ) → FrontierData
    with_nodes count hashes = record { count = count; hashes = hashes }

-- a fault of the bytes that are held and of the first part of a piece
pub fed_wrong : {from : StateData} {fed : List ℕ} {events : List EventData} {old : Verifier} (cause : Cause) (part tail piece : List ℕ) (index : ℕ) → HasBeenFed from fed events old → piece ≡ part ++ tail → index ≡ old.count
    → cause ≢ Short → IsWrongNext cause (old.closed == 1) old.key old.link (held_in old ++ part)
    → (commitment : Commitment) (more : List ℕ) → IsFaultFrom from commitment ((fed ++ piece) ++ more) (made index cause)
fed_wrong {from = from} {fed = fed} {events = events} {old = old} cause part tail piece index has parts at whole wrong = λ commitment more.
    let all : List ℕ = bytes_from_state from events in
    let held : List ℕ = held_in old in
    let rest : List ℕ = (held ++ part) ++ (tail ++ more) in
    let fed_is : fed ≡ all ++ held = has.read.taken ∙ append-nil (all ++ held) in
    let regrouped : ((all ++ held) ++ (part ++ tail)) ++ more ≡ all ++ rest = simp append_assoc in
    record {
      events = events;
      rest = rest;
      each = has.read.each;
      closing = has.read.closing;
      split = ap (λ f. (f ++ piece) ++ more) fed_is ∙ ap (λ p. ((all ++ held) ++ p) ++ more) parts ∙ regrouped;
      index = at ∙ has.read.count;
      wrong = wrong_from cause from commitment events rest (wrong_at cause rest has.read (wrong_more cause (old.closed == 1) old.key old.link (held ++ part) (tail ++ more) whole wrong));
    }

-- bytes follow the entry that closes the log
pub fed_shut : {from : StateData} {fed : List ℕ} {events : List EventData} {old : Verifier} (piece : List ℕ) (index : ℕ) → HasBeenFed from fed events old → index ≡ old.count → (old.closed == 1) ≡ true → piece ≢ []
    → (commitment : Commitment) (more : List ℕ) → IsFaultFrom from commitment ((fed ++ piece) ++ more) (made index BadClose)
fed_shut {old = old} piece index has at closed some =
    fed_wrong BadClose piece [] piece index has (sym (append-nil piece)) at (λ is. omega (arith, ap cause_number is))
    (next_closed (old.closed == 1) old.key old.link (held_in old ++ piece) closed (λ none. some (no_back (held_in old) piece none)))
  where
    no_back : (front back : List ℕ) → front ++ back ≡ [] → back ≡ []
    no_back [] back none = none
    no_back (byte ∷ front) back none = absurd (omega (arith, ap length none))

-- the bytes end within an entry
pub fed_cut : {from : StateData} {fed : List ℕ} {events : List EventData} {v : Verifier} → HasBeenFed from fed events v → held_in v ≢ [] → (commitment : Commitment) → HasEndFault from fed commitment v 40
fed_cut {from = from} {fed = fed} {events = events} {v = v} has some commitment = record {
  cause = Short;
  number = refl;
  inside = λ is. is;
  fault = record {
    events = events;
    rest = held_in v;
    each = has.read.each;
    closing = has.read.closing;
    split = has.read.taken ∙ append-nil (bytes_from_state from events ++ held_in v);
    index = has.read.count;
    wrong = wrong_at Short (held_in v) has.read (short_next (v.closed == 1) v.key v.link (held_in v) some has.begun);
  };
}
  where
    short_next : (closed : Bool) (key last_link bytes : List ℕ) → bytes ≢ [] → IsBegun closed bytes → IsWrongNext Short closed key last_link bytes
    short_next true key last_link bytes some begun = some (begun.none refl)
    short_next false key last_link bytes some begun = record { some = some; cut = begun.cut }

-- the commitment is to the entries, or not
abbrev pub LeadsTo : Verifier → Commitment → Type 0
LeadsTo v commitment = (v.count ≤ MAX_COUNT) × ((v.count ≡ commitment.count) × (root_after (tree_of v) [] ≡ commitment.root))

pub fed_verified : {from : StateData} {fed : List ℕ} {events : List EventData} {v : Verifier} (count : ℕ) (root : List ℕ) → HasBeenFed from fed events v → held_in v ≡ [] → LeadsTo v (record { count = count; root = root })
    → IsVerifiedFrom from (record { count = count; root = root }) fed events
fed_verified {from = from} {events = events} {v = v} count root has empty leads =
    let frontier = (next_state from events).frontier in
    let tree : tree_of v ≡ frontier = has.tree leads.0 in
    let counts : frontier.count + 0 ≡ count = omega (arith, leads.0, leads.1.0, ap (λ (f : FrontierData). f.count) tree) in
    let roots : root_after frontier [] ≡ root = ap (λ f. root_after f []) (sym tree) ∙ leads.1.1 in
    let same : commitment_after (next_state from events) [] ≡ record { count = count; root = root } = ap (λ n. record { count = n; root = root_after frontier [] }) counts ∙ ap (λ r. record { count = count; root = r }) roots in
    committed_by (record { count = count; root = root }) (continues_by (ended has.read refl empty) leads.0) refl same

pub fed_refused : {from : StateData} {fed : List ℕ} {events : List EventData} {v : Verifier} (commitment : Commitment) → HasBeenFed from fed events v → held_in v ≡ [] → ¬ LeadsTo v commitment → HasEndFault from fed commitment v 44
fed_refused {from = from} {fed = fed} {events = events} {v = v} commitment has empty other = record {
  cause = WrongCommitment;
  number = refl;
  inside = λ is. is;
  fault = elim (cases_lt MAX_COUNT v.count) [
    | inl many ↦ too_many (ended has.read refl empty) many commitment
    | inr few ↦
        let frontier = (next_state from events).frontier in
        let tree : tree_of v ≡ frontier = has.tree few in
        let count : v.count ≡ frontier.count = omega (arith, few, ap (λ (f : FrontierData). f.count) tree) in
        refused_by commitment (continues_by (ended has.read refl empty) few) refl (
          ap (λ n. made n WrongCommitment) count,
          λ same. other (
            few,
            (
              omega (arith, count, ap (λ (c : Commitment). c.count) same),
              ap (λ f. root_after f []) tree ∙ ap (λ (c : Commitment). c.root) same,
            ),
          ),
        )
  ];
}
