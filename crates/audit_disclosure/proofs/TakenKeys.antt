-- Keys of chosen entries that are taken while an export is read again.
use Rattle.std.proofs.Common.{inl, inr, ◌≡◌, ◌≢◌, ℕ, suc, ◌+◌, Bool, Option, Some, None, IfSome, List, [], ◌∷◌, ◌++◌, length, sym, ap, ◌∙◌, subst, arith}
use Rattle.std.specs.Prelude.{◌||◌}
use Rattle.std.proofs.lemmas.List.{length_push}
use Rattle.audit_chain.specs.Key.{next_key, evolved_key}
use Rattle.audit_chain.specs.EventData.{EventData}
use Rattle.audit_chain.specs.Closing.{is_closed}
use Rattle.audit_chain.specs.Entries.{last_link_from}
use Rattle.audit_proof.specs.declared.commitment.Commitment.{Commitment}
use Rattle.audit_verify.specs.declared.accepted.Accepted.{Accepted}
use Rattle.audit_verify.specs.declared.fault.Cause.TheVariants.{WrongCommitment, Memory}
use Rattle.audit_verify.specs.declared.fault.VerifyFault.{VerifyFault}
use Rattle.audit_verify.specs.declared.verifying.TheConstants.{BYTE_LIMIT}
use Rattle.audit_verify.specs.State.{StateData, next_state}
use Rattle.audit_verify.specs.Continuing.{IsFaultFrom, HasVerified}
use Rattle.audit_verify.specs.Reading.{ReadingState, HasReadFrom, HasEndedFrom, StopsFrom, end_of_state}
use Rattle.audit_verify.proofs.Commitments.{length-leaves}
use Rattle.audit_verify.proofs.SameLinks.{same_log}
use Rattle.audit_disclosure.specs.declared.choice.Choice.{Choice}
use Rattle.audit_disclosure.specs.declared.disclosure.DisclosedKey.{DisclosedKey}
use Rattle.audit_disclosure.specs.declared.disclosure.Start.{Start}
use Rattle.audit_disclosure.specs.Choosing.{chosen_key, chosen_keys, start_after, log_end_after, TakesKeys, StopsKeys, DisclosesChosen, FailsDisclosing}
use Rattle.audit_disclosure.proofs.ChosenKeys.{chosen_keys_more}

one_more : (n : ℕ) → n + 1 ≡ suc n
one_more n = omega arith

pub record HasTakenChosen (choice : Choice) (from : StateData) (before after : Option (List ℕ)) (state : ReadingState) (key : List ℕ) (keys : List DisclosedKey) : Type 0 where
  pub events : List EventData
  pub taken : HasReadFrom from BYTE_LIMIT before after state events
  pub key_is : key ≡ evolved_key from.key (length events)
  pub keys_are : keys ≡ chosen_keys choice from.key from.frontier.count events

pub chosen_none : {choice : Choice} {from : StateData} {known : Option (List ℕ)} {state : ReadingState} {key : List ℕ} {keys : List DisclosedKey} → HasReadFrom from BYTE_LIMIT known known state [] → key ≡ from.key → keys ≡ []
    → HasTakenChosen choice from known known state key keys
chosen_none has same none = record { events = []; taken = has; key_is = same; keys_are = none }

pub chosen_more : {choice : Choice} {from : StateData} {before mid after : Option (List ℕ)} {state new : ReadingState} {key next : List ℕ} {keys grown : List DisclosedKey} (event : EventData) (index : ℕ)
    → (had : HasTakenChosen choice from before mid state key keys) → HasReadFrom from BYTE_LIMIT before after new (had.events ++ event ∷ []) → index ≡ from.frontier.count + length had.events
    → grown ≡ keys ++ chosen_key choice key index event.kind → next ≡ next_key key → HasTakenChosen choice from before after new next grown
chosen_more {choice = choice} {from = from} {key = key} {keys = keys} event index had taken index_is grows next_is = record {
  events = had.events ++ event ∷ [];
  taken = taken;
  key_is = next_is ∙ ap next_key had.key_is ∙ ap (evolved_key from.key) (sym (length_push had.events event ∙ one_more (length had.events)));
  keys_are = grows ∙ ap (λ ks. ks ++ chosen_key choice key index event.kind) had.keys_are
      ∙ ap (λ k. chosen_keys choice from.key from.frontier.count had.events ++ chosen_key choice k index event.kind) had.key_is
      ∙ ap (λ n. chosen_keys choice from.key from.frontier.count had.events ++ chosen_key choice (evolved_key from.key (length had.events)) n event.kind) index_is
      ∙ sym (chosen_keys_more choice from.key from.frontier.count had.events event);
}

-- ---- the end

abbrev accepted_with : ℕ → List ℕ → Bool → Accepted
accepted_with count link closed = record { count = count; last_link = link; closed = closed }

read_end : {from : StateData} {before after : Option (List ℕ)} {state : ReadingState} {events : List EventData} → HasReadFrom from BYTE_LIMIT before after state events → end_of_state state ≡ log_end_after from events
read_end {from = from} {state = state} {events = events} has =
    ap (λ n. accepted_with n state.link state.closed) has.count ∙ ap (λ l. accepted_with (from.frontier.count + length events) l state.closed) has.link
    ∙ ap (accepted_with (from.frontier.count + length events) (last_link_from from.key from.link events)) has.closed

pub keys_taken : {choice : Choice} {from : StateData} {before mid after : Option (List ℕ)} {state new : ReadingState} {key : List ℕ} {keys : List DisclosedKey} (accepted : Accepted) (had : HasTakenChosen choice from before mid state key keys)
    → HasEndedFrom from BYTE_LIMIT before after new had.events → end_of_state new ≡ accepted → IfSome before (λ again. TakesKeys choice from accepted again keys)
keys_taken {before = None} accepted had ended reached = tt
keys_taken {from = from} {before = Some again} accepted had ended reached = record {
  events = had.events;
  each = ended.taken.each;
  same_end = sym reached ∙ read_end ended.taken;
  whole = ended.whole;
  keys_are = had.keys_are;
}

pub other_end : {choice : Choice} {from : StateData} {before mid after : Option (List ℕ)} {state new : ReadingState} {key : List ℕ} {keys : List DisclosedKey} (accepted : Accepted) (fault : VerifyFault) (had : HasTakenChosen choice from before mid state key keys)
    → HasEndedFrom from BYTE_LIMIT before after new had.events → (end_of_state new ≢ accepted) → fault.cause ≡ WrongCommitment → IfSome before (λ again. StopsKeys from accepted again fault)
other_end {before = None} accepted fault had ended other is = tt
other_end {from = from} {before = Some again} accepted fault had ended other is = record {
  events = had.events;
  wrong = inr (inl (is, ended.whole, λ same. other (read_end ended.taken ∙ sym same)));
}

pub stopped_by : {choice : Choice} {from : StateData} {before mid : Option (List ℕ)} {state : ReadingState} {key : List ℕ} {keys : List DisclosedKey} {after : Option (List ℕ)} {failed : Type 0} (accepted : Accepted) (fault : VerifyFault)
    (had : HasTakenChosen choice from before mid state key keys) → StopsFrom from BYTE_LIMIT before after failed had.events fault → IfSome before (λ again. StopsKeys from accepted again fault)
stopped_by {before = None} accepted fault had stops = tt
stopped_by {before = Some again} accepted fault had stops = record { events = had.events; wrong = inl stops.wrong }

pub no_memory : (from : StateData) (before : Option (List ℕ)) (accepted : Accepted) (fault : VerifyFault) → fault.cause ≡ Memory → IfSome before (λ again. StopsKeys from accepted again fault)
no_memory from None accepted fault is = tt
no_memory from (Some again) accepted fault is = record { events = []; wrong = inr (inr is) }

-- ---- both passes

ends_after : (from next : StateData) (events : List EventData) → next ≡ next_state from events → accepted_with next.frontier.count next.link next.closed ≡ log_end_after from events
ends_after from next events is =
    ap (λ (s : StateData). accepted_with s.frontier.count s.link s.closed) is
    ∙ ap (λ n. accepted_with (from.frontier.count + n) (last_link_from from.key from.link events) (from.closed || is_closed events)) (length-leaves from events)

pub discloses : (choice : Choice) (from next : StateData) (start : Start) (keys : List DisclosedKey) (count : ℕ) (commitment : Commitment) (accepted : Accepted) (first second : Option (List ℕ))
    → accepted ≡ accepted_with next.frontier.count next.link next.closed → start ≡ start_after from → count ≡ next.frontier.count
    → IfSome first (λ bytes. HasVerified from commitment bytes next) → IfSome second (λ again. TakesKeys choice from accepted again keys)
    → IfSome first (λ bytes. IfSome second (λ again. DisclosesChosen choice from commitment bytes start keys count))
discloses choice from next start keys count commitment accepted None second is start_is count_is checked taken = tt
discloses choice from next start keys count commitment accepted (Some bytes) None is start_is count_is checked taken = tt
discloses choice from next start keys count commitment accepted (Some bytes) (Some again) is start_is count_is checked taken =
    let ends : log_end_after from checked.events ≡ log_end_after from taken.events = sym (ends_after from next checked.events checked.next_is) ∙ sym is ∙ taken.same_end in record {
      events = checked.events;
      others = taken.events;
      verified = checked.verified;
      same = elim (same_log from.key from.link checked.events taken.events checked.verified.continues.each taken.each (omega (arith, ap (λ (a : Accepted). a.count) ends)) (ap (λ (a : Accepted). a.last_link) ends)) [
        | inl found ↦ inl (sym found)
        | inr collide ↦ inr collide
      ];
      start_is = start_is;
      keys_are = taken.keys_are;
      count_is = count_is ∙ ap (λ (s : StateData). s.frontier.count) checked.next_is;
    }

pub fails_first : (from : StateData) (commitment : Commitment) (first second : Option (List ℕ)) (fault : VerifyFault) → IfSome first (λ bytes. IsFaultFrom from commitment bytes fault)
    → IfSome first (λ bytes. IfSome second (λ again. FailsDisclosing from commitment bytes again fault))
fails_first from commitment None second fault is = tt
fails_first from commitment (Some bytes) None fault is = tt
fails_first from commitment (Some bytes) (Some again) fault is = inl is

pub fails_second : (from next : StateData) (commitment : Commitment) (accepted : Accepted) (first second : Option (List ℕ)) (fault : VerifyFault) → accepted ≡ accepted_with next.frontier.count next.link next.closed
    → IfSome first (λ bytes. HasVerified from commitment bytes next) → IfSome second (λ again. StopsKeys from accepted again fault)
    → IfSome first (λ bytes. IfSome second (λ again. FailsDisclosing from commitment bytes again fault))
fails_second from next commitment accepted None second fault is checked stops = tt
fails_second from next commitment accepted (Some bytes) None fault is checked stops = tt
fails_second from next commitment accepted (Some bytes) (Some again) fault is checked stops =
    inr (checked.events, checked.verified, subst (λ a. StopsKeys from a again fault) (is ∙ ends_after from next checked.events checked.next_is) stops)
