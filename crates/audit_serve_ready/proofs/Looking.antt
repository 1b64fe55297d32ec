-- A look for bytes of a client.
use Rattle.std.proofs.Common.{◌≡◌, ◌≢◌, inl, inr, ℕ, ◌<◌, true, false, Option, Some, None, Result, Ok, Err, List, [], ◌∷◌, length, take, refl, sym, ap, subst, ◌∙◌, arith, true≢false}
use Rattle.std.proofs.lemmas.List.{append-nil, take_all}
use Rattle.audit_serve_passes.specs.declared.stream_fault.StreamError.{StreamError}
use Rattle.audit_serve_passes.specs.Streams.{StreamCall, a_read, a_read_in_vain, a_failed_read, a_write, a_failed_write, CallModel, bytes_read, bytes_sent}
use Rattle.audit_serve_ready.specs.Ready.{ready_read_call, IsReadInto}
use Rattle.audit_serve_ready.specs.declared.note.Note.{Note}
use Rattle.audit_serve_ready.specs.declared.note.Note.TheVariants.{Finished, ReadFailed}
use Rattle.audit_serve_ready.specs.declared.reception.Reception.{Reception}
use Rattle.audit_serve_ready.specs.declared.reception.Reception.TheVariants as reception
use Rattle.audit_serve_ready.specs.Slot.{SlotData, vacant, serving, unheard, closing, slot_data, noting, or_noted, noted_after_call, is_shut, is_no_client, unread_of, has_read, HasCalled, HasLooked, IsAccounted}
use Rattle.audit_serve_ready.specs.Places.{has_last_read}
use Rattle.audit_serve_ready.proofs.Accounts.{accounted_none}

-- what such a read gave is what is unread then
given_all : (given : Option (Result ℕ StreamError)) (bytes : List ℕ) → IsReadInto given bytes → bytes_read (ready_read_call given bytes ∷ []) ≡ bytes
given_all None bytes into = sym into
given_all (Some (Ok count)) bytes into = append-nil (take count bytes) ∙ take_all count bytes (omega (arith, into))
given_all (Some (Err fault)) bytes into = sym into

given_sent : (given : Option (Result ℕ StreamError)) (bytes : List ℕ) → bytes_sent (ready_read_call given bytes ∷ []) ≡ []
given_sent None bytes = refl
given_sent (Some (Ok count)) bytes = refl
given_sent (Some (Err fault)) bytes = refl

given_asked : (given : Option (Result ℕ StreamError)) (bytes : List ℕ) → has_read (ready_read_call given bytes ∷ []) ≡ true
given_asked None bytes = refl
given_asked (Some (Ok count)) bytes = refl
given_asked (Some (Err fault)) bytes = refl

-- nothing or a fault was read, so it was the last read
pub last_of : (given : Option (Result ℕ StreamError)) (bytes : List ℕ) → IsReadInto given bytes → ((count : ℕ) → given ≡ Some (Ok count) → count ≡ 0) → (given ≡ None → ⊥) → has_last_read (ready_read_call given bytes ∷ []) ≡ true
last_of None bytes into none some = absurd (some refl)
last_of (Some (Err fault)) bytes into none some = refl
last_of (Some (Ok count)) bytes into none some =
    ap (λ (n : ℕ). has_last_read (a_read (take n bytes) ∷ [])) (none count refl)

-- and nothing is unread
pub nothing_of : (given : Option (Result ℕ StreamError)) (bytes : List ℕ) → IsReadInto given bytes → ((count : ℕ) → given ≡ Some (Ok count) → count ≡ 0) → bytes ≡ []
nothing_of None bytes into none = into
nothing_of (Some (Err fault)) bytes into none = into
nothing_of (Some (Ok count)) bytes into none = no_length bytes (into ∙ none count refl)
  where
    no_length : (bytes : List ℕ) → length bytes ≡ 0 → bytes ≡ []
    no_length [] h = refl
    no_length (byte ∷ bytes) h = absurd (omega (arith, h))

-- something was read
pub some_of : (count : ℕ) (bytes : List ℕ) → 0 < count → IsReadInto (Some (Ok count)) bytes → has_last_read (ready_read_call (Some (Ok count)) bytes ∷ []) ≡ false
some_of count [] some into = absurd (omega (arith, some, into))
some_of count (byte ∷ bytes) some into = ap (λ (all : List ℕ). has_last_read (a_read all ∷ [])) (take_all count (byte ∷ bytes) (omega (arith, into)))

pub unread_data : {S : Type 0} (client : Option S) (how : Reception) (unread kept : List ℕ) (noted : Option Note) → unread ≡ [] → unread_of (slot_data client unread kept how noted) ≡ []
unread_data None how unread kept noted none = refl
unread_data (Some client) reception.Takes unread kept noted none = none
unread_data (Some client) reception.Drops unread kept noted none = none
unread_data (Some client) reception.Shut unread kept noted none = none

-- a reason is noted in the place as the code has it
pub noting_data : {S : Type 0} (why : Note) (client : Option S) (how : Reception) (unread kept : List ℕ) (noted : Option Note) → noting why (slot_data client unread kept how noted) ≡ slot_data client unread kept how (or_noted noted why)
noting_data why None how unread kept noted = refl
noting_data why (Some client) reception.Takes unread kept noted = refl
noting_data why (Some client) reception.Drops unread kept noted = refl
noting_data why (Some client) reception.Shut unread kept noted = refl

pub unread_noting : {S : Type 0} (why : Note) (slot : SlotData S) → unread_of (noting why slot) ≡ unread_of slot
unread_noting why vacant = refl
unread_noting why (serving client unread kept noted) = refl
unread_noting why (unheard client unread noted) = refl
unread_noting why (closing client unread noted) = refl

-- a read that isn't the last notes nothing
pub noted_still : (call : StreamCall) (noted : Option Note) → has_last_read (call ∷ []) ≡ false → noted_after_call call noted ≡ noted
noted_still (a_read []) noted going = absurd (true≢false going)
noted_still (a_read (byte ∷ bytes)) noted going = refl
noted_still a_read_in_vain noted going = refl
noted_still a_failed_read noted going = absurd (true≢false going)
noted_still (a_write bytes left) noted going = refl
noted_still (a_failed_write bytes) noted going = refl

-- one that found the end, or failed, does
pub noted_at_end : (given : Option (Result ℕ StreamError)) (count : ℕ) (bytes : List ℕ) (noted : Option Note) → given ≡ Some (Ok count) → count ≡ 0 → noted_after_call (ready_read_call given bytes) noted ≡ or_noted noted Finished
noted_at_end given count bytes noted is none = ap (λ r. noted_after_call (ready_read_call r bytes) noted) is ∙ ap (λ (n : ℕ). noted_after_call (a_read (take n bytes)) noted) none

pub noted_failed : (given : Option (Result ℕ StreamError)) (fault : StreamError) (bytes : List ℕ) (noted : Option Note) → given ≡ Some (Err fault) → noted_after_call (ready_read_call given bytes) noted ≡ or_noted noted ReadFailed
noted_failed given fault bytes noted is = ap (λ r. noted_after_call (ready_read_call r bytes) noted) is

module _ {S : Type 0} (N : CallModel S) where
  pub stays : (slot : SlotData S) → unread_of slot ≢ [] → HasLooked N slot slot []
  stays slot some = record { read = append-nil (unread_of slot); asked = inl some; same = record { kept = refl; mute = refl; shut = refl; noted = refl }; quiet = refl; accounted = accounted_none N slot }

  read_serving : (client after : S) (bytes kept : List ℕ) (noted : Option Note) (given : Option (Result ℕ StreamError)) → IsReadInto given bytes → N.DidCalls client after (ready_read_call given bytes ∷ [])
      → HasLooked N (serving client [] kept noted) (serving after bytes kept (noted_after_call (ready_read_call given bytes) noted)) (ready_read_call given bytes ∷ [])
  read_serving client after bytes kept noted given into did = record {
    read = given_all given bytes into;
    asked = inr (given_asked given bytes);
    same = record { kept = refl; mute = refl; shut = refl; noted = refl };
    quiet = given_sent given bytes;
    accounted = reads given did;
  }
    where
      reads : (given : Option (Result ℕ StreamError)) → N.DidCalls client after (ready_read_call given bytes ∷ []) → IsAccounted N [] (ready_read_call given bytes ∷ []) (serving client [] kept noted) (serving after bytes kept (noted_after_call (ready_read_call given bytes) noted))
      reads None did = record { client = did; dropped = []; written = refl; none_dropped = λ now. refl; whole = tt; mute = λ mute. mute; fails = λ failed. absurd (true≢false (sym failed)); shut = λ shut. shut }
      reads (Some (Ok count)) did = record { client = did; dropped = []; written = refl; none_dropped = λ now. refl; whole = tt; mute = λ mute. mute; fails = λ failed. absurd (true≢false (sym failed)); shut = λ shut. shut }
      reads (Some (Err fault)) did = record { client = did; dropped = []; written = refl; none_dropped = λ now. refl; whole = tt; mute = λ mute. mute; fails = λ failed. absurd (true≢false (sym failed)); shut = λ shut. shut }

  read_unheard : (client after : S) (bytes : List ℕ) (noted : Option Note) (given : Option (Result ℕ StreamError)) → IsReadInto given bytes → N.DidCalls client after (ready_read_call given bytes ∷ [])
      → HasLooked N (unheard client [] noted) (unheard after bytes (noted_after_call (ready_read_call given bytes) noted)) (ready_read_call given bytes ∷ [])
  read_unheard client after bytes noted given into did = record {
    read = given_all given bytes into;
    asked = inr (given_asked given bytes);
    same = record { kept = refl; mute = refl; shut = refl; noted = refl };
    quiet = given_sent given bytes;
    accounted = reads given did;
  }
    where
      reads : (given : Option (Result ℕ StreamError)) → N.DidCalls client after (ready_read_call given bytes ∷ []) → IsAccounted N [] (ready_read_call given bytes ∷ []) (unheard client [] noted) (unheard after bytes (noted_after_call (ready_read_call given bytes) noted))
      reads None did = record { client = did; dropped = []; written = refl; none_dropped = λ now. refl; whole = tt; mute = λ mute. mute; fails = λ failed. absurd (true≢false (sym failed)); shut = λ shut. shut }
      reads (Some (Ok count)) did = record { client = did; dropped = []; written = refl; none_dropped = λ now. refl; whole = tt; mute = λ mute. mute; fails = λ failed. absurd (true≢false (sym failed)); shut = λ shut. shut }
      reads (Some (Err fault)) did = record { client = did; dropped = []; written = refl; none_dropped = λ now. refl; whole = tt; mute = λ mute. mute; fails = λ failed. absurd (true≢false (sym failed)); shut = λ shut. shut }

  read_into : (before after : Option S) (how : Reception) (unread bytes kept : List ℕ) (noted : Option Note) (given : Option (Result ℕ StreamError)) → is_shut (slot_data before unread kept how noted) ≡ false → unread ≡ [] → IsReadInto given bytes
      → (is_no_client before ≡ false → HasCalled N before after (ready_read_call given bytes ∷ []))
      → HasLooked N (slot_data before unread kept how noted) (slot_data after bytes kept how (noted_after_call (ready_read_call given bytes) noted)) (ready_read_call given bytes ∷ [])
  read_into None after how unread bytes kept noted given live none into did = absurd (true≢false live)
  read_into (Some client) after reception.Shut unread bytes kept noted given live none into did = absurd (true≢false live)
  read_into (Some client) None reception.Takes unread bytes kept noted given live none into did = absurd (did refl)
  read_into (Some client) None reception.Drops unread bytes kept noted given live none into did = absurd (did refl)
  read_into (Some client) (Some after) reception.Takes unread bytes kept noted given live none into did =
      subst (λ (empty : List ℕ). HasLooked N (serving client empty kept noted) (serving after bytes kept (noted_after_call (ready_read_call given bytes) noted)) (ready_read_call given bytes ∷ [])) (sym none)
      (read_serving client after bytes kept noted given into (did refl))
  read_into (Some client) (Some after) reception.Drops unread bytes kept noted given live none into did =
      subst (λ (empty : List ℕ). HasLooked N (unheard client empty noted) (unheard after bytes (noted_after_call (ready_read_call given bytes) noted)) (ready_read_call given bytes ∷ [])) (sym none)
      (read_unheard client after bytes noted given into (did refl))

  -- the same, with what was noted given
  pub reads : (before after : Option S) (how : Reception) (unread bytes kept : List ℕ) (noted now : Option Note) (given : Option (Result ℕ StreamError)) → noted_after_call (ready_read_call given bytes) noted ≡ now → is_shut (slot_data before unread kept how noted) ≡ false → unread ≡ []
      → IsReadInto given bytes → (is_no_client before ≡ false → HasCalled N before after (ready_read_call given bytes ∷ [])) → HasLooked N (slot_data before unread kept how noted) (slot_data after bytes kept how now) (ready_read_call given bytes ∷ [])
  reads before after how unread bytes kept noted now given is live none into did =
      subst (λ (why : Option Note). HasLooked N (slot_data before unread kept how noted) (slot_data after bytes kept how why) (ready_read_call given bytes ∷ [])) is (read_into before after how unread bytes kept noted given live none into did)

pub open_unread : {S : Type 0} (client : Option S) (how : Reception) (unread kept : List ℕ) (noted : Option Note) → is_shut (slot_data client unread kept how noted) ≡ false → unread_of (slot_data client unread kept how noted) ≡ unread
open_unread None how unread kept noted live = absurd (true≢false live)
open_unread (Some client) reception.Takes unread kept noted live = refl
open_unread (Some client) reception.Drops unread kept noted live = refl
open_unread (Some client) reception.Shut unread kept noted live = absurd (true≢false live)
