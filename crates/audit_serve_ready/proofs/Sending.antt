-- What is sent to a client: kept and written.
use Rattle.std.proofs.lemmas.Bool.{cases_Bool, ltb-true, ltb-false}
use Rattle.std.proofs.Common.{◌≡◌, ◌≢◌, inl, inr, ℕ, ◌<◌, ◌≤◌, Bool, true, false, not, ◌&&◌, if◌then◌else◌, Option, Some, None, List, [], ◌∷◌, ◌++◌, length, take, drop, ltb, arith, refl, sym, ap, subst, ◌∙◌, append_assoc, true≢false}
use Rattle.std.proofs.lemmas.List.{append-nil, take-append-drop, length-take}
use Rattle.audit_serve_passes.specs.Streams.{a_write, a_failed_write, CallModel, has_failed_write}
use Rattle.audit_serve_ready.specs.declared.note.Note.{Note}
use Rattle.audit_serve_ready.specs.declared.note.Note.TheVariants.{WriteFailed, Memory}
use Rattle.audit_serve_ready.specs.declared.reception.Reception.{Reception}
use Rattle.audit_serve_ready.specs.declared.reception.Reception.TheVariants as reception
use Rattle.audit_serve_ready.specs.Slot.{SlotData, vacant, serving, unheard, closing, closed, noted_of, noted_after_sending, has_kept, slot_data, is_mute, is_shut, is_no_client, unread_of, kept_of, HasCalled, IsAccounted, IsPushed}
use Rattle.audit_serve_ready.proofs.Accounts.{accounted_none, accounted_then}

-- nothing was taken
pub no_count : (count : ℕ) → ltb 0 count ≡ false → count ≡ 0
no_count count none = omega (arith, ltb-false 0 count none)

-- something was taken
pub some_count : (count : ℕ) → ltb 0 count ≡ true → 0 < count
some_count count some = ltb-true 0 count some

-- a client for which something is kept takes replies
pub kept_heard : {S : Type 0} (slot : SlotData S) → has_kept slot ≡ true → is_mute slot ≡ false
kept_heard vacant kept = absurd (true≢false (sym kept))
kept_heard (serving client unread bytes noted) kept = refl
kept_heard (unheard client unread noted) kept = absurd (true≢false (sym kept))
kept_heard (closing client unread noted) kept = absurd (true≢false (sym kept))

pub mute_closed : {S : Type 0} (why : Note) (slot : SlotData S) → is_mute (closed why slot) ≡ true
mute_closed why vacant = refl
mute_closed why (serving client unread kept noted) = refl
mute_closed why (unheard client unread noted) = refl
mute_closed why (closing client unread noted) = refl

pub unread_closed : {S : Type 0} (why : Note) (slot : SlotData S) → unread_of (closed why slot) ≡ unread_of slot
unread_closed why vacant = refl
unread_closed why (serving client unread kept noted) = refl
unread_closed why (unheard client unread noted) = refl
unread_closed why (closing client unread noted) = refl

-- what a place is as the code has it
pub closes : {S : Type 0} (why : Note) (client : Option S) (how : Reception) (unread kept rest : List ℕ) (noted : Option Note) → slot_data client unread rest reception.Shut (Some why) ≡ closed why (slot_data client unread kept how noted)
closes why None how unread kept rest noted = refl
closes why (Some client) reception.Takes unread kept rest noted = refl
closes why (Some client) reception.Drops unread kept rest noted = refl
closes why (Some client) reception.Shut unread kept rest noted = refl

-- what is noted as the code has it
pub leaves_for : {S : Type 0} (client : S) (how : Reception) (unread kept : List ℕ) (noted : Option Note) → noted ≡ noted_of (slot_data (Some client) unread kept how noted)
leaves_for client reception.Takes unread kept noted = refl
leaves_for client reception.Drops unread kept noted = refl
leaves_for client reception.Shut unread kept noted = refl

-- a place that is mute and not shut has a client, and is shut when it is closed for want of memory
pub noted_closed : {S : Type 0} (slot : SlotData S) → is_mute slot ≡ false → noted_of (closed Memory slot) ≡ noted_after_sending [] slot (closed Memory slot)
noted_closed vacant heard = absurd (true≢false heard)
noted_closed (serving client unread kept noted) heard = refl
noted_closed (unheard client unread noted) heard = absurd (true≢false heard)
noted_closed (closing client unread noted) heard = absurd (true≢false heard)

not_newly_shut : {A : Type 0} (shut : Bool) (one other : A) → (if shut && not shut then one else other) ≡ other
not_newly_shut true one other = refl
not_newly_shut false one other = refl

-- the same place
pub noted_same : {S : Type 0} (slot : SlotData S) → noted_of slot ≡ noted_after_sending [] slot slot
noted_same slot = sym (not_newly_shut (is_shut slot) (Some Memory) (noted_of slot))

-- what is noted after keeping, and then after writing
noted_both : {A : Type 0} (failed first last old : Bool) (one other was kept now : A) → (old ≡ true → first ≡ true) → (first ≡ true → last ≡ true) → kept ≡ (if first && not old then other else was)
    → now ≡ (if failed then one else if last && not first then other else kept) → now ≡ (if failed then one else if last && not old then other else was)
noted_both true first last old one other was kept now opens shuts kept_is now_is = now_is
noted_both false true true old one other was kept now opens shuts kept_is now_is = now_is ∙ kept_is
noted_both false true false old one other was kept now opens shuts kept_is now_is = absurd (true≢false (sym (shuts refl)))
noted_both false false last true one other was kept now opens shuts kept_is now_is = absurd (true≢false (sym (opens refl)))
noted_both false false true false one other was kept now opens shuts kept_is now_is = now_is
noted_both false false false false one other was kept now opens shuts kept_is now_is = now_is ∙ kept_is

module _ {S : Type 0} (N : CallModel S) where
  -- kept, then pushed
  pub sent_then : (moved : Bool) (sent : List ℕ) (old kept pushed : SlotData S) → IsAccounted N sent [] old kept → unread_of kept ≡ unread_of old → (is_mute old ≡ false → is_mute kept ≡ true → is_shut kept ≡ true)
      → (is_shut old ≡ false → is_shut kept ≡ true → (kept_of old ≢ []) × (sent ≢ [])) → noted_of kept ≡ noted_after_sending [] old kept → IsPushed N moved [] kept pushed → IsPushed N moved sent old pushed
  sent_then moved sent old kept pushed first same drops shuts noted push = record {
    calls = push.calls;
    offered = push.offered;
    quiet = push.quiet;
    no_reads = push.no_reads;
    idle = push.idle;
    moves = push.moves;
    unread = push.unread ∙ same;
    accounted =
        subst (λ (bytes : List ℕ). IsAccounted N bytes push.calls old pushed) (append-nil sent)
        (accounted_then N sent [] [] push.calls old kept pushed first push.accounted);
    dropped = λ heard mute. elim (cases_Bool (is_mute kept)) [
      | inl e ↦ inr (push.accounted.shut (drops heard e))
      | inr e ↦ push.dropped e mute
    ];
    closed = λ open_ shut. elim (cases_Bool (is_shut kept)) [
      | inl e ↦ shuts open_ e
      | inr e ↦ absurd ((push.closed e shut).1 refl)
    ];
    noted = noted_both (has_failed_write push.calls) (is_shut kept) (is_shut pushed) (is_shut old) (Some WriteFailed) (Some Memory) (noted_of old) (noted_of kept) (noted_of pushed) first.shut push.accounted.shut noted push.noted;
  }

  -- the bytes are dropped in a place that takes none
  pub mute_drops : (sent : List ℕ) (old new : SlotData S) → is_mute new ≡ true → IsAccounted N [] [] old new → kept_of new ≡ [] → IsAccounted N sent [] old new
  mute_drops sent old new mute h none = record {
    client = h.client;
    dropped = h.dropped ++ sent;
    written =
        ap (λ (front : List ℕ). front ++ sent) (sym (append-nil (kept_of old)) ∙ h.written) ∙ append_assoc (kept_of new) h.dropped sent;
    none_dropped = λ now. absurd (true≢false (sym mute ∙ now));
    whole = h.whole;
    mute = h.mute;
    fails = h.fails;
    shut = h.shut;
  }

  -- what was kept is dropped when the place is shut
  pub closed_accounted : (why : Note) (slot : SlotData S) → IsAccounted N [] [] slot (closed why slot)
  closed_accounted why vacant = accounted_none N vacant
  closed_accounted why (serving client unread kept noted) = record {
    client = N.nothing_called client;
    dropped = kept;
    written = append-nil kept;
    none_dropped = λ now. absurd (true≢false now);
    whole = tt;
    mute = λ mute. refl;
    fails = λ failed. absurd (true≢false (sym failed));
    shut = λ shut. refl;
  }
  closed_accounted why (unheard client unread noted) = record {
    client = N.nothing_called client;
    dropped = [];
    written = refl;
    none_dropped = λ now. absurd (true≢false now);
    whole = tt;
    mute = λ mute. refl;
    fails = λ failed. absurd (true≢false (sym failed));
    shut = λ shut. refl;
  }
  closed_accounted why (closing client unread noted) = record {
    client = N.nothing_called client;
    dropped = [];
    written = refl;
    none_dropped = λ now. absurd (true≢false now);
    whole = tt;
    mute = λ mute. refl;
    fails = λ failed. absurd (true≢false (sym failed));
    shut = λ shut. refl;
  }

  pub push_none : (slot : SlotData S) → has_kept slot ≡ false → IsPushed N false [] slot slot
  push_none slot none = record { calls = []; offered = λ kept. absurd (true≢false (sym kept ∙ none)); quiet = refl; no_reads = refl; idle = λ still. refl; moves = λ moving. absurd (true≢false (sym moving)); unread = refl; accounted = accounted_none N slot; dropped = λ heard mute. absurd (true≢false (sym mute ∙ heard)); closed = λ live shut. absurd (true≢false (sym shut ∙ live)); noted = noted_same slot }

  -- a write took this number of the bytes that are kept
  pub push_some : (moved : Bool) (client after : S) (unread kept rest : List ℕ) (noted : Option Note) (count : ℕ) → N.DidCalls client after (a_write (take count kept) rest ∷ []) → kept ≡ take count kept ++ rest → (moved ≡ false → count ≡ 0) → (moved ≡ true → 0 < count) → count ≤ length kept → IsPushed N moved [] (serving client unread kept noted) (serving after unread rest noted)
  push_some moved client after unread kept rest noted count did split none some within = record {
    calls = a_write (take count kept) rest ∷ [];
    offered = λ still. inl refl;
    quiet = refl;
    no_reads = refl;
    idle = λ still. append-nil (take count kept) ∙ ap (λ (n : ℕ). take n kept) (none still);
    moves = λ moving. inl (λ empty. omega (arith, some moving, within, length-take count kept, ap length (sym (append-nil (take count kept)) ∙ empty)));
    unread = refl;
    dropped = λ heard mute. absurd (true≢false (sym mute));
    closed = λ live shut. absurd (true≢false (sym shut));
    noted = refl;
    accounted = record {
      client = did;
      dropped = [];
      written = append-nil kept ∙ split ∙ ap (λ (front : List ℕ). front ++ rest) (sym (append-nil (take count kept))) ∙ ap (λ (last : List ℕ). (take count kept ++ []) ++ last) (sym (append-nil rest));
      none_dropped = λ now. refl;
      whole = (refl, tt);
      mute = λ mute. absurd (true≢false (sym mute));
      fails = λ failed. absurd (true≢false (sym failed));
      shut = λ shut. absurd (true≢false (sym shut));
    };
  }

  -- a write of them failed
  pub push_failed : (client after : S) (unread kept : List ℕ) (noted : Option Note) → N.DidCalls client after (a_failed_write kept ∷ []) → IsPushed N true [] (serving client unread kept noted) (unheard after unread (Some WriteFailed))
  push_failed client after unread kept noted did = record {
    calls = a_failed_write kept ∷ [];
    offered = λ still. absurd (true≢false (sym still));
    quiet = refl;
    no_reads = refl;
    idle = λ still. absurd (true≢false still);
    moves = λ moving. inr refl;
    unread = refl;
    dropped = λ heard mute. inl refl;
    closed = λ live shut. absurd (true≢false (sym shut));
    noted = refl;
    accounted = record {
      client = did;
      dropped = [];
      written = append-nil kept ∙ sym (append-nil kept) ∙ sym (append-nil (kept ++ []));
      none_dropped = λ now. absurd (true≢false now);
      whole = (refl, tt);
      mute = λ mute. refl;
      fails = λ failed. refl;
      shut = λ shut. absurd (true≢false (sym shut));
    };
  }

  pub push_ok : (moved : Bool) (before after : Option S) (how : Reception) (unread kept : List ℕ) (noted : Option Note) (count : ℕ) → is_mute (slot_data before unread kept how noted) ≡ false → (is_no_client before ≡ false → HasCalled N before after (a_write (take count kept) (drop count kept) ∷ []))
      → (moved ≡ false → count ≡ 0) → (moved ≡ true → 0 < count) → count ≤ length kept → IsPushed N moved [] (slot_data before unread kept how noted) (slot_data after unread (drop count kept) how noted)
  push_ok moved None after how unread kept noted count live did none some within = absurd (true≢false live)
  push_ok moved (Some client) after reception.Drops unread kept noted count live did none some within = absurd (true≢false live)
  push_ok moved (Some client) after reception.Shut unread kept noted count live did none some within = absurd (true≢false live)
  push_ok moved (Some client) None reception.Takes unread kept noted count live did none some within = absurd (did refl)
  push_ok moved (Some client) (Some after) reception.Takes unread kept noted count live did none some within = push_some moved client after unread kept (drop count kept) noted count (did refl) (sym (take-append-drop count kept)) none some within

  pub push_err : (before after : Option S) (how : Reception) (unread kept rest : List ℕ) (noted : Option Note) → is_mute (slot_data before unread kept how noted) ≡ false → (is_no_client before ≡ false → HasCalled N before after (a_failed_write kept ∷ []))
      → IsPushed N true [] (slot_data before unread kept how noted) (slot_data after unread rest reception.Drops (Some WriteFailed))
  push_err None after how unread kept rest noted live did = absurd (true≢false live)
  push_err (Some client) after reception.Drops unread kept rest noted live did = absurd (true≢false live)
  push_err (Some client) after reception.Shut unread kept rest noted live did = absurd (true≢false live)
  push_err (Some client) None reception.Takes unread kept rest noted live did = absurd (did refl)
  push_err (Some client) (Some after) reception.Takes unread kept rest noted live did = push_failed client after unread kept noted (did refl)
