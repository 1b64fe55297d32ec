-- What becomes of the bytes for a client, by calls one after another.
use Rattle.std.proofs.Common.{◌≡◌, ◌⊎◌, ℕ, ◌+◌, Bool, true, false, ◌||◌, Option, Some, None, List, [], ◌∷◌, ◌++◌, refl, sym, ap, ◌∙◌, append_assoc, arith, inl, inr, true≢false}
use Rattle.std.proofs.lemmas.List.{append-nil}
use Rattle.std.proofs.lemmas.Bool.{cases_Bool}
use Rattle.audit_serve_passes.specs.Steps.{StepData, bytes_fed, ends_in}
use Rattle.audit_serve_passes.specs.Streams.{StreamCall, a_read, a_read_in_vain, a_failed_read, a_write, a_failed_write, CallModel, bytes_read, bytes_sent, has_failed_write, AreWrittenWhole}
use Rattle.audit_serve_passes.specs.CallLaws.{or_of_three, bytes_read-append, bytes_sent-append, failed-append}
use Rattle.audit_serve_passes.specs.Transition.{AreElsewhere}
use Rattle.audit_serve_passes.proofs.Calls.{or_left, or_right, nothing_sent, whole-append}
use Rattle.audit_serve_passes.proofs.StreamSteps.{bytes_of-append, ends_in-append, bytes_elsewhere, ends_elsewhere}
use Rattle.audit_serve_ready.specs.Slot.{SlotData, vacant, serving, unheard, closing, client_of, unread_of, kept_of, with_unread, is_shut, is_mute, HasCalled, IsAccounted}
use Rattle.audit_serve_ready.specs.Places.{is_last_read, has_last_read, IsServedAt}

pub either_of : {P : Type 0} (x y : Bool) → (x || y) ≡ true → (x ≡ true → P) → (y ≡ true → P) → P
either_of true y one first second = first refl
either_of false y one first second = second one

pub last-append : (calls later : List StreamCall) → has_last_read (calls ++ later) ≡ (has_last_read calls || has_last_read later)
last-append [] later = refl
last-append (call ∷ calls) later =
    ap (λ (more : Bool). is_last_read call || more) (last-append calls later) ∙ or_of_three (is_last_read call) (has_last_read calls) (has_last_read later)

-- what isn't written in a place that is shut isn't written in one that may be
whole_weaker : (x y : Bool) → (x ≡ true → y ≡ true) → (calls : List StreamCall) → AreWrittenWhole y calls → AreWrittenWhole x calls
whole_weaker x y shuts [] whole = tt
whole_weaker x y shuts (a_read bytes ∷ calls) whole = whole_weaker x y shuts calls whole
whole_weaker x y shuts (a_read_in_vain ∷ calls) whole = whole_weaker x y shuts calls whole
whole_weaker x y shuts (a_failed_read ∷ calls) whole = whole_weaker x y shuts calls whole
whole_weaker x y shuts (a_write bytes left ∷ calls) whole = (still x y shuts whole.0, whole_weaker x y shuts calls whole.1)
  where
    still : (x y : Bool) → (x ≡ true → y ≡ true) → y ≡ false → x ≡ false
    still true y shuts now = absurd (true≢false (sym (shuts refl) ∙ now))
    still false y shuts now = refl
whole_weaker x y shuts (a_failed_write bytes ∷ calls) whole = (still x y shuts whole.0, whole.1)
  where
    still : (x y : Bool) → (x ≡ true → y ≡ true) → y ≡ false → x ≡ false
    still true y shuts now = absurd (true≢false (sym (shuts refl) ∙ now))
    still false y shuts now = refl

-- ---- bytes

join_open : (k s m b1 bk d1 b2 ck d2 : List ℕ) → k ++ s ≡ b1 ++ (bk ++ d1) → bk ++ m ≡ b2 ++ (ck ++ d2) → d1 ≡ [] → k ++ (s ++ m) ≡ (b1 ++ b2) ++ (ck ++ (d1 ++ d2))
join_open k s m b1 bk d1 b2 ck d2 first second none =
    sym (append_assoc k s m) ∙ ap (λ (x : List ℕ). x ++ m) first ∙ ap (λ (d : List ℕ). (b1 ++ (bk ++ d)) ++ m) none ∙ ap (λ (x : List ℕ). (b1 ++ x) ++ m) (append-nil bk)
    ∙ append_assoc b1 bk m ∙ ap (λ (x : List ℕ). b1 ++ x) second ∙ sym (append_assoc b1 b2 (ck ++ d2)) ∙ ap (λ (d : List ℕ). (b1 ++ b2) ++ (ck ++ (d ++ d2))) (sym none)

join_shut : (k s m b1 bk d1 b2 ck d2 : List ℕ) → k ++ s ≡ b1 ++ (bk ++ d1) → bk ++ m ≡ b2 ++ (ck ++ d2) → bk ≡ [] → b2 ≡ [] → ck ≡ [] → k ++ (s ++ m) ≡ (b1 ++ b2) ++ (ck ++ (d1 ++ d2))
join_shut k s m b1 bk d1 b2 ck d2 first second nb n2 nc =
    let rest : m ≡ d2 = ap (λ (x : List ℕ). x ++ m) (sym nb) ∙ second ∙ ap (λ (x : List ℕ). x ++ (ck ++ d2)) n2 ∙ ap (λ (x : List ℕ). x ++ d2) nc in
    sym (append_assoc k s m) ∙ ap (λ (x : List ℕ). x ++ m) first ∙ ap (λ (x : List ℕ). (b1 ++ (x ++ d1)) ++ m) nb ∙ append_assoc b1 d1 m ∙ ap (λ (x : List ℕ). b1 ++ (d1 ++ x)) rest
    ∙ ap (λ (x : List ℕ). x ++ (d1 ++ d2)) (sym (append-nil b1)) ∙ ap (λ (x : List ℕ). (b1 ++ x) ++ (d1 ++ d2)) (sym n2) ∙ ap (λ (x : List ℕ). (b1 ++ b2) ++ (x ++ (d1 ++ d2))) (sym nc)

pub nothing_kept : {S : Type 0} (slot : SlotData S) → is_mute slot ≡ true → kept_of slot ≡ []
nothing_kept vacant mute = refl
nothing_kept (serving client unread kept noted) mute = absurd (true≢false (sym mute))
nothing_kept (unheard client unread noted) mute = refl
nothing_kept (closing client unread noted) mute = refl

-- a place that isn't shut has the bytes that are put there
pub unread_put : {S : Type 0} (bytes : List ℕ) (slot : SlotData S) → is_shut slot ≡ false → unread_of (with_unread bytes slot) ≡ bytes
unread_put bytes vacant live = absurd (true≢false live)
unread_put bytes (serving client unread kept noted) live = refl
unread_put bytes (unheard client unread noted) live = refl
unread_put bytes (closing client unread noted) live = absurd (true≢false live)

module _ {S : Type 0} (N : CallModel S) where
  called_none : (client : Option S) → HasCalled N client client []
  called_none None = refl
  called_none (Some client) = N.nothing_called client

  called_then : (old mid new : Option S) (calls later : List StreamCall) → HasCalled N old mid calls → HasCalled N mid new later → HasCalled N old new (calls ++ later)
  called_then None None None calls later first second = ap (λ (front : List StreamCall). front ++ later) first ∙ second
  called_then None None (Some new) calls later first second = absurd second
  called_then None (Some mid) new calls later first second = absurd first
  called_then (Some old) None new calls later first second = absurd first
  called_then (Some old) (Some mid) None calls later first second = absurd second
  called_then (Some old) (Some mid) (Some new) calls later first second = N.more_called old mid new calls later first second

  -- ---- one place

  pub accounted_none : (slot : SlotData S) → IsAccounted N [] [] slot slot
  accounted_none slot = record {
    client = called_none (client_of slot);
    dropped = [];
    written = refl;
    none_dropped = λ now. refl;
    whole = tt;
    mute = λ mute. mute;
    fails = λ failed. absurd (true≢false (sym failed));
    shut = λ shut. shut;
  }

  -- what is unread is no matter of replies
  pub unread_accounted : (bytes : List ℕ) (slot : SlotData S) → IsAccounted N [] [] slot (with_unread bytes slot)
  unread_accounted bytes vacant = accounted_none vacant
  unread_accounted bytes (serving client unread kept noted) = record { client = N.nothing_called client; dropped = []; written = refl; none_dropped = λ now. refl; whole = tt; mute = λ mute. mute; fails = λ failed. absurd (true≢false (sym failed)); shut = λ shut. shut }
  unread_accounted bytes (unheard client unread noted) = record { client = N.nothing_called client; dropped = []; written = refl; none_dropped = λ now. refl; whole = tt; mute = λ mute. mute; fails = λ failed. absurd (true≢false (sym failed)); shut = λ shut. shut }
  unread_accounted bytes (closing client unread noted) = record { client = N.nothing_called client; dropped = []; written = refl; none_dropped = λ now. refl; whole = tt; mute = λ mute. mute; fails = λ failed. absurd (true≢false (sym failed)); shut = λ shut. shut }

  pub accounted_then : (sent more : List ℕ) (calls later : List StreamCall) (a b c : SlotData S) → IsAccounted N sent calls a b → IsAccounted N more later b c → IsAccounted N (sent ++ more) (calls ++ later) a c
  accounted_then sent more calls later a b c first second = record {
    client = called_then (client_of a) (client_of b) (client_of c) calls later first.client second.client;
    dropped = first.dropped ++ second.dropped;
    written =
        elim (cases_Bool (is_mute b)) [
          | inl e ↦ join_shut (kept_of a) sent more (bytes_sent calls) (kept_of b) first.dropped (bytes_sent later) (kept_of c) second.dropped first.written second.written
              (nothing_kept b e) (nothing_sent (is_mute b) later e second.whole) (nothing_kept c (second.mute e))
          | inr e ↦ join_open (kept_of a) sent more (bytes_sent calls) (kept_of b) first.dropped (bytes_sent later) (kept_of c) second.dropped first.written second.written (first.none_dropped e)
        ]
        ∙ ap (λ (all : List ℕ). all ++ (kept_of c ++ (first.dropped ++ second.dropped))) (sym (bytes_sent-append calls later));
    none_dropped = λ now. elim (cases_Bool (is_mute b)) [
      | inl e ↦ absurd (true≢false (sym (second.mute e) ∙ now))
      | inr e ↦ ap (λ (front : List ℕ). front ++ second.dropped) (first.none_dropped e) ∙ second.none_dropped now
    ];
    whole = whole-append (is_mute a) calls later first.whole
        (whole_weaker (is_mute a || has_failed_write calls) (is_mute b) (λ one. either_of (is_mute a) (has_failed_write calls) one first.mute first.fails) later second.whole);
    mute = λ mute. second.mute (first.mute mute);
    fails = λ failed. either_of (has_failed_write calls) (has_failed_write later) (sym (failed-append calls later) ∙ failed) (λ one. second.mute (first.fails one)) second.fails;
    shut = λ shut. second.shut (first.shut shut);
  }

  -- ---- one place, and the steps of its session

  pub served_elsewhere : (k : ℕ) (steps : List StepData) (slot : SlotData S) → AreElsewhere k steps → IsServedAt N k steps [] [] [] slot slot
  served_elsewhere k steps slot others = record {
    read = ap (λ (bytes : List ℕ). bytes ++ (unread_of slot ++ [])) (sym (bytes_elsewhere k steps others));
    ends = inl (ends_elsewhere k steps others);
    accounted = accounted_none slot;
  }

  ends_then : (first next : ℕ) (x y u v : Bool) → (first ≡ 0) ⊎ ((x || u) ≡ true) → (next ≡ 0) ⊎ ((y || v) ≡ true) → (u ≡ true → v ≡ true) → (first + next ≡ 0) ⊎ (((x || y) || v) ≡ true)
  ends_then first next x y u v (inl none) (inl also) shuts = inl (omega (arith, none, also))
  ends_then first next x y u v (inl none) (inr last) shuts =
      inr (either_of y v last (λ is. or_left (x || y) v (or_right x y is)) (or_right (x || y) v))
  ends_then first next x y u v (inr last) other shuts =
      inr (either_of x u last (λ is. or_left (x || y) v (or_left x y is)) (λ is. or_right (x || y) v (shuts is)))

  pub served_then : (k : ℕ) (steps later : List StepData) (lost sent more : List ℕ) (calls further : List StreamCall) (a b c : SlotData S) → IsServedAt N k steps [] sent calls a b → IsServedAt N k later lost more further b c
      → IsServedAt N k (steps ++ later) lost (sent ++ more) (calls ++ further) a c
  served_then k steps later lost sent more calls further a b c first second = record {
    read = ap (λ (bytes : List ℕ). unread_of a ++ bytes) (bytes_read-append calls further)
        ∙ sym (append_assoc (unread_of a) (bytes_read calls) (bytes_read further))
        ∙ ap (λ (front : List ℕ). front ++ bytes_read further) (first.read ∙ ap (λ (rest : List ℕ). bytes_fed k steps ++ rest) (append-nil (unread_of b)))
        ∙ append_assoc (bytes_fed k steps) (unread_of b) (bytes_read further)
        ∙ ap (λ (rest : List ℕ). bytes_fed k steps ++ rest) second.read
        ∙ sym (append_assoc (bytes_fed k steps) (bytes_fed k later) (unread_of c ++ lost))
        ∙ ap (λ (bytes : List ℕ). bytes ++ (unread_of c ++ lost)) (sym (bytes_of-append k steps later));
    ends = elim (ends_then (ends_in k steps) (ends_in k later) (has_last_read calls) (has_last_read further) (is_shut b) (is_shut c) first.ends second.ends second.accounted.shut) [
      | inl none ↦ inl (ends_in-append k steps later ∙ none)
      | inr last ↦ inr (ap (λ (x : Bool). x || is_shut c) (last-append calls further) ∙ last)
    ];
    accounted = accounted_then sent more calls further a b c first.accounted second.accounted;
  }
