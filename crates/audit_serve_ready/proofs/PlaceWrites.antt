-- What is written at one place after another.
use Rattle.std.proofs.Common.{◌≡◌, ◌⊎◌, ◌≢◌, inl, inr, ◌∙◌, ℕ, ◌+◌, ◌<◌, Bool, true, false, ◌||◌, List, [], ◌∷◌, ◌++◌, length, set, get_or, refl, sym, ap, subst, arith, true≢false}
use Rattle.std.proofs.lemmas.Bool.{cases_eq}
use Rattle.std.proofs.lemmas.List.{append-nil, length-set, get_or-set_same, get_or-set_other}
use Rattle.audit_serve_passes.specs.Streams.{StreamCall, CallModel, calls_for, bytes_sent, has_failed_write}
use Rattle.audit_serve_passes.specs.Core.{CoreModel, no_bytes, bytes_for}
use Rattle.audit_serve_passes.specs.CallLaws.{failed-append, bytes_sent-append}
use Rattle.audit_serve_passes.proofs.Calls.{calls_here, calls_there, or_left, or_right}
use Rattle.audit_serve_passes.proofs.Transitions.{none_of_both, no_calls, bytes_here, bytes_there, in_any}
use Rattle.audit_serve_ready.specs.Slot.{SlotData, vacant, unread_of, kept_of, is_shut, is_mute, has_read, noted_of, noted_after_sending, IsPushed}
use Rattle.audit_serve_ready.specs.Places.{slot_at, IsServedAt, IsReadyPass, WritesPlaces}
use Rattle.audit_serve_ready.proofs.Accounts.{either_of, served_elsewhere}
use Rattle.audit_serve_ready.proofs.Passes.{pass_then}
use Rattle.audit_serve_ready.proofs.Offers.{offered_first, offered_later}
use Rattle.audit_serve_ready.proofs.Sending.{noted_same}
use Rattle.audit_serve_ready.proofs.TurnByTurn.{read-append, neither_of}

no_front : (front rest : List ℕ) → front ++ rest ≡ [] → front ≡ []
no_front [] rest none = refl
no_front (byte ∷ front) rest none = absurd (cc none)

no_back : (front rest : List ℕ) → front ++ rest ≡ [] → rest ≡ []
no_back [] rest none = none
no_back (byte ∷ front) rest none = absurd (cc none)

or_none : (x y : Bool) → x ≡ false → y ≡ false → (x || y) ≡ false
or_none true y none also = absurd (true≢false none)
or_none false y none also = also

no_reads_more : (calls later : List StreamCall) → has_read calls ≡ false → has_read later ≡ false → has_read (calls ++ later) ≡ false
no_reads_more calls later first second = read-append calls later ∙ or_none (has_read calls) (has_read later) first second

abbrev IsNotedAs : {S : Type 0} → List StreamCall → SlotData S → SlotData S → Type 0
IsNotedAs calls before after = noted_of after ≡ noted_after_sending calls before after

module _ {C S : Type 0} (M : CoreModel C) (N : CallModel S) where
  pushed_at : {moved : Bool} (k : ℕ) (sent : List ℕ) (before after : SlotData S) (pushed : IsPushed N moved sent before after) → IsServedAt N k [] [] sent pushed.calls before after
  pushed_at k sent before after pushed = record {
    read = ap (λ (bytes : List ℕ). unread_of before ++ bytes) pushed.quiet ∙ append-nil (unread_of before) ∙ sym pushed.unread ∙ sym (append-nil (unread_of after));
    ends = inl refl;
    accounted = pushed.accounted;
  }

  push_pass : {moved : Bool} (k : ℕ) (sent : List ℕ) (old new : C) (slots : List (SlotData S)) (after : SlotData S) → k < length slots → M.DidSteps old new [] (bytes_for k sent) → (pushed : IsPushed N moved sent (slot_at k slots) after)
      → IsReadyPass N (M.DidSteps old new) no_bytes [] (bytes_for k sent) (calls_for k pushed.calls) slots (set slots k after)
  push_pass k sent old new slots after within did pushed = record {
    count = length-set slots k after;
    did = did;
    others = λ other above. bytes_there k other sent (λ same. omega (arith, above, within, same));
    at = λ other inside. elim (cases_eq other k) [
      | inl same ↦ subst (λ (j : ℕ). IsServedAt N j [] [] (bytes_for k sent j) (calls_for k pushed.calls j) (slot_at j slots) (slot_at j (set slots k after))) (sym same)
          (subst (λ (now : List ℕ). IsServedAt N k [] [] now (calls_for k pushed.calls k) (slot_at k slots) (slot_at k (set slots k after))) (sym (bytes_here k sent))
          (subst (λ (now : List StreamCall). IsServedAt N k [] [] sent now (slot_at k slots) (slot_at k (set slots k after))) (sym (calls_here k pushed.calls))
          (subst (λ (now : SlotData S). IsServedAt N k [] [] sent pushed.calls (slot_at k slots) now) (sym (get_or-set_same slots k after vacant within)) (pushed_at k sent (slot_at k slots) after pushed))))
      | inr apart ↦
          subst (λ (now : List ℕ). IsServedAt N other [] [] now (calls_for k pushed.calls other) (slot_at other slots) (slot_at other (set slots k after))) (sym (bytes_there k other sent apart))
          (subst (λ (now : List StreamCall). IsServedAt N other [] [] [] now (slot_at other slots) (slot_at other (set slots k after))) (sym (calls_there k other pushed.calls apart))
          (subst (λ (now : SlotData S). IsServedAt N other [] [] [] [] (slot_at other slots) now) (sym (get_or-set_other slots k other after vacant apart)) (served_elsewhere N other [] (slot_at other slots) tt)))
    ];
  }

  pub writes_start : (core : C) (slots : List (SlotData S)) → WritesPlaces N (M.DidSteps core core) false 0 no_bytes no_calls slots slots
  writes_start core slots = record {
    pass = record { count = refl; did = M.nothing_done core; others = λ k above. refl; at = λ k within. served_elsewhere N k [] (slot_at k slots) tt };
    offered = λ k below. absurd (omega (arith, below));
    no_reads = λ k. refl;
    idle = λ still k. refl;
    moves = λ moving. absurd (true≢false (sym moving));
    unread = λ k. refl;
    dropped = λ k heard mute. absurd (true≢false (sym mute ∙ heard));
    closed = λ k live shut. absurd (true≢false (sym shut ∙ live));
    noted = λ k. noted_same (slot_at k slots);
    others = λ k above. refl;
    uncalled = λ k above. refl;
  }

  pub writes_more : (was moved : Bool) (k : ℕ) (old mid new : C) (taken : ℕ → List ℕ) (calls : ℕ → List StreamCall) (sent : List ℕ) (before between : List (SlotData S)) (at after : SlotData S) → k < length between → WritesPlaces N (M.DidSteps old mid) was k taken calls before between
      → M.DidSteps mid new [] (bytes_for k sent) → IsPushed N moved sent (get_or between k at) after → (taken : ℕ → List ℕ) × (calls : ℕ → List StreamCall) × WritesPlaces N (M.DidSteps old new) (was || moved) (k + 1) taken calls before (set between k after)
  writes_more was moved k old mid new taken calls sent before between at after within first did pushing = (
    λ j. taken j ++ bytes_for k sent j,
    λ j. calls j ++ calls_for k pushed.calls j,
    record {
      pass = pass_then N {First = M.DidSteps old mid} {Next = M.DidSteps mid new} {Both = M.DidSteps old new} no_bytes [] [] taken (bytes_for k sent) calls (calls_for k pushed.calls) before between (set between k after) first.pass
          (push_pass k sent mid new between after within did pushed) (λ done then_. M.more_done old mid new [] [] taken (bytes_for k sent) done then_);
      offered = λ j below. elim (cases_eq j k) [
        | inl same ↦ offered_later (calls j) pushed.calls (calls_for k pushed.calls j) after (slot_at j (set between k after)) (now_is j same) (ap (calls_for k pushed.calls) same ∙ calls_here k pushed.calls) pushed.offered
        | inr apart ↦ offered_first (calls j) (calls_for k pushed.calls j) (slot_at j between) (slot_at j (set between k after)) (get_or-set_other between k j after vacant apart) (first.offered j (omega (arith, below, apart)))
      ];
      no_reads = λ j. no_reads_more (calls j) (calls_for k pushed.calls j) (first.no_reads j) (none_read j);
      idle = λ still j.
          let both = neither_of was moved still in
          bytes_sent-append (calls j) (calls_for k pushed.calls j) ∙ none_of_both (bytes_sent (calls j)) (bytes_sent (calls_for k pushed.calls j)) (first.idle both.0 j) (none_sent both.1 j);
      moves = λ moving. either_of was moved moving (λ is. moved_first (first.moves is)) (λ is. (k, moved_here (pushed.moves is)));
      unread = λ j. elim (cases_eq j k) [
        | inl same ↦ ap unread_of (now_is j same) ∙ pushed.unread ∙ ap unread_of (was_is j same)
        | inr apart ↦ ap unread_of (get_or-set_other between k j after vacant apart) ∙ first.unread j
      ];
      dropped = λ j heard mute. elim (cases_eq j k) [
        | inl same ↦ dropped_here j same (pushed.dropped (ap is_mute (was_is j same) ∙ heard) (sym (ap is_mute (now_is j same)) ∙ mute))
        | inr apart ↦ dropped_there j apart (first.dropped j heard (sym (ap is_mute (get_or-set_other between k j after vacant apart)) ∙ mute))
      ];
      closed = λ j live shut. elim (cases_eq j k) [
        | inl same ↦
            let why = pushed.closed (ap is_shut (was_is j same) ∙ live) (sym (ap is_shut (now_is j same)) ∙ shut) in (
              (λ none. why.0 (ap kept_of (was_is j same) ∙ none)),
              (λ none. why.1 (sym (bytes_here k sent) ∙ sym (ap (bytes_for k sent) same) ∙ no_back (taken j) (bytes_for k sent j) none)),
            )
        | inr apart ↦
            let why = first.closed j live (sym (ap is_shut (get_or-set_other between k j after vacant apart)) ∙ shut) in (
              why.0,
              (λ none. why.1 (sym (append-nil (taken j)) ∙ sym (ap (λ (more : List ℕ). taken j ++ more) (bytes_there k j sent apart)) ∙ none)),
            )
      ];
      noted = λ j. elim (cases_eq j k) [
        | inl same ↦ noted_here j same
        | inr apart ↦ subst (λ (now : List StreamCall). IsNotedAs now (slot_at j before) (slot_at j (set between k after))) (sym (calls_other j apart))
            (subst (IsNotedAs (calls j) (slot_at j before)) (sym (get_or-set_other between k j after vacant apart)) (first.noted j))
      ];
      others = λ j above. get_or-set_other between k j after vacant (λ same. omega (arith, above, same)) ∙ first.others j (omega (arith, above));
      uncalled = λ j above. ap (λ (front : List StreamCall). front ++ calls_for k pushed.calls j) (first.uncalled j (omega (arith, above))) ∙ calls_there k j pushed.calls (λ same. omega (arith, above, same));
    },
  )
    where
      pushed : IsPushed N moved sent (slot_at k between) after
      pushed = subst (λ (slot : SlotData S). IsPushed N moved sent slot after) (sym (in_any between k vacant at within)) pushing

      now_is : (j : ℕ) → j ≡ k → slot_at j (set between k after) ≡ after
      now_is j same = ap (λ (i : ℕ). slot_at i (set between k after)) same ∙ get_or-set_same between k after vacant within

      was_is : (j : ℕ) → j ≡ k → slot_at k between ≡ slot_at j before
      was_is j same = first.others k (omega arith) ∙ sym (ap (λ (i : ℕ). slot_at i before) same)

      calls_now : (j : ℕ) → j ≡ k → calls j ++ calls_for k pushed.calls j ≡ pushed.calls
      calls_now j same =
          ap (λ (i : ℕ). calls i ++ calls_for k pushed.calls i) same
          ∙ ap (λ (front : List StreamCall). front ++ calls_for k pushed.calls k) (first.uncalled k (omega arith)) ∙ calls_here k pushed.calls

      calls_other : (j : ℕ) → (j ≡ k → ⊥) → calls j ++ calls_for k pushed.calls j ≡ calls j
      calls_other j apart = ap (λ (more : List StreamCall). calls j ++ more) (calls_there k j pushed.calls apart) ∙ append-nil (calls j)

      noted_here : (j : ℕ) → j ≡ k → IsNotedAs (calls j ++ calls_for k pushed.calls j) (slot_at j before) (slot_at j (set between k after))
      noted_here j same =
          subst (λ (now : List StreamCall). IsNotedAs now (slot_at j before) (slot_at j (set between k after))) (sym (calls_now j same))
          (subst (IsNotedAs pushed.calls (slot_at j before)) (sym (now_is j same))
          (subst (λ (was : SlotData S). IsNotedAs pushed.calls was after) (was_is j same) pushed.noted))

      none_read : (j : ℕ) → has_read (calls_for k pushed.calls j) ≡ false
      none_read j = elim (cases_eq j k) [
        | inl same ↦ ap (λ (i : ℕ). has_read (calls_for k pushed.calls i)) same ∙ ap has_read (calls_here k pushed.calls) ∙ pushed.no_reads
        | inr apart ↦ ap has_read (calls_there k j pushed.calls apart)
      ]

      none_sent : moved ≡ false → (j : ℕ) → bytes_sent (calls_for k pushed.calls j) ≡ []
      none_sent still j = elim (cases_eq j k) [
        | inl same ↦ ap (λ (i : ℕ). bytes_sent (calls_for k pushed.calls i)) same ∙ ap bytes_sent (calls_here k pushed.calls) ∙ pushed.idle still
        | inr apart ↦ ap bytes_sent (calls_there k j pushed.calls apart)
      ]

      here : calls_for k pushed.calls k ≡ pushed.calls
      here = calls_here k pushed.calls

      moved_first : (j : ℕ) × ((bytes_sent (calls j) ≢ []) ⊎ (has_failed_write (calls j) ≡ true)) → (j : ℕ) × ((bytes_sent (calls j ++ calls_for k pushed.calls j) ≢ []) ⊎ (has_failed_write (calls j ++ calls_for k pushed.calls j) ≡ true))
      moved_first (j, inl sent_some) = (j, inl (λ none. sent_some (no_front (bytes_sent (calls j)) (bytes_sent (calls_for k pushed.calls j)) (sym (bytes_sent-append (calls j) (calls_for k pushed.calls j)) ∙ none))))
      moved_first (j, inr failed) = (j, inr (failed-append (calls j) (calls_for k pushed.calls j) ∙ or_left (has_failed_write (calls j)) (has_failed_write (calls_for k pushed.calls j)) failed))

      moved_here : (bytes_sent pushed.calls ≢ []) ⊎ (has_failed_write pushed.calls ≡ true) → (bytes_sent (calls k ++ calls_for k pushed.calls k) ≢ []) ⊎ (has_failed_write (calls k ++ calls_for k pushed.calls k) ≡ true)
      moved_here (inl sent_some) = inl (λ none. sent_some (sym (ap bytes_sent here) ∙ no_back (bytes_sent (calls k)) (bytes_sent (calls_for k pushed.calls k)) (sym (bytes_sent-append (calls k) (calls_for k pushed.calls k)) ∙ none)))
      moved_here (inr failed) = inr (failed-append (calls k) (calls_for k pushed.calls k) ∙ or_right (has_failed_write (calls k)) (has_failed_write (calls_for k pushed.calls k)) (ap has_failed_write here ∙ failed))

      dropped_here : (j : ℕ) → j ≡ k → (has_failed_write pushed.calls ≡ true) ⊎ (is_shut after ≡ true) → (has_failed_write (calls j ++ calls_for k pushed.calls j) ≡ true) ⊎ (is_shut (slot_at j (set between k after)) ≡ true)
      dropped_here j same (inl failed) = inl (failed-append (calls j) (calls_for k pushed.calls j) ∙ or_right (has_failed_write (calls j)) (has_failed_write (calls_for k pushed.calls j))
          (ap (λ (i : ℕ). has_failed_write (calls_for k pushed.calls i)) same ∙ ap has_failed_write (calls_here k pushed.calls) ∙ failed))
      dropped_here j same (inr shut) = inr (ap is_shut (now_is j same) ∙ shut)

      dropped_there : (j : ℕ) → (j ≡ k → ⊥) → (has_failed_write (calls j) ≡ true) ⊎ (is_shut (slot_at j between) ≡ true) → (has_failed_write (calls j ++ calls_for k pushed.calls j) ≡ true) ⊎ (is_shut (slot_at j (set between k after)) ≡ true)
      dropped_there j apart (inl failed) = inl (failed-append (calls j) (calls_for k pushed.calls j) ∙ or_left (has_failed_write (calls j)) (has_failed_write (calls_for k pushed.calls j)) failed)
      dropped_there j apart (inr shut) = inr (ap is_shut (get_or-set_other between k j after vacant apart) ∙ shut)
