-- Turns of one session.
use Rattle.std.proofs.Common.{◌≡◌, ◌⊎◌, ℕ, ◌+◌, ◌<◌, ◌≤◌, true, false, eqb, cond, List, [], ◌∷◌, ◌++◌, length, take, Result, Ok, Err, IsOk, OnOk, OnErr, refl, sym, ap, subst, ◌∙◌, arith, inl, inr, true≢false}
use Rattle.std.proofs.lemmas.Bool.{eq-eqb, cond-true}
use Rattle.std.proofs.lemmas.List.{append-nil, length-take-le, length-append}
use Rattle.audit_base.specs.declared.limits.TheConstants.{SESSIONS}
use Rattle.audit_serve_passes.specs.declared.limits.TheConstants.{MAX_PIECE}
use Rattle.audit_serve_passes.specs.declared.stream_fault.StreamError.{StreamError}
use Rattle.audit_serve_passes.specs.Steps.{StepData, a_piece, an_end, AreAbout, IsPartOf, bytes_fed, ends_in}
use Rattle.audit_serve_passes.specs.Rounds.{IsInterrupted}
use Rattle.audit_serve_passes.specs.Streams.{StreamCall, a_read, a_failed_read, a_write, a_failed_write, read_call, write_call, StreamModel, IsStreamed, ends_of_call, ends_of_calls, has_failed_write, calls_for}
use Rattle.audit_serve_passes.specs.Core.{CoreModel, GoesBy, no_bytes, bytes_for}
use Rattle.audit_serve_passes.specs.Ending.{EndsQuietly}
use Rattle.audit_serve_passes.specs.Transition.{SessionTransition, SessionReached, IsOneVisit, IsOutputTaken, IsEndOfClosed, closed_by}
use Rattle.audit_serve_passes.proofs.Calls.{calls_here}
use Rattle.audit_serve_passes.proofs.Transitions.{no_bytes_for}

pub on_ok : {E : Type 0} {P Q : Type 0} (result : Result (Unit {0}) E) → (P → Q) → OnOk result P → OnOk result Q
on_ok (Ok unit) f p = f p
on_ok (Err error) f p = tt

pub on_err : {A E : Type 0} {P Q : Type 0} (result : Result A E) → (P → Q) → OnErr result P → OnErr result Q
on_err (Ok value) f p = tt
on_err (Err error) f p = f p

pub if_err : {A E : Type 0} {P : Type 0} (result : Result A E) → P → OnErr result P
if_err (Ok value) p = tt
if_err (Err error) p = p

on_both : {E : Type 0} (P Q : Type 0) (result : Result (Unit {0}) E) → OnOk result P → OnOk result Q → OnOk result (P × Q)
on_both P Q (Ok unit) p q = (p, q)
on_both P Q (Err error) p q = tt

pub bytes_then_none : (k : ℕ) (bytes : List ℕ) → (λ (session : ℕ). bytes_for k bytes session ++ no_bytes session) ≡ bytes_for k bytes
bytes_then_none k bytes = λ i session. append-nil (bytes_for k bytes session) i

-- ---- the steps of a session

-- the steps feed no bytes to any session
abbrev pub BringNothing : List StepData → Type 0
BringNothing steps = (k : ℕ) → bytes_fed k steps ≡ []

one_piece : (k : ℕ) (piece : List ℕ) → bytes_fed k (a_piece k piece ∷ []) ≡ piece
one_piece k piece = append-nil (cond (eqb k k) piece []) ∙ cond-true (eqb k k) piece [] (eq-eqb k k refl)

one_end : (k : ℕ) → ends_in k (an_end k ∷ []) ≡ 1
one_end k = ap (λ (n : ℕ). n + 0) (cond-true (eqb k k) 1 0 (eq-eqb k k refl))

some_read : (bytes : List ℕ) → 1 ≤ length bytes → ends_of_call (a_read bytes) ≡ 0
some_read [] some = absurd (omega (arith, some))
some_read (byte ∷ bytes) some = refl

-- a part of an end
pub end_brings_nothing : (session : ℕ) (part : List StepData) → IsPartOf (an_end session) part → BringNothing part
end_brings_nothing session part (inl none) k = ap (bytes_fed k) none
end_brings_nothing session part (inr whole) k = ap (bytes_fed k) whole

-- a part of an end is at most one
part_ends : (k : ℕ) (part : List StepData) → IsPartOf (an_end k) part → ends_in k part ≤ 1
part_ends k part (inl none) = omega (arith, ap (ends_in k) none)
part_ends k part (inr whole) = omega (arith, ap (ends_in k) whole, one_end k)

end_about : (k : ℕ) (part : List StepData) → IsPartOf (an_end k) part → AreAbout k part
end_about k part (inl none) = subst (AreAbout k) (sym none) tt
end_about k part (inr whole) = subst (AreAbout k) (sym whole) (refl, tt)

-- ---- the calls of a turn

-- a read that returned nothing
end_call : (given : Result ℕ StreamError) (buffer : List ℕ) → ((count : ℕ) → given ≡ Ok count → count ≡ 0) → (read_call given buffer ≡ a_read []) ⊎ (read_call given buffer ≡ a_failed_read)
end_call (Ok count) buffer none = inl (ap (λ (n : ℕ). a_read (take n buffer)) (none count refl))
end_call (Err fault) buffer none = inr refl

end_of_call : (call : StreamCall) → (call ≡ a_read []) ⊎ (call ≡ a_failed_read) → ends_of_calls (call ∷ []) ≡ 1
end_of_call call (inl is) = ap (λ (c : StreamCall). ends_of_calls (c ∷ [])) is
end_of_call call (inr is) = ap (λ (c : StreamCall). ends_of_calls (c ∷ [])) is

module _ {S : Type 0} (N : StreamModel S) where
  -- a prefix of a piece was fed
  front_streamed : (k : ℕ) (piece front rest : List ℕ) (before after : S) → N.calls.DidCalls before after (a_read piece ∷ []) → piece ≡ front ++ rest
      → IsStreamed N k (a_piece k front ∷ []) rest [] (a_read piece ∷ []) before after
  front_streamed k piece front rest before after did split = record {
    did = did;
    read = append-nil piece ∙ split ∙ ap (λ (bytes : List ℕ). bytes ++ rest) (sym (one_piece k front));
    dropped = [];
    written = refl;
    none_dropped = λ now. refl;
    whole = tt;
  }

  piece_lost : (k : ℕ) (piece : List ℕ) (before after : S) → N.calls.DidCalls before after (a_read piece ∷ []) → IsStreamed N k [] piece [] (a_read piece ∷ []) before after
  piece_lost k piece before after did = record { did = did; read = append-nil piece; dropped = []; written = refl; none_dropped = λ now. refl; whole = tt }

  end_streamed : (k : ℕ) (steps : List StepData) (call : StreamCall) (before after : S) → bytes_fed k steps ≡ [] → (call ≡ a_read []) ⊎ (call ≡ a_failed_read) → N.calls.DidCalls before after (call ∷ [])
      → IsStreamed N k steps [] [] (call ∷ []) before after
  end_streamed k steps call before after none (inl is) did =
      subst (λ (c : StreamCall). IsStreamed N k steps [] [] (c ∷ []) before after) (sym is) (record {
        did = subst (λ (c : StreamCall). N.calls.DidCalls before after (c ∷ [])) is did;
        read = ap (λ (bytes : List ℕ). bytes ++ []) (sym none);
        dropped = [];
        written = refl;
        none_dropped = λ now. refl;
        whole = tt;
      })
  end_streamed k steps call before after none (inr is) did =
      subst (λ (c : StreamCall). IsStreamed N k steps [] [] (c ∷ []) before after) (sym is) (record {
        did = subst (λ (c : StreamCall). N.calls.DidCalls before after (c ∷ [])) is did;
        read = ap (λ (bytes : List ℕ). bytes ++ []) (sym none);
        dropped = [];
        written = refl;
        none_dropped = λ now. refl;
        whole = tt;
      })

  dropped_streamed : (k : ℕ) (bytes : List ℕ) (stream : S) → N.closed stream ≡ true → IsStreamed N k [] [] bytes [] stream stream
  dropped_streamed k bytes stream closed = record {
    did = N.calls.nothing_called stream;
    read = refl;
    dropped = bytes;
    written = refl;
    none_dropped = λ now. absurd (true≢false (sym closed ∙ now));
    whole = tt;
  }

  written_streamed : (k : ℕ) (bytes : List ℕ) (before after : S) → N.closed before ≡ false → N.calls.DidCalls before after (a_write bytes [] ∷ []) → IsStreamed N k [] [] bytes (a_write bytes [] ∷ []) before after
  written_streamed k bytes before after now did = record {
    did = did;
    read = refl;
    dropped = [];
    written = sym (append-nil (bytes ++ []) ∙ append-nil bytes);
    none_dropped = λ still. refl;
    whole = (now, tt);
  }

  failed_streamed : (k : ℕ) (steps : List StepData) (bytes : List ℕ) (before after : S) → bytes_fed k steps ≡ [] → N.closed before ≡ false → N.calls.DidCalls before after (a_failed_write bytes ∷ [])
      → IsStreamed N k steps [] bytes (a_failed_write bytes ∷ []) before after
  failed_streamed k steps bytes before after none now did = record {
    did = did;
    read = ap (λ (front : List ℕ). front ++ []) (sym none);
    dropped = [];
    written = sym (append-nil (bytes ++ []) ∙ append-nil bytes);
    none_dropped = λ still. refl;
    whole = (now, tt);
  }

module _ {C S : Type 0} (M : CoreModel C) (N : StreamModel S) where
  -- ---- reads

  pub piece_turn : {E : Type 0} (k count : ℕ) (buffer : List ℕ) (old new : C) (before after : S) (result : Result (Unit {0}) E) → N.calls.DidCalls before after (read_call (Ok count) buffer ∷ []) → count ≤ length buffer → 0 < count
      → length buffer ≤ MAX_PIECE → OnOk result (M.DidSteps old new (a_piece k (take count buffer) ∷ []) no_bytes) → OnOk result (SessionTransition M N k old new before after (λ calls. IsOneVisit k))
  piece_turn k count buffer old new before after result read within some most =
      let piece = take count buffer in
      let long : length piece ≡ count = length-take-le count buffer within in
      on_ok result λ did. record {
        steps = a_piece k piece ∷ [];
        sent = [];
        calls = a_read piece ∷ [];
        did = subst (λ (taken : ℕ → List ℕ). M.DidSteps old new (a_piece k piece ∷ []) taken) (no_bytes_for k) did;
        about = (refl, tt);
        shape = (a_piece k piece, refl, (refl, omega (arith, long, some), omega (arith, long, within, most)));
        streamed = front_streamed N k piece piece [] before after read (sym (append-nil piece));
        ends = omega (arith, some_read piece (omega (arith, long, some)));
      }

  pub end_turn : {E : Type 0} (k : ℕ) (buffer : List ℕ) (old new : C) (before after : S) (given : Result ℕ StreamError) (result : Result (Unit {0}) E) → N.calls.DidCalls before after (read_call given buffer ∷ [])
      → ((count : ℕ) → given ≡ Ok count → count ≡ 0) → OnOk result (M.DidSteps old new (an_end k ∷ []) no_bytes) → OnOk result (SessionTransition M N k old new before after (λ calls. IsOneVisit k))
  end_turn k buffer old new before after given result read none =
      let is = end_call given buffer none in
      on_ok result λ did. record {
        steps = an_end k ∷ [];
        sent = [];
        calls = read_call given buffer ∷ [];
        did = subst (λ (taken : ℕ → List ℕ). M.DidSteps old new (an_end k ∷ []) taken) (no_bytes_for k) did;
        about = (refl, tt);
        shape = (an_end k, refl, refl);
        streamed = end_streamed N k (an_end k ∷ []) (read_call given buffer) before after refl is read;
        ends = one_end k ∙ sym (end_of_call (read_call given buffer) is);
      }

  none_taken_of : (k : ℕ) (old new : C) (steps : List StepData) → M.DidStepsInPart old new steps no_bytes → M.DidStepsInPart old new steps (bytes_for k [])
  none_taken_of k old new steps = subst (λ (taken : ℕ → List ℕ). M.DidStepsInPart old new steps taken) (no_bytes_for k)

  pub piece_stopped : (k count : ℕ) (buffer : List ℕ) (old new : C) (before after : S) → N.calls.DidCalls before after (read_call (Ok count) buffer ∷ []) → count ≤ length buffer → 0 < count → length buffer ≤ MAX_PIECE
      → GoesBy M (a_piece k (take count buffer)) old new → SessionReached M N k old new before after (λ calls. IsInterrupted (IsOneVisit k))
  piece_stopped k count buffer old new before after read within some most (part, inl none, goes) =
      let piece = take count buffer in
      let long : length piece ≡ count = length-take-le count buffer within in
      record {
        steps = [];
        sent = [];
        calls = a_read piece ∷ [];
        reaches = none_taken_of k old new [] (subst (λ (steps : List StepData). M.DidStepsInPart old new steps no_bytes) none goes);
        about = tt;
        lost = piece;
        most = omega (arith, long, within, most);
        shape = record {
          front = [];
          step = a_piece k piece;
          part = [];
          later = [];
          are = refl;
          of = inl refl;
          shape = (a_piece k piece, refl, (refl, omega (arith, long, some), omega (arith, long, within, most)));
        };
        streamed = piece_lost N k piece before after read;
        ends = omega arith;
      }
  piece_stopped k count buffer old new before after read within some most (part, inr (front, rest, split, is), goes) =
      let piece = take count buffer in
      let long : length piece ≡ count = length-take-le count buffer within in
      record {
        steps = a_piece k front ∷ [];
        sent = [];
        calls = a_read piece ∷ [];
        reaches = none_taken_of k old new (a_piece k front ∷ []) (subst (λ (steps : List StepData). M.DidStepsInPart old new steps no_bytes) is goes);
        about = (refl, tt);
        lost = rest;
        most = omega (arith, long, within, most, ap length split, length-append front rest);
        shape = record {
          front = [];
          step = a_piece k piece;
          part = a_piece k front ∷ [];
          later = [];
          are = refl;
          of = inr (front, rest, split, refl);
          shape = (a_piece k piece, refl, (refl, omega (arith, long, some), omega (arith, long, within, most)));
        };
        streamed = front_streamed N k piece front rest before after read split;
        ends = omega arith;
      }

  pub end_stopped : (k : ℕ) (buffer : List ℕ) (old new : C) (before after : S) (given : Result ℕ StreamError) → N.calls.DidCalls before after (read_call given buffer ∷ [])
      → ((count : ℕ) → given ≡ Ok count → count ≡ 0) → GoesBy M (an_end k) old new → SessionReached M N k old new before after (λ calls. IsInterrupted (IsOneVisit k))
  end_stopped k buffer old new before after given read none goes = record {
    steps = goes.0;
    sent = [];
    calls = read_call given buffer ∷ [];
    reaches = none_taken_of k old new goes.0 goes.2;
    about = end_about k goes.0 goes.1;
    lost = [];
    most = omega arith;
    shape = record { front = []; step = an_end k; part = goes.0; later = []; are = refl; of = goes.1; shape = (an_end k, refl, refl) };
    streamed = end_streamed N k goes.0 (read_call given buffer) before after (end_brings_nothing k goes.0 goes.1 k) (end_call given buffer none) read;
    ends = omega (arith, part_ends k goes.0 goes.1, end_of_call (read_call given buffer) (end_call given buffer none));
  }

  -- ---- writes

  -- a stream that is closed: the output is dropped
  pub dropped_turn : (k : ℕ) (bytes : List ℕ) (old new : C) (stream : S) → N.closed stream ≡ true → M.DidSteps old new [] (bytes_for k bytes)
      → ((other : ℕ) → (other ≡ k → ⊥) → M.output new other ≡ M.output old other) → M.output new k ≡ [] → M.waiting new ≤ M.waiting old
      → SessionTransition M N k old new stream stream (IsOutputTaken M k old new)
  dropped_turn k bytes old new stream closed did others empty waits = record {
    steps = [];
    sent = bytes;
    calls = [];
    did = did;
    about = tt;
    shape = record { ends = inl refl; waiting = omega (arith, waits); empty = λ room. empty; others = λ room. others };
    streamed = dropped_streamed N k bytes stream closed;
    ends = refl;
  }

  pub written_turn : (k : ℕ) (bytes : List ℕ) (old new : C) (before after : S) (given : Result (Unit {0}) StreamError) → IsOk given → N.closed before ≡ false → N.calls.DidCalls before after (write_call given bytes ∷ [])
      → M.DidSteps old new [] (bytes_for k bytes) → ((other : ℕ) → (other ≡ k → ⊥) → M.output new other ≡ M.output old other) → M.output new k ≡ [] → M.waiting new ≤ M.waiting old
      → SessionTransition M N k old new before after (IsOutputTaken M k old new)
  written_turn k bytes old new before after (Ok unit) ok now write did others empty waits = record {
    steps = [];
    sent = bytes;
    calls = a_write bytes [] ∷ [];
    did = did;
    about = tt;
    shape = record { ends = inl refl; waiting = omega (arith, waits); empty = λ room. empty; others = λ room. others };
    streamed = written_streamed N k bytes before after now write;
    ends = refl;
  }
  written_turn k bytes old new before after (Err fault) ok now write did others empty waits = absurd (true≢false (sym ok))

  failed_here : (k : ℕ) (bytes : List ℕ) → closed_by (calls_for k (a_failed_write bytes ∷ [])) k ≡ true
  failed_here k bytes = ap has_failed_write (calls_here k (a_failed_write bytes ∷ []))

  -- a write that failed: the session is ended
  pub failed_turn : {E : Type 0} (k : ℕ) (bytes : List ℕ) (old mid new : C) (before after : S) (given : Result (Unit {0}) StreamError) (result : Result (Unit {0}) E) → (IsOk given → ⊥) → N.closed before ≡ false
      → N.calls.DidCalls before after (write_call given bytes ∷ []) → M.DidSteps old mid [] (bytes_for k bytes)
      → ((other : ℕ) → (other ≡ k → ⊥) → M.output mid other ≡ M.output old other) → M.output mid k ≡ [] → M.waiting mid ≤ M.waiting old
      → OnOk result (M.DidSteps mid new (an_end k ∷ []) no_bytes) → OnOk result (EndsQuietly M mid new) → OnOk result (SessionTransition M N k old new before after (IsOutputTaken M k old new))
  failed_turn k bytes old mid new before after (Ok unit) result bad now write taken others empty waits done quiet = absurd (bad refl)
  failed_turn k bytes old mid new before after (Err fault) result bad now write taken others empty waits done quiet =
      on_ok result (λ both.
      let did = both.0 in
      let ends : EndsQuietly M mid new = both.1 in
      record {
        steps = an_end k ∷ [];
        sent = bytes;
        calls = a_failed_write bytes ∷ [];
        did = subst (λ (all : ℕ → List ℕ). M.DidSteps old new (an_end k ∷ []) all) (bytes_then_none k bytes) (M.more_done old mid new [] (an_end k ∷ []) (bytes_for k bytes) no_bytes taken did);
        about = (refl, tt);
        shape = record {
          ends = inr (record { one = refl; closed = failed_here k bytes });
          waiting = omega (arith, waits, ends.waiting);
          empty = λ room. ends.outputs (omega (arith, waits, room)) k ∙ empty;
          others = λ room other apart. ends.outputs (omega (arith, waits, room)) other ∙ others other apart;
        };
        streamed = failed_streamed N k (an_end k ∷ []) bytes before after refl now write;
        ends = one_end k;
      }) (on_both (M.DidSteps mid new (an_end k ∷ []) no_bytes) (EndsQuietly M mid new) result done quiet)

  pub failed_stopped : (k : ℕ) (bytes : List ℕ) (old mid new : C) (before after : S) (given : Result (Unit {0}) StreamError) → (IsOk given → ⊥) → N.closed before ≡ false → N.calls.DidCalls before after (write_call given bytes ∷ [])
      → M.DidSteps old mid [] (bytes_for k bytes) → GoesBy M (an_end k) mid new → SessionReached M N k old new before after (λ calls. IsInterrupted (IsEndOfClosed k calls))
  failed_stopped k bytes old mid new before after (Ok unit) bad now write taken goes = absurd (bad refl)
  failed_stopped k bytes old mid new before after (Err fault) bad now write taken goes = record {
    steps = goes.0;
    sent = bytes;
    calls = a_failed_write bytes ∷ [];
    reaches = subst (λ (all : ℕ → List ℕ). M.DidStepsInPart old new goes.0 all) (bytes_then_none k bytes) (M.then_in_part old mid new [] goes.0 (bytes_for k bytes) no_bytes taken goes.2);
    about = end_about k goes.0 goes.1;
    lost = [];
    most = omega arith;
    shape = record { front = []; step = an_end k; part = goes.0; later = []; are = refl; of = goes.1; shape = record { one = refl; closed = failed_here k bytes } };
    streamed = failed_streamed N k goes.0 bytes before after (end_brings_nothing k goes.0 goes.1 k) now write;
    ends = omega (arith, part_ends k goes.0 goes.1);
  }
