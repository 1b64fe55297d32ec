-- What steps feed from the stream of one session.
use Rattle.std.proofs.Common.{◌≡◌, ℕ, ◌+◌, Bool, true, false, ◌||◌, eqb, List, [], ◌∷◌, ◌++◌, refl, sym, ap, subst, ◌∙◌, append_assoc, arith, inl, inr, true≢false}
use Rattle.std.proofs.lemmas.List.{append-nil}
use Rattle.std.proofs.lemmas.Bool.{cases_Bool, ne_eqb, cond-false}
use Rattle.audit_serve_passes.specs.Steps.{StepData, a_piece, an_end, a_flush, IsAbout, AreAbout, bytes_in, bytes_fed, ends_in_step, ends_in}
use Rattle.audit_serve_passes.specs.Streams.{StreamCall, StreamModel, IsStreamed, AreWrittenWhole, bytes_read, bytes_sent, has_failed_write}
use Rattle.audit_serve_passes.specs.Transition.{AreElsewhere}
use Rattle.audit_serve_passes.specs.CallLaws.{bytes_read-append, bytes_sent-append}
use Rattle.audit_serve_passes.proofs.Calls.{nothing_sent, whole-append}

-- ---- consecutive steps

pub bytes_of-append : (k : ℕ) (steps later : List StepData) → bytes_fed k (steps ++ later) ≡ bytes_fed k steps ++ bytes_fed k later
bytes_of-append k [] later = refl
bytes_of-append k (step ∷ steps) later = ap (λ (bytes : List ℕ). bytes_in k step ++ bytes) (bytes_of-append k steps later) ∙ sym (append_assoc (bytes_in k step) (bytes_fed k steps) (bytes_fed k later))

pub ends_in-append : (k : ℕ) (steps later : List StepData) → ends_in k (steps ++ later) ≡ ends_in k steps + ends_in k later
ends_in-append k [] later = omega arith
ends_in-append k (step ∷ steps) later = ap (λ (n : ℕ). ends_in_step k step + n) (ends_in-append k steps later) ∙ omega arith

-- ---- steps of other sessions

bytes_elsewhere_in : (k : ℕ) (step : StepData) → (IsAbout k step → ⊥) → bytes_in k step ≡ []
bytes_elsewhere_in k (a_piece session piece) other = cond-false (eqb session k) piece [] (ne_eqb session k other)
bytes_elsewhere_in k (an_end session) other = refl
bytes_elsewhere_in k a_flush other = refl

ends_elsewhere_in : (k : ℕ) (step : StepData) → (IsAbout k step → ⊥) → ends_in_step k step ≡ 0
ends_elsewhere_in k (a_piece session piece) other = refl
ends_elsewhere_in k (an_end session) other = cond-false (eqb session k) 1 0 (ne_eqb session k other)
ends_elsewhere_in k a_flush other = refl

pub bytes_elsewhere : (k : ℕ) (steps : List StepData) → AreElsewhere k steps → bytes_fed k steps ≡ []
bytes_elsewhere k [] others = refl
bytes_elsewhere k (step ∷ steps) others =
    ap (λ (bytes : List ℕ). bytes ++ bytes_fed k steps) (bytes_elsewhere_in k step others.0) ∙ bytes_elsewhere k steps others.1

pub ends_elsewhere : (k : ℕ) (steps : List StepData) → AreElsewhere k steps → ends_in k steps ≡ 0
ends_elsewhere k [] others = refl
ends_elsewhere k (step ∷ steps) others = omega (arith, ends_elsewhere_in k step others.0, ends_elsewhere k steps others.1)

one_elsewhere : (k other : ℕ) (step : StepData) → (other ≡ k → ⊥) → IsAbout k step → IsAbout other step → ⊥
one_elsewhere k other (a_piece session piece) apart about also = apart (sym also ∙ about)
one_elsewhere k other (an_end session) apart about also = apart (sym also ∙ about)
one_elsewhere k other a_flush apart about also = about

pub about_elsewhere : (k other : ℕ) (steps : List StepData) → (other ≡ k → ⊥) → AreAbout k steps → AreElsewhere other steps
about_elsewhere k other [] apart about = tt
about_elsewhere k other (step ∷ steps) apart about = (one_elsewhere k other step apart about.0, about_elsewhere k other steps apart about.1)

pub elsewhere-append : (k : ℕ) (steps later : List StepData) → AreElsewhere k steps → AreElsewhere k later → AreElsewhere k (steps ++ later)
elsewhere-append k [] later first second = second
elsewhere-append k (step ∷ steps) later first second = (first.0, elsewhere-append k steps later first.1 second)

-- ---- the stream

-- a stream that isn't closed wasn't closed before
open_before : (closed second after : Bool) → after ≡ (closed || second) → after ≡ false → closed ≡ false
open_before true second after is now = absurd (true≢false (sym is ∙ now))
open_before false second after is now = refl

module _ {S : Type 0} (N : StreamModel S) where
  -- without calls the steps feed nothing
  pub streamed_none : (k : ℕ) (steps : List StepData) (stream : S) → bytes_fed k steps ≡ [] → IsStreamed N k steps [] [] [] stream stream
  streamed_none k steps stream none = record {
    did = N.calls.nothing_called stream;
    read = ap (λ (bytes : List ℕ). bytes ++ []) (sym none);
    dropped = [];
    written = refl;
    none_dropped = λ now. refl;
    whole = tt;
  }

  pub streamed_elsewhere : (k : ℕ) (steps : List StepData) (stream : S) → AreElsewhere k steps → IsStreamed N k steps [] [] [] stream stream
  streamed_elsewhere k steps stream others = streamed_none k steps stream (bytes_elsewhere k steps others)

  -- the bytes dropped by both parts
  pub streamed_on : (k : ℕ) (steps later : List StepData) (lost sent more : List ℕ) (calls further : List StreamCall) (before mid after : S)
      → IsStreamed N k steps [] sent calls before mid → IsStreamed N k later lost more further mid after
      → IsStreamed N k (steps ++ later) lost (sent ++ more) (calls ++ further) before after
  streamed_on k steps later lost sent more calls further before mid after first second = record {
    did = N.calls.more_called before mid after calls further first.did second.did;
    read = bytes_read-append calls further
        ∙ ap (λ (front : List ℕ). front ++ bytes_read further) (first.read ∙ append-nil (bytes_fed k steps))
        ∙ ap (λ (rest : List ℕ). bytes_fed k steps ++ rest) second.read
        ∙ sym (append_assoc (bytes_fed k steps) (bytes_fed k later) lost)
        ∙ ap (λ (bytes : List ℕ). bytes ++ lost) (sym (bytes_of-append k steps later));
    dropped = first.dropped ++ second.dropped;
    written = elim (cases_Bool (N.closed mid)) [
      | inl e ↦
          let none = nothing_sent (N.closed mid) further e second.whole in
          ap (λ (front : List ℕ). front ++ more) first.written
          ∙ ap (λ (rest : List ℕ). (bytes_sent calls ++ first.dropped) ++ rest) (second.written ∙ ap (λ (front : List ℕ). front ++ second.dropped) none)
          ∙ append_assoc (bytes_sent calls) first.dropped second.dropped
          ∙ ap (λ (front : List ℕ). front ++ (first.dropped ++ second.dropped)) (sym (bytes_sent-append calls further ∙ ap (λ (rest : List ℕ). bytes_sent calls ++ rest) none ∙ append-nil (bytes_sent calls)))
      | inr e ↦
          let none = first.none_dropped e in
          ap (λ (front : List ℕ). front ++ more) (first.written ∙ ap (λ (rest : List ℕ). bytes_sent calls ++ rest) none ∙ append-nil (bytes_sent calls))
          ∙ ap (λ (rest : List ℕ). bytes_sent calls ++ rest) second.written
          ∙ sym (append_assoc (bytes_sent calls) (bytes_sent further) second.dropped)
          ∙ ap (λ (front : List ℕ). front ++ second.dropped) (sym (bytes_sent-append calls further))
          ∙ ap (λ (front : List ℕ). bytes_sent (calls ++ further) ++ (front ++ second.dropped)) (sym none)
    ];
    none_dropped = λ now.
        let open_mid = open_before (N.closed mid) (has_failed_write further) (N.closed after) (N.closed_by_calls mid after further second.did) now in
        ap (λ (front : List ℕ). front ++ second.dropped) (first.none_dropped open_mid) ∙ second.none_dropped now;
    whole = whole-append (N.closed before) calls further first.whole (subst (λ (now : Bool). AreWrittenWhole now further) (N.closed_by_calls before mid calls first.did) second.whole);
  }
