-- Consecutive transitions.
use Rattle.std.proofs.Common.{◌≡◌, ℕ, zero, suc, ◌+◌, ◌<◌, eqb, List, [], ◌∷◌, ◌++◌, length, set, get_or, refl, sym, ap, subst, ◌∙◌, arith, inl, inr}
use Rattle.std.proofs.lemmas.Bool.{cases_Bool, cases_eq, ne_eqb, eq-eqb, cond-true, cond-false}
use Rattle.std.proofs.lemmas.List.{append-nil, append_assoc, length-set, get_or-set_same, get_or-set_other}
use Rattle.audit_serve_passes.specs.Steps.{StepData, AreAbout, ends_in}
use Rattle.audit_serve_passes.specs.Streams.{StreamCall, StreamModel, IsStreamed, calls_for, ends_of_calls}
use Rattle.audit_serve_passes.specs.Core.{CoreModel, no_bytes, bytes_for}
use Rattle.audit_serve_passes.specs.Transition.{Transition, SessionTransition, AreElsewhere}
use Rattle.audit_serve_passes.proofs.StreamSteps.{about_elsewhere, streamed_elsewhere, streamed_on, ends_in-append, ends_elsewhere}
use Rattle.audit_serve_passes.proofs.Calls.{calls_here, calls_there, ends_of-append}

pub none_of_both : (bytes more : List ℕ) → bytes ≡ [] → more ≡ [] → bytes ++ more ≡ []
none_of_both bytes more none also = ap (λ (front : List ℕ). front ++ more) none ∙ also

abbrev pub no_calls : ℕ → List StreamCall
no_calls k = []

-- ---- one session and its stream

pub bytes_here : (k : ℕ) (sent : List ℕ) → bytes_for k sent k ≡ sent
bytes_here k sent = cond-true (eqb k k) sent [] (eq-eqb k k refl)

pub bytes_there : (k other : ℕ) (sent : List ℕ) → (other ≡ k → ⊥) → bytes_for k sent other ≡ []
bytes_there k other sent apart = cond-false (eqb other k) sent [] (ne_eqb other k apart)

-- ---- a session's empty list of bytes is no bytes

pub none_for : (k session : ℕ) → bytes_for k [] session ≡ []
none_for k session = elim (cases_Bool (eqb session k)) [
  | inl e ↦ cond-true (eqb session k) [] [] e
  | inr e ↦ cond-false (eqb session k) [] [] e
]

pub no_bytes_for : (k : ℕ) → no_bytes ≡ bytes_for k []
no_bytes_for k = λ i session. sym (none_for k session) i

-- an element of a list doesn't depend on the default for a missing one
pub in_any : {S : Type 0} (streams : List S) (k : ℕ) (none other : S) → k < length streams → get_or streams k none ≡ get_or streams k other
in_any [] k none other within = absurd (omega (arith, within))
in_any (stream ∷ streams) zero none other within = refl
in_any (stream ∷ streams) (suc k) none other within = in_any streams k none other (omega (arith, within))

-- ---- one session among the others

ends_one : (k other : ℕ) (steps : List StepData) (calls : List StreamCall) → AreAbout k steps → ends_in k steps ≡ ends_of_calls calls → ends_in other steps ≡ ends_of_calls (calls_for k calls other)
ends_one k other steps calls about is = elim (cases_eq other k) [
  | inl same ↦ subst (λ (j : ℕ). ends_in j steps ≡ ends_of_calls (calls_for k calls j)) (sym same) (is ∙ ap ends_of_calls (sym (calls_here k calls)))
  | inr apart ↦ ends_elsewhere other steps (about_elsewhere k other steps apart about) ∙ ap ends_of_calls (sym (calls_there k other calls apart))
]

module _ {S : Type 0} {N : StreamModel S} where
  -- what the stream of one session did, as one of several, and what the others did
  pub streamed_here : (k : ℕ) (streams : List S) (none stream after : S) (steps : List StepData) (lost sent : List ℕ) (calls : List StreamCall) → k < length streams → get_or streams k none ≡ stream
      → IsStreamed N k steps lost sent calls stream after
      → IsStreamed N k steps (bytes_for k lost k) (bytes_for k sent k) (calls_for k calls k) (get_or streams k none) (get_or (set streams k after) k none)
  streamed_here k streams none stream after steps lost sent calls within is h =
      subst (λ (now : List ℕ). IsStreamed N k steps now (bytes_for k sent k) (calls_for k calls k) (get_or streams k none) (get_or (set streams k after) k none)) (sym (bytes_here k lost))
      (subst (λ (now : List ℕ). IsStreamed N k steps lost now (calls_for k calls k) (get_or streams k none) (get_or (set streams k after) k none)) (sym (bytes_here k sent))
      (subst (λ (now : List StreamCall). IsStreamed N k steps lost sent now (get_or streams k none) (get_or (set streams k after) k none)) (sym (calls_here k calls))
      (subst (λ (now : S). IsStreamed N k steps lost sent calls now (get_or (set streams k after) k none)) (sym is)
      (subst (λ (now : S). IsStreamed N k steps lost sent calls stream now) (sym (get_or-set_same streams k after none within)) h))))

  pub streamed_there : (k other : ℕ) (streams : List S) (none after : S) (steps : List StepData) (lost sent : List ℕ) (calls : List StreamCall) → (other ≡ k → ⊥) → AreElsewhere other steps
      → IsStreamed N other steps (bytes_for k lost other) (bytes_for k sent other) (calls_for k calls other) (get_or streams other none) (get_or (set streams k after) other none)
  streamed_there k other streams none after steps lost sent calls apart others =
      subst (λ (now : List ℕ). IsStreamed N other steps now (bytes_for k sent other) (calls_for k calls other) (get_or streams other none) (get_or (set streams k after) other none)) (sym (bytes_there k other lost apart))
      (subst (λ (now : List ℕ). IsStreamed N other steps [] now (calls_for k calls other) (get_or streams other none) (get_or (set streams k after) other none)) (sym (bytes_there k other sent apart))
      (subst (λ (now : List StreamCall). IsStreamed N other steps [] [] now (get_or streams other none) (get_or (set streams k after) other none)) (sym (calls_there k other calls apart))
      (subst (λ (now : S). IsStreamed N other steps [] [] [] (get_or streams other none) now) (sym (get_or-set_other streams k other after none apart))
      (streamed_elsewhere N other steps (get_or streams other none) others))))

  -- one session among all of them
  pub streamed_one : (k other : ℕ) (streams : List S) (none at after : S) (steps : List StepData) (lost sent : List ℕ) (calls : List StreamCall) → k < length streams
      → AreAbout k steps → IsStreamed N k steps lost sent calls (get_or streams k at) after
      → IsStreamed N other steps (bytes_for k lost other) (bytes_for k sent other) (calls_for k calls other) (get_or streams other none) (get_or (set streams k after) other none)
  streamed_one k other streams none at after steps lost sent calls within about h = elim (cases_eq other k) [
    | inl same ↦ subst (λ (j : ℕ). IsStreamed N j steps (bytes_for k lost j) (bytes_for k sent j) (calls_for k calls j) (get_or streams j none) (get_or (set streams k after) j none)) (sym same)
        (streamed_here k streams none (get_or streams k at) after steps lost sent calls within (in_any streams k none at within) h)
    | inr apart ↦ streamed_there k other streams none after steps lost sent calls apart (about_elsewhere k other steps apart about)
  ]

module _ {C S : Type 0} {M : CoreModel C} {N : StreamModel S} where
  -- no step, and unchanged streams
  pub goes_nowhere : (core : C) (streams : List S) {Shape : (ℕ → List StreamCall) → List StepData → Type 0} → Shape no_calls [] → Transition M N core core streams streams Shape
  goes_nowhere core streams shape = record {
    count = refl;
    steps = [];
    taken = no_bytes;
    calls = no_calls;
    did = M.nothing_done core;
    others = λ k above. refl;
    shape = shape;
    streamed = λ k none within. streamed_elsewhere N k [] (get_or streams k none) tt;
    ends = λ k within. refl;
  }

  pub goes_on : {old mid new : C} {before between after : List S} {First Second Both : (ℕ → List StreamCall) → List StepData → Type 0} → (first : Transition M N old mid before between First)
      → (second : Transition M N mid new between after Second)
      → (First first.calls first.steps → Second second.calls second.steps → Both (λ k. first.calls k ++ second.calls k) (first.steps ++ second.steps))
      → Transition M N old new before after Both
  goes_on {old} {mid} {new} {before} {between} {after} first second both = record {
    count = second.count ∙ first.count;
    steps = first.steps ++ second.steps;
    taken = λ session. first.taken session ++ second.taken session;
    calls = λ k. first.calls k ++ second.calls k;
    did = M.more_done old mid new first.steps second.steps first.taken second.taken first.did second.did;
    others = λ k above. none_of_both (first.taken k) (second.taken k) (first.others k above) (second.others k (omega (arith, above, first.count)));
    shape = both first.shape second.shape;
    streamed = λ k none within.
        streamed_on N k first.steps second.steps [] (first.taken k) (second.taken k) (first.calls k) (second.calls k) (get_or before k none) (get_or between k none) (get_or after k none)
        (first.streamed k none within) (second.streamed k none (omega (arith, within, first.count)));
    ends = λ k within. ends_in-append k first.steps second.steps ∙ ap (λ (n : ℕ). n + ends_in k second.steps) (first.ends k within)
        ∙ ap (λ (n : ℕ). ends_of_calls (first.calls k) + n) (second.ends k (omega (arith, within, first.count))) ∙ sym (ends_of-append (first.calls k) (second.calls k));
  }

  -- ---- one session

  -- what one session and its stream did, as what all of them did
  pub session_goes : (k : ℕ) {old new : C} (streams : List S) (at after : S) {Shape : (ℕ → List StreamCall) → List StepData → Type 0} → k < length streams
      → SessionTransition M N k old new (get_or streams k at) after Shape → Transition M N old new streams (set streams k after) Shape
  session_goes k {old} {new} streams at after {Shape} within t = record {
    count = length-set streams k after;
    steps = t.steps;
    taken = bytes_for k t.sent;
    calls = calls_for k t.calls;
    did = t.did;
    others = λ other above. bytes_there k other t.sent (λ same. omega arith);
    shape = t.shape;
    streamed = λ other none inside.
        subst (λ (lost : List ℕ). IsStreamed N other t.steps lost (bytes_for k t.sent other) (calls_for k t.calls other) (get_or streams other none) (get_or (set streams k after) other none)) (none_for k other)
        (streamed_one k other streams none at after t.steps [] t.sent t.calls within t.about t.streamed);
    ends = λ other inside. ends_one k other t.steps t.calls t.about t.ends;
  }

-- ---- whether sessions have ended

module _ {C : Type 0} (M : CoreModel C) where
  pub ended_elsewhere : (core : C) (steps later : List StepData) (k : ℕ) → AreElsewhere k later → M.ended core (steps ++ later) k ≡ M.ended core steps k
  ended_elsewhere core steps [] k others = ap (λ (all : List StepData). M.ended core all k) (append-nil steps)
  ended_elsewhere core steps (step ∷ later) k others =
      ap (λ (all : List StepData). M.ended core all k) (sym (append_assoc steps (step ∷ []) later))
      ∙ ended_elsewhere core (steps ++ step ∷ []) later k others.1
      ∙ M.ended_alone core steps step k others.0
