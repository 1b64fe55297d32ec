-- The first turn goes round.
use Rattle.std.proofs.Common.{◌≡◌, ℕ, ◌+◌, ◌*◌, ◌<◌, ◌≤◌, cond, eqb, ltb, List, [], ◌∷◌, ap, subst, arith, inl, inr, ◌⊎◌}
use Rattle.std.proofs.lemmas.Bool.{cases_eq, eq-eqb, ne_eqb, cond-true, cond-false, lt-ltb, le-ltb}
use Rattle.audit_base.specs.declared.limits.TheConstants.{SESSIONS}
use Rattle.audit_serve_ready.specs.Clients.{ClientChange, a_pass, a_coming, a_refusal, a_going, next_first}
use Rattle.audit_serve_ready.specs.Turns.{passes_in, own_turns}

-- the passes up to the last turn of session k, and then fewer than there are sessions
record Rounds (k first passes own : ℕ) : Type 0 where
  before : first ≤ k → passes + first ≤ 16 * own + k
  after : k < first → passes + first ≤ 16 * own + (16 + k)

less_or : (m n : ℕ) → (m < n) ⊎ (n ≤ m)
less_or m n = search (arith)

own_first : (k first own : ℕ) → first ≡ k → cond (eqb first k) 1 0 + own ≡ 1 + own
own_first k first own same = ap (λ (n : ℕ). n + own) (cond-true (eqb first k) 1 0 (eq-eqb first k same))

other_first : (k first own : ℕ) → (first ≡ k → ⊥) → cond (eqb first k) 1 0 + own ≡ 0 + own
other_first k first own apart = ap (λ (n : ℕ). n + own) (cond-false (eqb first k) 1 0 (ne_eqb first k apart))

next_more : (first : ℕ) → first < 15 → next_first first ≡ first + 1
next_more first less = cond-true (ltb first 15) (first + 1) 0 (lt-ltb first 15 less)

next_none : (first : ℕ) → 15 ≤ first → next_first first ≡ 0
next_none first most = cond-false (ltb first 15) (first + 1) 0 (le-ltb first 15 most)

one_more : (k first passes own : ℕ) → k < 16 → first < 16 → Rounds k (next_first first) passes own → Rounds k first (1 + passes) (cond (eqb first k) 1 0 + own)
one_more k first passes own below begun rounds = by (less_or first 15) (cases_eq first k)
  where
    by : (first < 15) ⊎ (15 ≤ first) → (first ≡ k) ⊎ (first ≡ k → ⊥) → Rounds k first (1 + passes) (cond (eqb first k) 1 0 + own)
    by (inl less) (inl same) =
        let now = subst (λ (n : ℕ). Rounds k n passes own) (next_more first less) rounds in
        record {
          before = λ is. omega (arith, now.after (omega (arith, same)), own_first k first own same, same);
          after = λ is. omega (arith, is, same);
        }
    by (inl less) (inr apart) =
        let now = subst (λ (n : ℕ). Rounds k n passes own) (next_more first less) rounds in
        record {
          before = λ is. omega (arith, now.before (omega (arith, is, apart)), other_first k first own apart);
          after = λ is. omega (arith, now.after (omega (arith, is)), other_first k first own apart);
        }
    by (inr most) (inl same) =
        let now = subst (λ (n : ℕ). Rounds k n passes own) (next_none first most) rounds in
        record {
          before = λ is. omega (arith, now.before (omega arith), own_first k first own same, same, begun, most);
          after = λ is. omega (arith, is, same);
        }
    by (inr most) (inr apart) =
        let now = subst (λ (n : ℕ). Rounds k n passes own) (next_none first most) rounds in
        record {
          before = λ is. absurd (apart (omega (arith, is, most, below)));
          after = λ is. omega (arith, now.before (omega arith), other_first k first own apart, begun);
        }

next_below : (first : ℕ) → first < 16 → next_first first < 16
next_below first begun = by (less_or first 15)
  where
    by : (first < 15) ⊎ (15 ≤ first) → next_first first < 16
    by (inl less) = omega (arith, next_more first less, less)
    by (inr most) = omega (arith, next_none first most)

rounds_of : {S : Type 0} (k first : ℕ) (changes : List (ClientChange S)) → k < 16 → first < 16 → Rounds k first (passes_in changes) (own_turns k first changes)
rounds_of k first [] below begun = record { before = λ is. omega (arith, is); after = λ is. omega (arith, begun) }
rounds_of k first (a_pass steps taken calls ∷ changes) below begun =
    one_more k first (passes_in changes) (own_turns k (next_first first) changes) below begun (rounds_of k (next_first first) changes below (next_below first begun))
rounds_of k first (a_coming j client ∷ changes) below begun = rounds_of k first changes below begun
rounds_of k first (a_refusal j client ∷ changes) below begun = rounds_of k first changes below begun
rounds_of k first (a_going j ∷ changes) below begun = rounds_of k first changes below begun

pub turns_come : {S : Type 0} (k n first : ℕ) (changes : List (ClientChange S)) → k < SESSIONS → first < SESSIONS → SESSIONS * n ≤ passes_in changes → n ≤ own_turns k first changes
turns_come k n first changes below begun passes = by (less_or k first)
  where
    rounds : Rounds k first (passes_in changes) (own_turns k first changes)
    rounds = rounds_of k first changes below begun

    by : (k < first) ⊎ (first ≤ k) → n ≤ own_turns k first changes
    by (inl less) = omega (arith, rounds.after less, passes, less, below)
    by (inr most) = omega (arith, rounds.before most, passes, below)
