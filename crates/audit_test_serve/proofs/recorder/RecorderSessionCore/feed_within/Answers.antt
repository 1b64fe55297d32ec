use Rattle.std.proofs.Common.{◌≡◌, ℕ, ◌<◌, None, List, [], ◌∷◌, ◌++◌, length, map, take, refl, sym, ◌∙◌, arith}
use Rattle.audit_serve_passes.specs.Core.{RequestKind, appending}
use Rattle.audit_test_serve.proofs.recorder.RecorderSessionCore.feed_within.Goals as goal

-- each byte counts as an append
first_recorded : (piece : List ℕ) → 0 < length piece → (later : List RequestKind) × (map (λ (byte : ℕ). appending) piece ≡ map (λ (byte : ℕ). appending) (take 0 piece) ++ appending ∷ later)
first_recorded [] some = absurd (omega (arith, some))
first_recorded (byte ∷ piece) some = (map (λ (byte : ℕ). appending) piece, refl)

pub returns-then-not-admits-clause-stops : goal.returns-then-not-admits-clause-stops
returns-then-not-admits-clause-stops c = λ some.
    let first = first_recorded c.args.piece.now some in
    record {
      kind = appending;
      is = record { later = first.0; next = first.1 };
      demand = record { reply = 1; question = None };
      most = omega arith;
      its = (omega arith, refl);
      over = sym c.admits.ensures ∙ c.if-not-admits.true;
    }
