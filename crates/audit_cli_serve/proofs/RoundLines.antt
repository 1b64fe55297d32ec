-- The lines that report rounds, with one more round.
use Rattle.std.proofs.Common.{◌≡◌, ℕ, ◌+◌, suc, Option, Some, None, List, [], ◌∷◌, ◌++◌, length, sym, ap, ◌∙◌, refl, subst, append_assoc, append-nil, arith}
use Rattle.std.specs.Io.KnownBytes.{Appends}
use Rattle.audit_serve_sockets.specs.RoundLine.{round_line}
use Rattle.audit_serve_sockets.proofs.Lines.{appends_more}
use Rattle.audit_text.specs.Writing.{WritesInPart}
use Rattle.audit_cli_serve.specs.Rounds.{round_lines, AreCutOff}

one_more : (first : ℕ) (turns : List ℕ) (last : ℕ) → round_lines first (turns ++ last ∷ []) ≡ round_lines first turns ++ round_line (first + length turns) last
one_more first [] last = append-nil (round_line first last) ∙ ap (λ n. round_line n last) (omega arith)
one_more first (turn ∷ turns) last =
    ap (λ l. round_line first turn ++ l) (one_more (first + 1) turns last ∙ ap (λ n. round_lines (first + 1) turns ++ round_line n last) (omega arith))
    ∙ sym (append_assoc (round_line first turn) (round_lines (first + 1) turns) (round_line (first + suc (length turns)) last))

pub no_rounds : (known : Option (List ℕ)) → Appends known known (round_lines 1 [])
no_rounds None = tt
no_rounds (Some bytes) = sym (append-nil bytes)

pub round_more : (old now next : Option (List ℕ)) (turns : List ℕ) (last number : ℕ) → Appends old now (round_lines 1 turns) → 1 + length turns ≡ number → Appends now next (round_line number last)
    → Appends old next (round_lines 1 (turns ++ last ∷ []))
round_more old now next turns last number before same written =
    subst (Appends old next) (ap (λ n. round_lines 1 turns ++ round_line n last) (sym same) ∙ sym (one_more 1 turns last))
    (appends_more old now next (round_lines 1 turns) (round_line number last) before written)

-- the line of one more round was cut off
pub cut_off : (old now next : Option (List ℕ)) (turns : List ℕ) (last number : ℕ) → Appends old now (round_lines 1 turns) → length turns + 1 ≡ number → WritesInPart now next (round_line number last) → (text : List ℕ) × Appends old next text × AreCutOff (turns ++ last ∷ []) text
cut_off old now next turns last number before same part = (
  round_lines 1 turns ++ part.written,
  appends_more old now next (round_lines 1 turns) part.written before part.appended,
  record { earlier = turns; last = last; turns_are = refl; front = part.written; rest = part.rest; line = ap (λ n. round_line n last) same ∙ part.split; text_is = refl },
)
