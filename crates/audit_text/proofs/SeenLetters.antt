-- What is printed for people is seen.
use Rattle.std.specs.Prelude.{nat_lt, slice_index}
use Rattle.std.specs.List.{AllByRecursion, flat_map}
use Rattle.std.proofs.Common.{◌≡◌, inl, inr, ℕ, zero, suc, ◌%◌, ◌/◌, ◌<◌, Bool, true, false, cond, List, [], ◌∷◌, ◌++◌, refl, ap, ◌∙◌, arith}
use Rattle.hex.specs.Hex.{lower_digits}
use Rattle.audit_text.specs.ShownText.{is_seen, digit_at, letter_escape, shown_letter, IsSeen, IsPlainLetter}

-- the hex digits are seen
digit_seen : (n : ℕ) → n < 16 → is_seen (slice_index lower_digits n) ≡ true
digit_seen zero lt = refl
digit_seen (suc zero) lt = refl
digit_seen (suc (suc zero)) lt = refl
digit_seen (suc (suc (suc zero))) lt = refl
digit_seen (suc (suc (suc (suc zero)))) lt = refl
digit_seen (suc (suc (suc (suc (suc zero))))) lt = refl
digit_seen (suc (suc (suc (suc (suc (suc zero)))))) lt = refl
digit_seen (suc (suc (suc (suc (suc (suc (suc zero))))))) lt = refl
digit_seen (suc (suc (suc (suc (suc (suc (suc (suc zero)))))))) lt = refl
digit_seen (suc (suc (suc (suc (suc (suc (suc (suc (suc zero))))))))) lt = refl
digit_seen (suc (suc (suc (suc (suc (suc (suc (suc (suc (suc zero)))))))))) lt = refl
digit_seen (suc (suc (suc (suc (suc (suc (suc (suc (suc (suc (suc zero))))))))))) lt = refl
digit_seen (suc (suc (suc (suc (suc (suc (suc (suc (suc (suc (suc (suc zero)))))))))))) lt = refl
digit_seen (suc (suc (suc (suc (suc (suc (suc (suc (suc (suc (suc (suc (suc zero))))))))))))) lt = refl
digit_seen (suc (suc (suc (suc (suc (suc (suc (suc (suc (suc (suc (suc (suc (suc zero)))))))))))))) lt = refl
digit_seen (suc (suc (suc (suc (suc (suc (suc (suc (suc (suc (suc (suc (suc (suc (suc zero))))))))))))))) lt = refl
digit_seen (suc (suc (suc (suc (suc (suc (suc (suc (suc (suc (suc (suc (suc (suc (suc (suc n)))))))))))))))) lt = absurd (omega arith)

seen_at : (power code : ℕ) → IsSeen (digit_at power code)
seen_at power code = inl (digit_seen (code / power % 16) (omega arith))

all_seen : (xs ys : List ℕ) → AllByRecursion IsSeen xs → AllByRecursion IsSeen ys → AllByRecursion IsSeen (xs ++ ys)
all_seen [] ys a b = b
all_seen (x ∷ xs) ys a b = (a.0, all_seen xs ys a.1 b)

escape_seen : (code : ℕ) (low middle : Bool) → AllByRecursion IsSeen (cond low (92 ∷ 120 ∷ digit_at 16 code ∷ digit_at 1 code ∷ [])
    (cond middle (92 ∷ 117 ∷ digit_at 4096 code ∷ digit_at 256 code ∷ digit_at 16 code ∷ digit_at 1 code ∷ [])
    (92 ∷ 117 ∷ 123 ∷ digit_at 65536 code ∷ digit_at 4096 code ∷ digit_at 256 code ∷ digit_at 16 code ∷ digit_at 1 code ∷ 125 ∷ [])))
escape_seen code true middle = (inr refl, (inl refl, (seen_at 16 code, (seen_at 1 code, tt))))
escape_seen code false true = (inr refl, (inl refl, (seen_at 4096 code, (seen_at 256 code, (seen_at 16 code, (seen_at 1 code, tt))))))
escape_seen code false false = (inr refl, (inl refl, (inl refl, (seen_at 65536 code, (seen_at 4096 code, (seen_at 256 code, (seen_at 16 code, (seen_at 1 code, (inl refl, tt)))))))))

letter_seen : (code : ℕ) (seen : Bool) → is_seen code ≡ seen → AllByRecursion IsSeen (cond seen (code ∷ []) (letter_escape code))
letter_seen code true is = (inl is, tt)
letter_seen code false is = escape_seen code (nat_lt code 128) (nat_lt code 65536)

pub texts_seen : (letters : List ℕ) → AllByRecursion IsSeen (flat_map shown_letter letters)
texts_seen [] = tt
texts_seen (code ∷ letters) = all_seen (shown_letter code) (flat_map shown_letter letters) (letter_seen code (is_seen code) refl) (texts_seen letters)

pub texts_same : (letters : List ℕ) → AllByRecursion IsPlainLetter letters → flat_map shown_letter letters ≡ letters
texts_same [] plain = refl
texts_same (code ∷ letters) plain =
    ap (λ (seen : Bool). cond seen (code ∷ []) (letter_escape code) ++ flat_map shown_letter letters) plain.0 ∙ ap (λ (l : List ℕ). code ∷ l) (texts_same letters plain.1)
