-- A frame that is filled from a piece is completed by its last byte.
use Rattle.std.proofs.Common.{◌≡◌, ℕ, zero, suc, ◌+◌, ◌-◌, ◌<◌, ◌≤◌, min, List, [], ◌∷◌, ◌++◌, length, get_or, take, drop, refl, sym, ap, ◌∙◌, append_assoc, arith, inl, inr, length-append, length-drop, length-take}
use Rattle.std.proofs.lemmas.Bool.{cases_lt}
use Rattle.std.proofs.lemmas.List.{get_or_append_left, drop-take, take-take, take-append-drop}
use Rattle.std.proofs.lemmas.Nat.{be_bytes_2}
use Rattle.audit_wire.specs.Frame.{frame, size_of, IsBodySize, IsPartial}

-- the first two bytes, as a size
abbrev pub size_at : List ℕ → ℕ
size_at bytes = size_of (get_or bytes 0 0) (get_or bytes 1 0)

-- an incomplete frame lacks at least one byte
pub partial_lacks : (held : List ℕ) → IsPartial held → 2 ≤ length held → length held < 2 + size_at held
partial_lacks [] h le = absurd (omega arith)
partial_lacks (high ∷ []) h le = absurd (omega arith)
partial_lacks (high ∷ low ∷ body) h le = omega (arith, h.1)

-- two bytes, by their places
pub two : (high low : ℕ) → high < 256 → low < 256 → (place : ℕ) → get_or (high ∷ low ∷ []) place 0 < 256
two high low a b zero = a
two high low a b (suc zero) = b
two high low a b (suc (suc place)) = omega arith

-- bytes of which the first two state how many follow are a frame
pub frame_of : (bytes : List ℕ) → get_or bytes 0 0 < 256 → get_or bytes 1 0 < 256 → length bytes ≡ 2 + size_at bytes → bytes ≡ frame (drop 2 bytes)
frame_of [] a b e = absurd (omega arith)
frame_of (high ∷ []) a b e = absurd (omega arith)
frame_of (high ∷ low ∷ body) a b e =
    let size : length body ≡ size_of high low = omega arith in
    ap (λ (front : List ℕ). front ++ body) (sym (be_bytes_2 (high ∷ low ∷ []) (length body) refl (two high low a b) size))

-- more bytes don't change the two length bytes
pub size_at-append : (bytes more : List ℕ) → 2 ≤ length bytes → size_at (bytes ++ more) ≡ size_at bytes
size_at-append [] more le = absurd (omega arith)
size_at-append (high ∷ []) more le = absurd (omega arith)
size_at-append (high ∷ low ∷ body) more le = refl

take_add : (first second : ℕ) (bytes : List ℕ) → take first bytes ++ take second (drop first bytes) ≡ take (first + second) bytes
take_add first second bytes =
    ap (λ (front : List ℕ). front ++ take second (drop first bytes)) (sym (take-take first (first + second) bytes (omega arith)))
    ∙ ap (λ (back : List ℕ). take first (take (first + second) bytes) ++ back) (sym (drop-take first second bytes))
    ∙ take-append-drop first (take (first + second) bytes)

-- the two parts of a piece that complete a frame
pub fills : (held piece front all : List ℕ) (first second : ℕ)
    → IsPartial held → first ≡ min (2 - length held) (length piece) → front ≡ held ++ take first piece → 2 ≤ length front
    → IsBodySize (size_at front) → second ≡ min (2 + size_at front - length front) (length (drop first piece)) → all ≡ front ++ take second (drop first piece)
    → 2 + size_at front ≤ length all → get_or front 0 0 < 256 → get_or front 1 0 < 256
    → (0 < first + second) × (first + second ≤ length piece) × (all ≡ held ++ take (first + second) piece) × IsBodySize (length (drop 2 all)) × (all ≡ frame (drop 2 all))
fills held piece front all first second partial is_first is_front has size is_second is_all reaches high low =
    let same : 2 ≤ length held → size_at front ≡ size_at held = λ le. ap size_at is_front ∙ size_at-append held (take first piece) le in
    let lacks : 2 ≤ length held → length held < 2 + size_at front = λ le. omega (arith, same le, partial_lacks held partial le) in
    let front_length : length front ≡ length held + first = omega (arith, ap length is_front, length-append held (take first piece), length-take first piece) in
    let rest_length : length (drop first piece) ≡ length piece - first = length-drop first piece in
    let all_length : length all ≡ length front + second = omega (arith, ap length is_all, length-append front (take second (drop first piece)), length-take second (drop first piece)) in
    let size_same : size_at all ≡ size_at front = ap size_at is_all ∙ size_at-append front (take second (drop first piece)) has in
    let within : length front ≤ 2 + size_at front = elim (cases_lt (length held) 2) [ inl lt ↦ omega arith | inr le ↦ omega (arith, lacks le) ] in
    let takes : 0 < first + second = elim (cases_lt (length held) 2) [ inl lt ↦ omega arith | inr le ↦ omega (arith, lacks le) ] in
    let exact : length all ≡ 2 + size_at all = omega arith in
    let first_byte : get_or all 0 0 ≡ get_or front 0 0 = ap (λ (bytes : List ℕ). get_or bytes 0 0) is_all ∙ get_or_append_left front (take second (drop first piece)) 0 0 (omega arith) in
    let second_byte : get_or all 1 0 ≡ get_or front 1 0 = ap (λ (bytes : List ℕ). get_or bytes 1 0) is_all ∙ get_or_append_left front (take second (drop first piece)) 0 1 (omega arith) in
    let body_length : length (drop 2 all) ≡ size_at front = omega (arith, length-drop 2 all) in
    let together : all ≡ held ++ take (first + second) piece =
    is_all ∙ ap (λ (bytes : List ℕ). bytes ++ take second (drop first piece)) is_front ∙ append_assoc held (take first piece) (take second (drop first piece)) ∙ ap (λ (bytes : List ℕ). held ++ bytes) (take_add first second piece) in
    (takes, omega arith, together, (omega arith, omega (arith, size.1)), frame_of all (omega arith) (omega arith) exact)
