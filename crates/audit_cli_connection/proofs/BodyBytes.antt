-- Bytes within the body of a frame.
use Rattle.std.specs.Prelude.{◌≡◌, ℕ, suc, ◌+◌, ◌-◌, ◌≤◌, List, [], ◌∷◌, ◌++◌, length, take, drop}
use Rattle.std.proofs.Common.{sym, ap, ◌∙◌, arith}
use Rattle.std.proofs.lemmas.List.{length-take-le, take-append-drop}
use Rattle.audit_cli_connection.specs.declared.frames.Place.TheVariants.{Body}
use Rattle.audit_cli_connection.specs.Frames.{frames_place_after, ends_within}

-- bytes within a body bring no place but further on in it
pub place_within : (front later : List ℕ) (left : ℕ) →
    frames_place_after (Body (length front + left)) (front ++ later) ≡ frames_place_after (Body left) later
place_within [] later left = ap (λ m. frames_place_after (Body m) later) (omega (arith))
place_within (byte ∷ front) later left =
    let more : length (byte ∷ front) + left ≡ suc (length front + left) = omega (arith) in
    ap (λ m. frames_place_after (Body m) (byte ∷ (front ++ later))) more ∙ place_within front later left

-- and no frame ends in them
pub ends_not_within : (front later : List ℕ) (left : ℕ) →
    ends_within (Body (length front + left)) (front ++ later) ≡ ends_within (Body left) later
ends_not_within [] later left = ap (λ m. ends_within (Body m) later) (omega (arith))
ends_not_within (byte ∷ front) later left =
    let more : length (byte ∷ front) + left ≡ suc (length front + left) = omega (arith) in
    ap (λ m. ends_within (Body m) (byte ∷ (front ++ later))) more ∙ ends_not_within front later left

-- the same of the first k bytes
pub place_past : (k more : ℕ) (bytes : List ℕ) → k ≤ more → k ≤ length bytes →
    frames_place_after (Body (more - k)) (drop k bytes) ≡ frames_place_after (Body more) bytes
place_past k more bytes inside there =
    let size : length (take k bytes) ≡ k = length-take-le k bytes there in
    let sum : length (take k bytes) + (more - k) ≡ more = omega (arith, size, inside) in
    sym (place_within (take k bytes) (drop k bytes) (more - k))
    ∙ ap (frames_place_after (Body (length (take k bytes) + (more - k)))) (take-append-drop k bytes)
    ∙ ap (λ m. frames_place_after (Body m) bytes) sum

pub ends_past : (k more : ℕ) (bytes : List ℕ) → k ≤ more → k ≤ length bytes →
    ends_within (Body (more - k)) (drop k bytes) ≡ ends_within (Body more) bytes
ends_past k more bytes inside there =
    let size : length (take k bytes) ≡ k = length-take-le k bytes there in
    let sum : length (take k bytes) + (more - k) ≡ more = omega (arith, size, inside) in
    sym (ends_not_within (take k bytes) (drop k bytes) (more - k))
    ∙ ap (ends_within (Body (length (take k bytes) + (more - k)))) (take-append-drop k bytes)
    ∙ ap (λ m. ends_within (Body m) bytes) sum
