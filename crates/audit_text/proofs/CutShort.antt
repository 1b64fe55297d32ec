-- Lines that were cut fit in a payload.
use Rattle.std.specs.Prelude.{codes}
use Rattle.std.specs.Fmt.{decimal}
use Rattle.std.proofs.Common.{◌≡◌, ℕ, ◌-◌, ◌<◌, ◌≤◌, ◌^◌, List, ◌++◌, length, take, length-append, arith, lit<}
use Rattle.std.proofs.lemmas.List.{length-take}
use Rattle.std.proofs.lemmas.Fmt.{length-decimal-le}
use Rattle.hex.specs.Hex.{encode_lower}
use Rattle.hex.proofs.HexLemmas.{length-encode_with}
use Rattle.audit_base.specs.declared.limits.TheConstants.{MAX_PAYLOAD}
use Rattle.hex.specs.Hex.{lower_digits}
use Rattle.audit_text.specs.CutLines.{cut_note, cut_line}

below : (size : ℕ) → size < 2 ^ 64 → size < 10 ^ 20
below size small = omega arith

note_fits : (size : ℕ) (hash : List ℕ) → size < 2 ^ 64 → length hash ≡ 32 → length (cut_note size hash) ≤ 106
unfolding cut_note
note_fits size hash small whole =
    let a = codes " [of " in
    let b = decimal size in
    let c = codes " bytes, SHA-256 " in
    let d = encode_lower hash in
    let e = codes "]" in
    omega (arith, length-append (a ++ b ++ c ++ d) e, length-append (a ++ b ++ c) d, length-append (a ++ b) c, length-append a b, length-decimal-le 20 size (lit< tt) (below size small) small, length-encode_with lower_digits hash, whole)

pub cut_fits : (start hash : List ℕ) (size : ℕ) → size < 2 ^ 64 → length hash ≡ 32 → length (cut_line start size hash) ≤ MAX_PAYLOAD
cut_fits start hash size small whole =
    let note = cut_note size hash in
    omega (arith, length-append (take (MAX_PAYLOAD - length note) start) note, length-take (MAX_PAYLOAD - length note) start, note_fits size hash small whole)
