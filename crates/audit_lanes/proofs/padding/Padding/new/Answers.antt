use Rattle.std.proofs.Common.{◌≡◌, ℕ, ◌∷◌, ◌+◌, ◌-◌, ◌%◌, ◌≤◌, length, replicate, take, arith, refl, ap, ◌∙◌, add-one}
use Rattle.std.proofs.lemmas.List.{take-replicate}
use Rattle.std.proofs.lemmas.Slice.{take-put_mid}
use Rattle.audit_lanes.proofs.padding.Padding.new.Goals as goal

pub returns : goal.returns
returns c =
    let zeros = (119 - c.args.total % 64) % 64 in
    let none : ℕ = 0 in
    let front = take-replicate zeros 71 none (omega arith) in
    let wide : length c.copy_from_slice.new.self ≡ 8 = ap length (c.copy_from_slice.ensures.after ∙ c.to_be_bytes-length.ensures) in
    let placed = take-put_mid (zeros + 1) _ (0x80 ∷ replicate 71 0) c.copy_from_slice.new.self (zeros + 9) (omega arith) (omega arith) in
    placed ∙ rw (c.copy_from_slice.ensures.after, c.to_be_bytes-length.ensures, add-one, front) refl
