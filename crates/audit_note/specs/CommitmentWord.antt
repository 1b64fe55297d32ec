-- A commitment as a word: its count, a colon and its root.
use Rattle.std.specs.Prelude.{ℕ, ◌==◌, Bool, Option, Some, None, List}
use Rattle.std.specs.List.{before_first, after_first}
use Rattle.std.specs.Result.{result_ok}
use Rattle.hex.specs.Hex.{decode_sized}
use Rattle.audit_base.specs.declared.limits.TheConstants.{HASH_LEN}
use Rattle.audit_text.specs.Number.{number_in_text}
use Rattle.audit_proof.specs.declared.commitment.Commitment.{Commitment}

abbrev pub is_colon : ℕ → Bool
is_colon byte = byte == 58

abbrev pub commitment_with : Option ℕ → Option (List ℕ) → Option Commitment
commitment_with None root = None
commitment_with (Some count) None = None
commitment_with (Some count) (Some root) = Some (record { count = count; root = root })

-- the number before the first colon, and the digest in the hex digits after it
abbrev pub commitment_in_word : List ℕ → Option Commitment
commitment_in_word word =
    commitment_with (number_in_text (before_first is_colon word))
    (result_ok (decode_sized (after_first is_colon word) HASH_LEN))
