-- The line that says what an accepted proof is about.
use Rattle.std.specs.Prelude.{Bool, true, false, ℕ, ◌+◌, ◌==◌, List, ◌++◌, length, codes, if◌then◌else◌}
use Rattle.std.specs.Fmt.{decimal}
use Rattle.std.specs.Int.{w32}
use Rattle.audit_base.specs.Bytes.{number_at}
use Rattle.audit_base.specs.declared.limits.TheConstants.{ENTRY_OVERHEAD}
use Rattle.audit_chain.specs.EntryForm.{stated_length}
use Rattle.audit_proof.specs.ProofBytes.{Member, Increment, member_in, increment_in}
use Rattle.audit_cli_offline.specs.declared.checking.Proof.{Proof}
use Rattle.audit_cli_offline.specs.declared.checking.Proof.TheVariants as proofs
use Rattle.audit_cli_offline.specs.declared.check_form.CheckForm.{CheckForm}
use Rattle.audit_cli_offline.specs.declared.check_form.CheckForm.TheVariants.{Judgment, Contents}

-- the bytes are as long as an entry with the length that they state
abbrev pub is_one_entry : List ℕ → Bool
is_one_entry bytes = length bytes == ENTRY_OVERHEAD + stated_length bytes

-- the kind and the number of the payload's bytes that an entry states; dashes for bytes that aren't one entry
abbrev pub head_text : List ℕ → List ℕ
head_text entry =
    if is_one_entry entry
    then codes " kind " ++ decimal (number_at w32 0 entry) ++ codes " bytes " ++ decimal (stated_length entry)
    else codes " kind - bytes -"

-- the index and the count of a membership proof, and what its entry states
unfoldable pub member_line : Member → List ℕ
member_line proof =
    codes "index " ++ decimal proof.index ++ codes " count " ++ decimal proof.count ++ head_text proof.entry
    ++ codes "\n"

-- the two counts of an incremental proof
unfoldable pub increment_line : Increment → List ℕ
increment_line proof = codes "older " ++ decimal proof.older ++ codes " newer " ++ decimal proof.newer ++ codes "\n"

abbrev pub proof_line : Proof → List ℕ
proof_line (proofs.Member proof) = member_line (member_in proof)
proof_line (proofs.Increment proof) = increment_line (increment_in proof)

-- whether a proof is accepted, and then what an accepted one is about, if that is printed
abbrev pub judgment_lines : CheckForm → Proof → Bool → List ℕ
judgment_lines form proof false = codes "not accepted\n"
judgment_lines Judgment proof true = codes "accepted\n"
judgment_lines Contents proof true = codes "accepted\n" ++ proof_line proof
