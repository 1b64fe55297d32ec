-- A note as lines of text, each a word, a space and a value.
use Rattle.std.specs.Prelude.{◌≡◌, ℕ, Bool, true, ◌&&◌, nat_le, List, ◌++◌, length, codes}
use Rattle.std.specs.Fmt.{decimal}
use Rattle.std.specs.List.{list_all}
use Rattle.hex.specs.Hex.{encode_lower}
use Rattle.audit_proof.specs.declared.commitment.Commitment.{Commitment}
use Rattle.audit_text.specs.Fields.{field_line}
use Rattle.audit_proof.specs.SoundCommitment.{IsSoundCommitment}
use Rattle.audit_note.specs.declared.name.TheConstants.{MAX_NAME}

-- a byte of ASCII that is printed, and no space
abbrev pub is_name_byte : ℕ → Bool
is_name_byte byte = nat_le 33 byte && nat_le byte 126

abbrev pub is_log_name : List ℕ → Bool
is_log_name name = nat_le 1 (length name) && nat_le (length name) MAX_NAME && list_all is_name_byte name

-- a version, the name of the log, and the parts of its commitment
unfoldable pub note_text : List ℕ → Commitment → List ℕ
note_text name commitment =
    field_line (codes "audit-note") (codes "1") ++ (field_line (codes "name") name
    ++ (field_line (codes "count") (decimal commitment.count) ++ field_line (codes "root") (encode_lower commitment.root)))

-- a note has a name, a number of eight bytes, and a hash
pub record IsNote (name : List ℕ) (commitment : Commitment) : Type 0 where
  pub name_is : is_log_name name ≡ true
  pub commitment_is : IsSoundCommitment commitment

-- this text is the note
pub record SpellsNote (text name : List ℕ) (commitment : Commitment) : Type 0 where
  pub note_is : IsNote name commitment
  pub text_is : text ≡ note_text name commitment

-- the text is that of no note
abbrev pub IsNoNote : List ℕ → Type 0
IsNoNote text = (name : List ℕ) (commitment : Commitment) → ¬ SpellsNote text name commitment
