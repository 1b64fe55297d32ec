-- The lines of a note, one after another.
use Rattle.std.proofs.Common.{◌≡◌, ◌∙◌, ℕ, List, ◌++◌, sym, ap, append_assoc}
use Rattle.std.specs.Prelude.{codes}
use Rattle.std.specs.Fmt.{decimal}
use Rattle.hex.specs.Hex.{encode_lower}
use Rattle.audit_proof.specs.declared.commitment.Commitment.{Commitment}
use Rattle.audit_text.specs.Fields.{field_line}
use Rattle.audit_note.specs.NoteText.{note_text}

abbrev pub lines_of_note : List ℕ → List ℕ → List ℕ → List ℕ → List ℕ
lines_of_note name count root rest =
    field_line (codes "audit-note") (codes "1") ++ (field_line (codes "name") name ++ (field_line (codes "count") count ++ (field_line (codes "root") root ++ rest)))

pub note_split : (name count root rest : List ℕ) (commitment : Commitment) → count ≡ decimal commitment.count → root ≡ encode_lower commitment.root → note_text name commitment ++ rest ≡ lines_of_note name count root rest
unfolding note_text
note_split name count root rest commitment count_is root_is =
    let version = field_line (codes "audit-note") (codes "1") in
    let named = field_line (codes "name") name in
    let counted = field_line (codes "count") (decimal commitment.count) in
    let rooted = field_line (codes "root") (encode_lower commitment.root) in
    append_assoc version (named ++ (counted ++ rooted)) rest
    ∙ ap (λ t. version ++ t) (append_assoc named (counted ++ rooted) rest ∙ ap (λ t. named ++ t) (append_assoc counted rooted rest))
    ∙ ap (λ d. lines_of_note name d (encode_lower commitment.root) rest) (sym count_is)
    ∙ ap (λ d. lines_of_note name count d rest) (sym root_is)
