use Rattle.std.proofs.Common.{◌∙◌, ◌++◌, ap}
use Rattle.std.specs.Prelude.{codes}
use Rattle.std.specs.Fmt.{decimal}
use Rattle.audit_note.proofs.Notes.{word_found}
use Rattle.audit_cli_note.proofs.note_file.commitment_word.Goals as goal

pub returns : goal.returns
returns c = λ is.
    let first = c.in_ok-push_str.ensures.bytes ∙ ap (λ t. t ++ c.format.result.now) c.new-word.ensures.bytes ∙ c.format.ensures.text in
    let second = c.in_ok-push_str-2.ensures.bytes ∙ ap (λ t. t ++ codes ":") first in
    let root = c.as_str.ensures.value ∙ c.in_ok-encode.ensures in
    word_found c.args.commitment.now _ is (c.in_ok-push_str-3.ensures.bytes ∙ ap (λ t. t ++ c.as_str.result.now) second ∙ ap (λ r. (decimal c.args.commitment.now.count ++ codes ":") ++ r) root)
