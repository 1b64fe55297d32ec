use Rattle.std.proofs.Common.{sym, ◌∙◌}
use Rattle.audit_note.proofs.note.read_note.Goals as goal

pub returns : goal.returns
returns c =
    record {
      note_is = record { name_is = sym c.is_log_name.ensures ∙ c.if-not-is_log_name.false; commitment_is = rw c.in_ok-note.was at c.parse.ensures.sound };
      text_is = c.is_text_of.ensures.0 c.if-not-is_text_of.false;
    }
