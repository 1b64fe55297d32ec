use Rattle.std.proofs.Common.{◌∙◌, ap, sym, Some}
use Rattle.audit_cli_base.proofs.KeyFiles.{key_of_digits}
use Rattle.audit_cli_base.proofs.key_file.key_of_file.Goals as goal

pub returns-in-Ok : goal.returns-in-Ok
returns-in-Ok c =
    ap Some c.from_bytes.ensures ∙ sym (key_of_digits c.args.text.now _ _ c.without_line_feed.ensures c.in-Ok.ensures)

pub returns-in-Err : goal.returns-in-Err
returns-in-Err c = sym (key_of_digits c.args.text.now _ _ c.without_line_feed.ensures c.in-Err.ensures)
