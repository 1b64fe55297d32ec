use Rattle.std.proofs.Common.{sym, ◌∙◌}
use Rattle.audit_cli_base.proofs.StartFiles.{no_bookmark_with_key}
use Rattle.audit_cli_base.proofs.start_file.start_of_file.Goals as goal

pub returns-in-Some-clause-state : goal.returns-in-Some-clause-state
returns-in-Some-clause-state c = λ state newest sound is.
    absurd (no_bookmark_with_key c.args.text.now c.in-Some.key state newest (sym c.key_of_file.ensures ∙ c.in-Some.is) is)
