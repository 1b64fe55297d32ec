use Rattle.audit_cli_store.proofs.AnsweredFiles.{formatted_new}
use Rattle.audit_cli_store.proofs.BadArguments.{never_bad}
use Rattle.audit_cli_store.proofs.making.format_file.Goals as goal

pub returns-clause-formatted : goal.returns-clause-formatted
returns-clause-formatted g c =
    formatted_new g.F.File.SystemFile.facts g.F.File.PositionedFile.positioned _ _ c.args.file.now c.args.mode c.args.sectors.now c.args.key_file.now c.in_ok-mode.mode c.in_ok-mode.sectors c.in_ok-first_key.first_key c.in_ok-disk.disk (g.W.Write.contents c.args.output.now) (g.W.Write.contents c.format_or_remove.new.output) c.format_or_remove.result
    c.in_ok-mode.ensures.owner c.in_ok-mode.ensures.mode c.in_ok-mode.ensures.sectors c.in_ok-first_key.ensures.key c.in_ok-disk.ensures.made c.in_ok-disk.ensures.size c.format_or_remove.ensures.formatted

pub returns-clause-only : goal.returns-clause-only
returns-clause-only g c = λ bad. absurd (never_bad c.format_or_remove.result bad c.format_or_remove.ensures.words)
