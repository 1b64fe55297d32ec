use Rattle.std.proofs.Common.{◌∙◌, Ok, subst, sym, rules}
use Rattle.audit_cli_store.proofs.AnsweredFiles.{done_show, done_show_header, done_format, done_export, done_prove}
use Rattle.audit_cli_store.proofs.BadArguments.{never_bad}
use Rattle.std.proofs.lemmas.Result.{err_from_is_err_and}
use Rattle.audit_cli_store.specs.Requests.{IsWordFault, IsReplayed, IsReplayOf}
use Rattle.audit_cli_store.proofs.request.perform.Goals as goal

-- Only a format, an export, a check, an opening, a link and a proof have words that are checked before a file is opened.

pub returns-in-Close-clause-words : goal.returns-in-Close-clause-words
returns-in-Close-clause-words g c = λ fault asked. absurd (subst (λ request. IsWordFault request fault) c.in-Close.is asked)

pub returns-in-Show-clause-words : goal.returns-in-Show-clause-words
returns-in-Show-clause-words g c = λ fault asked. absurd (subst (λ request. IsWordFault request fault) c.in-Show.is asked)

pub returns-in-ShowHeader-clause-words : goal.returns-in-ShowHeader-clause-words
returns-in-ShowHeader-clause-words g c = λ fault asked. absurd (subst (λ request. IsWordFault request fault) c.in-ShowHeader.is asked)

pub returns-in-Export-clause-words : goal.returns-in-Export-clause-words
returns-in-Export-clause-words g c = λ fault asked. c.export_file.ensures.words fault (subst (λ request. IsWordFault request fault) c.in-Export.is asked)

pub returns-in-Verify-clause-words : goal.returns-in-Verify-clause-words
returns-in-Verify-clause-words g c = λ fault asked. absurd (subst (λ request. IsWordFault request fault) c.in-Verify.is asked)

pub returns-in-Check-clause-words : goal.returns-in-Check-clause-words
returns-in-Check-clause-words g c = λ fault asked. c.check_file.ensures.words fault (subst (λ request. IsWordFault request fault) c.in-Check.is asked)

pub returns-in-CheckLink-clause-words : goal.returns-in-CheckLink-clause-words
returns-in-CheckLink-clause-words g c = λ fault asked. c.check_link_file.ensures.words fault (subst (λ request. IsWordFault request fault) c.in-CheckLink.is asked)

pub returns-in-Open-clause-words : goal.returns-in-Open-clause-words
returns-in-Open-clause-words g c = λ fault asked. c.open_file.ensures.words fault (subst (λ request. IsWordFault request fault) c.in-Open.is asked)

-- Only a replay says what is written.

pub returns-in-Close-clause-replayed : goal.returns-in-Close-clause-replayed
returns-in-Close-clause-replayed g c = rw c.in-Close.is tt

pub returns-in-Show-clause-replayed : goal.returns-in-Show-clause-replayed
returns-in-Show-clause-replayed g c = rw c.in-Show.is tt

pub returns-in-ShowHeader-clause-replayed : goal.returns-in-ShowHeader-clause-replayed
returns-in-ShowHeader-clause-replayed g c = rw c.in-ShowHeader.is tt

pub returns-in-Check-clause-replayed : goal.returns-in-Check-clause-replayed
returns-in-Check-clause-replayed g c = rw c.in-Check.is tt

pub returns-in-CheckLink-clause-replayed : goal.returns-in-CheckLink-clause-replayed
returns-in-CheckLink-clause-replayed g c = rw c.in-CheckLink.is tt

pub returns-in-Open-clause-replayed : goal.returns-in-Open-clause-replayed
returns-in-Open-clause-replayed g c = rw c.in-Open.is tt

pub returns-in-Export-clause-replayed : goal.returns-in-Export-clause-replayed
returns-in-Export-clause-replayed g c = rw c.in-Export.is tt

pub returns-in-Verify-clause-replayed : goal.returns-in-Verify-clause-replayed
returns-in-Verify-clause-replayed g c = rw c.in-Verify.is tt

pub returns-in-Some-clause-replayed : goal.returns-in-Some-clause-replayed
returns-in-Some-clause-replayed g c = rw c.in-Prove.is tt

pub returns-in-None-clause-replayed : goal.returns-in-None-clause-replayed
returns-in-None-clause-replayed g c = rw c.in-Prove.is tt

pub returns-in-Format-clause-replayed : goal.returns-in-Format-clause-replayed
returns-in-Format-clause-replayed g c = rw c.in-Format.is tt

pub returns-in-Format-clause-words : goal.returns-in-Format-clause-words
returns-in-Format-clause-words g c = λ fault asked. c.format_site.ensures.words fault (subst (λ request. IsWordFault request fault) c.in-Format.is asked)

pub returns-in_err-replay-in-Replay-clause-words : goal.returns-in_err-replay-in-Replay-clause-words
returns-in_err-replay-in-Replay-clause-words g c = λ fault asked. absurd (subst (λ request. IsWordFault request fault) c.in-Replay.is asked)

pub returns-in_ok-replay-in-Replay-clause-words : goal.returns-in_ok-replay-in-Replay-clause-words
returns-in_ok-replay-in-Replay-clause-words g c = λ fault asked. absurd (subst (λ request. IsWordFault request fault) c.in-Replay.is asked)

pub returns-in_err-replay-in-Replay-clause-replayed : goal.returns-in_err-replay-in-Replay-clause-replayed
returns-in_err-replay-in-Replay-clause-replayed g c =
    let input = g.R.Read.remaining c.args.input.now in
    let old = g.W.Write.contents c.args.output.now in
    let new = g.W.Write.contents c.replay.new.writer in
    let stopped = c.in_err-replay-in-Replay in
    let p = err_from_is_err_and c.from_residual.result c.from_residual.ensures.1 in
    subst (λ request. IsReplayOf request input old new c.from_residual.result) (sym c.in-Replay.is)
    (subst (IsReplayed input old new) (sym p.1)
    (record { cause = stopped.field-0.0; fault_is = p.2; found = stopped.ensures.fault; unwritten = stopped.ensures.unwritten; part = stopped.ensures.part }))

pub returns-in_ok-replay-in-Replay-clause-replayed : goal.returns-in_ok-replay-in-Replay-clause-replayed
returns-in_ok-replay-in-Replay-clause-replayed g c =
    subst (λ request. IsReplayOf request (g.R.Read.remaining c.args.input.now) (g.W.Write.contents c.args.output.now) (g.W.Write.contents c.replay.new.writer) (Ok tt)) (sym c.in-Replay.is)
    c.in_ok-replay-in-Replay.ensures.ok

-- What is done with the file of a store.

pub returns-in-Close-clause-done : goal.returns-in-Close-clause-done
returns-in-Close-clause-done g c = rw c.in-Close.is c.close_file.ensures.closed

pub returns-in-Show-clause-done : goal.returns-in-Show-clause-done
returns-in-Show-clause-done g c = rw c.in-Show.is (done_show g.F.File.SystemFile.facts g.F.File.PositionedFile.positioned _ g.F.File.Read.remaining c.in-Show.file c.in-Show.access c.in-Show.form (g.W.Write.contents c.args.output.now) (g.W.Write.contents c.answer_file.new.output) c.answer_file.result c.answer_file.ensures.answered)

pub returns-in-ShowHeader-clause-done : goal.returns-in-ShowHeader-clause-done
returns-in-ShowHeader-clause-done g c = rw c.in-ShowHeader.is (done_show_header g.F.File.SystemFile.facts g.F.File.PositionedFile.positioned _ g.F.File.Read.remaining c.in-ShowHeader.file c.in-ShowHeader.form (g.W.Write.contents c.args.output.now) (g.W.Write.contents c.show_header.new.output) c.show_header.result c.show_header.ensures.shown)

pub returns-in-CheckLink-clause-done : goal.returns-in-CheckLink-clause-done
returns-in-CheckLink-clause-done g c = rw c.in-CheckLink.is c.check_link_file.ensures.checked

pub returns-in-Open-clause-done : goal.returns-in-Open-clause-done
returns-in-Open-clause-done g c = rw c.in-Open.is c.open_file.ensures.opened

pub returns-in-Format-clause-done : goal.returns-in-Format-clause-done
returns-in-Format-clause-done g c = rw c.in-Format.is (done_format g.F.File.SystemFile.facts g.F.File.PositionedFile.positioned _ g.F.File.Read.remaining c.in-Format.file c.in-Format.site c.in-Format.sectors c.in-Format.key_file (g.W.Write.contents c.args.output.now) (g.W.Write.contents c.format_site.new.output) c.format_site.result c.format_site.ensures.formatted)

pub returns-in-Export-clause-done : goal.returns-in-Export-clause-done
returns-in-Export-clause-done g c = rw c.in-Export.is (done_export g.F.File.SystemFile.facts g.F.File.PositionedFile.positioned _ g.F.File.Read.remaining c.in-Export.file c.in-Export.out c.in-Export.access c.in-Export.from (g.W.Write.contents c.args.output.now) (g.W.Write.contents c.export_file.new.output) c.export_file.result c.export_file.ensures.exported)

pub returns-in-Some-clause-done : goal.returns-in-Some-clause-done
returns-in-Some-clause-done g c = rw c.in-Prove.is (done_prove g.F.File.SystemFile.facts g.F.File.PositionedFile.positioned _ g.F.File.Read.remaining c.in-Prove.file c.in-Prove.kind c.in-Prove.first c.in-Prove.second c.in-Prove.out c.in-Prove.access c.in-Some.asked (g.W.Write.contents c.args.output.now) (g.W.Write.contents c.prove_file.new.output) c.prove_file.result (search rules) c.prove_file.ensures.proved)

pub returns-in-None-clause-done : goal.returns-in-None-clause-done
returns-in-None-clause-done g c = rw c.in-Prove.is tt

pub returns-in-Check-clause-done : goal.returns-in-Check-clause-done
returns-in-Check-clause-done g c = rw c.in-Check.is tt

pub returns-in-Verify-clause-done : goal.returns-in-Verify-clause-done
returns-in-Verify-clause-done g c = rw c.in-Verify.is tt

pub returns-in_err-replay-in-Replay-clause-done : goal.returns-in_err-replay-in-Replay-clause-done
returns-in_err-replay-in-Replay-clause-done g c = rw c.in-Replay.is tt

pub returns-in_ok-replay-in-Replay-clause-done : goal.returns-in_ok-replay-in-Replay-clause-done
returns-in_ok-replay-in-Replay-clause-done g c = rw c.in-Replay.is tt

-- Which arguments are bad.

pub returns-in-Close-clause-only : goal.returns-in-Close-clause-only
returns-in-Close-clause-only g c = λ bad. absurd (never_bad c.close_file.result bad c.close_file.ensures.words)

pub returns-in-Show-clause-only : goal.returns-in-Show-clause-only
returns-in-Show-clause-only g c = λ bad. absurd (never_bad c.answer_file.result bad c.answer_file.ensures.words)

pub returns-in-ShowHeader-clause-only : goal.returns-in-ShowHeader-clause-only
returns-in-ShowHeader-clause-only g c = λ bad. absurd (never_bad c.show_header.result bad c.show_header.ensures.words)

pub returns-in-Check-clause-only : goal.returns-in-Check-clause-only
returns-in-Check-clause-only g c = rw c.in-Check.is c.check_file.ensures.only

pub returns-in-CheckLink-clause-only : goal.returns-in-CheckLink-clause-only
returns-in-CheckLink-clause-only g c = rw c.in-CheckLink.is c.check_link_file.ensures.only

pub returns-in-Open-clause-only : goal.returns-in-Open-clause-only
returns-in-Open-clause-only g c = rw c.in-Open.is c.open_file.ensures.only

pub returns-in-Export-clause-only : goal.returns-in-Export-clause-only
returns-in-Export-clause-only g c = rw c.in-Export.is c.export_file.ensures.only

pub returns-in-Verify-clause-only : goal.returns-in-Verify-clause-only
returns-in-Verify-clause-only g c = rw c.in-Verify.is c.verify_and_report.ensures.only

pub returns-in-Format-clause-only : goal.returns-in-Format-clause-only
returns-in-Format-clause-only g c = rw c.in-Format.is c.format_site.ensures.only

pub returns-in-Some-clause-only : goal.returns-in-Some-clause-only
returns-in-Some-clause-only g c = λ bad. absurd (never_bad c.prove_file.result bad c.prove_file.ensures.words)

pub returns-in-None-clause-only : goal.returns-in-None-clause-only
returns-in-None-clause-only g c = rw c.in-Prove.is (λ bad. sym c.proof_request.ensures ∙ c.in-None.is)
