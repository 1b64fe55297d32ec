use Rattle.audit_cli_store.proofs.AnsweredFiles.{proof_read, proof_store}
use Rattle.audit_cli_store.proofs.answering.proof_about.Goals as goal

pub returns-in_ok-open_store-in-Repair-clause-made : goal.returns-in_ok-open_store-in-Repair-clause-made
returns-in_ok-open_store-in-Repair-clause-made g c =
    rw c.in-Repair.is (proof_store g.F.File.SystemFile.facts g.F.File.PositionedFile.positioned _ c.args.file.now c.args.asked c.in_ok-open_store-in-Repair.field-0.content (λ made. made.0.items) c.proof_of_opened.result c.in_ok-open_store-in-Repair.ensures.at c.proof_of_opened.ensures.made)

pub returns-in_ok-open_device_to_read-in-ReadOnly-clause-made : goal.returns-in_ok-open_device_to_read-in-ReadOnly-clause-made
returns-in_ok-open_device_to_read-in-ReadOnly-clause-made g c =
    proof_read g.F.File.SystemFile.facts g.F.File.PositionedFile.positioned _ c.args.access c.in-ReadOnly.is c.args.file.now c.args.asked c.in_ok-open_device_to_read-in-ReadOnly.field-0.content (λ made. made.0.items) c.proof_on.result c.in_ok-open_device_to_read-in-ReadOnly.ensures.at c.proof_on.ensures.made
