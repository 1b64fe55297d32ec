use Rattle.std.proofs.Common.{◌≡◌, ◌∙◌, List, ℕ, ◌++◌, length, ap}
use Rattle.std.proofs.lemmas.Result.{on_ok_weaker}
use Rattle.audit_chain.specs.EntryForm.{EntryParts}
use Rattle.audit_cli_disclosure.specs.SealedLines.{sealed_json, sealed_line}
use Rattle.audit_cli_disclosure.proofs.ReadEntries.{begins_with, read_alone}
use Rattle.audit_cli_disclosure.proofs.lines.put_sealed.Goals as goal

pub unreachable-requires : goal.unreachable-requires
unreachable-requires c = c.in_default.not-Ok c.requires.0 (c.read_entry.ensures.only c.requires.0 (begins_with c.args.entry.now c.requires.0 c.requires.1))

pub returns-in-Events : goal.returns-in-Events
returns-in-Events c = λ parts is.
    let same : c.in-Ok.view ≡ parts = read_alone c.args.entry.now c.in-Ok.view parts c.in-Ok.ensures.found is in
    rw c.in-Events.is (on_ok_weaker c.push_sealed.result
    (λ items. items ∙ ap (λ (front : List ℕ). front ++ sealed_line c.args.index c.in-Ok.view.kind (length c.in-Ok.view.cipher)) c.clear.ensures.items ∙ ap (λ (p : EntryParts). sealed_line c.args.index p.kind (length p.cipher)) same)
    c.push_sealed.ensures)

pub returns-in-Json : goal.returns-in-Json
returns-in-Json c = λ parts is.
    let same : c.in-Ok.view ≡ parts = read_alone c.args.entry.now c.in-Ok.view parts c.in-Ok.ensures.found is in
    rw c.in-Json.is (on_ok_weaker c.push_sealed_json.result
    (λ items. items ∙ ap (λ (front : List ℕ). front ++ sealed_json c.args.index c.in-Ok.view.kind (length c.in-Ok.view.cipher)) c.clear.ensures.items ∙ ap (λ (p : EntryParts). sealed_json c.args.index p.kind (length p.cipher)) same)
    c.push_sealed_json.ensures)
