use Rattle.std.specs.Prelude.{OnOk}
use Rattle.std.specs.Io.KnownBytes.{Appends}
use Rattle.std.proofs.Common.{◌≡◌, ◌∙◌, ℕ, ◌≤◌, List, length, vec_len, subst, sym, rules}
use Rattle.std.proofs.lemmas.Result.{err_from_is_err_and}
use Rattle.audit_text.specs.declared.input.TheConstants.{INPUT_LIMIT}
use Rattle.audit_cli_disclosure.specs.MadeDisclosure.{disclosed_count, disclosed_data}
use Rattle.audit_cli_disclosure.proofs.Disclosed.{ends_at_text, ends_at_making, ends_by_line}
use Rattle.audit_cli_disclosure.proofs.disclosing.put_disclosed.Goals as goal

pub returns-in_err-text : goal.returns-in_err-text
returns-in_err-text g c =
    let p = err_from_is_err_and c.from_residual.result c.from_residual.ensures.1 in
    rw (p.1, p.2) (ends_at_text g.F.AuditorFiles.calls g.F.Export.FallibleRead.failed c.args.asked c.args.files.now (g.W.Write.contents c.args.output.now) c.in_err-text.field-0.0 (disclosed_data c.args.chosen.now) c.in_err-text.ensures.fault)

pub returns-in_err-make : goal.returns-in_err-make
returns-in_err-make g c =
    let p = err_from_is_err_and c.from_residual-in_err-make.result c.from_residual-in_err-make.ensures.1 in
    let few = subst (λ (bytes : List ℕ). length bytes ≤ INPUT_LIMIT) (sym c.deref.ensures.value) c.in_ok-text.ensures.text.1 in
    rw (p.1, p.2) (ends_at_making g.F.AuditorFiles.calls g.F.Export.FallibleRead.failed c.args.asked c.args.files.now c.make.new.self (g.W.Write.contents c.args.output.now) c.in_err-make.field-0.0 (disclosed_data c.args.chosen.now) c.deref.result.now
    (c.deref.ensures.value ∙ c.in_ok-text.ensures.text.0) few c.in_err-make.ensures.cause c.in_err-make.ensures.did)

pub returns : goal.returns
returns g c =
    let size : vec_len c.args.chosen.now.disclosure.keys ≡ length c.args.chosen.now.disclosure.keys.items = search rules in
    let few = subst (λ (bytes : List ℕ). length bytes ≤ INPUT_LIMIT) (sym c.deref.ensures.value) c.in_ok-text.ensures.text.1 in
    ends_by_line g.F.AuditorFiles.calls g.F.Export.FallibleRead.failed c.args.asked c.args.files.now c.make.new.self (g.W.Write.contents c.args.output.now) (g.W.Write.contents c.write_disclosed.new.writer) (disclosed_data c.args.chosen.now) c.deref.result.now c.write_disclosed.result
    (c.deref.ensures.value ∙ c.in_ok-text.ensures.text.0) few c.in_ok-make.ensures.did
    (subst (λ (n : ℕ). OnOk c.write_disclosed.result (Appends (g.W.Write.contents c.args.output.now) (g.W.Write.contents c.write_disclosed.new.writer) (disclosed_count n c.args.chosen.now.count)))
    (c.len-chosen_count.ensures ∙ size) c.write_disclosed.ensures.written) c.write_disclosed.ensures.fault
