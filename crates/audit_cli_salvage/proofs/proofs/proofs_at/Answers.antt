use Rattle.std.proofs.Common.{◌++◌, ◌∷◌, [], Bor, List, ℕ, subst, sym, take}
use Rattle.std.proofs.lemmas.List.{take_more}
use Rattle.audit_cli_salvage.specs.SalvageWords.{ShowLeavesAt}
use Rattle.audit_cli_salvage.specs.declared.proofs.ProvedLeaf.{ProvedLeaf}
use Rattle.audit_cli_salvage.proofs.ProofFiles.{leaves_more}
use Rattle.audit_cli_salvage.proofs.proofs.proofs_at.Goals as goal

pub loop-path-preserved : goal.loop-path-preserved
loop-path-preserved g c =
    let facts = g.F.File.SystemFile.facts in
    let remaining = g.F.File.Read.remaining in
    let more = leaves_more facts remaining c.args.commitment.now (take c.loop-path.path-index c.args.paths.now) _ c.loop-path.proofs.items c.in_ok-proved.proved c.loop-path.invariant c.in_ok-proved.ensures.shown in
    let items = subst (ShowLeavesAt facts remaining c.args.commitment.now (take c.loop-path.path-index c.args.paths.now ++ _ ∷ [])) (sym {A = List ProvedLeaf} c.in_ok-push_proved.ensures) more in
    subst (λ (paths : List (Bor (List ℕ))). ShowLeavesAt facts remaining c.args.commitment.now paths c.push_proved.new.proofs.items) (sym (take_more c.args.paths.now c.loop-path.path-index _ c.loop-path-test.true)) items
