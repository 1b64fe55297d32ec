use Rattle.std.specs.Prelude.{slice_get, ◌-◌}
use Rattle.std.proofs.Common.{◌∙◌, List, length, ap}
use Rattle.audit_proof.specs.declared.commitment.Commitment.{Commitment}
use Rattle.audit_cli_witness.proofs.StateLines.{last_place}
use Rattle.audit_cli_witness.proofs.state_file.StateFileKept.newest.Goals as goal

pub returns : goal.returns
returns g c = c.copied.ensures ∙ c.last.ensures.value ∙ ap (λ (l : List Commitment). slice_get l (length l - 1)) c.deref.ensures.value ∙ last_place c.args.self.now.kept.items
