use Rattle.std.proofs.Common.{◌≡◌, ◌∙◌, ◌+◌, ◌++◌, [], ◌∷◌, length, rules}
use Rattle.audit_cli_witness.proofs.StateLines.{added_known}
use Rattle.audit_cli_witness.proofs.state_file.StateFileKept.add.Goals as goal

pub invariant_of-self-2 : goal.invariant_of-self-2
invariant_of-self-2 g c =
    let kept : c.push_reserved.new.self.items ≡ c.args.self.now.kept.items ++ c.stored-seen.result ∷ [] = search rules in
    let size : c.in-Some.end ≡ c.args.self.now.end + length c.deref.result.now = search rules in
    record {
      holds = λ file known. rw (kept, size) (added_known (g.T.StateText.text c.args.self.now.file) _ c.args.self.now.kept.items c.args.self.now.end c.args.self.now.lacks_feed c.stored-seen.result c.deref.result.now
          c.in_ok-replace_from.ensures.done c.in_ok-replace_from.ensures.unknown c.args.self.now.holds (c.deref.ensures.value ∙ c.in_ok-line.ensures) c.stored-seen.ensures.stored file known);
    }
