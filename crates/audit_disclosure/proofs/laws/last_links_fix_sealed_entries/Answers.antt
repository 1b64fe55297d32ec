use Rattle.audit_disclosure.proofs.SameSealedEntries.{same_sealed}
use Rattle.audit_disclosure.proofs.laws.last_links_fix_sealed_entries.Goals as goal

pub returns : goal.returns
returns c = λ link entries others long. same_sealed link entries others
