use Rattle.std.proofs.Common.{◌∙◌, ap}
use Rattle.audit_base.specs.Bytes.{zeros}
use Rattle.audit_chain.specs.Entries.{first_link}
use Rattle.audit_disclosure.specs.declared.disclosure.Start.{Start}
use Rattle.audit_disclosure.proofs.StartLines.{start_made}
use Rattle.audit_disclosure.proofs.reading.first_start.Goals as goal

pub returns-clause-first : goal.returns-clause-first
unfolding zeros
returns-clause-first c = c.start_with.ensures.parts ∙ ap (start_made first_link) c.new.ensures.empty

pub returns-clause-fits : goal.returns-clause-fits
unfolding zeros
returns-clause-fits c = record { tree = c.start_with.ensures.sized; first = λ none. ap (λ (s : Start). s.link) c.start_with.ensures.parts }
