use Rattle.audit_link.proofs.OneReading.{one_link}
use Rattle.audit_link.proofs.Lines.{one_text, short_text}
use Rattle.audit_link.proofs.laws.links_have_one_reading.Goals as goal

pub returns-clause-link : goal.returns-clause-link
returns-clause-link c = one_link

pub returns-clause-counts : goal.returns-clause-counts
returns-clause-counts c = one_text

pub returns-clause-short : goal.returns-clause-short
returns-clause-short c = short_text
