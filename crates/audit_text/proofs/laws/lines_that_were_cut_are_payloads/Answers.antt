use Rattle.audit_text.proofs.CutShort.{cut_fits}
use Rattle.audit_text.proofs.laws.lines_that_were_cut_are_payloads.Goals as goal

pub returns : goal.returns
returns c = cut_fits
