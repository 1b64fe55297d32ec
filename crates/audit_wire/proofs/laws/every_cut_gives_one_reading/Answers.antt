use Rattle.audit_wire.specs.Progress.{reading}
use Rattle.std.proofs.Common.{[]}
use Rattle.audit_wire.proofs.Runs.{run_reads}
use Rattle.audit_wire.proofs.laws.every_cut_gives_one_reading.Goals as goal

pub returns : goal.returns
returns c = λ run r. run_reads (reading []) run tt r
