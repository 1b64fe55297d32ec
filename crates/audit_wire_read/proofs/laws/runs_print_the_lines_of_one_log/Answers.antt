use Rattle.audit_wire_read.proofs.RunLines.{lines_right, runs_cover}
use Rattle.audit_wire_read.proofs.StartStates.{start_state}
use Rattle.audit_wire_read.proofs.laws.runs_print_the_lines_of_one_log.Goals as goal

pub returns-clause-lines : goal.returns-clause-lines
returns-clause-lines c = λ first_key bytes export older kept state past log runs verified goes is are last.
    lines_right first_key log last.each past state kept runs verified.each goes is are last.committed

pub returns-clause-all : goal.returns-clause-all
returns-clause-all c = runs_cover

pub returns-clause-start : goal.returns-clause-start
returns-clause-start c = start_state
