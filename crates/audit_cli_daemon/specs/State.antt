-- The lines by which a daemon reports its state.
use Rattle.std.specs.Prelude.{ℕ, Result, Ok, Err, List, codes}
use Rattle.audit_log.specs.declared.header.Header.{Header}
use Rattle.audit_text.specs.NumberedLine.{numbered_line}
use Rattle.audit_cli_base.specs.declared.fault.CommandError.{CommandError}
use Rattle.audit_cli_daemon.specs.declared.end.End.{End}
use Rattle.audit_cli_daemon.specs.declared.end.End.TheVariants.{Stopped, Full}

-- it serves from now on
abbrev pub ready_line : Header → List ℕ
ready_line header = numbered_line (codes "ready ") header.count header.root

-- it has stopped serving, since the door said so or an event found no space
abbrev pub word_of : End → List ℕ
word_of Stopped = codes "stopped "
word_of Full = codes "full "

-- the end that is reported, unless there was an error
abbrev pub end_in : Result End CommandError → End
end_in (Ok end) = end
end_in (Err fault) = Stopped

abbrev pub closing_line : End → Header → List ℕ
closing_line end header = numbered_line (word_of end) header.count header.root
