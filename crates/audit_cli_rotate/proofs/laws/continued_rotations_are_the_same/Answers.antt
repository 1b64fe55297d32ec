use Rattle.audit_cli_rotate.proofs.Held.{closed_once, held_link, held_lines}
use Rattle.audit_cli_rotate.proofs.laws.continued_rotations_are_the_same.Goals as goal

pub returns-clause-closing : goal.returns-clause-closing
returns-clause-closing g c = closed_once

pub returns-clause-link : goal.returns-clause-link
returns-clause-link g c origin events one two = held_link c.args.old.now c.args.again.now origin events one two

pub returns-clause-lines : goal.returns-clause-lines
returns-clause-lines g c origin made events first one two three four =
    held_lines c.args.old.now c.args.again.now c.args.new.now c.args.other.now origin made events first one two three four
