-- The lines of a rotation.
use Rattle.std.specs.Prelude.{ℕ, List, ◌++◌, codes}
use Rattle.std.specs.Fmt.{decimal}
use Rattle.audit_log.specs.declared.header.Header.{Header}
use Rattle.audit_text.specs.AckLine.{ack_line}
use Rattle.audit_text.specs.NumberedLine.{numbered_line}

-- what formatting a device prints
abbrev pub formatted_line : ℕ → List ℕ
formatted_line sectors = codes "formatted " ++ decimal sectors ++ codes "\n"

-- The lines that closing a log, formatting a new store and appending its first event print, with the two headers.
unfoldable pub rotated_lines : Header → Header → List ℕ
rotated_lines old new =
    numbered_line (codes "closed ") old.count old.root ++ formatted_line new.sectors
    ++ ack_line 0 new.count new.root
