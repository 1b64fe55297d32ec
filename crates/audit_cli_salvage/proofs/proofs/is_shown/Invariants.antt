use Rattle.std.proofs.Common.{◌≡◌, drop}
use Rattle.audit_chain.specs.EntryForm.{EntryParts, bytes_of_parts}
use Rattle.audit_cli_salvage.specs.Pieces.{is_shown}
use Rattle.audit_cli_salvage.proofs.proofs.is_shown.Given as goal

-- no earlier proof shows the entry
abbrev pub invariant-loop-proved : goal.invariant-loop-proved
invariant-loop-proved l = (parts : EntryParts) → l.fn.entry ≡ bytes_of_parts parts
    → is_shown l.fn.proofs l.fn.index parts ≡ is_shown (drop l.proved-index l.fn.proofs) l.fn.index parts
