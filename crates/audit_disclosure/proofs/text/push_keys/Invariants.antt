use Rattle.std.proofs.Common.{◌≡◌, ◌++◌, take}
use Rattle.audit_disclosure.specs.DisclosureText.{disclosed_lines}
use Rattle.audit_disclosure.proofs.text.push_keys.Given as goal

-- the lines of the first keys were added
abbrev pub invariant-loop-one : goal.invariant-loop-one
invariant-loop-one l = l.text.items ≡ l.fn.text.items ++ disclosed_lines (take l.one-index l.keys)
