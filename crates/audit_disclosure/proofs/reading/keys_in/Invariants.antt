use Rattle.std.proofs.Common.{◌≡◌, List, length}
use Rattle.audit_disclosure.specs.declared.disclosure.DisclosedKey.{DisclosedKey}
use Rattle.audit_disclosure.specs.DisclosureText.{AreKeysFrom, disclosed_lines}
use Rattle.audit_disclosure.proofs.KeyLines.{HasTakenKeys, after_keys}
use Rattle.audit_disclosure.proofs.reading.keys_in.Given as goal

-- the keys of the first lines were read
abbrev pub invariant-loop-rest : goal.invariant-loop-rest
invariant-loop-rest l = record {
  sound : AreKeysFrom 0 l.keys.items;
  least : l.least ≡ after_keys 0 l.keys.items;
  only : (keys : List DisclosedKey) → AreKeysFrom 0 keys → l.fn.text ≡ disclosed_lines keys → HasTakenKeys keys l.keys.items l.rest l.least;
}

abbrev pub decreases-loop-rest : goal.decreases-loop-rest
decreases-loop-rest l = length l.rest
