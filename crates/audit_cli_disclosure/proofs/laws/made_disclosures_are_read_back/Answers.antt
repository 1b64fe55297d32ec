use Rattle.audit_cli_disclosure.proofs.SoundKeys.{sound_keys}
use Rattle.audit_cli_disclosure.proofs.laws.made_disclosures_are_read_back.Goals as goal

pub returns : goal.returns
returns c = sound_keys
