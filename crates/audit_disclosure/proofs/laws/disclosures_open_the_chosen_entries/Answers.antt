use Rattle.audit_disclosure.proofs.ChosenKeys.{shows_chosen}
use Rattle.audit_disclosure.proofs.laws.disclosures_open_the_chosen_entries.Goals as goal

pub returns : goal.returns
returns c = λ choice key last_link first events each. shows_chosen choice key last_link first events
