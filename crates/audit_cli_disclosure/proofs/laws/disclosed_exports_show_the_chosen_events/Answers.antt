use Rattle.audit_cli_disclosure.proofs.PrintedChoice.{prints_chosen}
use Rattle.audit_cli_disclosure.proofs.laws.disclosed_exports_show_the_chosen_events.Goals as goal

pub returns : goal.returns
returns c = λ form choice key last_link first events each. prints_chosen form choice key last_link first events
