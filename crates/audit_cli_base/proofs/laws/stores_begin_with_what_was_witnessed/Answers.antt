use Rattle.audit_cli_base.proofs.Witnessed.{as_many, first_are}
use Rattle.audit_cli_base.proofs.laws.stores_begin_with_what_was_witnessed.Goals as goal

pub returns-clause-count : goal.returns-clause-count
returns-clause-count g c = λ older witnessed origin events holds extends of_them. as_many older witnessed origin.first_key events holds.events_are.indexes.leaves extends of_them

pub returns-clause-first : goal.returns-clause-first
returns-clause-first g c = λ older witnessed origin events holds extends of_them. first_are older witnessed origin.first_key events holds.events_are.indexes.leaves extends of_them
