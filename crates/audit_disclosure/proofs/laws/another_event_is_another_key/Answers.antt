use Rattle.std.proofs.Common.{◌∙◌, ap}
use Rattle.audit_chain.specs.EntryForm.{sealed_parts}
use Rattle.audit_link.specs.OpenedEntry.{read_under}
use Rattle.audit_disclosure.proofs.ChosenKeys.{opens_its_entry}
use Rattle.audit_disclosure.proofs.laws.another_event_is_another_key.Goals as goal

pub returns : goal.returns
returns c = λ key last_link given event is other same.
    other (ap (λ k. read_under k (sealed_parts key last_link event)) same ∙ opens_its_entry key last_link event)
