use Rattle.audit_cli_offline.proofs.OpenedEntries.{opens, alone}
use Rattle.audit_cli_offline.proofs.laws.keys_open_their_entries.Goals as goal

pub returns-clause-opens : goal.returns-clause-opens
returns-clause-opens c = λ key last_link event is.
    let sizes = c.chain_keeps_its_sizes.ensures in
    ((sizes.parts key last_link event is, sizes.form key last_link event), opens key last_link event)

pub returns-clause-alone : goal.returns-clause-alone
returns-clause-alone c = alone
