use Rattle.std.specs.Prelude.{◌⊎◌, MatchResult}
use Rattle.std.proofs.lemmas.Result.{err_from_is_err_and}
use Rattle.std.proofs.Common.{◌≡◌, ◌<◌, ap, refl, sym, subst, length}
use Rattle.audit_store_commit.specs.Headers.{contents_of}
use Rattle.audit_cli_store.specs.Proofs.{AsksOutside, IsDeviceOrMemory, proof_of_log}
use Rattle.audit_cli_store.proofs.KnownEntries.{only_memory}
use Rattle.audit_cli_store.proofs.proving.proof_bytes.Goals as goal

pub returns-in_err-proof-in-Increment-clause-log : goal.returns-in_err-proof-in-Increment-clause-log
unfolding contents_of
returns-in_err-proof-in-Increment-clause-log g c = λ origin events h inside.
    let size : c.args.store.now.header.count ≡ length events = ap (λ header. header.count) h.events_are.header_is in
    let memory = only_memory _ _ _ _ c.in_err-proof-in-Increment.ensures.outcome h.sound (λ o. inside (subst (λ asked. AsksOutside asked (length events)) (sym c.in-Increment.is)
    (subst (λ held. (c.in-Increment.older ≡ 0) ⊎ (c.in-Increment.newer < c.in-Increment.older) ⊎ (held < c.in-Increment.newer)) size o))) refl in
    let p = err_from_is_err_and c.from_residual-in_err-proof-in-Increment.result c.from_residual-in_err-proof-in-Increment.ensures.1 in
    subst (λ result. MatchResult result (λ bytes. bytes.items ≡ proof_of_log origin.first_key events c.args.asked) IsDeviceOrMemory) (sym p.1)
    (subst IsDeviceOrMemory (sym p.2) memory)
