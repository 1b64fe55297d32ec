use Rattle.std.proofs.Common.{◌∙◌, ◌≡◌, ◌<◌, ap, arith, length, refl, sym, subst, List, ℕ}
use Rattle.std.specs.Prelude.{take, IfErr}
use Rattle.std.proofs.lemmas.Result.{err_from_is_err_and}
use Rattle.sha2.specs.Sha256.{sha256}
use Rattle.audit_tree.specs.Paths.{membership_path}
use Rattle.audit_store_commit.specs.Headers.{log_leaves, contents_of}
use Rattle.audit_proof.specs.ProofBytes.{Member}
use Rattle.audit_store.specs.Recovered.{IsOfDeviceOrMemory}
use Rattle.audit_cli_store.proofs.KnownEntries.{index_known, only_memory, member_inside}
use Rattle.audit_cli_store.proofs.proving.member_proof.Goals as goal

pub returns-clause-log : goal.returns-clause-log
unfolding contents_of
returns-clause-log g c = λ origin events h.
    let known : c.args.index < c.args.store.now.header.count = index_known _ c.args.index c.args.count _ _ _ c.membership.ensures.outcome h.sound c.in_ok-hashes.was in
    let size : c.args.store.now.header.count ≡ length events = ap (λ header. header.count) h.events_are.header_is in
    let hashes = c.in_ok-hashes.ensures.log origin events h in
    let entry = c.in_ok-entry.ensures.log origin events h (omega (arith, known, size)) in
    let with_hashes : List (List ℕ) → Member = λ hs. record { index = c.args.index; count = c.args.count; hashes = hs; entry = c.in_ok-entry.entry.items } in
    let with_entry : List ℕ → Member = λ e. record {
      index = c.args.index;
      count = c.args.count;
      hashes = membership_path sha256 (log_leaves origin.first_key (take c.args.count events)) c.args.index;
      entry = e;
    } in
    ap with_hashes hashes ∙ ap with_entry entry

pub returns-in_err-hashes-clause-fault : goal.returns-in_err-hashes-clause-fault
unfolding contents_of
returns-in_err-hashes-clause-fault g c = λ origin events h before within.
    let size : c.args.store.now.header.count ≡ length events = ap (λ header. header.count) h.events_are.header_is in
    let memory = only_memory _ _ _ _ c.in_err-hashes.ensures.outcome h.sound (member_inside _ _ _ before (omega (arith, within, size))) refl in
    let p = err_from_is_err_and c.from_residual.result c.from_residual.ensures.1 in
    subst (λ result. IfErr result IsOfDeviceOrMemory) (sym p.1) (subst IsOfDeviceOrMemory (sym p.2) memory)
