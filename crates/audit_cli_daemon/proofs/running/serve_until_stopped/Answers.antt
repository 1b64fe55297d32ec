use Rattle.std.proofs.Common.{◌≡◌, ◌∙◌, inl, inr, ap, subst, rules}
use Rattle.std.specs.Prelude.{codes}
use Rattle.std.specs.Io.KnownBytes.{Appends}
use Rattle.audit_text.specs.NumberedLine.{numbered_line}
use Rattle.audit_store.specs.Store.{active_header}
use Rattle.audit_cli_daemon.specs.State.{ready_line}
use Rattle.audit_cli_daemon.specs.Running.{IsDaemonCore, no_clients}
use Rattle.audit_cli_daemon.proofs.Daemon.{kept_same, kept_either, store_served, end_unasked, daemon_stopped, whatever_came, keeps_same}
use Rattle.audit_cli_daemon.proofs.Ending.{on_error, all_written}
use Rattle.audit_cli_daemon.proofs.running.serve_until_stopped.Goals as goal

-- no core was made, and the store is handed back as it was
pub returns-in-Err-clause-kept : goal.returns-in-Err-clause-kept
returns-in-Err-clause-kept g c = kept_same g.E.Stream.ReadyStream.calls c.args.most c.args.store c.in-Err.failed.store c.in-Err.ensures.store

pub returns-in-Err-clause-fault : goal.returns-in-Err-clause-fault
returns-in-Err-clause-fault g c = inl (c.in-Err.ensures.store, inr (c.no_memory-in-Err.ensures, keeps_same (g.W.Write.contents c.args.writer.now)))

-- the line wasn't written
pub returns-in-Err-write_state-clause-kept : goal.returns-in-Err-write_state-clause-kept
returns-in-Err-write_state-clause-kept g c = kept_same g.E.Stream.ReadyStream.calls c.args.most c.args.store c.into_store.result (c.into_store.ensures ∙ c.in-Ok-new_core.ensures.store)

pub returns-in-Err-write_state-clause-fault : goal.returns-in-Err-write_state-clause-fault
returns-in-Err-write_state-clause-fault g c = inl (c.into_store.ensures ∙ c.in-Ok-new_core.ensures.store, c.in-Err-write_state.ensures.fault)

pub returns-clause-kept : goal.returns-clause-kept
returns-clause-kept g c =
    let made : IsDaemonCore (record { core = record { reserve = c.args.reserve; counted = c.args.kinds.now }; stops = c.args.stops_when_full }) c.args.store c.in-Ok-new_core.core = record { new = record { store_is = c.in-Ok-new_core.ensures.store; reserve_is = c.in-Ok-new_core.ensures.reserve; counted_is = c.in-Ok-new_core.ensures.counted; waiting = c.in-Ok-new_core.ensures.waiting; outputs = c.in-Ok-new_core.ensures.outputs; sessions = c.in-Ok-new_core.ensures.sessions }; stops = c.in-Ok-new_core.ensures.stops } in
    let vacant : c.deref_mut.result.now ≡ no_clients = search rules in
    kept_either g.E.Stream.ReadyStream.calls c.args.most (record { core = record { reserve = c.args.reserve; counted = c.args.kinds.now }; stops = c.args.stops_when_full }) c.args.stops_when_full c.args.store c.into_store-2.result c.in-Ok-new_core.core c.serve_slots-served.new.core c.deref_mut.result.now c.serve_slots-served.new.slots vacant made c.in-Ok-new_core.ensures.stops c.into_store-2.ensures
    g.E.Door.calls g.E.EndingDoor.ending c.args.door.now c.serve_slots-served.new.door c.serve_slots-served.result c.serve_slots-served.ensures.served c.serve_slots-served.ensures.stopped

pub returns-clause-ready : goal.returns-clause-ready
returns-clause-ready g c =
    whatever_came c.serve_slots-served.result (subst (Appends (g.W.Write.contents c.args.writer.now) (g.W.Write.contents c.write_state.new.writer))
    (ap (λ count. numbered_line (codes "ready ") count c.commitment-begun.result.root) c.commitment-begun.ensures.count
    ∙ ap (λ root. numbered_line (codes "ready ") (active_header c.args.store).count root) c.commitment-begun.ensures.root)
    c.in_default-write_state.ensures.written)

pub returns-clause-served : goal.returns-clause-served
returns-clause-served g c =
    let made : IsDaemonCore (record { core = record { reserve = c.args.reserve; counted = c.args.kinds.now }; stops = c.args.stops_when_full }) c.args.store c.in-Ok-new_core.core = record { new = record { store_is = c.in-Ok-new_core.ensures.store; reserve_is = c.in-Ok-new_core.ensures.reserve; counted_is = c.in-Ok-new_core.ensures.counted; waiting = c.in-Ok-new_core.ensures.waiting; outputs = c.in-Ok-new_core.ensures.outputs; sessions = c.in-Ok-new_core.ensures.sessions }; stops = c.in-Ok-new_core.ensures.stops } in
    let vacant : c.deref_mut.result.now ≡ no_clients = search rules in
    store_served g.E.Stream.ReadyStream.calls c.args.most (record { core = record { reserve = c.args.reserve; counted = c.args.kinds.now }; stops = c.args.stops_when_full }) c.args.stops_when_full c.args.store c.into_store-2.result c.in-Ok-new_core.core c.serve_slots-served.new.core c.deref_mut.result.now c.serve_slots-served.new.slots vacant made c.in-Ok-new_core.ensures.stops c.into_store-2.ensures
    g.E.Door.calls g.E.EndingDoor.ending c.args.door.now c.serve_slots-served.new.door c.serve_slots-served.result c.serve_slots-served.ensures.served c.serve_slots-served.ensures.asked

pub returns-clause-fault : goal.returns-clause-fault
returns-clause-fault g c =
    let made : IsDaemonCore (record { core = record { reserve = c.args.reserve; counted = c.args.kinds.now }; stops = c.args.stops_when_full }) c.args.store c.in-Ok-new_core.core = record { new = record { store_is = c.in-Ok-new_core.ensures.store; reserve_is = c.in-Ok-new_core.ensures.reserve; counted_is = c.in-Ok-new_core.ensures.counted; waiting = c.in-Ok-new_core.ensures.waiting; outputs = c.in-Ok-new_core.ensures.outputs; sessions = c.in-Ok-new_core.ensures.sessions }; stops = c.in-Ok-new_core.ensures.stops } in
    let vacant : c.deref_mut.result.now ≡ no_clients = search rules in
    let line : Appends (g.W.Write.contents c.args.writer.now) (g.W.Write.contents c.write_state.new.writer) (ready_line (active_header c.args.store)) =
    subst (Appends (g.W.Write.contents c.args.writer.now) (g.W.Write.contents c.write_state.new.writer))
    (ap (λ count. numbered_line (codes "ready ") count c.commitment-begun.result.root) c.commitment-begun.ensures.count
    ∙ ap (λ root. numbered_line (codes "ready ") (active_header c.args.store).count root) c.commitment-begun.ensures.root)
    c.in_default-write_state.ensures.written in
    daemon_stopped g.E.Stream.ReadyStream.calls c.args.most (record { core = record { reserve = c.args.reserve; counted = c.args.kinds.now }; stops = c.args.stops_when_full }) c.args.stops_when_full c.args.store c.into_store-2.result c.in-Ok-new_core.core c.serve_slots-served.new.core c.deref_mut.result.now c.serve_slots-served.new.slots vacant made c.in-Ok-new_core.ensures.stops c.into_store-2.ensures
    (g.W.Write.contents c.args.writer.now) (g.W.Write.contents c.write_state.new.writer) c.serve_slots-served.result line c.serve_slots-served.ensures.stopped

pub returns-clause-part : goal.returns-clause-part
returns-clause-part g c =
    let line : Appends (g.W.Write.contents c.args.writer.now) (g.W.Write.contents c.write_state.new.writer) (ready_line (active_header c.args.store)) =
    subst (Appends (g.W.Write.contents c.args.writer.now) (g.W.Write.contents c.write_state.new.writer))
    (ap (λ count. numbered_line (codes "ready ") count c.commitment-begun.result.root) c.commitment-begun.ensures.count
    ∙ ap (λ root. numbered_line (codes "ready ") (active_header c.args.store).count root) c.commitment-begun.ensures.root)
    c.in_default-write_state.ensures.written in
    on_error _ c.serve_slots-served.result (all_written (g.W.Write.contents c.args.writer.now) (g.W.Write.contents c.write_state.new.writer) (ready_line (active_header c.args.store)) line)

pub returns-clause-asked : goal.returns-clause-asked
returns-clause-asked g c = λ never. end_unasked c.args.stops_when_full c.serve_slots-served.result c.serve_slots-served.ensures.asked never
