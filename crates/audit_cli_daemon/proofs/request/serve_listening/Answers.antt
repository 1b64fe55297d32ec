use Rattle.std.specs.Prelude.{OnOk, IfOk}
use Rattle.std.proofs.Common.{◌≡◌, ◌∙◌, ℕ, List, true, map, sym, ap, subst}
use Rattle.audit_serve_door.specs.Entrances.{rights_of, rights_of_door, mode_of, modes_of_door, descriptor_of, descriptors_of_door, idle_of_door}
use Rattle.audit_serve_door.specs.Metered.{metered_calls}
use Rattle.audit_serve_door.specs.Nonblocking.{nonblocking_calls, unknown_prompt}
use Rattle.audit_serve_door.specs.Accepting.{unknown_accepting}
use Rattle.audit_serve_door.specs.Notes.{unknown_notes}
use Rattle.audit_serve_door.specs.Comings.{who_waits, places_of, was_told, is_replaced, has_failed}
use Rattle.audit_serve_door.specs.DoorCalls.{socket_door_calls}
use Rattle.audit_serve_door.specs.Idle.{IsVacant}
use Rattle.audit_serve_door.specs.Waits.{NobodyWaits}
use Rattle.audit_cli_daemon.specs.Carried.{terms_of}
use Rattle.audit_cli_daemon.specs.declared.end.End.TheVariants.{Stopped}
use Rattle.audit_cli_daemon.specs.Running.{ServesStoreTo}
use Rattle.audit_cli_daemon.specs.Gauged.{gauged_calls, watch_of_file, IsTold, IsEnding}
use Rattle.audit_cli_daemon.specs.Rights.{IsIdleTime, IsDoorFor}
use Rattle.audit_cli_daemon.proofs.Carried.{serves_at_door, end_asked}
use Rattle.audit_cli_daemon.proofs.Daemon.{stops_no_word}
use Rattle.audit_text.specs.Writing.{WritesInPart}
use Rattle.audit_store.specs.Store.{active_header}
use Rattle.audit_server_commit.proofs.ServedSteps.{kept_none}
use Rattle.audit_cli_daemon.specs.State.{ready_line, end_in}
use Rattle.audit_cli_daemon.proofs.Ending.{part_of_both, whole_of}
use Rattle.audit_cli_daemon.proofs.request.serve_listening.Goals as goal

pub returns-clause-served : goal.returns-clause-served
returns-clause-served g c =
    let N = metered_calls (nonblocking_calls unknown_prompt) in
    let doors = gauged_calls (socket_door_calls unknown_accepting unknown_notes watch_of_file) in
    let opens = IsDoorFor (map rights_of c.args.listening.entrances.items) (map mode_of c.args.listening.entrances.items) (λ descriptors. descriptors ≡ map descriptor_of c.args.listening.entrances.items) c.args.judged.idle in
    let first : opens c.new-gauged.result = record {
      rights_are = ap rights_of_door c.new-gauged.ensures ∙ c.in-Ok.ensures.rights;
      modes_are = ap modes_of_door c.new-gauged.ensures ∙ c.in-Ok.ensures.modes;
      listen = ap descriptors_of_door c.new-gauged.ensures ∙ c.in-Ok.ensures.sockets;
      idle = subst (IsIdleTime c.args.judged.idle) (sym (ap idle_of_door c.new-gauged.ensures ∙ c.in-Ok.ensures.idle)) c.time_of.ensures;
      nobody = subst (λ door. NobodyWaits (who_waits door)) (sym c.new-gauged.ensures) c.in-Ok.ensures.nobody;
      in_place = ap (λ door. is_replaced door) c.new-gauged.ensures ∙ c.in-Ok.ensures.in_place;
      works = ap (λ door. has_failed door) c.new-gauged.ensures ∙ c.in-Ok.ensures.works;
      vacant = subst (λ door. IsVacant (idle_of_door door) (places_of door)) (sym c.new-gauged.ensures) (subst (λ idle. IsVacant idle (places_of c.in-Ok.door)) (sym c.in-Ok.ensures.idle) c.in-Ok.ensures.vacant);
    } in
    serves_at_door N doors IsEnding opens IsTold c.args.judged.reserve (terms_of c.args.judged.sources c.args.judged.kept c.args.judged.stops_when_full) c.args.judged.most c.new-gauged.result c.serve_until_stopped-store.new.door c.args.store c.serve_until_stopped-store.result.0 c.serve_until_stopped-store.result.1 c.has_reserve.result first
    c.has_reserve.ensures
    (subst (λ (counted : List ℕ). IfOk c.serve_until_stopped-store.result.1 (λ end. ServesStoreTo N doors IsEnding end (record { core = record { reserve = c.args.judged.kept; counted = counted }; stops = c.args.judged.stops_when_full }) c.args.judged.most c.new-gauged.result c.serve_until_stopped-store.new.door c.args.store c.serve_until_stopped-store.result.0)) (c.deref.ensures.value ∙ c.in-Ok-kinds_of_sources.ensures)
    c.serve_until_stopped-store.ensures.served)
    c.close_door-closed.result c.end_of-end.result
    (subst (λ door. OnOk c.close_door-closed.result (end_in c.serve_until_stopped-store.result.1 ≡ Stopped → was_told door ≡ true)) c.into_door.ensures
    (subst (λ end. OnOk c.close_door-closed.result (end ≡ Stopped → was_told c.into_door.result ≡ true)) c.end_in.ensures c.close_door-closed.ensures.told))
    c.end_of-end.ensures.end

pub returns-clause-asked : goal.returns-clause-asked
returns-clause-asked g c = end_asked c.args.judged.stops_when_full c.serve_until_stopped-store.result.1 c.close_door-closed.result _ c.end_of-end.result c.serve_until_stopped-store.ensures.asked c.end_of-end.ensures.end

pub returns-in-Err-clause-kept : goal.returns-in-Err-clause-kept
returns-in-Err-clause-kept g c = kept_none c.args.store

pub returns-clause-part : goal.returns-clause-part
returns-clause-part g c =
    let before = g.W.Write.contents c.args.output.now in
    let after = g.W.Write.contents c.serve_until_stopped-store.new.writer in
    let line = ready_line (active_header c.args.store) in
    part_of_both (WritesInPart before after line) c.serve_until_stopped-store.result.1 c.end_of-end.result c.serve_until_stopped-store.ensures.part (whole_of before after line c.serve_until_stopped-store.result.1 c.serve_until_stopped-store.ensures.ready)

pub returns-clause-cause : goal.returns-clause-cause
returns-clause-cause g c =
    c.end_of-end.ensures.cause
    (stops_no_word (metered_calls (nonblocking_calls unknown_prompt)) (record { core = record { reserve = c.args.judged.kept; counted = c.deref.result.now }; stops = c.args.judged.stops_when_full }) c.args.judged.most c.args.store c.serve_until_stopped-store.result.0 (g.W.Write.contents c.args.output.now) (g.W.Write.contents c.serve_until_stopped-store.new.writer)
    c.serve_until_stopped-store.result.1 c.serve_until_stopped-store.ensures.fault)
    c.close_door-closed.ensures.cause
