use Rattle.std.specs.Prelude.{IfOk, IfErr, OnOk, OnErr}
use Rattle.std.specs.Io.KnownBytes.{Appends}
use Rattle.std.proofs.Common.{◌≡◌, ◌∙◌, true, ap, inl, inr, sym, subst, rules}
use Rattle.audit_store.specs.Store.{active_header}
use Rattle.audit_serve_door.specs.Metered.{metered_calls}
use Rattle.audit_serve_door.specs.Nonblocking.{nonblocking_calls, unknown_prompt}
use Rattle.audit_serve_door.specs.Accepting.{unknown_accepting}
use Rattle.audit_serve_door.specs.Notes.{unknown_notes}
use Rattle.audit_serve_door.specs.DoorCalls.{socket_door_calls}
use Rattle.audit_cli_daemon.specs.Gauged.{gauged_calls, watch_of_file, IsTold, IsEnding}
use Rattle.audit_cli_calls.specs.StoreCalls.{LetsGo}
use Rattle.audit_cli_daemon.specs.Carried.{ServesAtDoor, terms_of}
use Rattle.audit_cli_daemon.specs.Rights.{modes_at, IsDoorFor}
use Rattle.audit_cli_daemon.specs.Sockets.{rights_served, paths_served, ListenAt, prompt_sockets}
use Rattle.audit_cli_daemon.specs.declared.end.End.TheVariants.{Full}
use Rattle.audit_cli_daemon.specs.State.{ready_line}
use Rattle.audit_text.specs.Writing.{WritesInPart}
use Rattle.audit_server_commit.specs.Serving.{StoreKeepsOn}
use Rattle.audit_server_commit.proofs.ServedSteps.{kept_none}
use Rattle.audit_cli_base.specs.Faults.{IsNoWordFault}
use Rattle.audit_cli_daemon.proofs.BindFaults.{no_word}
use Rattle.audit_cli_daemon.proofs.Carried.{serves_between, served_there}
use Rattle.audit_cli_daemon.proofs.Ending.{bound_by, ends_early, nothing_yet, removed_by}
use Rattle.audit_cli_daemon.proofs.request.serve_store.Goals.{in-Ok, in-Err}
use Rattle.audit_cli_daemon.proofs.request.serve_store.Goals as goal

pub returns-clause-cause : goal.returns-clause-cause
returns-clause-cause g c = c.report_stopped.ensures.cause (elim c.match-bind.branch [
  | in-Ok w ↦ subst (λ both. IfErr both.1 IsNoWordFault) (sym w.store-is) w.serve_listening.ensures.cause
  | in-Err w ↦ subst (λ both. IfErr both.1 IsNoWordFault) (sym w.store-is) (no_word _ w.in-Err.fault w.in-Err.ensures.fault)
])

pub returns-clause-served : goal.returns-clause-served
returns-clause-served g c =
    let N = metered_calls (nonblocking_calls unknown_prompt) in
    let doors = gauged_calls (socket_door_calls unknown_accepting unknown_notes watch_of_file) in
    let there = ListenAt (prompt_sockets (g.F.SystemSockets.sockets c.args.rt.now) (g.F.PromptListening.prompt c.args.rt.now)) c.args.judged.mode (paths_served c.args.sockets.now) in
    let opens = IsDoorFor (rights_served c.args.sockets.now c.args.judged.rights) (modes_at (rights_served c.args.sockets.now c.args.judged.rights) c.args.judged.mode) there c.args.judged.idle in
    let begun = g.W.Write.contents c.args.output.now in
    let pair = c.match-bind.store in
    serves_between N doors IsEnding opens IsTold (LetsGo g.O.Stores.calls c.args.stores.now c.closed-state.new.stores) (c.args.judged.stops_when_full ≡ true) c.args.judged.reserve (terms_of c.args.judged.sources c.args.judged.kept c.args.judged.stops_when_full) c.args.judged.most c.args.store pair.0 begun (g.W.Write.contents c.match-bind.output) (g.W.Write.contents c.report_stopped.new.output) pair.1 c.report_stopped.result c.closed-state.result.count c.closed-state.result.root
    (elim c.match-bind.branch [
      | in-Ok w ↦
          subst (λ both. OnOk both.1 (Appends begun (g.W.Write.contents c.match-bind.output) (ready_line (active_header c.args.store)))) (sym w.store-is)
          (subst (λ output. OnOk w.serve_listening.result.1 (Appends begun (g.W.Write.contents output) (ready_line (active_header c.args.store)))) (sym w.output-is) w.serve_listening.ensures.ready)
      | in-Err w ↦ subst (λ both. OnOk both.1 (Appends begun (g.W.Write.contents c.match-bind.output) (ready_line (active_header c.args.store)))) (sym w.store-is) tt
    ])
    (elim c.match-bind.branch [
      | in-Ok w ↦
          subst (λ both. IfOk both.1 (λ end. ServesAtDoor N doors IsEnding opens IsTold c.args.judged.reserve (terms_of c.args.judged.sources c.args.judged.kept c.args.judged.stops_when_full) c.args.judged.most end c.args.store both.0)) (sym w.store-is)
          (served_there N doors IsEnding IsTold _ _ _ _ _ there c.args.judged.idle c.args.judged.reserve (terms_of c.args.judged.sources c.args.judged.kept c.args.judged.stops_when_full) c.args.judged.most c.args.store w.serve_listening.result.0 w.serve_listening.result.1 w.in-Ok.ensures.rights w.in-Ok.ensures.modes w.in-Ok.ensures.listen w.serve_listening.ensures.served)
      | in-Err w ↦ subst (λ both. IfOk both.1 (λ end. ServesAtDoor N doors IsEnding opens IsTold c.args.judged.reserve (terms_of c.args.judged.sources c.args.judged.kept c.args.judged.stops_when_full) c.args.judged.most end c.args.store both.0)) (sym w.store-is) tt
    ])
    (elim c.match-bind.branch [
      | in-Ok w ↦ subst (λ both. IfOk both.1 (λ end. end ≡ Full → c.args.judged.stops_when_full ≡ true)) (sym w.store-is) w.serve_listening.ensures.asked
      | in-Err w ↦ subst (λ both. IfOk both.1 (λ end. end ≡ Full → c.args.judged.stops_when_full ≡ true)) (sym w.store-is) tt
    ])
    c.report_stopped.ensures.served c.report_stopped.ensures.written c.closed-state.ensures.count c.closed-state.ensures.root c.closed-state.ensures.let_go

pub returns-clause-ended : goal.returns-clause-ended
returns-clause-ended g c =
    let begun = g.W.Write.contents c.args.output.now in
    let line = ready_line (active_header c.args.store) in
    let pair = c.match-bind.store in
    ends_early (LetsGo g.O.Stores.calls c.args.stores.now c.closed-state.new.stores) (c.args.judged.stops_when_full ≡ true) c.args.store pair.0 begun (g.W.Write.contents c.match-bind.output) (g.W.Write.contents c.report_stopped.new.output) pair.1 c.report_stopped.result c.closed-state.result.count c.closed-state.result.root
    (elim c.match-bind.branch [
      | in-Ok w ↦ subst (λ both. StoreKeepsOn c.args.store both.0) (sym w.store-is) w.serve_listening.ensures.kept
      | in-Err w ↦ subst (λ both. StoreKeepsOn c.args.store both.0) (sym w.store-is) (kept_none c.args.store)
    ])
    (elim c.match-bind.branch [
      | in-Ok w ↦
          subst (λ both. OnErr both.1 (WritesInPart begun (g.W.Write.contents c.match-bind.output) line)) (sym w.store-is)
          (subst (λ output. OnErr w.serve_listening.result.1 (WritesInPart begun (g.W.Write.contents output) line)) (sym w.output-is) w.serve_listening.ensures.part)
      | in-Err w ↦
          subst (λ both. OnErr both.1 (WritesInPart begun (g.W.Write.contents c.match-bind.output) line)) (sym w.store-is)
          (subst (λ output. WritesInPart begun (g.W.Write.contents output) line) (sym w.output-is) (nothing_yet begun line))
    ])
    (elim c.match-bind.branch [
      | in-Ok w ↦
          subst (λ both. OnOk both.1 (Appends begun (g.W.Write.contents c.match-bind.output) line)) (sym w.store-is)
          (subst (λ output. OnOk w.serve_listening.result.1 (Appends begun (g.W.Write.contents output) line)) (sym w.output-is) w.serve_listening.ensures.ready)
      | in-Err w ↦ subst (λ both. OnOk both.1 (Appends begun (g.W.Write.contents c.match-bind.output) line)) (sym w.store-is) tt
    ])
    (elim c.match-bind.branch [
      | in-Ok w ↦ subst (λ both. IfOk both.1 (λ end. end ≡ Full → c.args.judged.stops_when_full ≡ true)) (sym w.store-is) w.serve_listening.ensures.asked
      | in-Err w ↦ subst (λ both. IfOk both.1 (λ end. end ≡ Full → c.args.judged.stops_when_full ≡ true)) (sym w.store-is) tt
    ])
    c.report_stopped.ensures.kept c.report_stopped.ensures.part c.closed-state.ensures.count c.closed-state.ensures.root c.closed-state.ensures.let_go

pub returns-clause-failed : goal.returns-clause-failed
returns-clause-failed g c = λ is. elim (c.report_stopped.ensures.failed is) [
  | inl served ↦ elim c.match-bind.branch [
    | in-Ok w ↦ inr (_, w.in-Ok.ensures.listen)
    | in-Err w ↦ inl (bound_by _ w.in-Err.fault (search rules) (cc (sym (ap (λ both. both.1) w.store-is) ∙ served)))
  ]
  | inr removed ↦ inl (inl (inl (removed_by c.remove-removed.result c.remove-removed.ensures.failed removed)))
]
