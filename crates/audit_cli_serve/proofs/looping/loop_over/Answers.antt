use Rattle.std.proofs.Common.{◌≡◌, ◌∙◌, inr, Result, Err, IfErr, sym, ap, subst}
use Rattle.audit_cli_serve.specs.declared.fault.ServingError.{ServingError}
use Rattle.audit_cli_serve.specs.declared.fault.ServingError.TheVariants.{BadFrameLine, Command}
use Rattle.audit_text.specs.declared.fault.LinesError.TheVariants.{Read, Write}
use Rattle.audit_cli_base.specs.declared.fault.CommandError.TheVariants.{File, Lines}
use Rattle.audit_server.specs.NewCore.{IsNewCore}
use Rattle.audit_serve_sockets.specs.LoopFaults.{IsLoopError}
use Rattle.audit_serve_sockets.specs.declared.loop_fault.LoopError.{LoopError}
use Rattle.audit_store.specs.declared.store_error.StoreError.{StoreError}
use Rattle.audit_cli_serve.specs.Served.{plain_terms, StopsLoop}
use Rattle.audit_cli_serve.proofs.Served.{bad_of_loop, cut_over, file_of_loop, lines_of_loop, on_ok, on_err, kept_as, kept_by, looped, loop_reached, loop_stopped, unread_over}
use Rattle.audit_cli_serve.proofs.looping.loop_over.Goals.{in-Ok-run_lines, in-Err-run_lines}
use Rattle.audit_cli_serve.proofs.looping.loop_over.Goals as goal

pub returns-clause-kept : goal.returns-clause-kept
returns-clause-kept g c = kept_by c.args.store c.into_store.result c.in-Ok.core c.run_lines.new.core c.in-Ok.ensures.store c.into_store.ensures c.run_lines.ensures.reaches.reaches

pub returns-clause-reached : goal.returns-clause-reached
returns-clause-reached g c =
    let made : IsNewCore plain_terms c.args.store c.in-Ok.core = record { store_is = c.in-Ok.ensures.store; reserve_is = c.in-Ok.ensures.reserve; counted_is = c.in-Ok.ensures.counted; waiting = c.in-Ok.ensures.waiting; outputs = c.in-Ok.ensures.outputs; sessions = c.in-Ok.ensures.sessions } in
    inr (loop_reached c.args.store c.into_store.result c.in-Ok.core c.run_lines.new.core made c.into_store.ensures c.run_lines.ensures.reaches)

pub returns-clause-done : goal.returns-clause-done
returns-clause-done g c =
    let made : IsNewCore plain_terms c.args.store c.in-Ok.core = record { store_is = c.in-Ok.ensures.store; reserve_is = c.in-Ok.ensures.reserve; counted_is = c.in-Ok.ensures.counted; waiting = c.in-Ok.ensures.waiting; outputs = c.in-Ok.ensures.outputs; sessions = c.in-Ok.ensures.sessions } in
    elim c.match-run_lines.branch [
      | in-Ok-run_lines w ↦
          let ran = w.in-Ok-run_lines.ensures.done in
          on_ok c.match-run_lines.done tt w.done-is (ran.0, looped c.args.store c.into_store.result c.in-Ok.core c.run_lines.new.core made c.into_store.ensures ran.1, ran.2)
      | in-Err-run_lines w ↦ on_err _ c.match-run_lines.done w.fault_of_loop.result w.done-is
    ]

pub returns-clause-bad : goal.returns-clause-bad
returns-clause-bad g c = λ number is.
    let made : IsNewCore plain_terms c.args.store c.in-Ok.core = record { store_is = c.in-Ok.ensures.store; reserve_is = c.in-Ok.ensures.reserve; counted_is = c.in-Ok.ensures.counted; waiting = c.in-Ok.ensures.waiting; outputs = c.in-Ok.ensures.outputs; sessions = c.in-Ok.ensures.sessions } in
    elim c.match-run_lines.branch [
      | in-Ok-run_lines w ↦ absurd (cc (sym w.done-is ∙ is))
      | in-Err-run_lines w ↦
          let fault_is : w.fault_of_loop.result ≡ BadFrameLine number = cc (sym w.done-is ∙ is) in
          let ran = c.run_lines.ensures.bad number (w.in-Err-run_lines.is ∙ ap Err (bad_of_loop w.in-Err-run_lines.fault number (sym w.fault_of_loop.ensures ∙ fault_is))) in
          (ran.0, ran.1, looped c.args.store c.into_store.result c.in-Ok.core c.run_lines.new.core made c.into_store.ensures ran.2, ran.3)
    ]

-- no core was made, and the store is handed back unchanged
pub returns-in-Err-clause-kept : goal.returns-in-Err-clause-kept
returns-in-Err-clause-kept g c = kept_as c.args.store c.in-Err.failed.store c.in-Err.ensures.store

pub returns-clause-fault : goal.returns-clause-fault
returns-clause-fault g c =
    let made : IsNewCore plain_terms c.args.store c.in-Ok.core = record { store_is = c.in-Ok.ensures.store; reserve_is = c.in-Ok.ensures.reserve; counted_is = c.in-Ok.ensures.counted; waiting = c.in-Ok.ensures.waiting; outputs = c.in-Ok.ensures.outputs; sessions = c.in-Ok.ensures.sessions } in
    elim c.match-run_lines.branch [
      | in-Ok-run_lines w ↦ subst (λ (answer : Result (Unit {0}) ServingError). IfErr answer (StopsLoop c.args.store c.into_store.result)) (sym w.done-is) tt
      | in-Err-run_lines w ↦
          subst (λ (answer : Result (Unit {0}) ServingError). IfErr answer (StopsLoop c.args.store c.into_store.result)) (sym w.done-is)
          (subst (StopsLoop c.args.store c.into_store.result) (sym w.fault_of_loop.ensures)
          (loop_stopped c.args.store c.into_store.result c.in-Ok.core c.run_lines.new.core w.in-Err-run_lines.fault made c.into_store.ensures
          (subst (λ (answer : Result (Unit {0}) (LoopError StoreError)). IfErr answer IsLoopError) w.in-Err-run_lines.is c.run_lines.ensures.fault)
          (λ error is. c.run_lines.ensures.refused error (w.in-Err-run_lines.is ∙ ap Err is))))
    ]

-- a file fault is the connection's
pub returns-clause-lost : goal.returns-clause-lost
returns-clause-lost g c = λ is.
    let made : IsNewCore plain_terms c.args.store c.in-Ok.core = record { store_is = c.in-Ok.ensures.store; reserve_is = c.in-Ok.ensures.reserve; counted_is = c.in-Ok.ensures.counted; waiting = c.in-Ok.ensures.waiting; outputs = c.in-Ok.ensures.outputs; sessions = c.in-Ok.ensures.sessions } in
    elim c.match-run_lines.branch [
      | in-Ok-run_lines w ↦ absurd (cc (sym w.done-is ∙ is))
      | in-Err-run_lines w ↦
          let fault_is : w.fault_of_loop.result ≡ Command File = cc (sym w.done-is ∙ is) in
          cut_over c.args.store c.into_store.result c.in-Ok.core c.run_lines.new.core made c.into_store.ensures
          (c.run_lines.ensures.lost (w.in-Err-run_lines.is ∙ ap Err (file_of_loop w.in-Err-run_lines.fault (sym w.fault_of_loop.ensures ∙ fault_is))))
    ]

pub returns-clause-unread : goal.returns-clause-unread
returns-clause-unread g c = λ is.
    let made : IsNewCore plain_terms c.args.store c.in-Ok.core = record { store_is = c.in-Ok.ensures.store; reserve_is = c.in-Ok.ensures.reserve; counted_is = c.in-Ok.ensures.counted; waiting = c.in-Ok.ensures.waiting; outputs = c.in-Ok.ensures.outputs; sessions = c.in-Ok.ensures.sessions } in
    elim c.match-run_lines.branch [
      | in-Ok-run_lines w ↦ absurd (cc (sym w.done-is ∙ is))
      | in-Err-run_lines w ↦
          let fault_is : w.fault_of_loop.result ≡ Command (Lines Read) = cc (sym w.done-is ∙ is) in
          unread_over c.args.store c.into_store.result c.in-Ok.core c.run_lines.new.core made c.into_store.ensures
          (c.run_lines.ensures.unread (w.in-Err-run_lines.is ∙ ap Err (lines_of_loop w.in-Err-run_lines.fault Read (sym w.fault_of_loop.ensures ∙ fault_is))))
    ]

pub returns-clause-unwritten : goal.returns-clause-unwritten
returns-clause-unwritten g c = λ is.
    elim c.match-run_lines.branch [
      | in-Ok-run_lines w ↦ absurd (cc (sym w.done-is ∙ is))
      | in-Err-run_lines w ↦
          let fault_is : w.fault_of_loop.result ≡ Command (Lines Write) = cc (sym w.done-is ∙ is) in
          c.run_lines.ensures.unwritten (w.in-Err-run_lines.is ∙ ap Err (lines_of_loop w.in-Err-run_lines.fault Write (sym w.fault_of_loop.ensures ∙ fault_is)))
    ]
