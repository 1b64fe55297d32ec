use Rattle.std.proofs.Common.{◌≡◌, ◌∙◌, inr, Result, ℕ, sym, subst, rules}
use Rattle.audit_cli_base.specs.declared.fault.CommandError.TheVariants.{File}
use Rattle.audit_cli_serve.specs.declared.fault.ServingError.TheVariants.{Command}
use Rattle.std.specs.Prelude.{IfOk, IfErr}
use Rattle.audit_cli_serve.specs.declared.fault.ServingError.{ServingError}
use Rattle.audit_server.specs.NewCore.{IsNewCore}
use Rattle.audit_cli_serve.specs.Served.{plain_terms, ServesRound, StopsRound, AreAccepted}
use Rattle.audit_cli_serve.proofs.Served.{kept_as, kept_by, round_served, round_reached, round_stopped, serving_no_file}
use Rattle.audit_cli_serve.proofs.rounds.serve_round.Goals.{in-None, in-Some}
use Rattle.audit_cli_serve.proofs.rounds.serve_round.Goals as goal

pub returns-clause-kept : goal.returns-clause-kept
returns-clause-kept g c = kept_by c.args.store c.into_store.result c.in-Ok-new.core c.serve-end.new.core c.in-Ok-new.ensures.store c.into_store.ensures c.serve-end.ensures.reaches.reaches

pub returns-clause-served : goal.returns-clause-served
returns-clause-served g c =
    let made : IsNewCore plain_terms c.args.store c.in-Ok-new.core = record { store_is = c.in-Ok-new.ensures.store; reserve_is = c.in-Ok-new.ensures.reserve; counted_is = c.in-Ok-new.ensures.counted; waiting = c.in-Ok-new.ensures.waiting; outputs = c.in-Ok-new.ensures.outputs; sessions = c.in-Ok-new.ensures.sessions } in
    let accepted : AreAccepted g.L.Listener.model c.args.sessions c.args.socket.now c.accept_streams.new.socket c.deref_mut.result.now = search rules in
    elim c.match-end.branch [
      | in-None w ↦
          subst (λ (answer : Result ℕ ServingError). IfOk answer (λ turns. ServesRound g.T.Duplex.calls g.L.Listener.model c.args.sessions turns c.args.store c.into_store.result c.args.socket.now c.accept_streams.new.socket)) (sym w.served-is)
          (round_served g.T.Duplex.calls g.L.Listener.model c.args.store c.into_store.result c.args.socket.now c.accept_streams.new.socket c.in-Ok-new.core c.serve-end.new.core c.args.sessions c.serve-end.result.turns _ _ made c.into_store.ensures accepted (c.serve-end.ensures.served w.in-None.is))
      | in-Some w ↦ subst (λ (answer : Result ℕ ServingError). IfOk answer (λ turns. ServesRound g.T.Duplex.calls g.L.Listener.model c.args.sessions turns c.args.store c.into_store.result c.args.socket.now c.accept_streams.new.socket)) (sym w.served-is) tt
    ]

pub returns-clause-reached : goal.returns-clause-reached
returns-clause-reached g c =
    let made : IsNewCore plain_terms c.args.store c.in-Ok-new.core = record { store_is = c.in-Ok-new.ensures.store; reserve_is = c.in-Ok-new.ensures.reserve; counted_is = c.in-Ok-new.ensures.counted; waiting = c.in-Ok-new.ensures.waiting; outputs = c.in-Ok-new.ensures.outputs; sessions = c.in-Ok-new.ensures.sessions } in
    let accepted : AreAccepted g.L.Listener.model c.args.sessions c.args.socket.now c.accept_streams.new.socket c.deref_mut.result.now = search rules in
    inr (round_reached g.T.Duplex.calls g.L.Listener.model c.args.store c.into_store.result c.args.socket.now c.accept_streams.new.socket c.in-Ok-new.core c.serve-end.new.core c.args.sessions _ _ made c.into_store.ensures accepted c.serve-end.ensures.reaches)

pub returns-clause-fault : goal.returns-clause-fault
returns-clause-fault g c =
    let made : IsNewCore plain_terms c.args.store c.in-Ok-new.core = record { store_is = c.in-Ok-new.ensures.store; reserve_is = c.in-Ok-new.ensures.reserve; counted_is = c.in-Ok-new.ensures.counted; waiting = c.in-Ok-new.ensures.waiting; outputs = c.in-Ok-new.ensures.outputs; sessions = c.in-Ok-new.ensures.sessions } in
    let accepted : AreAccepted g.L.Listener.model c.args.sessions c.args.socket.now c.accept_streams.new.socket c.deref_mut.result.now = search rules in
    elim c.match-end.branch [
      | in-None w ↦ subst (λ (answer : Result ℕ ServingError). IfErr answer (StopsRound g.T.Duplex.calls g.L.Listener.model c.args.sessions c.args.store c.into_store.result c.args.socket.now c.accept_streams.new.socket)) (sym w.served-is) tt
      | in-Some w ↦
          subst (λ (answer : Result ℕ ServingError). IfErr answer (StopsRound g.T.Duplex.calls g.L.Listener.model c.args.sessions c.args.store c.into_store.result c.args.socket.now c.accept_streams.new.socket)) (sym w.served-is)
          (subst (StopsRound g.T.Duplex.calls g.L.Listener.model c.args.sessions c.args.store c.into_store.result c.args.socket.now c.accept_streams.new.socket) (sym w.fault_of_serving.ensures)
          (round_stopped g.T.Duplex.calls g.L.Listener.model c.args.store c.into_store.result c.args.socket.now c.accept_streams.new.socket c.in-Ok-new.core c.serve-end.new.core c.args.sessions _ _ w.in-Some.fault made c.into_store.ensures accepted
          (λ error is. c.serve-end.ensures.refused error (w.in-Some.is ∙ is)) (λ is. (c.serve-end.ensures.cut (w.in-Some.is ∙ is)).1)))
    ]

-- no core was made, and the store is handed back unchanged
pub returns-in-Err-new-clause-kept : goal.returns-in-Err-new-clause-kept
returns-in-Err-new-clause-kept g c = kept_as c.args.store c.in-Err-new.failed.store c.in-Err-new.ensures.store

-- a core that refuses a step is no file fault
pub returns-clause-unaccepted : goal.returns-clause-unaccepted
returns-clause-unaccepted g c = λ is.
    elim c.match-end.branch [
      | in-None w ↦ let no = sym w.served-is ∙ is in absurd (cc no)
      | in-Some w ↦ let fault_is : w.fault_of_serving.result ≡ Command File = cc (sym w.served-is ∙ is) in absurd (serving_no_file w.in-Some.fault (sym w.fault_of_serving.ensures ∙ fault_is))
    ]
