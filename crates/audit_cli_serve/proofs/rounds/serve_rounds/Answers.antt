use Rattle.std.proofs.Common.{◌≡◌, ◌∙◌, Err, ap, sym, inl, inr, refl, [], ◌∷◌, ◌++◌, ◌+◌, Result, ℕ, arith, length-append, subst}
use Rattle.std.specs.Prelude.{IfOk, IfErr}
use Rattle.std.proofs.KnownBytes.{Appends-nil}
use Rattle.audit_server_commit.proofs.ServedSteps.{kept_none, kept_then}
use Rattle.audit_text.specs.declared.fault.LinesError.{LinesError}
use Rattle.audit_text.specs.declared.fault.LinesError.TheVariants.{Memory, Write}
use Rattle.audit_cli_base.specs.declared.fault.CommandError.TheVariants.{File, Lines}
use Rattle.audit_cli_serve.specs.declared.fault.ServingError.{ServingError}
use Rattle.audit_cli_serve.specs.declared.fault.ServingError.TheVariants.{Command}
use Rattle.audit_cli_serve.specs.Served.{ServesRound, StopsRound}
use Rattle.audit_cli_serve.specs.Rounds.{round_lines}
use Rattle.audit_cli_serve.proofs.RoundLines.{round_more, cut_off}
use Rattle.audit_cli_serve.proofs.Served.{rounds_more, none_gone, line_lost, round_no_write}
use Rattle.audit_cli_serve.proofs.rounds.serve_rounds.Goals as goal

pub loop-round-init : goal.loop-round-init
loop-round-init g c = record {
  kept = kept_none c.args.store;
  served = ([], refl, (refl, refl), Appends-nil (g.W.LineOutput.contents c.args.writer.now));
}

pub returns-in-Err-clause-kept : goal.returns-in-Err-clause-kept
returns-in-Err-clause-kept g c = kept_then c.args.store c.loop-round.store c.serve_round-kept.result.0 c.loop-round.invariant.kept c.serve_round-kept.ensures.kept

pub returns-in-Err-write_round-clause-kept : goal.returns-in-Err-write_round-clause-kept
returns-in-Err-write_round-clause-kept g c = kept_then c.args.store c.loop-round.store c.serve_round-kept.result.0 c.loop-round.invariant.kept c.serve_round-kept.ensures.kept

pub returns-in-Err-clause-stopped : goal.returns-in-Err-clause-stopped
returns-in-Err-clause-stopped g c =
    let before = c.loop-round.invariant.served in
    (before.0, record { mid = c.loop-round.store; between = c.loop-round.socket; served = before.2; last = c.serve_round-kept.ensures.reached })

pub returns-in-Err-write_round-clause-stopped : goal.returns-in-Err-write_round-clause-stopped
returns-in-Err-write_round-clause-stopped g c =
    let M = g.T.Duplex.calls in
    let N = g.L.Listener.model in
    let between = c.loop-round.socket in
    let after = c.serve_round-kept.new.socket in
    let before = c.loop-round.invariant.served in
    let left = c.serve_round-kept.result.0 in
    let round : ServesRound M N c.args.sessions c.in-Ok.turns c.loop-round.store left between after =
    subst (λ (answer : Result ℕ ServingError). IfOk answer (λ turns. ServesRound M N c.args.sessions turns c.loop-round.store left between after)) c.in-Ok.is c.serve_round-kept.ensures.served in
    (before.0 ++ c.in-Ok.turns ∷ [], record { mid = left; between = after; served = rounds_more M N c.args.sessions c.in-Ok.turns before.0 c.args.store c.loop-round.store left c.args.socket.now between after before.2 round; last = inl (record { same = refl; gone = none_gone N c.args.sessions after }) })

pub returns-in-Err-clause-fault : goal.returns-in-Err-clause-fault
returns-in-Err-clause-fault g c =
    let M = g.T.Duplex.calls in
    let N = g.L.Listener.model in
    let between = c.loop-round.socket in
    let after = c.serve_round-kept.new.socket in
    let before = c.loop-round.invariant.served in
    let left = c.serve_round-kept.result.0 in
    let stops : StopsRound M N c.args.sessions c.loop-round.store left between after c.in-Err.fault =
    subst (λ (answer : Result ℕ ServingError). IfErr answer (StopsRound M N c.args.sessions c.loop-round.store left between after)) c.in-Err.is c.serve_round-kept.ensures.fault in
    (round_lines 1 before.0, before.3, record { turns = before.0; mid = c.loop-round.store; between = between; served = before.2; stops = inl (stops, refl) })

pub returns-in-Err-write_round-clause-fault : goal.returns-in-Err-write_round-clause-fault
returns-in-Err-write_round-clause-fault g c =
    let M = g.T.Duplex.calls in
    let N = g.L.Listener.model in
    let between = c.loop-round.socket in
    let after = c.serve_round-kept.new.socket in
    let before = c.loop-round.invariant.served in
    let left = c.serve_round-kept.result.0 in
    let round : ServesRound M N c.args.sessions c.in-Ok.turns c.loop-round.store left between after =
    subst (λ (answer : Result ℕ ServingError). IfOk answer (λ turns. ServesRound M N c.args.sessions turns c.loop-round.store left between after)) c.in-Ok.is c.serve_round-kept.ensures.served in
    let cut =
    cut_off (g.W.LineOutput.contents c.args.writer.now) (g.W.LineOutput.contents c.loop-round.writer) (g.W.LineOutput.contents c.write_round.new.writer) before.0 c.in-Ok.turns (c.loop-round.round + 1) before.3 (omega (arith, before.1)) c.in-Err-write_round.ensures.part in (
      cut.0,
      cut.1,
      record {
        turns = before.0 ++ c.in-Ok.turns ∷ [];
        mid = left;
        between = after;
        served = rounds_more M N c.args.sessions c.in-Ok.turns before.0 c.args.store c.loop-round.store left c.args.socket.now between after before.2 round;
        stops = inr (line_lost c.in-Err-write_round.fault c.into.result c.into.ensures (elim c.in-Err-write_round.ensures.fault [ inl write ↦ inl write.0 | inr memory ↦ inr memory.0 ]), refl, cut.2);
      },
    )

pub loop-round-preserved : goal.loop-round-preserved
loop-round-preserved g c =
    let M = g.T.Duplex.calls in
    let N = g.L.Listener.model in
    let between = c.loop-round.socket in
    let after = c.serve_round-kept.new.socket in
    let before = c.loop-round.invariant.served in
    let left = c.serve_round-kept.result.0 in
    let round : ServesRound M N c.args.sessions c.in-Ok.turns c.loop-round.store left between after =
    subst (λ (answer : Result ℕ ServingError). IfOk answer (λ turns. ServesRound M N c.args.sessions turns c.loop-round.store left between after)) c.in-Ok.is c.serve_round-kept.ensures.served in
    record {
      kept = kept_then c.args.store c.loop-round.store left c.loop-round.invariant.kept c.serve_round-kept.ensures.kept;
      served = (
        before.0 ++ c.in-Ok.turns ∷ [],
        omega (arith, before.1, length-append before.0 (c.in-Ok.turns ∷ [])),
        rounds_more M N c.args.sessions c.in-Ok.turns before.0 c.args.store c.loop-round.store left c.args.socket.now between after before.2 round,
        round_more (g.W.LineOutput.contents c.args.writer.now) (g.W.LineOutput.contents c.loop-round.writer) (g.W.LineOutput.contents c.write_round.new.writer) before.0 c.in-Ok.turns (c.loop-round.round + 1) before.3 (omega (arith, before.1)) c.in_default.ensures.written,
      );
    }

pub returns-in-Err-clause-unaccepted : goal.returns-in-Err-clause-unaccepted
returns-in-Err-clause-unaccepted g c = λ is.
    let fault_is : c.in-Err.fault ≡ Command File = cc is in
    c.serve_round-kept.ensures.unaccepted (c.in-Err.is ∙ ap Err fault_is)

-- a round writes nothing
pub returns-in-Err-clause-unwritten : goal.returns-in-Err-clause-unwritten
returns-in-Err-clause-unwritten g c = λ is.
    let M = g.T.Duplex.calls in
    let N = g.L.Listener.model in
    let left = c.serve_round-kept.result.0 in
    let stops : StopsRound M N c.args.sessions c.loop-round.store left c.loop-round.socket c.serve_round-kept.new.socket c.in-Err.fault =
    subst (λ (answer : Result ℕ ServingError). IfErr answer (StopsRound M N c.args.sessions c.loop-round.store left c.loop-round.socket c.serve_round-kept.new.socket)) c.in-Err.is c.serve_round-kept.ensures.fault in
    absurd (round_no_write M N c.args.sessions c.loop-round.store left c.loop-round.socket c.serve_round-kept.new.socket c.in-Err.fault stops (cc is))

pub returns-in-Err-write_round-clause-unwritten : goal.returns-in-Err-write_round-clause-unwritten
returns-in-Err-write_round-clause-unwritten g c = λ is.
    let same : c.into.result ≡ Command (Lines Write) = cc is in
    elim c.in-Err-write_round.ensures.fault [
      | inl write ↦ write.1
      | inr memory ↦ let other : c.into.result ≡ Command (Lines Memory) = c.into.ensures ∙ ap (λ (cause : LinesError). Command (Lines cause)) memory.0 in absurd (cc (sym same ∙ other))
    ]
