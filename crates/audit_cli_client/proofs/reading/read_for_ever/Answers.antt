use Rattle.std.proofs.Common.{◌≡◌, ◌∙◌, List, [], ◌∷◌, ◌++◌, refl, rules}
use Rattle.std.proofs.lemmas.Result.{err_from_is_err_and}
use Rattle.audit_cli_client.proofs.Readings.{no_readings, one_more_reading, readings_more, reads_last}
use Rattle.audit_cli_client.proofs.reading.read_for_ever.Goals as goal

pub loop-times-init : goal.loop-times-init
loop-times-init g c = ([], refl, no_readings g.F.Servers.calls c.args.task c.args.every c.args.servers.now (g.W.Write.contents c.args.output.now))

pub loop-times-preserved : goal.loop-times-preserved
loop-times-preserved g c =
    let readings = c.loop-times.invariant in
    let read = c.in_ok-reported.ensures.on in (
      readings.0 ++ record { before = g.W.Write.contents c.loop-times.output; after = g.W.Write.contents c.read_and_pause.new.output; done = read.0 } ∷ [],
      one_more_reading readings.0 _ c.loop-times.times readings.1,
      readings_more g.F.Servers.calls c.args.task c.args.every _ _ _ _ _ _ _ readings.0 read.0 _ readings.2 read.2 read.3 read.4,
    )

pub returns-in_err-reported-clause-read : goal.returns-in_err-reported-clause-read
returns-in_err-reported-clause-read g c =
    let p = err_from_is_err_and c.from_residual.result c.from_residual.ensures.1 in
    let readings = c.loop-times.invariant in
    let read = c.in_err-reported.ensures.last in
    rw (p.1, p.2) (reads_last g.F.Servers.calls c.args.task c.args.every _ _ _ _ _ _ readings.0 read.0 _ readings.2 read.1 read.2)

pub returns-clause-read : goal.returns-clause-read
returns-clause-read g c = (c.loop-times.invariant.0, c.loop-times.invariant.1 ∙ search rules, c.loop-times.invariant.2)
