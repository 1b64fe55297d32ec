use Rattle.std.proofs.Common.{◌∙◌, [], ◌∷◌, ◌++◌, refl, rules}
use Rattle.std.proofs.lemmas.Result.{err_from_is_err_and}
use Rattle.audit_cli_witness.proofs.Looks.{no_looks, one_more_look, looks_more}
use Rattle.audit_cli_witness.proofs.watching.watch_for_ever.Goals as goal

pub loop-looks-init : goal.loop-looks-init
loop-looks-init g c = ([], refl, no_looks g.F.Servers.calls c.args.post c.args.every c.args.servers.now (g.W.Write.contents c.args.output.now))

pub loop-looks-preserved : goal.loop-looks-preserved
loop-looks-preserved g c =
    let seen = c.loop-looks.invariant in
    let looked = c.in_ok-reported.ensures.on in (
      seen.0 ++ looked.0 ∷ [],
      one_more_look seen.0 looked.0 c.loop-looks.looks seen.1,
      looks_more g.F.Servers.calls c.args.post c.args.every _ _ _ _ _ _ _ seen.0 looked.0 _ _ seen.2 looked.2 looked.3 looked.4,
    )

pub returns-in_err-reported-clause-looked : goal.returns-in_err-reported-clause-looked
returns-in_err-reported-clause-looked g c =
    let p = err_from_is_err_and c.from_residual.result c.from_residual.ensures.1 in
    let seen = c.loop-looks.invariant in
    let looked = c.in_err-reported.ensures.last in
    rw (p.1, p.2) (record {
      seen = seen.0;
      mid = c.loop-looks.servers;
      between = g.W.Write.contents c.loop-looks.output;
      earlier = seen.2;
      sight = looked.0;
      looked = looked.1;
      ended = looked.2;
      lasting = c.in_err-reported.ensures.ends;
    })

pub returns-clause-looked : goal.returns-clause-looked
returns-clause-looked g c = (c.loop-looks.invariant.0, c.loop-looks.invariant.1 ∙ search rules, c.loop-looks.invariant.2)
