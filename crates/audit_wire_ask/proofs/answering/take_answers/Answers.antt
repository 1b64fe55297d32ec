use Rattle.std.proofs.Common.{◌≡◌, ℕ, subst, sym, arith}
use Rattle.std.proofs.lemmas.Option.{none-some}
use Rattle.audit_wire_ask.specs.EntryKeys.{KeepsAllKeys}
use Rattle.audit_wire_ask.proofs.KeptKeys.{keys_none, keys_more, keys_last, keys_whole}
use Rattle.audit_wire_ask.specs.Sending.{PrintsAll}
use Rattle.audit_wire_ask.proofs.PrintedAnswers.{refusals_few, stopped, prints_none, prints_more, finished}
use Rattle.audit_wire_ask.proofs.answering.take_answers.Goals as goal

pub returns-in-Err-clause-taken : goal.returns-in-Err-clause-taken
returns-in-Err-clause-taken g c =
    stopped (g.R.Read.remaining c.take_answer.new.from) (g.O.Write.contents c.take_answer.new.output) c.loop-place.invariant.prints c.in-Err.error c.in-Err.ensures.failed c.loop-place-test.true

pub loop-place-preserved : goal.loop-place-preserved
loop-place-preserved g c = record {
  keys = keys_more c.loop-place.invariant.keys c.in-Ok.ensures.kept;
  prints = prints_more c.loop-place.invariant.prints c.in-Ok.ensures.taken c.refusals_after-refused.result c.refusals_after-refused.ensures;
}

pub loop-place-init : goal.loop-place-init
loop-place-init g c = record {
  keys = keys_none (g.R.Read.remaining c.args.from.now) (g.K.Write.contents c.args.keys.now);
  prints = prints_none c.args.places (g.R.Read.remaining c.args.from.now) (g.O.Write.contents c.args.output.now) c.args.before;
}

pub returns-in-Err-clause-kept : goal.returns-in-Err-clause-kept
returns-in-Err-clause-kept g c = keys_last c.loop-place.invariant.keys c.in-Err.ensures.unkept

pub returns-in-Err-clause-all_kept : goal.returns-in-Err-clause-all_kept
returns-in-Err-clause-all_kept g c = λ none. absurd (none-some c.in-Err.error (sym none))

pub returns-clause-kept : goal.returns-clause-kept
returns-clause-kept g c =
    let whole : c.loop-place.place ≡ c.args.count = omega (arith, c.loop-place-test.false, c.loop-place.auto.place-end) in
    keys_whole (subst (KeepsAllKeys (g.R.Read.remaining c.args.from.now) (g.R.Read.remaining c.loop-place.from) (g.K.Write.contents c.args.keys.now) (g.K.Write.contents c.loop-place.keys)) whole c.loop-place.invariant.keys)

pub returns-clause-all_kept : goal.returns-clause-all_kept
returns-clause-all_kept g c = λ none.
    let whole : c.loop-place.place ≡ c.args.count = omega (arith, c.loop-place-test.false, c.loop-place.auto.place-end) in
    subst (KeepsAllKeys (g.R.Read.remaining c.args.from.now) (g.R.Read.remaining c.loop-place.from) (g.K.Write.contents c.args.keys.now) (g.K.Write.contents c.loop-place.keys)) whole c.loop-place.invariant.keys

pub returns-clause-taken : goal.returns-clause-taken
returns-clause-taken g c =
    let whole : c.loop-place.place ≡ c.args.count = omega (arith, c.loop-place-test.false, c.loop-place.auto.place-end) in
    finished
    (subst (λ (n : ℕ). PrintsAll c.args.places (g.R.Read.remaining c.args.from.now) (g.R.Read.remaining c.loop-place.from) (g.O.Write.contents c.args.output.now) (g.O.Write.contents c.loop-place.output) c.args.before n n c.loop-place.refused) whole
    c.loop-place.invariant.prints)

pub refusals_after-refused-requires : goal.refusals_after-refused-requires
refusals_after-refused-requires g c =
    let prints = c.loop-place.invariant.prints in
    omega (arith, prints.refused_is, refusals_few c.args.places c.args.before prints.answers, prints.counted, c.loop-place-test.true, c.ranges.count.fits)
