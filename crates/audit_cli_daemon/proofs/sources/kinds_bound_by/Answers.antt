use denote.Ref.{Bor}
use Rattle.std.proofs.Common.{arith, refl, sym, ap, ◌∙◌, ℕ, true≢false, List}
use Rattle.std.specs.Prelude.{option_map}
use Rattle.std.proofs.lemmas.List.{length-map}
use Rattle.audit_cli_daemon.specs.Sources.{words_of, source_shown}
use Rattle.audit_cli_daemon.proofs.JudgedSources.{word_at, word_within, judged_more, judged_twice, judged_none, judged_many, judged_all, judged_kinds}
use Rattle.audit_cli_daemon.proofs.sources.kinds_bound_by.Goals as goal

pub loop-word-init : goal.loop-word-init
loop-word-init c = record { counted = c.none-bound.ensures.count; few = omega arith; kinds = c.none-bound.ensures.free; each = refl; apart = refl }

pub returns-in_default-clause-fault : goal.returns-in_default-clause-fault
returns-in_default-clause-fault c =
    let words = c.args.words.now in
    let i = c.loop-word.word-index in
    (refl, judged_none (words_of words) i (word_within words i c.loop-word-test.true) (word_at words i ∙ sym c.source_in.ensures ∙ ap (option_map source_shown) c.in_default.is))

pub returns-then-contains-clause-fault : goal.returns-then-contains-clause-fault
returns-then-contains-clause-fault c =
    let words = c.args.words.now in
    let i = c.loop-word.word-index in
    (refl, judged_twice (words_of words) i (source_shown c.in-Some.source) (word_within words i c.loop-word-test.true) (word_at words i ∙ sym c.source_in.ensures ∙ ap (option_map source_shown) c.in-Some.is) c.loop-word.bound c.loop-word.invariant (sym c.if-contains.ensures))

pub returns-in_default-with-clause-fault : goal.returns-in_default-with-clause-fault
returns-in_default-with-clause-fault c =
    let words = c.args.words.now in
    let i = c.loop-word.word-index in
    (refl, judged_many (words_of words) i c.loop-word.bound (word_within words i c.loop-word-test.true) c.loop-word.invariant (c.in_default-with.ensures.full.0 refl))

pub loop-word-preserved : goal.loop-word-preserved
loop-word-preserved c =
    let words = c.args.words.now in
    let i = c.loop-word.word-index in
    let so = c.loop-word.invariant in
    judged_more (words_of words) i (source_shown c.in-Some.source) (word_within words i c.loop-word-test.true) (word_at words i ∙ sym c.source_in.ensures ∙ ap (option_map source_shown) c.in-Some.is) c.loop-word.bound c.in-Some-with.more so (sym c.if-contains.ensures) c.in-Some-with.ensures.added
    c.in-Some-with.ensures.counted (λ is. true≢false (c.in-Some-with.ensures.full.1 (so.counted ∙ is)))

pub returns-clause-right : goal.returns-clause-right
returns-clause-right c =
    let words = c.args.words.now in
    let i = c.loop-word.word-index in
    let long = length-map words (λ (word : Bor (List ℕ)). word.now) in
    let past = c.loop-word-test.false in
    let within = c.loop-word.auto.word-index-end in
    judged_all (words_of words) i c.loop-word.bound (omega (arith, long, past)) (omega (arith, long, within)) c.loop-word.invariant

pub returns-clause-bound : goal.returns-clause-bound
returns-clause-bound c =
    let words = c.args.words.now in
    let long = length-map words (λ (word : Bor (List ℕ)). word.now) in
    let past = c.loop-word-test.false in
    judged_kinds (words_of words) c.loop-word.word-index c.loop-word.bound (omega (arith, long, past)) c.loop-word.invariant
