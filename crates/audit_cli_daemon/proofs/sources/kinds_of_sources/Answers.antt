use Rattle.std.proofs.Common.{◌∙◌, ℕ, Some, None, List, [], ◌∷◌, ◌++◌, vec_len, vec_capacity, sym, ap, arith}
use Rattle.std.specs.Prelude.{option_map, take}
use Rattle.std.proofs.lemmas.List.{append-nil}
use Rattle.audit_cli_daemon.specs.Sources.{words_of, source_shown, sources_in, kinds_bound}
use Rattle.audit_cli_daemon.proofs.JudgedSources.{word_at, word_within, kinds_more}
use Rattle.audit_cli_daemon.proofs.sources.kinds_of_sources.Goals.{in-Some, in_default}
use Rattle.audit_cli_daemon.proofs.sources.kinds_of_sources.Goals as goal

pub loop-word-preserved : goal.loop-word-preserved
loop-word-preserved c =
    let words = c.args.words.now in
    let i = c.loop-word.word-index in
    let kept = c.loop-word.invariant in
    let within = c.loop-word-test.true in
    elim c.match-source_in.branch [
      | in-Some w ↦
          let pushed = w.push_reserved.ensures in
          record {
            kinds = ap (λ k. k.items) w.kinds-is ∙ pushed.items ∙ ap (λ (all : List ℕ). all ++ w.in-Some.source.kind ∷ []) kept.kinds
                ∙ sym (kinds_more (words_of words) i (Some (source_shown w.in-Some.source)) (word_within words i within) (word_at words i ∙ sym c.source_in.ensures ∙ ap (option_map source_shown) w.in-Some.is));
            room = omega (arith, ap vec_len w.kinds-is, ap vec_capacity w.kinds-is, pushed.len, pushed.capacity, kept.room, within);
          }
      | in_default w ↦ record {
        kinds = ap (λ k. k.items) w.kinds-is ∙ kept.kinds ∙ sym (append-nil (kinds_bound (sources_in (take i (words_of words)))))
            ∙ sym (kinds_more (words_of words) i None (word_within words i within) (word_at words i ∙ sym c.source_in.ensures ∙ ap (option_map source_shown) w.in_default.is));
        room = omega (arith, ap vec_len w.kinds-is, ap vec_capacity w.kinds-is, kept.room, within);
      }
    ]
