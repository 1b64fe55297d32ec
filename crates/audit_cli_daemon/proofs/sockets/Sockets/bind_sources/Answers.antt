use Rattle.std.specs.Prelude.{option_map}
use Rattle.std.proofs.Common.{◌∙◌, ◌+◌, ◌++◌, map, sym, ap, subst, take, true≢false}
use Rattle.std.proofs.lemmas.List.{append-nil, take_all}
use Rattle.audit_serve_door.specs.Entrances.{rights_of, mode_of, descriptor_of}
use Rattle.audit_cli_daemon.specs.Rights.{source_rights}
use Rattle.audit_cli_daemon.specs.Sources.{words_of, sources_in, source_shown}
use Rattle.audit_cli_daemon.specs.Sockets.{path_of_source, ListenAt, prompt_sockets}
use Rattle.audit_cli_daemon.proofs.Listening.{listen_source}
use Rattle.audit_cli_daemon.proofs.JudgedSources.{judged_none, sources_taken, pushed, word_at, word_within}
use Rattle.audit_cli_daemon.proofs.sockets.Sockets.bind_sources.Goals as goal

pub loop-word-init : goal.loop-word-init
loop-word-init g c = record {
  rights = sym (append-nil (map rights_of c.args.entrances.now.items));
  modes = sym (append-nil (map mode_of c.args.entrances.now.items));
  listen = λ paths all. subst (λ places. ListenAt (prompt_sockets (g.R.SystemSockets.sockets c.args.rt.now) (g.R.PromptListening.prompt c.args.rt.now)) c.args.mode places (map descriptor_of c.args.entrances.now.items)) (sym (append-nil paths)) all;
}

pub loop-word-preserved : goal.loop-word-preserved
loop-word-preserved g c =
    let words = c.args.self.now.sources.now in
    let i = c.loop-word.word-index in
    let before = sources_in (words_of (take i words)) in
    let s = source_shown c.in-Some.source in
    let more = sources_taken words i s c.loop-word-test.true (sym c.source_in.ensures ∙ ap (option_map source_shown) c.in-Some.is) in
    record {
      rights = ap (map rights_of) c.in_ok-push.ensures.items ∙ pushed rights_of source_rights c.args.entrances.now.items c.loop-word.entrances.items c.in_ok-entrance.entrance before _ s c.loop-word.invariant.rights c.in_ok-entrance.ensures.rights more;
      modes = ap (map mode_of) c.in_ok-push.ensures.items ∙ pushed mode_of (λ source. c.args.mode) c.args.entrances.now.items c.loop-word.entrances.items c.in_ok-entrance.entrance before _ s c.loop-word.invariant.modes c.in_ok-entrance.ensures.mode more;
      listen = λ paths all. subst (λ entrances. ListenAt (prompt_sockets (g.R.SystemSockets.sockets c.args.rt.now) (g.R.PromptListening.prompt c.args.rt.now)) c.args.mode (paths ++ map path_of_source (sources_in (words_of (take (i + 1) words)))) (map descriptor_of entrances)) (sym c.in_ok-push.ensures.items)
          (listen_source (prompt_sockets (g.R.SystemSockets.sockets c.args.rt.now) (g.R.PromptListening.prompt c.args.rt.now)) c.args.mode descriptor_of paths before _ c.loop-word.entrances.items s c.in_ok-entrance.entrance more (c.loop-word.invariant.listen paths all) c.in_ok-entrance.ensures.listens);
    }

pub returns-clause-rights : goal.returns-clause-rights
returns-clause-rights g c =
    c.loop-word.invariant.rights ∙ ap (λ words. map rights_of c.args.entrances.now.items ++ map source_rights (sources_in (words_of words))) (take_all c.loop-word.word-index c.args.self.now.sources.now c.loop-word-test.false)

pub returns-clause-modes : goal.returns-clause-modes
returns-clause-modes g c =
    c.loop-word.invariant.modes ∙ ap (λ words. map mode_of c.args.entrances.now.items ++ map (λ source. c.args.mode) (sources_in (words_of words))) (take_all c.loop-word.word-index c.args.self.now.sources.now c.loop-word-test.false)

pub returns-clause-listen : goal.returns-clause-listen
returns-clause-listen g c paths all =
    subst (λ words. ListenAt (prompt_sockets (g.R.SystemSockets.sockets c.args.rt.now) (g.R.PromptListening.prompt c.args.rt.now)) c.args.mode (paths ++ map path_of_source (sources_in (words_of words))) (map descriptor_of c.loop-word.entrances.items)) (take_all c.loop-word.word-index c.args.self.now.sources.now c.loop-word-test.false) (c.loop-word.invariant.listen paths all)

-- the words were judged
pub returns-in_default-clause-fault : goal.returns-in_default-clause-fault
returns-in_default-clause-fault g c =
    let words = c.args.self.now.sources.now in
    let i = c.loop-word.word-index in
    absurd (true≢false (sym (judged_none (words_of words) i (word_within words i c.loop-word-test.true) (word_at words i ∙ sym c.source_in.ensures ∙ ap (option_map source_shown) c.in_default.is)) ∙ c.requires))
