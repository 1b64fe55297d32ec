use Rattle.std.proofs.Common.{◌∙◌, ◌++◌, [], ◌∷◌, map, sym, ap, subst}
use Rattle.std.proofs.lemmas.List.{map-append}
use Rattle.audit_serve_door.specs.Entrances.{mode_of, descriptor_of}
use Rattle.audit_cli_daemon.specs.Rights.{rights_of_readers}
use Rattle.audit_cli_daemon.specs.Sources.{words_of, sources_in}
use Rattle.audit_cli_daemon.specs.Sockets.{path_of_readers, paths_at, ListenAt, prompt_sockets}
use Rattle.audit_cli_daemon.proofs.Listening.{listen_last}
use Rattle.audit_cli_daemon.proofs.JudgedSources.{modes_joined}
use Rattle.audit_cli_daemon.proofs.sockets.Sockets.bind.Goals.{in-Some+in_ok-readers+in_ok-push, in_default}
use Rattle.audit_cli_daemon.proofs.sockets.Sockets.bind.Goals as goal

pub returns-clause-modes : goal.returns-clause-modes
returns-clause-modes g c =
    let mode = c.args.mode in
    let sources = sources_in (words_of c.args.self.now.sources.now) in
    let front = map mode_of c.match-self.entrances.items in
    ap (map mode_of) c.in_ok-push-2.ensures.items
    ∙ map-append mode_of c.bind_sources.new.entrances.items (c.in_ok-clients.clients ∷ [])
    ∙ ap (λ first. first ++ mode_of c.in_ok-clients.clients ∷ []) c.in_ok-bind_sources.ensures.modes
    ∙ ap (λ last. (front ++ map (λ source. mode) sources) ++ last ∷ []) c.in_ok-clients.ensures.mode
    ∙ modes_joined mode c.args.self.now.readers sources c.args.rights front (elim c.match-self.branch [
      | in-Some+in_ok-readers+in_ok-push w ↦
          ap (λ entrances. map mode_of entrances.items) w.entrances-is
          ∙ ap (map mode_of) w.in_ok-push.ensures.items
          ∙ ap (λ none. map mode_of (none ++ w.in_ok-readers.readers ∷ [])) c.new-entrances.ensures.items
          ∙ ap (λ one. one ∷ []) w.in_ok-readers.ensures.mode
          ∙ ap (λ readers. map (λ one. mode) (rights_of_readers readers)) (sym w.in-Some.is)
      | in_default w ↦
          ap (λ entrances. map mode_of entrances.items) w.entrances-is
          ∙ ap (map mode_of) c.new-entrances.ensures.items
          ∙ ap (λ readers. map (λ one. mode) (rights_of_readers readers)) (sym w.in_default.is)
    ])

pub returns-clause-listen : goal.returns-clause-listen
returns-clause-listen g c =
    let facts = prompt_sockets (g.R.SystemSockets.sockets c.args.rt.now) (g.R.PromptListening.prompt c.args.rt.now) in
    let mode = c.args.mode in
    let sources = sources_in (words_of c.args.self.now.sources.now) in
    let readers = c.args.self.now.readers in
    subst (λ entrances. ListenAt facts mode (paths_at readers sources c.args.self.now.clients.now) (map descriptor_of entrances)) (sym c.in_ok-push-2.ensures.items)
    (listen_last facts mode descriptor_of readers sources c.args.self.now.clients.now c.bind_sources.new.entrances.items c.in_ok-clients.clients
    (c.in_ok-bind_sources.ensures.listen (path_of_readers readers) (elim c.match-self.branch [
      | in-Some+in_ok-readers+in_ok-push w ↦
          subst (λ entrances. ListenAt facts mode (path_of_readers readers) (map descriptor_of entrances))
          (sym (ap (λ entrances. entrances.items) w.entrances-is ∙ w.in_ok-push.ensures.items ∙ ap (λ none. none ++ w.in_ok-readers.readers ∷ []) c.new-entrances.ensures.items))
          (subst (λ there. ListenAt facts mode (path_of_readers there) (descriptor_of w.in_ok-readers.readers ∷ [])) (sym w.in-Some.is) (w.in_ok-readers.ensures.listens, tt))
      | in_default w ↦
          subst (λ entrances. ListenAt facts mode (path_of_readers readers) (map descriptor_of entrances))
          (sym (ap (λ entrances. entrances.items) w.entrances-is ∙ c.new-entrances.ensures.items))
          (subst (λ there. ListenAt facts mode (path_of_readers there) []) (sym w.in_default.is) tt)
    ]))
    c.in_ok-clients.ensures.listens)
