use Rattle.std.proofs.Common.{◌≡◌, ◌++◌, ℕ, List, map, take}
use Rattle.audit_serve_door.specs.Entrances.{rights_of, mode_of, descriptor_of}
use Rattle.audit_cli_daemon.specs.Rights.{source_rights}
use Rattle.audit_cli_daemon.specs.Sources.{words_of, sources_in}
use Rattle.audit_cli_daemon.specs.Sockets.{path_of_source, ListenAt, prompt_sockets}
use Rattle.audit_cli_daemon.proofs.sockets.Sockets.bind_sources.Given as goal

-- the words so far have their sockets
abbrev pub invariant-loop-word : goal.invariant-loop-word
invariant-loop-word g l =
    let sources = sources_in (words_of (take l.word-index l.fn.self.sources.now)) in
    record {
      rights : map rights_of l.entrances.items ≡ map rights_of l.fn.entrances.items ++ map source_rights sources;
      modes : map mode_of l.entrances.items ≡ map mode_of l.fn.entrances.items ++ map (λ source. l.fn.mode) sources;
      listen : (paths : List (List ℕ)) → ListenAt (prompt_sockets (g.R.SystemSockets.sockets l.fn.rt) (g.R.PromptListening.prompt l.fn.rt)) l.fn.mode paths (map descriptor_of l.fn.entrances.items) → ListenAt (prompt_sockets (g.R.SystemSockets.sockets l.fn.rt) (g.R.PromptListening.prompt l.fn.rt)) l.fn.mode (paths ++ map path_of_source sources) (map descriptor_of l.entrances.items);
    }
