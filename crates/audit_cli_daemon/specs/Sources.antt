-- Sources: kinds of events that are bound to sockets of their own.
use denote.Ref.{Bor}
use Rattle.std.specs.Prelude.{ℕ, Bool, false, ◌||◌, ◌==◌, is_none, nat_lt, Option, Some, None, List, [], ◌∷◌}
use Rattle.std.specs.Prelude.{if◌then◌else◌, length, map}
use Rattle.std.specs.List.{list_any, filter_map, before_first, after_first}
use Rattle.audit_text.specs.LineEvents.{kind_in_word}
use Rattle.audit_serve_passes.specs.declared.bound_kinds.TheConstants.{MAX_BOUND_KINDS}
use Rattle.audit_cli_base.specs.SocketPath.{is_socket_path}
use Rattle.audit_cli_daemon.specs.declared.sources.Source.{Source}

-- the bytes of words
abbrev pub words_of : List (Bor (List ℕ)) → List (List ℕ)
words_of words = map (λ word. word.now) words

-- a kind of events, and the path of the socket by which they come
pub record SourceData : Type 0 where
  pub kind : ℕ
  pub path : List ℕ

abbrev pub source_shown : Source → SourceData
source_shown source = record { kind = source.kind; path = source.path.now }

-- the source that a word asks for: a kind, a colon, and the path of a socket
abbrev pub source_with : Option ℕ → List ℕ → Option SourceData
source_with None path = None
source_with (Some kind) path = if is_socket_path path 0 then Some (record { kind = kind; path = path }) else None

abbrev pub source_in : List ℕ → Option SourceData
source_in word = source_with (kind_in_word (before_first (λ b. b == 58) word)) (after_first (λ b. b == 58) word)

-- those that words ask for, in order
abbrev pub sources_in : List (List ℕ) → List SourceData
sources_in words = filter_map source_in words

-- their kinds
abbrev pub kinds_bound : List SourceData → List ℕ
kinds_bound sources = map (λ source. source.kind) sources

-- one of these sources has this kind
abbrev pub has_kind : List SourceData → ℕ → Bool
has_kind sources kind = list_any (λ source. source.kind == kind) sources

-- two of them have the same
abbrev pub has_kind_twice : List SourceData → Bool
has_kind_twice [] = false
has_kind_twice (source ∷ more) = has_kind more source.kind || has_kind_twice more

-- the words can't be those for the sources of a daemon: one asks for none, there are too many, or two bind one kind
abbrev pub are_no_sources : List (List ℕ) → Bool
are_no_sources words = nat_lt MAX_BOUND_KINDS (length words)
    || (list_any (λ word. is_none (source_in word)) words || has_kind_twice (sources_in words))
