-- Sockets that listen at their paths, one after another.
use denote.Ref.{Bor}
use Rattle.std.proofs.Common.{◌≡◌, ◌∙◌, ℕ, ℤ, Option, List, [], ◌∷◌, ◌++◌, map, refl, sym, ap, subst}
use Rattle.std.proofs.lemmas.List.{map-append, append_assoc}
use Rattle.audit_serve_sockets.specs.Bound.{SocketFacts, ListensAt}
use Rattle.audit_cli_daemon.specs.Sources.{SourceData}
use Rattle.audit_cli_daemon.specs.Sockets.{path_of_readers, path_of_source, paths_at, ListenAt}

pub map_twice : {A B C : Type 0} (f : B → C) (g : A → B) (values : List A) → map f (map g values) ≡ map (λ value. f (g value)) values
map_twice f g [] = refl
map_twice f g (value ∷ values) = ap (λ rest. f (g value) ∷ rest) (map_twice f g values)

module _ (facts : SocketFacts) (mode : ℕ) where
  one_more : (paths : List (List ℕ)) (descriptors : List ℤ) (path : List ℕ) (descriptor : ℤ) → ListenAt facts mode paths descriptors → ListensAt facts path mode descriptor → ListenAt facts mode (paths ++ path ∷ []) (descriptors ++ descriptor ∷ [])
  one_more [] [] path descriptor all one = (one, tt)
  one_more [] (other ∷ descriptors) path descriptor all one = absurd all
  one_more (first ∷ paths) [] path descriptor all one = absurd all
  one_more (first ∷ paths) (other ∷ descriptors) path descriptor all one = (all.0, one_more paths descriptors path descriptor all.1 one)

  -- a further entrance listens at a further path
  pub listen_more : {E : Type 0} (of : E → ℤ) (paths : List (List ℕ)) (entrances : List E) (path : List ℕ) (entrance : E) → ListenAt facts mode paths (map of entrances) → ListensAt facts path mode (of entrance) → ListenAt facts mode (paths ++ path ∷ []) (map of (entrances ++ entrance ∷ []))
  listen_more of paths entrances path entrance all one = subst (λ (descriptors : List ℤ). ListenAt facts mode (paths ++ path ∷ []) descriptors) (sym (map-append of entrances (entrance ∷ []))) (one_more paths (map of entrances) path (of entrance) all one)

  -- the same for the next of several sources
  pub listen_source : {E : Type 0} (of : E → ℤ) (paths : List (List ℕ)) (before after : List SourceData) (entrances : List E) (source : SourceData) (entrance : E) → after ≡ before ++ source ∷ [] → ListenAt facts mode (paths ++ map path_of_source before) (map of entrances) → ListensAt facts source.path mode (of entrance)
      → ListenAt facts mode (paths ++ map path_of_source after) (map of (entrances ++ entrance ∷ []))
  listen_source of paths before after entrances source entrance more all one =
      subst (λ (places : List (List ℕ)). ListenAt facts mode places (map of (entrances ++ entrance ∷ [])))
      (append_assoc paths (map path_of_source before) (source.path ∷ [])
      ∙ ap (λ (rest : List (List ℕ)). paths ++ rest) (sym (map-append path_of_source before (source ∷ [])) ∙ ap (map path_of_source) (sym more)))
      (listen_more of (paths ++ map path_of_source before) entrances source.path entrance all one)

  -- and then for all others
  pub listen_last : {E : Type 0} (of : E → ℤ) (readers : Option (Bor (List ℕ))) (sources : List SourceData) (path : List ℕ) (entrances : List E) (entrance : E) → ListenAt facts mode (path_of_readers readers ++ map path_of_source sources) (map of entrances) → ListensAt facts path mode (of entrance)
      → ListenAt facts mode (paths_at readers sources path) (map of (entrances ++ entrance ∷ []))
  listen_last of readers sources path entrances entrance all one =
      subst (λ (places : List (List ℕ)). ListenAt facts mode places (map of (entrances ++ entrance ∷ []))) (append_assoc (path_of_readers readers) (map path_of_source sources) (path ∷ []))
      (listen_more of (path_of_readers readers ++ map path_of_source sources) entrances path entrance all one)
