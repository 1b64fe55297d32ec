-- The folder of a path.
use Rattle.std.specs.Prelude.{ℕ, Option, Some, None, List, [], ◌∷◌, codes}
use Rattle.std.specs.Path.{path_parent}

-- the parent, or the current folder if there is none or its name is empty
abbrev pub parent_or_here : Option (List ℕ) → List ℕ
parent_or_here None = codes "."
parent_or_here (Some []) = codes "."
parent_or_here (Some (first ∷ rest)) = first ∷ rest

-- The folder that has the name of what is at a path.
abbrev pub folder_of : List ℕ → List ℕ
folder_of path = parent_or_here (path_parent path)
