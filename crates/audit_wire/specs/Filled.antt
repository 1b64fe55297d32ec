-- The effect of a piece on the frame in progress.
use Rattle.std.specs.Prelude.{◌≡◌, ℕ, ◌<◌, ◌≤◌, List, ◌++◌, length, take, drop}
use Rattle.audit_wire.specs.declared.fed.Fed.{Fed}
use Rattle.audit_wire.specs.declared.fed.Fed.TheVariants as fed
use Rattle.audit_wire.specs.Frame.{frame, IsBodySize, IsPartial, IsBadLength}

abbrev pub IsFilled : List ℕ → List ℕ → Fed → List ℕ → Type 0
IsFilled held piece fed.More bytes = IsPartial bytes × (bytes ≡ held ++ piece)
IsFilled held piece (fed.Body taken) bytes =
    (0 < taken) × (taken ≤ length piece) × (bytes ≡ held ++ take taken piece) × IsBodySize (length (drop 2 bytes))
    × (bytes ≡ frame (drop 2 bytes))
IsFilled held piece (fed.Malformed taken) bytes =
    (0 < taken) × (taken ≤ length piece) × (bytes ≡ held ++ take taken piece) × IsBadLength bytes
