-- A file in memory: the concatenated sectors of a device.
use Rattle.std.specs.Prelude.{ℕ, List, [], ◌∷◌, ◌++◌}
use Rattle.audit_disk_model.specs.Image.{Image}

-- the sectors of an image as bytes
abbrev pub bytes_of_image : Image → List ℕ
bytes_of_image [] = []
bytes_of_image (bytes ∷ image) = bytes ++ bytes_of_image image
