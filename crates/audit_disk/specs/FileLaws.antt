-- A law of rows that a file gave.
use Rattle.std.specs.Prelude.{ℕ}
use Rattle.std.proofs.Props.{props}
use Rattle.audit_disk_model.specs.Image.{Image}
use Rattle.audit_disk.specs.File.{FileView, HasRow}

pub HasRow-prop : (file : FileView) (offset count : ℕ) (sectors : Image) → IsProp (HasRow file offset count sectors)
HasRow-prop file offset count sectors = Prim.hlevel (file.given_once, props)
