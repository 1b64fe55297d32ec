use Rattle.std.specs.Prelude.{◌≡◌, map}
use Rattle.audit_serve_door.specs.Entrances.{rights_of, mode_of, socket_of}
use Rattle.audit_serve_door.proofs.socket_door.register_all.Given as goal

abbrev pub invariant-loop-number : goal.invariant-loop-number
invariant-loop-number g l =
    (map rights_of l.entrances ≡ map rights_of l.fn.entrances) × (map mode_of l.entrances ≡ map mode_of l.fn.entrances) × (map socket_of l.entrances ≡ map socket_of l.fn.entrances)
