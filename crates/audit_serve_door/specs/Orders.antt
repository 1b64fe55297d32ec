-- The order to stop a daemon.
use Rattle.std.specs.Prelude.{ℕ, List, codes, ◌==◌, if◌then◌else◌}
use Rattle.std.specs.List.{starts_with}
use Rattle.std.specs.Str.{bytes_eq}
use Rattle.audit_serve_door.specs.declared.order.OrderText.{OrderText}
use Rattle.audit_serve_door.specs.declared.order.OrderText.TheVariants.{Whole, Begun, Wrong}

-- the first bytes of a connection: the order, its beginning, or neither
abbrev pub order_text : List ℕ → OrderText
order_text bytes =
    if bytes_eq bytes (codes "stop\n") then Whole
    else if starts_with (λ byte other. byte == other) (codes "stop\n") bytes then Begun
    else Wrong
