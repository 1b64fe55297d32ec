-- Where frames end in the bytes of a connection.
use Rattle.std.specs.Prelude.{ℕ, ◌+◌, ◌*◌, zero, suc, Bool, true, false, ◌||◌, List, [], ◌∷◌}
use Rattle.audit_cli_connection.specs.declared.frames.Place.{Place}
use Rattle.audit_cli_connection.specs.declared.frames.Place.TheVariants.{Start, Length, Body}

abbrev pub is_start : Place → Bool
is_start Start = true
is_start _ = false

-- the place after the length of a frame
abbrev pub place_in_body : ℕ → Place
place_in_body zero = Start
place_in_body (suc more) = Body more

-- a length has two bytes, the high one first
abbrev pub place_after_byte : Place → ℕ → Place
place_after_byte Start byte = Length byte
place_after_byte (Length high) byte = place_in_body (256 * high + byte)
place_after_byte (Body zero) byte = Start
place_after_byte (Body (suc more)) byte = Body more

abbrev pub frames_place_after : Place → List ℕ → Place
frames_place_after place [] = place
frames_place_after place (byte ∷ bytes) = frames_place_after (place_after_byte place byte) bytes

-- a frame ends in these bytes
abbrev pub ends_within : Place → List ℕ → Bool
ends_within place [] = false
ends_within place (byte ∷ bytes) =
    is_start (place_after_byte place byte) || ends_within (place_after_byte place byte) bytes
