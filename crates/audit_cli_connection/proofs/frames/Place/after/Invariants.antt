use Rattle.std.proofs.Common.{◌≡◌, length}
use Rattle.std.specs.Prelude.{◌||◌}
use Rattle.audit_cli_connection.specs.Frames.{frames_place_after, ends_within}
use Rattle.audit_cli_connection.proofs.frames.Place.after.Given as goal

abbrev pub invariant-loop-byte : goal.invariant-loop-byte
invariant-loop-byte l = record {
  place : frames_place_after l.place l.rest ≡ frames_place_after l.fn.self l.fn.bytes;
  ended : (l.has_ended || ends_within l.place l.rest) ≡ ends_within l.fn.self l.fn.bytes;
}

abbrev pub decreases-loop-byte : goal.decreases-loop-byte
decreases-loop-byte l = length l.rest
