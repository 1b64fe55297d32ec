-- How many bytes of replies a session's requests may queue.
use Rattle.std.specs.Prelude.{ℕ, ◌-◌, nat_le, Bool, true, false, ◌&&◌, ◌||◌, Option, Some, None}
use Rattle.audit_serve_passes.specs.declared.allowance.Demand.{Demand}
use Rattle.audit_serve_passes.specs.declared.allowance.Share.{Share}
use Rattle.audit_serve_passes.specs.declared.allowance.Allowance.{Allowance}

-- the bytes are within what is left of a share, or are the first that are taken of it
abbrev pub has_room : Share → ℕ → Bool
has_room share bytes = share.is_whole || nat_le bytes share.left

abbrev pub share_after : ℕ → Share → Share
share_after bytes share = record { left = share.left - bytes; is_whole = false }

-- a question has to be within the pass's share too
abbrev pub has_room_to_ask : Share → Option ℕ → Bool
has_room_to_ask share (Some bytes) = has_room share bytes
has_room_to_ask share None = true

abbrev pub share_after_asking : Option ℕ → Share → Share
share_after_asking (Some bytes) share = share_after bytes share
share_after_asking None share = share

abbrev pub admits : Allowance → Demand → Bool
admits allowance demand =
    has_room allowance.session demand.reply && has_room_to_ask allowance.questions demand.question

-- what is left after a request was taken
abbrev pub spent : Demand → Allowance → Allowance
spent demand allowance = record {
  session = share_after demand.reply allowance.session;
  questions = share_after_asking demand.question allowance.questions;
}
