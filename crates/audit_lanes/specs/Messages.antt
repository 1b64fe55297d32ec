-- Four messages that are hashed side by side.
use Rattle.std.specs.Prelude.{ℕ, List, ◌/◌, length}
use Rattle.sha2.specs.Sha256.{padded_message}
use Rattle.audit_lanes.specs.Lanes.{of_four}
use Rattle.audit_lanes.specs.declared.messages.Messages.{Messages}

-- what is left of the message in lane k, with its padding
abbrev pub message_in_lane : Messages → ℕ → List ℕ
message_in_lane messages k = of_four messages.first messages.second messages.third messages.fourth k

-- how many blocks a message has with its padding
abbrev pub block_count : List ℕ → ℕ
block_count m = length (padded_message m) / 64
