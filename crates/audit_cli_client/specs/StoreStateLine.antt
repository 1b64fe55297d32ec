-- The line with the state of a store.
use Rattle.std.specs.Prelude.{ℕ, ◌-◌, List, ◌++◌, codes}
use Rattle.std.specs.Fmt.{decimal}
use Rattle.hex.specs.Hex.{encode_lower}
use Rattle.audit_cli_offline.specs.ReportLines.{state_word}
use Rattle.audit_wire_ask.specs.declared.store_state.StoreState.{StoreState}

-- the commitment; the sectors of the device, the end of the log, the generation, the version of the format, whether the
-- log is closed, and the sectors after its end
unfoldable pub store_state_line : StoreState → List ℕ
store_state_line state =
    codes "commit " ++ decimal state.commitment.count ++ codes " " ++ encode_lower state.commitment.root
    ++ codes " sectors " ++ decimal state.sectors ++ codes " end " ++ decimal state.end
    ++ codes " generation " ++ decimal state.generation ++ codes " version " ++ decimal state.version
    ++ codes " state " ++ state_word state.closed ++ codes " free " ++ decimal (state.sectors - state.end)
    ++ codes "\n"
