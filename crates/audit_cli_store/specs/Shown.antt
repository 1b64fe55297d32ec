-- The output of `show`.
use Rattle.std.specs.Prelude.{◌≡◌, ℕ, ◌-◌, List, ◌++◌, codes}
use Rattle.std.specs.Fmt.{decimal}
use Rattle.audit_log.specs.declared.header.Header.{Header}
use Rattle.audit_text.specs.NumberedLine.{numbered_line}
use Rattle.audit_cli_offline.specs.ReportLines.{state_word}
use Rattle.audit_cli_store.specs.declared.showing.ShownState.{ShownState}
use Rattle.audit_cli_store.specs.declared.show_form.ShowForm.{ShowForm}
use Rattle.audit_cli_store.specs.declared.show_form.ShowForm.TheVariants.{State, WithFree}

-- the commitment; then the sectors of the device, the end of the log, the generation, the version of the format, and
-- whether the log is closed
unfoldable pub shown_lines : Header → List ℕ
shown_lines header =
    numbered_line (codes "commit ") header.count header.root
    ++ codes "sectors " ++ decimal header.sectors ++ codes " end " ++ decimal header.end
    ++ codes " generation " ++ decimal header.generation ++ codes " version " ++ decimal header.version
    ++ codes " state " ++ state_word header.closed ++ codes "\n"

-- the sectors of the device after the end of the log
abbrev pub free_line : Header → List ℕ
free_line header = codes "free " ++ decimal (header.sectors - header.end) ++ codes "\n"

-- what is shown of a store is that of this header
pub record IsStateOf (header : Header) (state : ShownState) : Type 0 where
  pub count : state.commitment.count ≡ header.count
  pub root : state.commitment.root ≡ header.root
  pub sectors : state.sectors ≡ header.sectors
  pub end : state.end ≡ header.end
  pub generation : state.generation ≡ header.generation
  pub version : state.version ≡ header.version
  pub closed : state.is_closed ≡ header.closed

abbrev pub printed_state : ShowForm → Header → List ℕ
printed_state State header = shown_lines header
printed_state WithFree header = shown_lines header ++ free_line header
