-- What is printed of a verified export.
use Rattle.std.specs.Prelude.{◌&&◌, ◌||◌, ◌==◌, ℕ, nat_le, Bool, List, length}
use Rattle.std.specs.List.{list_any}
use Rattle.audit_cli_offline.specs.declared.report_form.ReportForm.{ReportForm}

-- how an event is printed, the kinds that are printed (any kind if there are none), and the first index
pub record PrintingData : Type 0 where
  pub form : ReportForm
  pub kinds : List ℕ
  pub from : ℕ

-- whether an event with this index and of this kind is printed
abbrev pub is_printed : PrintingData → ℕ → ℕ → Bool
is_printed printing index kind =
    nat_le printing.from index && ((length printing.kinds == 0) || list_any (λ one. one == kind) printing.kinds)
