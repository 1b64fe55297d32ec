-- Dates of reports.
use Rattle.std.specs.Prelude.{ℕ, Option, Some, None, List, codes}
use Rattle.httpdate.specs.Date.{date_text}
use Rattle.httpdate.specs.declared.date.HttpDate.{HttpDate as Date}

-- when something was seen, as in a header of HTTP; without a clock, a dash
abbrev pub date_or_dash : Option Date → List ℕ
date_or_dash None = codes "-"
date_or_dash (Some date) = date_text date
