-- What is printed of an entry without a key: its index, its kind and the length of its payload.
use Rattle.std.specs.Prelude.{ℕ, List, [], ◌∷◌, ◌++◌, codes}
use Rattle.std.specs.Fmt.{decimal}
use Rattle.json.specs.Json.{Json, number, object, member, no_members}
use Rattle.json.specs.Tree.{json_tokens}
use Rattle.json.specs.Print.{print}
use Rattle.audit_text.specs.Lines.{line_feed}
use Rattle.audit_cli_offline.specs.declared.report_form.ReportForm.{ReportForm}
use Rattle.audit_cli_offline.specs.declared.report_form.ReportForm.TheVariants as forms

unfoldable pub sealed_line : ℕ → ℕ → ℕ → List ℕ
sealed_line index kind size =
    codes "sealed " ++ decimal index ++ codes " " ++ decimal kind ++ codes " " ++ decimal size ++ codes "\n"

-- the object of a sealed entry: in the place of its payload the length
abbrev pub sealed_object : ℕ → ℕ → ℕ → Json
sealed_object index kind size =
    object (member (codes "index") (number (decimal index)) (member (codes "kind") (number (decimal kind))
    (member (codes "sealed") (number (decimal size)) no_members)))

-- its line, as short as JSON allows
unfoldable pub sealed_json : ℕ → ℕ → ℕ → List ℕ
sealed_json index kind size = print (json_tokens (sealed_object index kind size)) ++ line_feed ∷ []

-- a sealed entry in a form: its line or its object, and nothing in a form that has payloads alone
abbrev pub sealed_text : ReportForm → ℕ → ℕ → ℕ → List ℕ
sealed_text forms.Events index kind size = sealed_line index kind size
sealed_text forms.Json index kind size = sealed_json index kind size
sealed_text _ index kind size = []
