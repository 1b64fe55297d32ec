-- Kinds as a word: numbers with commas between them.
use Rattle.std.specs.Prelude.{◌≡◌, ℕ, ◌==◌, nat_le, Bool, Option, Some, None, List, map, if◌then◌else◌}
use Rattle.std.specs.List.{slice_split}
use Rattle.audit_base.specs.declared.limits.TheConstants.{RESERVED_KIND}
use Rattle.audit_text.specs.Number.{number_in_text}

abbrev pub is_comma : ℕ → Bool
is_comma byte = byte == 44

abbrev pub any_kind : Option ℕ → Option ℕ
any_kind None = None
any_kind (Some number) = if nat_le number RESERVED_KIND then Some number else None

-- the kind of any event, that of a closing one too, which is the largest
abbrev pub any_kind_in_word : List ℕ → Option ℕ
any_kind_in_word word = any_kind (number_in_text word)

-- the parts of the word between its commas are these kinds
abbrev pub AreKindsInWord : List ℕ → List ℕ → Type 0
AreKindsInWord word kinds = map any_kind_in_word (slice_split is_comma word) ≡ map (λ kind. Some kind) kinds
