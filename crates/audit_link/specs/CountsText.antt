-- Numbers of events by kind as lines of text, each a word, a space and a value.
use Rattle.std.specs.Prelude.{◌≡◌, ℕ, Option, Some, None, List, ◌++◌, codes}
use Rattle.std.specs.List.{flat_map}
use Rattle.std.specs.Fmt.{decimal}
use Rattle.audit_text.specs.Fields.{field_line}
use Rattle.audit_link.specs.declared.kind_count.KindCount.{KindCount}
use Rattle.audit_link.specs.Counts.{AreCounts}

-- a kind and its number
abbrev pub kind_line : KindCount → List ℕ
kind_line counted = field_line (decimal counted.kind) (decimal counted.count)

abbrev pub kind_lines : List KindCount → List ℕ
kind_lines counts = flat_map kind_line counts

abbrev pub version_line : List ℕ
version_line = codes "audit-counts 1\n"

-- a version, and a line for each kind
abbrev pub counts_text : List KindCount → List ℕ
counts_text counts = version_line ++ kind_lines counts

-- this text is that of the numbers
pub record SpellsCounts (text : List ℕ) (counts : List KindCount) : Type 0 where
  pub counts_are : AreCounts counts
  pub text_is : text ≡ counts_text counts

-- the numbers whose text this is, if it is one
abbrev pub AreCountsIn : List ℕ → Option (List KindCount) → Type 0
AreCountsIn text (Some counts) = SpellsCounts text counts
AreCountsIn text None = (counts : List KindCount) → SpellsCounts text counts → ⊥
