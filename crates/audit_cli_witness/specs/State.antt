-- The lines of a witness's file: a commitment each, the newest last.
use Rattle.std.specs.Prelude.{◌≡◌, ◌⊎◌, ℕ, Bool, true, false, Option, Some, None, IsSome, List, [], ◌∷◌, ◌++◌}
use Rattle.std.specs.Prelude.{◌-◌, ◌<◌, ◌≤◌, ◌^◌, ◌==◌, nat_le, not, if◌then◌else◌, map, take, length, codes}
use Rattle.std.specs.List.{flat_map, position_or_len}
use Rattle.std.specs.Fmt.{decimal}
use Rattle.hex.specs.Hex.{encode_lower}
use Rattle.audit_base.specs.Bytes.{AreBytes}
use Rattle.audit_base.specs.declared.limits.TheConstants.{HASH_LEN}
use Rattle.audit_text.specs.Lines.{lines_of, line_feed}
use Rattle.audit_proof.specs.declared.commitment.Commitment.{Commitment}
use Rattle.audit_cli_offline.specs.CommitmentWord.{is_colon, commitment_in_word}
use Rattle.audit_cli_witness.specs.declared.state_lines.Tail.{Tail}

-- COUNT:ROOT
abbrev pub commitment_word : Commitment → List ℕ
commitment_word seen = decimal seen.count ++ codes ":" ++ encode_lower seen.root

-- a commitment as the program has it: a number below 2^64, and a hash
pub record IsStored (seen : Commitment) : Type 0 where
  pub count : seen.count < 2 ^ 64
  pub root : length seen.root ≡ HASH_LEN
  pub bytes : AreBytes seen.root

-- whether a text has a last line that doesn't end in a line feed
abbrev pub lacks_feed : List ℕ → Bool
lacks_feed [] = false
lacks_feed (byte ∷ []) = not (byte == line_feed)
lacks_feed (byte ∷ next ∷ bytes) = lacks_feed (next ∷ bytes)

abbrev pub onto_kept : Option Commitment → List Commitment → List Commitment
onto_kept None kept = kept
onto_kept (Some one) kept = one ∷ kept

-- these lines are those of these commitments
abbrev pub AreLinesOf : List (List ℕ) → List Commitment → Type 0
AreLinesOf lines kept = map commitment_in_word lines ≡ map (λ one. Some one) kept

-- further bytes make a line of these, which are none yet
abbrev pub IsTorn : List ℕ → Type 0
IsTorn part = (more : List ℕ) × IsSome (commitment_in_word (part ++ more))

-- bytes without a colon get one at their end
abbrev pub with_colon : List ℕ → List ℕ
with_colon part = if nat_le (length part) (position_or_len is_colon part) then part ++ codes ":" else part

-- a last line without a line feed, after those of some commitments, is one of a commitment, or was cut off
abbrev pub ReadsLastLine : List Commitment → List ℕ → Tail → Type 0
ReadsLastLine before line tail =
    ((tail.torn ≡ 0) × (tail.lacks_feed ≡ true) × (last : Commitment) × (commitment_in_word line ≡ Some last)
    × (tail.kept.items ≡ before ++ last ∷ []))
    ⊎ ((tail.torn ≡ length line) × (tail.lacks_feed ≡ false) × (tail.kept.items ≡ before) × IsTorn line
    × (commitment_in_word line ≡ None))

-- nothing, or what is left of a line that was cut off, after whole lines
abbrev pub IsCutOffAfter : List ℕ → List ℕ → Type 0
IsCutOffAfter front torn = (torn ≡ []) ⊎ ((lacks_feed front ≡ false) × (lines_of torn ≡ torn ∷ []) × IsTorn torn
    × (commitment_in_word torn ≡ None))

-- A text is the lines of these commitments, and then what is left of a line that was cut off, if one was. It is known
-- how many bytes that is, and whether the last line lacks its line feed.
pub record HoldsLines (text : List ℕ) (kept : List Commitment) (torn : ℕ) (lacks : Bool) : Type 0 where
  pub front : List ℕ
  pub rest : List ℕ
  pub whole : text ≡ front ++ rest
  pub lines : AreLinesOf (lines_of front) kept
  pub torn_is : torn ≡ length rest
  pub lacks_is : lacks ≡ lacks_feed front
  pub cut : IsCutOffAfter front rest

abbrev pub ReadsTail : List ℕ → Tail → Type 0
ReadsTail text tail = HoldsLines text tail.kept.items tail.torn tail.lacks_feed

-- the commitments of those lines of a text that are commitments
abbrev pub kept_in_lines : List (List ℕ) → List Commitment
kept_in_lines [] = []
kept_in_lines (line ∷ lines) = onto_kept (commitment_in_word line) (kept_in_lines lines)

abbrev pub kept_in : List ℕ → List Commitment
kept_in file = kept_in_lines (lines_of file)

-- A witness's file holds these commitments: the last ones of its lines, and none only if its lines have none. After
-- `end` there is no commitment, but what is left of a line that was cut off; before it the last line may lack its line
-- feed.
pub record HoldsState (file : List ℕ) (kept : List Commitment) (end : ℕ) (lacks : Bool) : Type 0 where
  pub last : take (length (kept_in file) - length kept) (kept_in file) ++ kept ≡ kept_in file
  pub some : kept ≡ [] → kept_in file ≡ []
  pub within : end ≤ length file
  pub all : kept_in (take end file) ≡ kept_in file
  pub lacks_is : lacks ≡ lacks_feed (take end file)

-- the bytes that add the line of a commitment, after a last line that lacks its line feed, or not
abbrev pub line_after : Bool → Commitment → List ℕ
line_after true seen = line_feed ∷ commitment_word seen ++ codes "\n"
line_after false seen = commitment_word seen ++ codes "\n"

-- the lines of these commitments, one after another
abbrev pub commitment_lines : List Commitment → List ℕ
commitment_lines kept = flat_map (line_after false) kept
