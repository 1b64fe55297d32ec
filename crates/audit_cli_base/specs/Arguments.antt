-- Arguments that are checked here, not by the command line's parser.
use denote.Ref.{Bor}
use Rattle.std.specs.Prelude.{◌≡◌, ◌⊎◌, ℕ, Bool, nat_lt, ◌||◌, Option, Some, None, Result, Ok, Err, List, codes}
use Rattle.std.specs.Prelude.{if◌then◌else◌}
use Rattle.std.specs.Str.{bytes_eq}
use Rattle.std.specs.Io.KnownBytes.{Keeps}
use Rattle.audit_text.specs.Number.{number_in_text}
use Rattle.audit_log.specs.declared.header.TheConstants.{MIN_SECTORS, MAX_SECTORS}
use Rattle.audit_cli_offline.specs.CommitmentWord.{commitment_in_word}
use Rattle.audit_proof.specs.declared.commitment.Commitment.{Commitment}
use Rattle.audit_store.specs.declared.store_error.StoreError.TheVariants.{BadSize}
use Rattle.audit_cli_base.specs.Mode.{IsMode}
use Rattle.audit_cli_base.specs.declared.fault.CommandError.{CommandError}
use Rattle.audit_cli_base.specs.declared.fault.CommandError.TheVariants.{BadArgument, Refused}
use Rattle.audit_cli_base.specs.declared.arguments.ProofRequest.{ProofRequest}
use Rattle.audit_cli_base.specs.declared.arguments.ProofRequest.TheVariants.{Member, Increment}

-- OUT is standard output
abbrev pub selects_output : List ℕ → Bool
selects_output out = bytes_eq out (codes "-") || bytes_eq out (codes "/dev/stdout")

-- any number
abbrev pub number_or_fault : Option ℕ → Result ℕ CommandError
number_or_fault None = Err BadArgument
number_or_fault (Some number) = Ok number

-- the number in a word; without a word, the given one
abbrev pub number_asked : Option (Bor (List ℕ)) → ℕ → Result ℕ CommandError
number_asked None fallback = Ok fallback
number_asked (Some word) fallback = number_or_fault (number_in_text word.now)

-- a number of sectors that a store can have
abbrev pub judged_sectors : Option ℕ → Result ℕ CommandError
judged_sectors None = Err BadArgument
judged_sectors (Some sectors) =
    if nat_lt sectors MIN_SECTORS || nat_lt MAX_SECTORS sectors then Err (Refused BadSize) else Ok sectors

-- its form is checked before its range
abbrev pub sectors_asked : List ℕ → Result ℕ CommandError
sectors_asked text = judged_sectors (number_in_text text)

abbrev pub proof_of : List ℕ → Option ℕ → Option ℕ → Option ProofRequest
proof_of kind None second = None
proof_of kind (Some first) None = None
proof_of kind (Some first) (Some second) =
    if bytes_eq kind (codes "member") then Some (Member first second)
    else if bytes_eq kind (codes "increment") then Some (Increment first second)
    else None

-- a word for the kind, and two numbers
abbrev pub proof_asked : List ℕ → List ℕ → List ℕ → Option ProofRequest
proof_asked kind first second = proof_of kind (number_in_text first) (number_in_text second)

-- the commitment in a word
abbrev pub asked_or_bad : Option Commitment → Result Commitment CommandError
asked_or_bad None = Err BadArgument
asked_or_bad (Some commitment) = Ok commitment

abbrev pub commitment_asked : List ℕ → Result Commitment CommandError
commitment_asked word = asked_or_bad (commitment_in_word word)

-- there is a word for permissions, and it gives none
abbrev pub IsNoMode : Option (Bor (List ℕ)) → Type 0
IsNoMode None = ⊥
IsNoMode (Some word) = (mode : ℕ) → IsMode word.now mode → ⊥

-- The words for a new file have this fault. The permissions are checked before the number of sectors.
abbrev pub IsNewFileFault : Option (Bor (List ℕ)) → List ℕ → CommandError → Type 0
IsNewFileFault None sectors fault = sectors_asked sectors ≡ Err fault
IsNewFileFault (Some word) sectors fault =
    (((mode : ℕ) → IsMode word.now mode → ⊥) × (fault ≡ BadArgument))
    ⊎ (((mode : ℕ) × IsMode word.now mode) × (sectors_asked sectors ≡ Err fault))

-- one of the words for commitments isn't a commitment
abbrev pub AreNoCommitments : List ℕ → Option (Bor (List ℕ)) → Type 0
AreNoCommitments older None = commitment_in_word older ≡ None
AreNoCommitments older (Some newer) = (commitment_in_word older ≡ None) ⊎ (commitment_in_word newer.now ≡ None)

-- the commitment in a word; without a word, none
abbrev pub IsCommitmentAsked : Option (Bor (List ℕ)) → Option Commitment → Type 0
IsCommitmentAsked None asked = asked ≡ None
IsCommitmentAsked (Some word) asked = asked ≡ commitment_in_word word.now

-- a fault of the words is returned, and nothing is written
abbrev pub RefusesWords : {T E : Type 0} → (E → Type 0) → Option (List ℕ) → Option (List ℕ) → Result T E → Type 0
RefusesWords {E = E} IsFault before after result = (fault : E) → IsFault fault
    → (result ≡ Err fault) × Keeps before after
