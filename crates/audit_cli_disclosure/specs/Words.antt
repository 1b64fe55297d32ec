-- The words of the commands about disclosures.
use Rattle.std.specs.Prelude.{◌≡◌, ◌⊎◌, Ok, Err}
use Rattle.audit_disclosure.specs.declared.choice.Choice.{Choice}
use Rattle.audit_disclosure.specs.declared.choice.Choice.TheVariants as choices
use Rattle.audit_disclosure.specs.Choosing.{AreSpansInWord}
use Rattle.audit_proof.specs.declared.commitment.Commitment.{Commitment}
use Rattle.audit_store.specs.declared.store_error.StoreError.TheVariants.{Memory}
use Rattle.audit_cli_offline.specs.KindsWord.{AreKindsInWord}
use Rattle.audit_cli_base.specs.Arguments.{commitment_asked}
use Rattle.audit_cli_base.specs.declared.fault.CommandError.{CommandError}
use Rattle.audit_cli_base.specs.declared.fault.CommandError.TheVariants.{BadArgument, Refused}
use Rattle.audit_cli_disclosure.specs.declared.words.ChoiceWord.{ChoiceWord}
use Rattle.audit_cli_disclosure.specs.declared.words.ChoiceWord.TheVariants.{Kinds, Events}
use Rattle.audit_cli_disclosure.specs.declared.words.Disclosing.{Disclosing}
use Rattle.audit_cli_disclosure.specs.declared.words.Showing.{Showing}

-- the word lists these kinds, or these rows of indices
abbrev pub IsChoiceAsked : ChoiceWord → Choice → Type 0
IsChoiceAsked (Kinds word) (choices.Kinds kinds) = AreKindsInWord word.now kinds.items
IsChoiceAsked (Events word) (choices.Spans found) = AreSpansInWord word.now found.items
IsChoiceAsked _ choice = ⊥

-- the words say to what the export is committed, and which of its entries are disclosed
pub record AreDisclosingWords (asked : Disclosing) (commitment : Commitment) (choice : Choice) : Type 0 where
  pub commitment_is : commitment_asked asked.commitment.now ≡ Ok commitment
  pub choice_is : IsChoiceAsked asked.choice choice

-- the word chooses nothing, since it has another form
abbrev pub HasNoChoice : ChoiceWord → Type 0
HasNoChoice word = (choice : Choice) → IsChoiceAsked word choice → ⊥

-- why there is no choice: the word has none, or memory was refused
abbrev pub IsChoiceFault : ChoiceWord → CommandError → Type 0
IsChoiceFault word BadArgument = HasNoChoice word
IsChoiceFault word (Refused error) = error ≡ Memory
IsChoiceFault word _ = ⊥

-- one of them isn't a commitment, or no choice
abbrev pub HasWrongDisclosingWord : Disclosing → Type 0
HasWrongDisclosingWord asked = (commitment_asked asked.commitment.now ≡ Err BadArgument) ⊎ HasNoChoice asked.choice

-- why nothing was done by such words: one of them is wrong, or memory was refused
abbrev pub IsDisclosingWordFault : Disclosing → CommandError → Type 0
IsDisclosingWordFault asked BadArgument = HasWrongDisclosingWord asked
IsDisclosingWordFault asked (Refused error) = error ≡ Memory
IsDisclosingWordFault asked _ = ⊥

-- the word of an export that is shown isn't a commitment
abbrev pub HasWrongShowingWord : Showing → Type 0
HasWrongShowingWord asked = commitment_asked asked.commitment.now ≡ Err BadArgument
