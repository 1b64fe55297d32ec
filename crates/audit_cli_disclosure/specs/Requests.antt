-- The whole of a command about disclosures.
use Rattle.std.specs.Prelude.{◌≡◌, ◌⊎◌, ℕ, Option, Result, List}
use Rattle.std.specs.Io.KnownBytes.{Keeps}
use Rattle.audit_cli_base.specs.Faults.{status_of_end}
use Rattle.audit_cli_base.specs.declared.fault.CommandError.{CommandError}
use Rattle.audit_cli_base.specs.declared.status.Status.{Status}
use Rattle.audit_cli_base.specs.declared.status.Status.TheVariants as ends
use Rattle.audit_cli_disclosure.specs.FileCalls.{FilesModel}
use Rattle.audit_cli_disclosure.specs.MadeDisclosure.{EndsDisclosing}
use Rattle.audit_cli_disclosure.specs.ShownDisclosure.{EndsShowing}
use Rattle.audit_cli_disclosure.specs.Words.{HasWrongDisclosingWord, HasWrongShowingWord}
use Rattle.audit_cli_disclosure.specs.declared.request.Request.{Request}
use Rattle.audit_cli_disclosure.specs.declared.request.Request.TheVariants.{Disclose, Show}

-- a word of the command line is wrong: it has another form
abbrev pub HasWrongDisclosureWord : Request → Type 0
HasWrongDisclosureWord (Disclose asked) = HasWrongDisclosingWord asked
HasWrongDisclosureWord (Show asked) = HasWrongShowingWord asked

module _ {F R : Type 0} (files : FilesModel F) (failed : R → Type 0) where
  -- how a request ended; Flushed and Unflushed are that the last call of the output flushed it, or couldn't
  abbrev pub EndsRequest : Request → F → F → Option (List ℕ) → Option (List ℕ) → Option (List ℕ) → Option (List ℕ)
      → (Flushed Unflushed : Type 0) → Result (Unit {0}) CommandError → Type 0
  EndsRequest (Disclose asked) was now before after said_before said_after Flushed Unflushed result =
      EndsDisclosing files failed asked was now before after result × Keeps said_before said_after
  EndsRequest (Show asked) was now before after said_before said_after Flushed Unflushed result =
      EndsShowing files failed asked was now before after said_before said_after Flushed Unflushed result

  -- A request was carried out with this result, and the output was then flushed. The program's status is that of the
  -- result, or that of an output that couldn't be flushed.
  pub record IsDisclosureRun {W : Type 0} (contents : W → Option (List ℕ)) (flushed unflushed : W → Type 0)
      (request : Request) (was now : F) (messages : Option (List ℕ)) (before after : W) (status : Status) : Type 0 where
    pub done : Result (Unit {0}) CommandError
    pub written : W
    pub said : Option (List ℕ)
    pub ended : EndsRequest request was now (contents before) (contents written) messages said
        (flushed written) (unflushed written) done
    pub kept : Keeps (contents written) (contents after)
    pub status_is : ((status ≡ status_of_end done) × flushed after) ⊎ ((status ≡ ends.Device) × unflushed after)
