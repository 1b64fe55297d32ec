-- Files that are written and put.
use Rattle.std.proofs.Common.{◌≡◌, ◌⊎◌, inl, inr, ℕ, Option, Some, None, List, [], refl, sym, subst, ◌∙◌}
use Rattle.std.specs.Prelude.{Result, Ok, Err, IfErr}
use Rattle.std.specs.List.{concat}
use Rattle.std.specs.Io.KnownBytes.{Appends}
use Rattle.audit_wire_ask.specs.declared.exporting.Export.{Export}
use Rattle.audit_wire_ask.specs.declared.fault.ClientError.{ClientError}
use Rattle.audit_wire_ask.specs.declared.putting.AskError.{AskError}
use Rattle.audit_wire_ask.specs.declared.putting.AskError.TheVariants as asking
use Rattle.audit_wire_ask.specs.Failing.{FailsPuttingOne}
use Rattle.audit_wire_ask.specs.Exporting.{GivesExport, WritesExport}
use Rattle.audit_wire_ask.specs.Putting.{IsFile, PutsOnly, AreGivenEntries}

-- the bytes of an answer couldn't be written, or the file not be put
pub fails_to_put : {E : Type 0} (done : Result ℕ (AskError E)) (bytes : List ℕ) (IsAnswer : List ℕ → Type 0) (Fails : ClientError → Type 0)
    → IfErr done (FailsPuttingOne (λ answer. answer ≡ bytes) (λ error. ⊥)) → IsAnswer bytes → IfErr done (FailsPuttingOne IsAnswer Fails)
fails_to_put (Ok size) bytes IsAnswer Fails h answer = tt
fails_to_put (Err (asking.Client error)) bytes IsAnswer Fails (inl none) answer = absurd none
fails_to_put (Err (asking.Client error)) bytes IsAnswer Fails (inr torn) answer = inr (torn.0, (bytes, answer))
fails_to_put (Err (asking.Out error)) bytes IsAnswer Fails h answer = (bytes, answer)

from_empty : (new : Option (List ℕ)) (bytes : List ℕ) → Appends (Some []) new bytes → IsFile (Some new) bytes
from_empty None bytes h = absurd h
from_empty (Some known) bytes h = h

-- the bytes of a file that was begun empty, if they are known
pub draft_written : (Draft : Type 0) (contents : Draft → Option (List ℕ)) (old new : Draft) (bytes : List ℕ)
    → (contents old ≡ Some []) ⊎ ((other : Draft) → contents other ≡ None) → Appends (contents old) (contents new) bytes
    → IsFile (Some (contents new)) bytes
draft_written Draft contents old new bytes (inl empty) h =
    from_empty (contents new) bytes (subst (λ known. Appends known (contents new) bytes) empty h)
draft_written Draft contents old new bytes (inr unknown) h = subst (λ known. IsFile (Some known) bytes) (sym (unknown new)) tt

-- a file with the entries of an export was put, if one was
pub puts_export : (Draft : Type 0) (contents : Draft → Option (List ℕ)) (empty full : Draft) (old mid new : Option (Option (List ℕ))) (written_old written_new read_old read_new : Option (List ℕ)) (first : ℕ) (export : Export)
    → (contents empty ≡ Some []) ⊎ ((other : Draft) → contents other ≡ None)
    → ((entries : List (List ℕ)) × GivesExport written_old written_new read_old read_new first entries × WritesExport (contents empty) (contents full) entries export)
    → mid ≡ old → (new ≡ mid) ⊎ (new ≡ Some (contents full))
    → PutsOnly old new (AreGivenEntries written_old written_new read_old read_new first)
puts_export Draft contents empty full old mid new written_old written_new read_old read_new first export fresh all same (inl kept) = inl (kept ∙ same)
puts_export Draft contents empty full old mid new written_old written_new read_old read_new first export fresh all same (inr put) =
    let bytes = concat all.0 in
    inr (bytes, (all.0, all.1, refl), subst (λ file. IsFile file bytes) (sym put) (draft_written Draft contents empty full bytes fresh all.2.written))
