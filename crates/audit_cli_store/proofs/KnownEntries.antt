-- Proofs made by a store about its contents.
use Rattle.std.specs.Prelude.{◌⊎◌, Bool, false, MatchResult}
use Rattle.std.proofs.Common.{inl, inr, ◌≡◌, ◌∙◌, ℕ, ◌<◌, ◌≤◌, Result, Ok, Err, sym, subst, arith}
use Rattle.std.proofs.lemmas.Bool.{cases_lt}
use Rattle.audit_store.specs.Recovered.{IsOfDeviceOrMemory}
use Rattle.audit_store.specs.Queries.{IsProofOf}
use Rattle.audit_store.specs.declared.store_error.StoreError.{StoreError}
use Rattle.audit_store.specs.declared.store_error.StoreError.TheVariants.{NoSuchVersion, Memory}

-- if there is a membership proof of an event, the store holds the event
pub index_known : {T : Type 0} (broken : Bool) (index count held : ℕ) (result : Result T StoreError) (x : T)
    → IsProofOf broken ((count ≤ index) ⊎ (held < count)) result → broken ≡ false → result ≡ Ok x → index < held
index_known broken index count held result x h sound is =
    elim (cases_lt index count) [
      | inl below ↦ elim (cases_lt held count) [
        | inl over ↦ let both : Ok x ≡ Err NoSuchVersion = sym is ∙ h.unknown sound (inr over) in absurd (cc)
        | inr within ↦ omega (arith, below, within)
      ]
      | inr past ↦ let both : Ok x ≡ Err NoSuchVersion = sym is ∙ h.unknown sound (inl past) in absurd (cc)
    ]

-- a proof that the log has is refused only for memory
pub only_memory : {T : Type 0} (broken : Bool) (outside : Type 0) (result : Result T StoreError) (error : StoreError)
    → IsProofOf broken outside result → broken ≡ false → (outside → ⊥) → result ≡ Err error → IsOfDeviceOrMemory error
only_memory broken outside result error h sound inside is =
    let memory : error ≡ Memory = subst (λ r. MatchResult r (λ _. Unit {0}) (λ e. e ≡ Memory)) is (h.known sound inside) in
    subst IsOfDeviceOrMemory (sym memory) tt

-- an event before the count of a version is one that the store holds
pub member_inside : (index count held : ℕ) → index < count → count ≤ held → (count ≤ index) ⊎ (held < count) → ⊥
member_inside index count held before within (inl past) = omega (arith, before, past)
member_inside index count held before within (inr over) = omega (arith, within, over)
