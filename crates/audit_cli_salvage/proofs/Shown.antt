-- Whether one of several proofs shows an entry.
use Rattle.std.proofs.Common.{◌≡◌, ◌∙◌, Bool, true, false, ◌||◌, ℕ, List, ◌∷◌, sym, ap}
use Rattle.audit_chain.specs.EntryForm.{EntryParts}
use Rattle.audit_cli_salvage.specs.Pieces.{shows, is_shown}
use Rattle.audit_cli_salvage.specs.declared.proofs.ProvedLeaf.{ProvedLeaf}

module _ (proofs left rest : List ProvedLeaf) (proved : ProvedLeaf) (index : ℕ) (parts : EntryParts) (so_far : is_shown proofs index parts ≡ is_shown left index parts) (split : left ≡ proved ∷ rest) where
  -- the next proof shows it
  pub shown_here : {b : Bool} → b ≡ true → b ≡ shows proved index parts → true ≡ is_shown proofs index parts
  shown_here shown is = sym (so_far ∙ ap (λ (l : List ProvedLeaf). is_shown l index parts) split ∙ ap (λ (b : Bool). b || is_shown rest index parts) (sym is ∙ shown))

  -- it doesn't
  pub not_here : {b : Bool} → b ≡ false → b ≡ shows proved index parts → is_shown proofs index parts ≡ is_shown rest index parts
  not_here other is = so_far ∙ ap (λ (l : List ProvedLeaf). is_shown l index parts) split ∙ ap (λ (b : Bool). b || is_shown rest index parts) (sym is ∙ other)
