use Rattle.std.proofs.Common.{◌≡◌, ◌<◌, ℕ, List, [], Vec, length, map, set, get_or, ap, ◌∙◌, arith}
use Rattle.std.proofs.lemmas.List.{map-set, get_or-set_same, get_or-set_other, length-map}
use Rattle.audit_test_serve.specs.Recorder.{RecorderData, recorded_output}
use Rattle.audit_test_serve.proofs.recorder.RecorderSessionCore.take_output.Goals as goal

module _ {Z : Type 0} where
  emptied : (outputs : List (Vec ℕ Z)) (k : ℕ) (output : Vec ℕ Z) → k < length outputs → output.items ≡ [] → get_or (map (λ (v : Vec ℕ Z). v.items) (set outputs k output)) k [] ≡ []
  emptied outputs k output within none =
      ap (λ (all : List (List ℕ)). get_or all k []) (map-set (λ (v : Vec ℕ Z). v.items) outputs k output)
      ∙ get_or-set_same (map (λ (v : Vec ℕ Z). v.items) outputs) k output.items [] (omega (arith, within, length-map outputs (λ (v : Vec ℕ Z). v.items)))
      ∙ none

  kept : (outputs : List (Vec ℕ Z)) (k other : ℕ) (output : Vec ℕ Z) → (other ≡ k → ⊥) → get_or (map (λ (v : Vec ℕ Z). v.items) (set outputs k output)) other [] ≡ get_or (map (λ (v : Vec ℕ Z). v.items) outputs) other []
  kept outputs k other output apart =
      ap (λ (all : List (List ℕ)). get_or all other []) (map-set (λ (v : Vec ℕ Z). v.items) outputs k output)
      ∙ get_or-set_other (map (λ (v : Vec ℕ Z). v.items) outputs) k other output.items [] apart

pub returns-clause-empty : goal.returns-clause-empty
returns-clause-empty c =
    emptied c.self.inside.outputs.items c.args.session c.replace.new.dest (omega (arith, c.requires, c.self.invariant)) (ap (λ v. v.items) c.replace.ensures.after ∙ c.new.ensures.items)

pub returns-clause-others : goal.returns-clause-others
returns-clause-others c = λ other apart.
    kept c.self.inside.outputs.items c.args.session other c.replace.new.dest apart ∙ ap (λ (core : RecorderData). recorded_output core other) c.self.view_is
