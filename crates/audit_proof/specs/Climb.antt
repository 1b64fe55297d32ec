-- The path up from a node of a history tree with the hashes of a proof, from the root down: at each node into the half
-- that holds the leaf, then the sibling's hash is taken from the list.
use Rattle.std.specs.Prelude.{ℕ, zero, suc, ◌+◌, ◌-◌, ◌^◌, nat_le, nat_lt, List, [], ◌∷◌, ◌++◌, Option, None, Some}
use Rattle.std.specs.Prelude.{if◌then◌else◌}
use Rattle.audit_tree.specs.Subtree.{parent_of}
use Rattle.audit_proof.specs.declared.side.Side.{Side}
use Rattle.audit_proof.specs.declared.side.Side.TheVariants.{Left, Right}
use Rattle.audit_proof.specs.declared.steps.Versions.{Versions}

-- a value and the hashes that are left over, or nothing if a hash was missing
abbrev pub Climbed : Type 0 → Type 0
Climbed V = Option (V × List (List ℕ))

-- how a value is carried up from a layer: without a hash, with a hash on its right, and with one on its left
pub record Steps (V : Type 0) : Type 0 where
  pub alone : ℕ → V → V
  pub with_right : ℕ → V → List ℕ → V
  pub with_left : ℕ → V → List ℕ → V

module _ {V : Type 0} where
  -- one step up, with the hash on one side
  abbrev pub step_with : Steps V → Side → ℕ → V → List ℕ → V
  step_with steps Left = steps.with_left
  step_with steps Right = steps.with_right

  -- one layer up without a hash, and with the next hash
  abbrev pub up_alone : (V → V) → Climbed V → Climbed V
  up_alone f None = None
  up_alone f (Some (value, rest)) = Some (f value, rest)

  abbrev pub up_with : (V → List ℕ → V) → Climbed V → Climbed V
  up_with f None = None
  up_with f (Some (value, [])) = None
  up_with f (Some (value, hash ∷ rest)) = Some (f value hash, rest)

  -- The climb from a node of layer `from` to the node `height` layers higher. The upper node has `count` leaves from
  -- its start on, and the lower one holds the leaf at this place among them.
  unfoldable pub climb : Steps V → ℕ → ℕ → ℕ → ℕ → V → List (List ℕ) → Climbed V
  climb steps from zero place count value hashes = Some (value, hashes)
  climb steps from (suc height) place count value hashes =
      let layer = from + height in
      let half = 2 ^ layer in
      if nat_lt place half
      then (if nat_le count half
      then up_alone (steps.alone layer) (climb steps from height place count value hashes)
      else up_with (steps.with_right layer) (climb steps from height place count value hashes))
      else up_with (steps.with_left layer) (climb steps from height (place - half) (count - half) value hashes)

-- the value, if all hashes are used
abbrev pub whole : {V : Type 0} → Climbed V → Option V
whole None = None
whole (Some (value, [])) = Some value
whole (Some (value, hash ∷ rest)) = None

-- how one value is carried up
abbrev pub one_value : (List ℕ → List ℕ) → Steps (List ℕ)
one_value H = record {
  alone = λ layer value. parent_of H value [];
  with_right = λ layer value hash. parent_of H value hash;
  with_left = λ layer value hash. parent_of H hash value;
}

-- How the values in an older and a newer tree are carried up together. A hash on the left belongs to both trees, one
-- on the right only to the newer. The older value stops at the layer of its root.
abbrev pub two_values : (List ℕ → List ℕ) → ℕ → Steps Versions
two_values H top = record {
  alone = λ layer value. record {
    older = if nat_lt layer top then parent_of H value.older [] else value.older;
    newer = parent_of H value.newer [];
  };
  with_right = λ layer value hash. record {
    older = if nat_lt layer top then parent_of H value.older [] else value.older;
    newer = parent_of H value.newer hash;
  };
  with_left = λ layer value hash. record {
    older = parent_of H hash value.older;
    newer = parent_of H hash value.newer;
  };
}

-- the text of a node, from a value and the hash of its sibling on one side
abbrev pub text_with : Side → List ℕ → List ℕ → List ℕ
text_with Left value hash = 1 ∷ (hash ++ value)
text_with Right value hash = 1 ∷ (value ++ hash)
