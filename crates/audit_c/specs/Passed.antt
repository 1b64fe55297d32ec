-- A verifier after the entry that it held.
use Rattle.std.specs.Prelude.{◌≡◌, ◌==◌, ℕ, ◌+◌, ◌<◌, min, List, [], ◌∷◌, take}
use Rattle.audit_base.specs.declared.limits.TheConstants.{MAX_COUNT, RESERVED_KIND}
use Rattle.audit_chain.specs.Key.{next_key}
use Rattle.audit_tree.specs.Subtree.{leaf_hash_of}
use Rattle.audit_tree.specs.Frontier.{IsSized}
use Rattle.audit_tree.specs.Continued.{frontier_after}
use Rattle.audit_c.specs.declared.verifier.Verifier.{Verifier}
use Rattle.audit_c.specs.Fed.{held_in, tree_of}

-- The entry had this key, size, kind and link.
pub record HasPassed (old : Verifier) (key : List ℕ) (size kind : ℕ) (link : List ℕ) (new : Verifier) : Type 0 where
  pub key_is : new.key ≡ next_key key
  pub link_is : new.link ≡ link
  pub count : new.count ≡ old.count + 1
  pub closed : (new.closed == 1) ≡ (kind == RESERVED_KIND)
  pub held : new.held ≡ 0
  pub fault : new.fault ≡ old.fault
  pub more : old.count < MAX_COUNT
      → tree_of new ≡ frontier_after (tree_of old) (leaf_hash_of (take size (held_in old)) ∷ [])
  pub sized : IsSized (min new.count MAX_COUNT) new.nodes
