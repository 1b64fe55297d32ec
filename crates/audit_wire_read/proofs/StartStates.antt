-- The state before the first entry.
use Rattle.std.proofs.Common.{◌≡◌, ℕ, List, [], false, sym, ap, arith}
use Rattle.std.proofs.lemmas.List.{length-replicate, get_or-replicate}
use Rattle.audit_base.specs.declared.limits.TheConstants.{LAYERS}
use Rattle.audit_tree.specs.Frontier.{FrontierData, IsSized}
use Rattle.audit_tree.specs.Continued.{empty_frontier, no_hash}
use Rattle.audit_tree.proofs.ContinuedTrees.{after_none}
use Rattle.audit_verify.specs.State.{StateData, first_state, next_state}

sized : IsSized 0 empty_frontier.hashes
sized = record { most = omega arith; long = length-replicate LAYERS no_hash; clean = λ layer low other. get_or-replicate LAYERS layer no_hash [] low }

pub start_state : (first_key : List ℕ) → first_state first_key ≡ next_state (first_state first_key) []
start_state first_key = ap (λ (f : FrontierData). let s : StateData = record { key = first_key; link = (first_state first_key).link; closed = false; frontier = f } in s) (sym (after_none empty_frontier sized))
