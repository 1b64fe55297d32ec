-- The tokens of a sealed entry's line.
use Rattle.std.specs.Prelude.{OnOk, codes, is_ok}
use Rattle.std.proofs.Common.{◌≡◌, Result, Ok, Err, ℕ, cond, List, [], ◌∷◌, ◌++◌, refl, sym, ap, ◌∙◌, append_assoc}
use Rattle.std.specs.Fmt.{decimal}
use Rattle.json.specs.Token.{Token, begin_object, end_object, key, number}
use Rattle.json.specs.Tree.{json_tokens}
use Rattle.json.specs.Print.{print}
use Rattle.audit_cli_disclosure.specs.SealedLines.{sealed_json, sealed_object}

-- what is written for a sealed entry
abbrev pub sealed_tokens : ℕ → ℕ → ℕ → List Token
sealed_tokens index kind size =
    begin_object ∷ key (codes "index") ∷ number (decimal index) ∷ key (codes "kind") ∷ number (decimal kind) ∷ key (codes "sealed") ∷ number (decimal size) ∷ end_object ∷ []

tokens_are : (index kind size : ℕ) → json_tokens (sealed_object index kind size) ≡ sealed_tokens index kind size
tokens_are index kind size = refl

pub json_written : (index kind size : ℕ) (old made new : List ℕ) (tokens : List Token) → tokens ≡ sealed_tokens index kind size → made ≡ old ++ print tokens → new ≡ made ++ 10 ∷ [] → new ≡ old ++ sealed_json index kind size
unfolding sealed_json
json_written index kind size old made new tokens are is_made is_new =
    is_new
    ∙ ap (λ (front : List ℕ). front ++ 10 ∷ []) (is_made ∙ ap (λ (ts : List Token). old ++ print ts) (are ∙ sym (tokens_are index kind size)))
    ∙ append_assoc old (print (json_tokens (sealed_object index kind size))) (10 ∷ [])

-- the last piece of the line, where it was written
pub line_ended : {E : Type 0} (result : Result (Unit {0}) E) (made new : List ℕ) → new ≡ cond (is_ok result) (made ++ 10 ∷ []) made → OnOk result (new ≡ made ++ 10 ∷ [])
line_ended (Ok unit) made new is = is
line_ended (Err error) made new is = tt
