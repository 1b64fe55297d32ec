-- Checking the text of a key file.
use Rattle.std.specs.Prelude.{nat_eq, codes, if◌then◌else◌, Option, Some, IfErr, IfSome}
use Rattle.std.specs.List.{ends_with}
use Rattle.std.proofs.Common.{◌≡◌, ℕ, ◌-◌, ◌<◌, ◌≤◌, Bool, true, false, None, Result, Ok, Err, List, subst, length, take, sym, ap, ◌∙◌, arith}
use Rattle.std.proofs.lemmas.Bool.Decides.{nat_tests}
use Rattle.std.proofs.lemmas.List.{length-take}
use Rattle.std.specs.Result.{result_ok}
use Rattle.hex.specs.Hex.{decode_sized}
use Rattle.hex.specs.declared.error.FromHexError.{FromHexError}
use Rattle.audit_text.specs.declared.input.TheConstants.{INPUT_LIMIT}
use Rattle.audit_cli_base.specs.KeyFile.{IsKeyFault, key_of_file, without_line_feed}
use Rattle.audit_cli_base.specs.declared.fault.CommandError.{CommandError}
use Rattle.audit_cli_base.specs.declared.fault.CommandError.TheVariants.{BadArgument}

pub key_of_digits : (text digits : List ℕ) (said : Result (List ℕ) FromHexError) → digits ≡ without_line_feed text
    → said ≡ decode_sized digits 32 → key_of_file text ≡ result_ok said
unfolding key_of_file
key_of_digits text digits said cut is = ap (λ d. result_ok (decode_sized d 32)) (sym cut) ∙ ap result_ok (sym is)

-- a text longer than an input may be has no key
no_key_in : (digits : List ℕ) → 66 ≤ length digits → result_ok (decode_sized digits 32) ≡ None
no_key_in digits long = grind (arith, nat_tests)

long_front : (ended : Bool) (text : List ℕ) → 67 ≤ length text
    → 66 ≤ length (if ended then take (length text - 1) text else text)
long_front true text long = omega (arith, long, length-take (length text - 1) text)
long_front false text long = omega (arith, long)

pub no_key_if_long : (text : List ℕ) → 67 ≤ length text → key_of_file text ≡ None
unfolding key_of_file
no_key_if_long text long = no_key_in (without_line_feed text) (long_front (ends_with nat_eq text (codes "\n")) text long)

pub too_long_for_a_key : (text : List ℕ) → INPUT_LIMIT < length text → key_of_file text ≡ None
too_long_for_a_key text long = no_key_if_long text (omega (arith, long))

pub no_key_if_too_long : (known : Option (List ℕ)) → IfSome known (λ text. INPUT_LIMIT < length text)
    → IfSome known (λ text. key_of_file text ≡ None)
no_key_if_too_long None long = tt
no_key_if_too_long (Some text) long = too_long_for_a_key text long

-- why no key was read
pub keyless : {T : Type 0} (result : Result T CommandError) (known : Option (List ℕ)) → result ≡ Err BadArgument → IfErr result (IsKeyFault known) → IfSome known (λ text. key_of_file text ≡ None)
keyless {T = T} result known bad why = subst (λ (given : Result T CommandError). IfErr given (IsKeyFault known)) bad why
