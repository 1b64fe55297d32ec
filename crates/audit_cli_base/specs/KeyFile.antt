-- The contents of a key file.
use Rattle.std.specs.Prelude.{◌≡◌, ◌⊎◌, ℕ, ◌-◌, nat_eq, Option, Some, None, List, length, take, codes}
use Rattle.std.specs.Prelude.{if◌then◌else◌, IfSome}
use Rattle.std.specs.List.{ends_with}
use Rattle.std.specs.Result.{result_ok}
use Rattle.hex.specs.Hex.{decode_sized}
use Rattle.audit_disk.specs.FileFacts.{FileFacts}
use Rattle.audit_text.specs.declared.fault.LinesError.TheVariants.{Read, Memory}
use Rattle.audit_cli_base.specs.declared.fault.CommandError.{CommandError}
use Rattle.audit_cli_base.specs.declared.fault.CommandError.TheVariants.{BadArgument, File}
use Rattle.audit_cli_base.specs.declared.fault.CommandError.TheVariants.{Lines}

-- the text without a line feed at its end
abbrev pub without_line_feed : List ℕ → List ℕ
without_line_feed text = if ends_with nat_eq text (codes "\n") then take (length text - 1) text else text

-- 64 hex digits in either case, optionally followed by a line feed
unfoldable pub key_of_file : List ℕ → Option (List ℕ)
key_of_file text = result_ok (decode_sized (without_line_feed text) 32)

-- Why no key was read: the file has none, or reading failed, or memory was refused.
abbrev pub IsKeyFault : Option (List ℕ) → CommandError → Type 0
IsKeyFault known BadArgument = IfSome known (λ text. key_of_file text ≡ None)
IsKeyFault known (Lines cause) = (cause ≡ Read) ⊎ (cause ≡ Memory)
IsKeyFault known _ = ⊥

module _ {F : Type 0} (facts : F → FileFacts) (remaining : F → Option (List ℕ)) where
  -- a file that was opened at this path, to read, has this key
  pub record IsKeyAt (path key : List ℕ) : Type 0 where
    pub file : F
    pub opened : (facts file).opened_to_read path
    pub key_is : IfSome (remaining file) (λ text. key_of_file text ≡ Some key)

  -- a file that was opened at this path, to read, has none
  pub record HasNoKeyAt (path : List ℕ) : Type 0 where
    pub file : F
    pub opened : (facts file).opened_to_read path
    pub none : IfSome (remaining file) (λ text. key_of_file text ≡ None)

  -- Why no key was read at this path: the file couldn't be opened, or it was, and the key couldn't be read.
  abbrev pub IsKeyFaultAt : (Failed : Type 0) → List ℕ → CommandError → Type 0
  IsKeyFaultAt Failed path fault = ((fault ≡ File) × Failed)
      ⊎ ((file : F) × (facts file).opened_to_read path × IsKeyFault (remaining file) fault)
