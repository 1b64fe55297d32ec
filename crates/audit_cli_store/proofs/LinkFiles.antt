-- What the bytes of a file state about a link, and what is written of it.
use Rattle.std.specs.Prelude.{IfSome}
use Rattle.std.specs.Io.KnownBytes.{Appends}
use Rattle.std.proofs.Common.{ℕ, ◌<◌, ◌≤◌, Option, Some, None, Result, Ok, Err, List, ◌++◌, length, ap, subst, arith, length-append}
use Rattle.audit_base.proofs.HashRows.{length-joined}
use Rattle.audit_chain.proofs.Form.{length-bytes_of}
use Rattle.audit_text.specs.declared.input.TheConstants.{INPUT_LIMIT}
use Rattle.audit_text.specs.declared.fault.LinesError.TheVariants as lines
use Rattle.audit_proof.specs.declared.commitment.Commitment.{Commitment}
use Rattle.audit_link.specs.OpenedEntry.{IsSoleEntry}
use Rattle.audit_link.specs.Links.{LinkData}
use Rattle.audit_link.specs.LinkBytes.{link_bytes, SpellsLink}
use Rattle.audit_link.specs.Accepted.{IsLinkJudgment}
use Rattle.audit_link.specs.declared.checking.LinkJudgment.{LinkJudgment}
use Rattle.audit_cli_base.specs.declared.fault.CommandError.{CommandError}
use Rattle.audit_cli_base.specs.declared.fault.CommandError.TheVariants as faults
use Rattle.audit_cli_store.specs.LinkChecks.{link_line, WritesLinkLine, IsJudgedLink, IsLinkChecked, IsUnreadFile}

short_entry : (entry : List ℕ) → IsSoleEntry entry → length entry ≤ 32768
short_entry entry is = omega (arith, ap length is.1.1, length-bytes_of is.0 is.1.0, is.1.0.within)

-- a link is far shorter than what is read of a file
short_link : (bytes : List ℕ) (link : LinkData) → SpellsLink bytes link → length bytes ≤ 70000
unfolding link_bytes
short_link bytes link spells =
    let is = spells.link_is in
    let entries : List ℕ = link.first.entry ++ link.second.entry in
    let keys : List ℕ = link.first.key ++ (link.second.key ++ entries) in
    let rest : List ℕ = link.last.link ++ (link.last.tag ++ keys) in
    omega (
      arith,
      ap length spells.bytes_are,
      length-joined link.hashes rest is.hashes,
      is.few,
      length-append link.last.link (link.last.tag ++ keys),
      length-append link.last.tag keys,
      length-append link.first.key (link.second.key ++ entries),
      length-append link.second.key entries,
      length-append link.first.entry link.second.entry,
      is.last_link,
      is.last_tag,
      is.first_key,
      is.second_key,
      short_entry link.first.entry is.first,
      short_entry link.second.entry is.second,
    )

pub too_long_if : (known : Option (List ℕ)) → IfSome known (λ bytes. INPUT_LIMIT < length bytes) → IfSome known (λ bytes. IsUnreadFile faults.BadProof bytes)
too_long_if None long = tt
too_long_if (Some bytes) long = λ link spells. omega (arith, long, short_link bytes link spells)

judged : (result : Result Unit CommandError) (bytes : List ℕ) (old new : Commitment) (judgment : LinkJudgment) (before after : Option (List ℕ)) → IsJudgedLink bytes old new judgment → WritesLinkLine judgment result before after
    → IsLinkChecked result bytes old new before after
judged (Ok done) bytes old new judgment before after is writes = (
  subst (IsJudgedLink bytes old new) writes.0 is,
  subst (λ (j : LinkJudgment). Appends before after (link_line j)) writes.0 writes.1,
)
judged (Err faults.NotAccepted) bytes old new judgment before after is writes = (judgment, writes.0, is, writes.1)
judged (Err (faults.Lines lines.Write)) bytes old new judgment before after is writes = (judgment, is, writes)
judged (Err (faults.Lines lines.Memory)) bytes old new judgment before after is writes = absurd writes
judged (Err (faults.Lines lines.Read)) bytes old new judgment before after is writes = absurd writes
judged (Err (faults.Lines lines.InputTooLong)) bytes old new judgment before after is writes = absurd writes
judged (Err (faults.Lines (lines.Line place cause))) bytes old new judgment before after is writes = absurd writes
judged (Err (faults.Refused error)) bytes old new judgment before after is writes = absurd writes
judged (Err faults.BadProof) bytes old new judgment before after is writes = absurd writes
judged (Err faults.BadArgument) bytes old new judgment before after is writes = absurd writes
judged (Err faults.FileExists) bytes old new judgment before after is writes = absurd writes
judged (Err faults.File) bytes old new judgment before after is writes = absurd writes
judged (Err faults.InUse) bytes old new judgment before after is writes = absurd writes
judged (Err faults.Replaced) bytes old new judgment before after is writes = absurd writes
judged (Err (faults.TooSmall sectors)) bytes old new judgment before after is writes = absurd writes
judged (Err (faults.OtherCount count)) bytes old new judgment before after is writes = absurd writes
judged (Err (faults.OtherLog held own)) bytes old new judgment before after is writes = absurd writes
judged (Err faults.Salvaged) bytes old new judgment before after is writes = absurd writes
judged (Err (faults.Export fault)) bytes old new judgment before after is writes = absurd writes

pub judged_in : (known : Option (List ℕ)) (result : Result Unit CommandError) (link : LinkData) (old new : Commitment) (judgment : LinkJudgment) (before after : Option (List ℕ)) → IfSome known (λ bytes. SpellsLink bytes link)
    → IsLinkJudgment old new link judgment → WritesLinkLine judgment result before after → IfSome known (λ bytes. IsLinkChecked result bytes old new before after)
judged_in None result link old new judgment before after spells is writes = tt
judged_in (Some bytes) result link old new judgment before after spells is writes =
    judged result bytes old new judgment before after (record { link = link; spells = spells; judged = is }) writes
