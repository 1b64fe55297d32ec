-- Sectors that are read one after the other, and are zeros.
use Rattle.std.specs.Prelude.{IfOk}
use Rattle.std.proofs.Common.{◌≡◌, ◌∙◌, inl, inr, refl, ℕ, ◌+◌, Result, Ok, Err, sym, ap, subst, arith}
use Rattle.std.proofs.lemmas.Bool.{cases_lt}
use Rattle.audit_base.specs.Bytes.{zeros}
use Rattle.audit_base.specs.declared.limits.TheConstants.{SECTOR_SIZE}
use Rattle.audit_disk_model.specs.Image.{Image, Sector, sector_at}
use Rattle.audit_disk_model.specs.View.{View}
use Rattle.audit_disk_model.specs.Calls.{IsRead}
use Rattle.audit_disk_model.proofs.Moments.{continues_refl}
use Rattle.audit_log.proofs.Loading.{only_reads_trans}
use Rattle.audit_log.specs.Reads.{OnlyReads}
use Rattle.audit_cli_base.specs.Blank.{IsBlankUpTo}

-- nothing changed since, and what was read were zeros
pub record LooksBlank (old now : View) (count : ℕ) : Type 0 where
  pub reads : OnlyReads old now
  pub size : now.size ≡ old.size
  pub honest : old.honest → now.honest
  pub content : old.honest → now.content ≡ old.content
  pub blank : old.honest → IsBlankUpTo old count

pub looks_none : (view : View) → LooksBlank view view 0
looks_none view = record {
  reads = record { continues = continues_refl view; clock = refl; content = λ honest. refl };
  size = refl;
  honest = λ honest. honest;
  content = λ honest. refl;
  blank = λ honest at lt within. absurd (omega arith);
}

-- one more sector
pub looks_more : {old mid new : View} {sector : Sector} {at : ℕ} → LooksBlank old mid at → IsRead mid new at sector (Ok tt) → sector ≡ zeros SECTOR_SIZE → LooksBlank old new (at + 1)
looks_more {old = old} {at = at} looks read zero = record {
  reads = only_reads_trans looks.reads (record { continues = read.continues; clock = read.clock; content = read.content });
  size = read.continues.size ∙ looks.size;
  honest = λ honest. read.continues.honest (looks.honest honest);
  content = λ honest. read.content (looks.honest honest) ∙ looks.content honest;
  blank = λ honest j lt within.
      elim (cases_lt j at) [
        | inl below ↦ looks.blank honest j below within
        | inr above ↦
            let here : j ≡ at = omega (arith, above, lt) in
            subst (λ (k : ℕ). sector_at old.content k ≡ zeros SECTOR_SIZE) (sym here)
            (ap (λ (content : Image). sector_at content at) (sym (looks.content honest)) ∙ sym (read.bytes (looks.honest honest)) ∙ zero)
      ];
}

-- a device that was found blank is so after it was read
pub still_blank : {C E : Type 0} (old : View) (view_of : C → View) (count : ℕ) (result : Result C E) → (old.honest → IfOk result (λ _. IsBlankUpTo old count)) → IfOk result (λ free. OnlyReads old (view_of free))
    → IfOk result (λ free. (view_of free).honest → IsBlankUpTo (view_of free) count)
still_blank old view_of count (Err fault) blank reads = tt
still_blank old view_of count (Ok free) blank reads = λ honest at lt within.
    let was : old.honest = reads.continues.was_honest honest in
    ap (λ (content : Image). sector_at content at) (reads.content was) ∙ blank was at lt (omega (arith, within, reads.continues.size))
