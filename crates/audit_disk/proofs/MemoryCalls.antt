-- The calls of a device that records them follow the crash model.
use Rattle.std.proofs.Common.{◌≡◌, inl, ℕ, ◌+◌, ◌<◌, ◌≤◌, Ok, Err, List, [], ◌∷◌, ◌++◌, map, set, refl, sym, ◌∙◌, ap, subst, arith, ◌^◌, length}
use Rattle.audit_disk_model.specs.Image.{Sector, Image, sector_at}
use Rattle.audit_disk_model.specs.View.{View, last_count}
use Rattle.audit_disk_model.specs.Calls.{Continues, HasRisen, Ticks, IsRead, IsWrite, IsSync}
use Rattle.audit_disk.specs.Held.{Held, settled, content_of, IsImageOf}
use Rattle.audit_disk.specs.Memory.{after_call, after_calls, held_at, latest}
use Rattle.audit_disk.specs.MemoryView.{memory_view}
use Rattle.audit_disk.specs.declared.block.Block.{Block}
use Rattle.audit_disk.specs.declared.call.Call.{Call}
use Rattle.audit_disk.specs.declared.call.Effect.{Effect}
use Rattle.audit_disk.specs.declared.call.Effect.TheVariants.{Write, Sync}
use Rattle.audit_disk_model.specs.declared.fault.DeviceFault.{DeviceFault}
use Rattle.audit_disk.proofs.HeldLemmas.{content_of-after_write, content_of-after_sync, written_image, unwritten_image, image_written, synced_image}
use Rattle.audit_disk.proofs.MemoryLemmas.{after_calls-append, held_now, held_same, held_before, held_next}

-- what the record of the calls states about the content
abbrev pub IsCurrent : List Block → Image → List Call → Type 0
IsCurrent start content calls = content ≡ content_of (after_calls calls (map settled start))

-- the content after one more call
pub content_next : (start : List Block) (content : Image) (calls : List Call) (call : Call) → IsCurrent start content calls
    → content_of (after_calls (calls ++ call ∷ []) (map settled start)) ≡ content_of (after_call call.effect (after_calls calls (map settled start)))
content_next start content calls call current = ap content_of (after_calls-append calls (call ∷ []) (map settled start))

pub current_after_write : (start : List Block) (content : Image) (calls : List Call) (moment at : ℕ) (block : Block) → IsCurrent start content calls
    → IsCurrent start (set content at block.bytes) (calls ++ record { moment = moment; effect = Write at block } ∷ [])
current_after_write start content calls moment at block current =
    ap (λ (image : Image). set image at block.bytes) current
    ∙ sym (content_of-after_write (after_calls calls (map settled start)) at block)
    ∙ sym (content_next start content calls (record { moment = moment; effect = Write at block }) current)

pub current_after_sync : (start : List Block) (content : Image) (calls : List Call) (moment : ℕ) → IsCurrent start content calls
    → IsCurrent start content (calls ++ record { moment = moment; effect = Sync } ∷ [])
current_after_sync start content calls moment current =
    current
    ∙ sym (content_of-after_sync (after_calls calls (map settled start)))
    ∙ sym (content_next start content calls (record { moment = moment; effect = Sync }) current)

module _ (start : List Block) (content content' : Image) (calls calls' : List Call) (clock clock' failures failures' : ℕ)
    (current : IsCurrent start content calls) (current' : IsCurrent start content' calls') (stamped : latest calls ≤ clock) (stamped' : latest calls' ≤ clock') (sized sized' : length start < 2 ^ 64)
    (in_range : clock < 2 ^ 64) (in_range' : clock' < 2 ^ 64) where
  abbrev old : View
  old = memory_view start content calls clock failures current stamped sized in_range

  abbrev new : View
  new = memory_view start content' calls' clock' failures' current' stamped' sized' in_range'

  -- the call had no effect
  module _ (same : calls' ≡ calls) (later : clock ≤ clock') (more : failures ≤ failures') where
    held_kept : (moment : ℕ) → held_at start calls' moment ≡ held_at start calls moment
    held_kept moment = ap (λ (all : List Call). held_at start all moment) same

    continues_same : Continues old new
    continues_same = record {
      size = refl;
      clock = later;
      failures = more;
      honest = λ honest. honest;
      was_honest = λ honest. honest;
      kept = λ moment image le left. subst (λ (held : List Held). IsImageOf held image) (sym (held_kept moment)) left;
      no_other = λ moment image le left. subst (λ (held : List Held). IsImageOf held image) (held_kept moment) left;
    }

    now_kept : held_at start calls' clock' ≡ held_at start calls clock
    now_kept = held_kept clock' ∙ held_same start calls clock stamped clock' later

    module _ (content_same : content' ≡ content) where
      pub read_done : (at : ℕ) (into : Sector) → clock' ≡ clock → failures' ≡ failures → into ≡ sector_at content at → IsRead old new at into (Ok tt)
      read_done at into still none bytes = record {
        continues = continues_same;
        clock = still;
        failures = none;
        content = λ honest. content_same;
        bytes = λ honest. bytes;
      }

      module _ (ticks : Ticks clock clock') (risen : HasRisen failures failures') (fault : DeviceFault) where
        pub write_failed : (at : ℕ) (bytes : Sector) → IsWrite old new at bytes (Err fault)
        write_failed at bytes = record {
          continues = continues_same;
          clock = ticks;
          failures = risen;
          content = λ honest. tt;
          content_err = λ honest. inl content_same;
          images = λ honest image left. record { either = inl (subst (λ (held : List Held). IsImageOf held image) now_kept left) };
          unwritten = λ honest image left. subst (λ (held : List Held). IsImageOf held image) (sym now_kept) left;
          written = λ honest. tt;
          at_end = λ end. refl;
          at_end_same = λ end honest. content_same;
        }

        pub sync_failed : IsSync old new (Err fault)
        sync_failed = record {
          continues = continues_same;
          clock = ticks;
          failures = risen;
          content = λ honest. content_same;
          only = λ honest. tt;
          no_other = λ honest image left. subst (λ (held : List Held). IsImageOf held image) now_kept left;
          kept = λ honest image left. subst (λ (held : List Held). IsImageOf held image) (sym now_kept) left;
          at_end = λ end. refl;
        }

  -- the call was recorded
  module _ (effect : Effect) (noted : calls' ≡ calls ++ record { moment = clock'; effect = effect } ∷ []) (free : clock < last_count) (next : clock' ≡ clock + 1) (none : failures' ≡ failures) where
    call : Call
    call = record { moment = clock'; effect = effect }

    held_kept_next : (moment : ℕ) → moment ≤ clock → held_at start calls' moment ≡ held_at start calls moment
    held_kept_next moment le = ap (λ (all : List Call). held_at start all moment) noted ∙ held_before start calls clock stamped (record { moment = clock'; effect = effect }) next moment le

    now_next : held_at start calls' clock' ≡ after_call effect (held_at start calls clock)
    now_next =
        ap (λ (all : List Call). held_at start all clock') noted
        ∙ ap (λ (moment : ℕ). held_at start (calls ++ record { moment = clock'; effect = effect } ∷ []) moment) next
        ∙ held_next start calls clock stamped (record { moment = clock'; effect = effect }) next

    continues_next : Continues old new
    continues_next = record {
      size = refl;
      clock = omega arith;
      failures = omega arith;
      honest = λ honest. honest;
      was_honest = λ honest. honest;
      kept = λ moment image le left. subst (λ (held : List Held). IsImageOf held image) (sym (held_kept_next moment le)) left;
      no_other = λ moment image le left. subst (λ (held : List Held). IsImageOf held image) (held_kept_next moment le) left;
    }

    ticks_next : Ticks clock clock'
    ticks_next = record { before_end = λ lt. next; at_end = λ le. absurd (omega arith) }

  pub write_done : (at : ℕ) (block : Block) → calls' ≡ calls ++ record { moment = clock'; effect = Write at block } ∷ [] → clock < last_count → clock' ≡ clock + 1 → failures' ≡ failures
      → content' ≡ set content at block.bytes → IsWrite old new at block.bytes (Ok tt)
  write_done at block noted free next none changed =
      let now = now_next (Write at block) noted free next none in
      record {
        continues = continues_next (Write at block) noted free next none;
        clock = ticks_next (Write at block) noted free next none;
        failures = none;
        content = λ honest. changed;
        content_err = λ honest. tt;
        images = λ honest image left. record { either = written_image (held_at start calls clock) at block image (subst (λ (held : List Held). IsImageOf held image) now left) };
        unwritten = λ honest image left. subst (λ (held : List Held). IsImageOf held image) (sym now) (unwritten_image (held_at start calls clock) at block image left);
        written = λ honest image left. subst (λ (held : List Held). IsImageOf held (set image at block.bytes)) (sym now) (image_written (held_at start calls clock) at block image left);
        at_end = λ end. absurd (omega arith);
        at_end_same = λ end honest. absurd (omega arith);
      }

  pub sync_done : calls' ≡ calls ++ record { moment = clock'; effect = Sync } ∷ [] → clock < last_count → clock' ≡ clock + 1 → failures' ≡ failures → content' ≡ content → IsSync old new (Ok tt)
  sync_done noted free next none same =
      let now = now_next Sync noted free next none in
      record {
        continues = continues_next Sync noted free next none;
        clock = ticks_next Sync noted free next none;
        failures = none;
        content = λ honest. same;
        only = λ honest image left.
            synced_image (held_at start calls clock) image (subst (λ (held : List Held). IsImageOf held image) now left)
            ∙ ap content_of (held_now start calls clock stamped) ∙ sym current;
        no_other = λ honest. tt;
        kept = λ honest. tt;
        at_end = λ end. absurd (omega arith);
      }
