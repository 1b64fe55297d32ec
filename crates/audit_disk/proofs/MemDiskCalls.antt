-- The calls of a `MemDisk`, by what each adds to its record of calls.
use Rattle.std.proofs.Common.{◌≡◌, ⊎_elim, ℕ, suc, ◌<◌, ◌≤◌, Ok, Err, IsErr, OnOk, OnErr, List, [], ◌∷◌, map, set, get_or, length, refl, sym, ◌∙◌, ap, arith, ◌^◌}
use Rattle.std.proofs.lemmas.Bool.{false≢true, cases_lt}
use Rattle.std.proofs.lemmas.List.{map-set, length-map, get_or-map}
use Rattle.audit_disk_model.specs.Image.{Sector}
use Rattle.audit_disk_model.specs.View.{View, last_count}
use Rattle.audit_disk_model.specs.Calls.{Outcome, IsRead, IsWrite, IsSync}
use Rattle.audit_disk.specs.Held.{Held, settled, content_of, bytes_of_blocks, after_write, after_sync}
use Rattle.audit_disk.specs.Memory.{after_calls}
use Rattle.audit_disk.specs.MemoryView.{memory_view}
use Rattle.audit_disk.specs.MemoryLaws.{length-after_calls}
use Rattle.audit_disk.specs.CallLog.{Notes, RefusesCall}
use Rattle.audit_disk.specs.MemDisk.{HoldsWrite, HoldsSync}
use Rattle.audit_disk.specs.declared.block.Block.{Block}
use Rattle.audit_disk.specs.declared.call.Call.{Call}
use Rattle.audit_disk.specs.declared.call.Effect.TheVariants.{Write, Sync}
use Rattle.audit_disk.specs.declared.call_log.CallLog.{CallLog}
use Rattle.audit_disk.proofs.MemoryLemmas.{after_calls-append}
use Rattle.audit_disk.proofs.MemoryCalls.{IsCurrent, current_after_write, current_after_sync, read_done, write_done, write_failed, sync_done, sync_failed}

length-content_of : (held : List Held) → length (content_of held) ≡ length held
length-content_of [] = refl
length-content_of (sector ∷ rest) = ap suc (length-content_of rest)

-- the view of a disk with this record
abbrev pub view_of : (start : List Block) (content : List Block) (log : CallLog) → IsCurrent start (bytes_of_blocks content) log.calls.items → length start < 2 ^ 64 → View
view_of start content log current sized = memory_view start (bytes_of_blocks content) log.calls.items log.clock log.failures current log.stamped sized log.in_range

module _ (start content : List Block) (log : CallLog) (current : IsCurrent start (bytes_of_blocks content) log.calls.items) (sized : length start < 2 ^ 64) where
  -- as many blocks as the disk has sectors
  pub length-content : length content ≡ length start
  length-content =
      sym (length-map content (λ (block : Block). block.bytes)) ∙ ap length current ∙ length-content_of (after_calls log.calls.items (map settled start))
      ∙ length-after_calls log.calls.items (map settled start) ∙ length-map start settled

  pub read : (at : ℕ) (block : Block) → at < length content → block ≡ get_or content at block
      → IsRead (view_of start content log current sized) (view_of start content log current sized) at block.bytes (Ok tt)
  read at block lt is =
      read_done start (bytes_of_blocks content) (bytes_of_blocks content) log.calls.items log.calls.items log.clock log.clock log.failures log.failures current current log.stamped log.stamped sized sized log.in_range log.in_range
      refl (omega arith) (omega arith) refl at block.bytes refl refl
      (ap (λ (b : Block). b.bytes) is ∙ sym (get_or-map (λ (b : Block). b.bytes) content at block [] lt))

  module _ (log' : CallLog) where
    -- the content after a write
    pub current_written : (at : ℕ) (block : Block) → Notes log log' (Write at block) → IsCurrent start (bytes_of_blocks (set content at block)) log'.calls.items
    current_written at block notes =
        map-set (λ (b : Block). b.bytes) content at block
        ∙ current_after_write start (bytes_of_blocks content) log.calls.items log'.clock at block current
        ∙ ap (λ (calls : List Call). content_of (after_calls calls (map settled start))) (sym notes.calls)

    current_synced : Notes log log' Sync → IsCurrent start (bytes_of_blocks content) log'.calls.items
    current_synced notes =
        current_after_sync start (bytes_of_blocks content) log.calls.items log'.clock current
        ∙ ap (λ (calls : List Call). content_of (after_calls calls (map settled start))) (sym notes.calls)

    current_refused : RefusesCall log log' → IsCurrent start (bytes_of_blocks content) log'.calls.items
    current_refused refuses = current ∙ ap (λ (calls : List Call). content_of (after_calls calls (map settled start))) (sym refuses.calls)

    -- the content after a sync, whatever its result
    pub current_after : (result : Outcome) → OnOk result (Notes log log' Sync) → OnErr result (RefusesCall log log') → IsCurrent start (bytes_of_blocks content) log'.calls.items
    current_after (Ok done) notes refuses = current_synced notes
    current_after (Err fault) notes refuses = current_refused refuses

    pub write_noted : (at : ℕ) (block : Block) → Notes log log' (Write at block) → (current' : IsCurrent start (bytes_of_blocks (set content at block)) log'.calls.items) (sized' : length start < 2 ^ 64)
        → IsWrite (view_of start content log current sized) (view_of start (set content at block) log' current' sized') at block.bytes (Ok tt)
    write_noted at block notes current' sized' =
        write_done start (bytes_of_blocks content) (bytes_of_blocks (set content at block)) log.calls.items log'.calls.items log.clock log'.clock log.failures log'.failures current current' log.stamped log'.stamped sized sized' log.in_range log'.in_range
        at block notes.calls notes.free notes.clock notes.failures (map-set (λ (b : Block). b.bytes) content at block)

    pub sync_noted : Notes log log' Sync → (current' : IsCurrent start (bytes_of_blocks content) log'.calls.items) (sized' : length start < 2 ^ 64)
        → IsSync (view_of start content log current sized) (view_of start content log' current' sized') (Ok tt)
    sync_noted notes current' sized' =
        sync_done start (bytes_of_blocks content) (bytes_of_blocks content) log.calls.items log'.calls.items log.clock log'.clock log.failures log'.failures current current' log.stamped log'.stamped sized sized' log.in_range log'.in_range
        notes.calls notes.free notes.clock notes.failures refl

    later : RefusesCall log log' → log.clock ≤ log'.clock
    later refuses = ⊎_elim (λ (lt : log.clock < last_count). let next = refuses.clock.before_end lt in omega arith) (λ (le : last_count ≤ log.clock). let same = refuses.clock.at_end le in omega arith) (cases_lt log.clock last_count)

    pub write_refused : (at : ℕ) (bytes : Sector) (result : Outcome) → IsErr result → RefusesCall log log' → (current' : IsCurrent start (bytes_of_blocks content) log'.calls.items) (sized' : length start < 2 ^ 64)
        → IsWrite (view_of start content log current sized) (view_of start content log' current' sized') at bytes result
    write_refused at bytes (Ok done) failed refuses current' sized' = absurd (false≢true failed)
    write_refused at bytes (Err fault) failed refuses current' sized' =
        write_failed start (bytes_of_blocks content) (bytes_of_blocks content) log.calls.items log'.calls.items log.clock log'.clock log.failures log'.failures current current' log.stamped log'.stamped sized sized' log.in_range log'.in_range
        refuses.calls (later refuses) refuses.more refl refuses.clock refuses.failures fault at bytes

    pub sync_refused : (result : Outcome) → IsErr result → RefusesCall log log' → (current' : IsCurrent start (bytes_of_blocks content) log'.calls.items) (sized' : length start < 2 ^ 64)
        → IsSync (view_of start content log current sized) (view_of start content log' current' sized') result
    sync_refused (Ok done) failed refuses current' sized' = absurd (false≢true failed)
    sync_refused (Err fault) failed refuses current' sized' =
        sync_failed start (bytes_of_blocks content) (bytes_of_blocks content) log.calls.items log'.calls.items log.clock log'.clock log.failures log'.failures current current' log.stamped log'.stamped sized sized' log.in_range log'.in_range
        refuses.calls (later refuses) refuses.more refl refuses.clock refuses.failures fault

-- what the sectors hold after a call, according to the record of calls
module _ (start : List Block) (log log' : CallLog) where
  abbrev pub held_by : CallLog → List Held
  held_by kept = after_calls kept.calls.items (map settled start)

  pub held_written : (at : ℕ) (block : Block) → Notes log log' (Write at block) → held_by log' ≡ after_write (held_by log) at block
  held_written at block notes =
      ap (λ (calls : List Call). after_calls calls (map settled start)) notes.calls
      ∙ after_calls-append log.calls.items (record { moment = log'.clock; effect = Write at block } ∷ []) (map settled start)

  pub held_synced : Notes log log' Sync → held_by log' ≡ after_sync (held_by log)
  held_synced notes =
      ap (λ (calls : List Call). after_calls calls (map settled start)) notes.calls
      ∙ after_calls-append log.calls.items (record { moment = log'.clock; effect = Sync } ∷ []) (map settled start)

  held_refused : RefusesCall log log' → held_by log' ≡ held_by log
  held_refused refuses = ap (λ (calls : List Call). after_calls calls (map settled start)) refuses.calls

  pub refused_write : (at : ℕ) (bytes : Sector) (result : Outcome) → IsErr result → RefusesCall log log' → HoldsWrite (held_by log) (held_by log') at bytes result
  refused_write at bytes (Ok done) failed refuses = absurd (false≢true failed)
  refused_write at bytes (Err fault) failed refuses = held_refused refuses

  pub refused_sync : (result : Outcome) → IsErr result → RefusesCall log log' → HoldsSync (held_by log) (held_by log') result
  refused_sync (Ok done) failed refuses = absurd (false≢true failed)
  refused_sync (Err fault) failed refuses = held_refused refuses
