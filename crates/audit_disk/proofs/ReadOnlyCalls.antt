-- The calls of a device over a source that is only read follow the crash model.
use Rattle.std.proofs.Common.{◌≡◌, inl, inr, ⊎_elim, ℕ, ◌<◌, ◌≤◌, nat_le, cond, Option, Some, None, Ok, Err, List, [], ◌∷◌, ◌++◌, reverse, length, OnOk, OnErr, refl, sym, ◌∙◌, ap, subst, arith}
use Rattle.std.specs.List.{filter}
use Rattle.std.proofs.lemmas.Bool.{lt-leb, cases_lt}
use Rattle.std.proofs.lemmas.List.{append-nil, reverse-append, length-set, get_or-set_same, get_or-set_other}
use Rattle.std.proofs.lemmas.List.Elements.{filter-append}
use Rattle.audit_disk_model.specs.Image.{Sector, Image, sector_at, with_sector}
use Rattle.audit_disk_model.specs.View.{View, last_count}
use Rattle.audit_disk_model.specs.Calls.{Outcome, Continues, HasRisen, CountsFailure, Ticks, IsRead, IsWrite, IsSync}
use Rattle.audit_disk_model.specs.declared.fault.DeviceFault.{DeviceFault}
use Rattle.audit_disk.specs.CallLog.{Notes, RefusesCall}
use Rattle.audit_disk.specs.Memory.{calls_until}
use Rattle.audit_disk.specs.MemoryLaws.{calls_until_all}
use Rattle.audit_disk.specs.SectorSource.{SourceView, IsSameSource}
use Rattle.audit_disk.specs.ReadOnly.{content_by, content_over, images_after, left_over, bytes_or, IsLastWritten, IsReadThrough}
use Rattle.audit_disk.specs.OverlayView.{overlay_view}
use Rattle.audit_disk.specs.declared.block.Block.{Block}
use Rattle.audit_disk.specs.declared.call.Call.{Call}
use Rattle.audit_disk.specs.declared.call.Effect.{Effect}
use Rattle.audit_disk.specs.declared.call.Effect.TheVariants.{Write, Sync}
use Rattle.audit_disk.specs.declared.call_log.CallLog.{CallLog}

pub length-content_over : (calls : List Call) (start : Image) → length (content_over calls start) ≡ length start
length-content_over [] start = refl
length-content_over (call ∷ older) start = by_effect call.effect (content_over older start) (length-content_over older start)
  where
    by_effect : (effect : Effect) (content : Image) → length content ≡ length start → length (content_by effect content) ≡ length start
    by_effect (Write at block) content same = length-set content at block.bytes ∙ same
    by_effect Sync content same = same

-- one more call
pub one_more : (calls : List Call) (call : Call) → reverse (calls ++ call ∷ []) ≡ call ∷ reverse calls
one_more calls call = reverse-append calls (call ∷ [])

-- after no call, and after one more
pub none_written : (at : ℕ) → IsLastWritten [] at None
none_written at = record { over = λ image lt. refl }

module _ (calls : List Call) (at : ℕ) (found : Option Block) (last : IsLastWritten calls at found) (call : Call) where
  later : (bytes : Sector → Sector) → ((image : Image) → at < length image → sector_at (content_by call.effect (content_over (reverse calls) image)) at ≡ bytes (sector_at image at))
      → (image : Image) → at < length image → sector_at (content_over (reverse (calls ++ call ∷ [])) image) at ≡ bytes (sector_at image at)
  later bytes one image lt = ap (λ (all : List Call). sector_at (content_over all image) at) (one_more calls call) ∙ one image lt

  -- the call wrote that sector
  pub written_here : (place : ℕ) (block : Block) → call.effect ≡ Write place block → place ≡ at → IsLastWritten (calls ++ call ∷ []) at (Some block)
  written_here place block is here = record {
    over = later (λ own. block.bytes)
        (λ image lt.
        ap (λ (effect : Effect). sector_at (content_by effect (content_over (reverse calls) image)) at) is
        ∙ ap (λ (n : ℕ). sector_at (with_sector (content_over (reverse calls) image) n block.bytes) at) here
        ∙ get_or-set_same (content_over (reverse calls) image) at block.bytes [] (omega (arith, length-content_over (reverse calls) image)));
  }

  -- the call wrote another sector
  pub written_elsewhere : (place : ℕ) (block : Block) → call.effect ≡ Write place block → (place ≡ at → ⊥) → IsLastWritten (calls ++ call ∷ []) at found
  written_elsewhere place block is other = record {
    over = later (bytes_or found)
        (λ image lt.
        ap (λ (effect : Effect). sector_at (content_by effect (content_over (reverse calls) image)) at) is
        ∙ get_or-set_other (content_over (reverse calls) image) place at block.bytes [] (λ same. other (sym same))
        ∙ last.over image lt);
  }

  -- the call wrote no sector
  pub synced_only : call.effect ≡ Sync → IsLastWritten (calls ++ call ∷ []) at found
  synced_only is = record {
    over = later (bytes_or found)
        (λ image lt. ap (λ (effect : Effect). sector_at (content_by effect (content_over (reverse calls) image)) at) is ∙ last.over image lt);
  }

-- up to an earlier moment there are no further calls
pub until_before : (calls : List Call) (call : Call) (moment : ℕ) → moment < call.moment → calls_until moment (calls ++ call ∷ []) ≡ calls_until moment calls
until_before calls call moment lt =
    let p = λ (it : Call). nat_le it.moment moment in
    filter-append p calls (call ∷ [])
    ∙ ap (λ b. filter p calls ++ cond b (call ∷ []) []) (lt-leb call.moment moment lt)
    ∙ append-nil (filter p calls)

abbrev pub view_of : SourceView → CallLog → View
view_of source log = overlay_view source log.calls.items log.clock log.failures log.stamped log.in_range

module _ (source : SourceView) (log log' : CallLog) where
  abbrev start : Image
  start = source.content

  abbrev old : View
  old = view_of source log

  abbrev new : View
  new = view_of source log'

  -- what a crash now may leave of an honest source
  abbrev leaves : Image → Type 0
  leaves image = left_over (reverse (calls_until log.clock log.calls.items)) start image

  abbrev left : Image → Type 0
  left image = source.honest × leaves image

  -- nothing was recorded
  module _ (same : log'.calls.items ≡ log.calls.items) (later : log.clock ≤ log'.clock) (more : log.failures ≤ log'.failures) where
    until_same : (moment : ℕ) → calls_until moment log'.calls.items ≡ calls_until moment log.calls.items
    until_same moment = ap (λ (all : List Call). calls_until moment all) same

    continues_same : Continues old new
    continues_same = record {
      size = refl;
      clock = later;
      failures = more;
      honest = λ honest. honest;
      was_honest = λ honest. honest;
      kept = λ moment image le is. (is.0, subst (λ (all : List Call). left_over (reverse all) start image) (sym (until_same moment)) is.1);
      no_other = λ moment image le is. (is.0, subst (λ (all : List Call). left_over (reverse all) start image) (until_same moment) is.1);
    }

    now_same : calls_until log'.clock log'.calls.items ≡ calls_until log.clock log.calls.items
    now_same = calls_until_all log'.calls.items log'.clock log'.stamped ∙ same ∙ sym (calls_until_all log.calls.items log.clock log.stamped)

    content_same : new.content ≡ old.content
    content_same = ap (λ (all : List Call). content_over (reverse all) start) same

    out : (image : Image) → left image → new.left_at log'.clock image
    out image is = (is.0, subst (λ (all : List Call). left_over (reverse all) start image) (sym now_same) is.1)

    into_old : (image : Image) → new.left_at log'.clock image → left image
    into_old image is = (is.0, subst (λ (all : List Call). left_over (reverse all) start image) now_same is.1)

    -- the source was read
    module _ (source' : SourceView) (as_before : IsSameSource source source') where
      abbrev after : View
      after = view_of source' log'

      continues_read : Continues old after
      continues_read = record {
        size = as_before.size;
        clock = later;
        failures = more;
        honest = as_before.honest;
        was_honest = as_before.was_honest;
        kept = λ moment image le is.
            let still = (continues_same.kept moment image le is).1 in
            (as_before.honest is.0, subst (λ (from : Image). left_over (reverse (calls_until moment log'.calls.items)) from image) (sym (as_before.content is.0)) still);
        no_other = λ moment image le is.
            let honest = as_before.was_honest is.0 in
            continues_same.no_other moment image le (honest, subst (λ (from : Image). left_over (reverse (calls_until moment log'.calls.items)) from image) (as_before.content honest) is.1);
      }

      pub read_is : (at : ℕ) (into : Sector) (result : Outcome) → log'.clock ≡ log.clock → CountsFailure log.failures log'.failures result → IsReadThrough source log.calls.items at into result
          → IsRead old after at into result
      read_is at into result still counts through = record {
        continues = continues_read;
        clock = still;
        failures = counts;
        content = λ honest. ap (λ (from : Image). content_over (reverse log'.calls.items) from) (as_before.content honest) ∙ content_same;
        bytes = through;
      }

    module _ (ticks : Ticks log.clock log'.clock) (risen : HasRisen log.failures log'.failures) (fault : DeviceFault) where
      write_fails : (at : ℕ) (bytes : Sector) → IsWrite old new at bytes (Err fault)
      write_fails at bytes = record {
        continues = continues_same;
        clock = ticks;
        failures = risen;
        content = λ honest. tt;
        content_err = λ honest. inl content_same;
        images = λ honest image is. record { either = inl (into_old image is) };
        unwritten = λ honest image is. out image is;
        written = λ honest. tt;
        at_end = λ end. refl;
        at_end_same = λ end honest. content_same;
      }

      sync_fails : IsSync old new (Err fault)
      sync_fails = record {
        continues = continues_same;
        clock = ticks;
        failures = risen;
        content = λ honest. content_same;
        only = λ honest. tt;
        no_other = λ honest image is. into_old image is;
        kept = λ honest image is. out image is;
        at_end = λ end. refl;
      }

  later_of : RefusesCall log log' → log.clock ≤ log'.clock
  later_of refuses = ⊎_elim (λ (lt : log.clock < last_count). let next = refuses.clock.before_end lt in omega arith) (λ (le : last_count ≤ log.clock). let same = refuses.clock.at_end le in omega arith) (cases_lt log.clock last_count)

  pub write_refused : (at : ℕ) (bytes : Sector) (fault : DeviceFault) → RefusesCall log log' → IsWrite old new at bytes (Err fault)
  write_refused at bytes fault refuses = write_fails refuses.calls (later_of refuses) refuses.more refuses.clock refuses.failures fault at bytes

  pub sync_refused : (fault : DeviceFault) → RefusesCall log log' → IsSync old new (Err fault)
  sync_refused fault refuses = sync_fails refuses.calls (later_of refuses) refuses.more refuses.clock refuses.failures fault

  -- the images after a call, of an honest source
  of_honest : (effect : Effect) (content image : Image) → source.honest → images_after effect content leaves image → images_after effect content left image
  of_honest (Write at block) content image honest may = record {
    either = ⊎_elim (λ (before : leaves image). inl (honest, before))
        (λ (over : (before : Image) × leaves before × (image ≡ with_sector before at block.bytes)). inr (over.0, (honest, over.1), over.2)) may.either;
  }
  of_honest Sync content image honest same = same

  of_any : (effect : Effect) (content image : Image) → images_after effect content left image → images_after effect content leaves image
  of_any (Write at block) content image may = record {
    either = ⊎_elim (λ (before : left image). inl before.1)
        (λ (over : (before : Image) × left before × (image ≡ with_sector before at block.bytes)). inr (over.0, over.1.1, over.2)) may.either;
  }
  of_any Sync content image same = same

  -- the call was recorded
  module _ (effect : Effect) (notes : Notes log log' effect) where
    call : Call
    call = record { moment = log'.clock; effect = effect }

    until_kept : (moment : ℕ) → moment ≤ log.clock → calls_until moment log'.calls.items ≡ calls_until moment log.calls.items
    until_kept moment le =
        ap (λ (all : List Call). calls_until moment all) notes.calls
        ∙ until_before log.calls.items (record { moment = log'.clock; effect = effect }) moment (omega (arith, notes.clock))

    continues_next : Continues old new
    continues_next = record {
      size = refl;
      clock = omega (arith, notes.clock);
      failures = omega (arith, notes.failures);
      honest = λ honest. honest;
      was_honest = λ honest. honest;
      kept = λ moment image le is. (is.0, subst (λ (all : List Call). left_over (reverse all) start image) (sym (until_kept moment le)) is.1);
      no_other = λ moment image le is. (is.0, subst (λ (all : List Call). left_over (reverse all) start image) (until_kept moment le) is.1);
    }

    ticks_next : Ticks log.clock log'.clock
    ticks_next = record { before_end = λ lt. notes.clock; at_end = λ le. absurd (omega (arith, notes.free)) }

    content_next : new.content ≡ content_by effect old.content
    content_next =
        ap (λ (all : List Call). content_over (reverse all) start) notes.calls
        ∙ ap (λ (all : List Call). content_over all start) (one_more log.calls.items (record { moment = log'.clock; effect = effect }))

    -- all calls, latest first
    now_next : reverse (calls_until log'.clock log'.calls.items) ≡ record { moment = log'.clock; effect = effect } ∷ reverse (calls_until log.clock log.calls.items)
    now_next =
        ap reverse (calls_until_all log'.calls.items log'.clock log'.stamped ∙ notes.calls)
        ∙ one_more log.calls.items (record { moment = log'.clock; effect = effect })
        ∙ ap (λ (all : List Call). record { moment = log'.clock; effect = effect } ∷ reverse all) (sym (calls_until_all log.calls.items log.clock log.stamped))

    pub into_next : (image : Image) → new.left_at log'.clock image → images_after effect (content_over (reverse (calls_until log.clock log.calls.items)) start) left image
    into_next image is =
        of_honest effect (content_over (reverse (calls_until log.clock log.calls.items)) start) image is.0 (subst (λ (all : List Call). left_over all start image) now_next is.1)

    pub out_next : source.honest → (image : Image) → images_after effect (content_over (reverse (calls_until log.clock log.calls.items)) start) left image → new.left_at log'.clock image
    out_next honest image is =
        (honest, subst (λ (all : List Call). left_over all start image) (sym now_next) (of_any effect (content_over (reverse (calls_until log.clock log.calls.items)) start) image is))

  pub write_noted : (at : ℕ) (block : Block) → Notes log log' (Write at block) → IsWrite old new at block.bytes (Ok tt)
  write_noted at block notes = record {
    continues = continues_next (Write at block) notes;
    clock = ticks_next (Write at block) notes;
    failures = notes.failures;
    content = λ honest. content_next (Write at block) notes;
    content_err = λ honest. tt;
    images = λ honest image is. into_next (Write at block) notes image is;
    unwritten = λ honest image is. out_next (Write at block) notes honest image (record { either = inl is });
    written = λ honest image is. out_next (Write at block) notes honest (with_sector image at block.bytes) (record { either = inr (image, is, refl) });
    at_end = λ end. absurd (omega (arith, notes.free));
    at_end_same = λ end honest. absurd (omega (arith, notes.free));
  }

  pub sync_noted : Notes log log' Sync → IsSync old new (Ok tt)
  sync_noted notes = record {
    continues = continues_next Sync notes;
    clock = ticks_next Sync notes;
    failures = notes.failures;
    content = λ honest. content_next Sync notes;
    only = λ honest image is.
        into_next Sync notes image is ∙ ap (λ (all : List Call). content_over (reverse all) start) (calls_until_all log.calls.items log.clock log.stamped);
    no_other = λ honest. tt;
    kept = λ honest. tt;
    at_end = λ end. absurd (omega (arith, notes.free));
  }

  -- whatever the result
  pub write_is : (at : ℕ) (block : Block) (result : Outcome) → OnOk result (Notes log log' (Write at block)) → OnErr result (RefusesCall log log') → IsWrite old new at block.bytes result
  write_is at block (Ok done) notes refuses = write_noted at block notes
  write_is at block (Err fault) notes refuses = write_refused at block.bytes fault refuses

  pub sync_is : (result : Outcome) → OnOk result (Notes log log' Sync) → OnErr result (RefusesCall log log') → IsSync old new result
  sync_is (Ok done) notes refuses = sync_noted notes
  sync_is (Err fault) notes refuses = sync_refused fault refuses

-- the content that was found, or else the source's sector
pub found_through : (source : SourceView) (calls : List Call) (at : ℕ) (block : Block) (into : Sector) → at < source.size → IsLastWritten calls at (Some block) → into ≡ block.bytes
    → IsReadThrough source calls at into (Ok tt)
found_through source calls at block into lt last same = λ honest. same ∙ sym (last.over source.content (omega (arith, (source.whole honest).sectors)))

pub source_through : (source : SourceView) (calls : List Call) (at : ℕ) (into : Sector) (result : Outcome) → at < source.size → IsLastWritten calls at None
    → (source.honest → OnOk result (into ≡ sector_at source.content at)) → IsReadThrough source calls at into result
source_through source calls at into (Ok done) lt last read = λ honest. read honest ∙ sym (last.over source.content (omega (arith, (source.whole honest).sectors)))
source_through source calls at into (Err fault) lt last read = λ honest. tt
