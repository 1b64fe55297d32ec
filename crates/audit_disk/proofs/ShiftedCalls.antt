-- Calls that are passed on to the inner device, and calls that it misses, follow the crash model.
use Rattle.std.proofs.Common.{◌≡◌, inl, inr, ⊎_elim, ℕ, ◌+◌, ◌^◌, ◌<◌, ◌≤◌, Ok, Err, IsErr, OnOk, OnErr, refl, sym, ap, subst, arith}
use Rattle.std.proofs.lemmas.Bool.{false≢true, cases_lt}
use Rattle.audit_disk_model.specs.Image.{Sector, Image, with_sector}
use Rattle.audit_disk_model.specs.View.{View, last_count}
use Rattle.audit_disk_model.specs.Calls.{Outcome, Continues, CountsFailure, HasRisen, Ticks, IsRead, IsWrite, IsSync}
use Rattle.audit_disk.specs.Shifted.{inner_moment, MayMiss}
use Rattle.audit_disk.specs.ShiftedView.{shifted}
use Rattle.audit_disk.specs.ShiftedLaws.{inner_moment_now}

-- an image now is one of the inner device now
now_in : (view : View) (place missed : ℕ) (image : Image) → place ≤ view.clock → view.left_at (inner_moment place missed (view.clock + missed)) image → view.left_at view.clock image
now_in view place missed image le left = subst (λ (moment : ℕ). view.left_at moment image) (inner_moment_now place missed view.clock le) left

now_out : (view : View) (place missed : ℕ) (image : Image) → place ≤ view.clock → view.left_at view.clock image → view.left_at (inner_moment place missed (view.clock + missed)) image
now_out view place missed image le left = subst (λ (moment : ℕ). view.left_at moment image) (sym (inner_moment_now place missed view.clock le)) left

counts_more : (old new refused : ℕ) (result : Outcome) → CountsFailure old new result → CountsFailure (old + refused) (new + refused) result
counts_more old new refused (Ok done) same = ap (λ (n : ℕ). n + refused) same
counts_more old new refused (Err fault) risen = omega arith

-- a call that was passed on
module _ (old new : View) (place missed refused : ℕ) (in_step : place ≤ old.clock) (in_step' : place ≤ new.clock)
    (fits : old.clock + missed < 2 ^ 64) (fits' : new.clock + missed < 2 ^ 64) where
  passed : Continues old new → Continues (shifted old place missed refused in_step fits) (shifted new place missed refused in_step' fits')
  passed continues = record {
    size = continues.size;
    clock = omega (arith, continues.clock);
    failures = omega (arith, continues.failures);
    honest = continues.honest;
    was_honest = continues.was_honest;
    kept = λ moment image le left. continues.kept (inner_moment place missed moment) image (omega arith) left;
    no_other = λ moment image le left. continues.no_other (inner_moment place missed moment) image (omega arith) left;
  }

  ticked : old.clock + missed < last_count → Ticks old.clock new.clock → Ticks (old.clock + missed) (new.clock + missed)
  ticked free ticks = let next = ticks.before_end (omega arith) in record { before_end = λ lt. omega arith; at_end = λ le. absurd (omega arith) }

  pub read_passed : (at : ℕ) (into : Sector) (result : Outcome) → IsRead old new at into result
      → IsRead (shifted old place missed refused in_step fits) (shifted new place missed refused in_step' fits') at into result
  read_passed at into result read = record {
    continues = passed read.continues;
    clock = ap (λ (n : ℕ). n + missed) read.clock;
    failures = counts_more old.failures new.failures refused result read.failures;
    content = read.content;
    bytes = read.bytes;
  }

  pub write_passed : (at : ℕ) (bytes : Sector) (result : Outcome) → old.clock + missed < last_count → IsWrite old new at bytes result
      → IsWrite (shifted old place missed refused in_step fits) (shifted new place missed refused in_step' fits') at bytes result
  write_passed at bytes result free write = record {
    continues = passed write.continues;
    clock = ticked free write.clock;
    failures = counts_more old.failures new.failures refused result write.failures;
    content = write.content;
    content_err = write.content_err;
    images = λ honest image left.
        ⊎_elim
        (λ (same : old.left_at old.clock image). record { either = inl (now_out old place missed image in_step same) })
        (λ (over : (before : Image) × old.left_at old.clock before × (image ≡ with_sector before at bytes)).
        record { either = inr (over.0, now_out old place missed over.0 in_step over.1, over.2) })
        (write.images honest image (now_in new place missed image in_step' left)).either;
    unwritten = λ honest image left. now_out new place missed image in_step' (write.unwritten honest image (now_in old place missed image in_step left));
    written = λ honest. written result (write.written honest);
    at_end = λ le. absurd (omega arith);
    at_end_same = λ le honest. absurd (omega arith);
  }
    where
      written : (result : Outcome) → OnOk result ((image : Image) → old.left_at old.clock image → new.left_at new.clock (with_sector image at bytes))
          → OnOk result ((image : Image) → old.left_at (inner_moment place missed (old.clock + missed)) image → new.left_at (inner_moment place missed (new.clock + missed)) (with_sector image at bytes))
      written (Ok done) over = λ image left. now_out new place missed (with_sector image at bytes) in_step' (over image (now_in old place missed image in_step left))
      written (Err fault) over = tt

  pub sync_passed : (result : Outcome) → old.clock + missed < last_count → IsSync old new result
      → IsSync (shifted old place missed refused in_step fits) (shifted new place missed refused in_step' fits') result
  sync_passed result free sync = record {
    continues = passed sync.continues;
    clock = ticked free sync.clock;
    failures = counts_more old.failures new.failures refused result sync.failures;
    content = sync.content;
    only = λ honest. only result (sync.only honest);
    no_other = λ honest. no_other result (sync.no_other honest);
    kept = λ honest. kept result (sync.kept honest);
    at_end = λ le. absurd (omega arith);
  }
    where
      only : (result : Outcome) → OnOk result ((image : Image) → new.left_at new.clock image → image ≡ old.content)
          → OnOk result ((image : Image) → new.left_at (inner_moment place missed (new.clock + missed)) image → image ≡ old.content)
      only (Ok done) it = λ image left. it image (now_in new place missed image in_step' left)
      only (Err fault) it = tt

      no_other : (result : Outcome) → OnErr result ((image : Image) → new.left_at new.clock image → old.left_at old.clock image)
          → OnErr result ((image : Image) → new.left_at (inner_moment place missed (new.clock + missed)) image → old.left_at (inner_moment place missed (old.clock + missed)) image)
      no_other (Ok done) it = tt
      no_other (Err fault) it = λ image left. now_out old place missed image in_step (it image (now_in new place missed image in_step' left))

      kept : (result : Outcome) → OnErr result ((image : Image) → old.left_at old.clock image → new.left_at new.clock image)
          → OnErr result ((image : Image) → old.left_at (inner_moment place missed (old.clock + missed)) image → new.left_at (inner_moment place missed (new.clock + missed)) image)
      kept (Ok done) it = tt
      kept (Err fault) it = λ image left. now_out new place missed image in_step' (it image (now_in old place missed image in_step left))

-- a call that the inner device didn't see
module _ (inner : View) (place place' missed missed' refused refused' : ℕ) (in_step : place ≤ inner.clock) (in_step' : place' ≤ inner.clock)
    (fits : inner.clock + missed < 2 ^ 64) (fits' : inner.clock + missed' < 2 ^ 64)
    (same : (moment : ℕ) → moment ≤ inner.clock + missed → inner_moment place' missed' moment ≡ inner_moment place missed moment)
    (later : missed ≤ missed') (more : refused ≤ refused') where
  abbrev before : View
  before = shifted inner place missed refused in_step fits

  abbrev after : View
  after = shifted inner place' missed' refused' in_step' fits'

  missed_call : Continues before after
  missed_call = record {
    size = refl;
    clock = omega arith;
    failures = omega arith;
    honest = λ honest. honest;
    was_honest = λ honest. honest;
    kept = λ moment image le left. subst (λ (m : ℕ). inner.left_at m image) (sym (same moment le)) left;
    no_other = λ moment image le left. subst (λ (m : ℕ). inner.left_at m image) (same moment le) left;
  }

  module _ (risen : HasRisen (inner.failures + refused) (inner.failures + refused')) where
    pub read_missed : (at : ℕ) (into : Sector) (result : Outcome) → IsErr result → missed' ≡ missed → IsRead before after at into result
    read_missed at into (Ok done) failed still = absurd (false≢true failed)
    read_missed at into (Err fault) failed still = record {
      continues = missed_call;
      clock = ap (λ (n : ℕ). inner.clock + n) still;
      failures = risen;
      content = λ honest. refl;
      bytes = λ honest. tt;
    }

    module _ (ticks : Ticks (inner.clock + missed) (inner.clock + missed')) where
      pub write_missed : (at : ℕ) (bytes : Sector) (result : Outcome) → IsErr result → IsWrite before after at bytes result
      write_missed at bytes (Ok done) failed = absurd (false≢true failed)
      write_missed at bytes (Err fault) failed = record {
        continues = missed_call;
        clock = ticks;
        failures = risen;
        content = λ honest. tt;
        content_err = λ honest. inl refl;
        images = λ honest image left. record { either = inl (now_out inner place missed image in_step (now_in inner place' missed' image in_step' left)) };
        unwritten = λ honest image left. now_out inner place' missed' image in_step' (now_in inner place missed image in_step left);
        written = λ honest. tt;
        at_end = λ end. refl;
        at_end_same = λ end honest. refl;
      }

      pub sync_missed : (result : Outcome) → IsErr result → IsSync before after result
      sync_missed (Ok done) failed = absurd (false≢true failed)
      sync_missed (Err fault) failed = record {
        continues = missed_call;
        clock = ticks;
        failures = risen;
        content = λ honest. refl;
        only = λ honest. tt;
        no_other = λ honest image left. now_out inner place missed image in_step (now_in inner place' missed' image in_step' left);
        kept = λ honest image left. now_out inner place' missed' image in_step' (now_in inner place missed image in_step left);
        at_end = λ end. refl;
      }

-- one more call is missed, and earlier moments stay
pub missed_more : (place missed clock moment : ℕ) → MayMiss place missed clock → moment ≤ clock + missed → inner_moment clock (missed + 1) moment ≡ inner_moment place missed moment
missed_more place missed clock moment may le =
    ⊎_elim
    (λ (some : 0 < missed). let at = may some in omega arith)
    (λ (none : missed ≤ 0). omega arith)
    (cases_lt 0 missed)
