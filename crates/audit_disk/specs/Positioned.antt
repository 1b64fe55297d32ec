-- A file with calls at offsets, without a count of failed calls.
use Rattle.std.specs.Prelude.{◌≡◌, ℕ, ◌*◌, ◌≤◌, List, [], length, Result, MatchResult, IsOk, IsErr, IfOk, OnErr}
use Rattle.std.specs.Coded.{Unit-prop}
use Rattle.std.proofs.Props.{props}
use Rattle.audit_disk_model.specs.Image.{Sector, Image}
use Rattle.audit_disk_model.specs.View.{View}
use Rattle.audit_disk_model.specs.Calls.{CountsFailure}
use Rattle.audit_disk.specs.File.{FileView, OnlyFileReads, IsRowRead, IsRowWrite, IsFileSync, sectors_of}
use Rattle.audit_base.specs.declared.limits.TheConstants.{SECTOR_SIZE}

-- what is known of it, as in a `FileView`
pub record PositionedView : Type 1 where
  pub bytes : List ℕ
  pub moment : ℕ
  pub left_at : ℕ → List ℕ → Type 0
  pub gave : ℕ → Sector → Type 0
  -- a call of it has failed
  pub failed : Type 0
  -- the last call of it failed
  pub last_failed : Type 0
  -- its last call returned this length in bytes
  pub told : ℕ → Type 0
  pub honest : Type 0
  pub given_once : (offset : ℕ) (bytes : Sector) → IsProp (gave offset bytes)
  pub failed_once : IsProp failed
  pub bytes_left : honest → left_at moment bytes
  pub same_length : honest → (at : ℕ) (file : List ℕ) → left_at at file → length file ≡ length bytes

-- the file together with this count of failed calls
abbrev pub counted_file : PositionedView → ℕ → FileView
counted_file file failures = record {
  bytes = file.bytes;
  moment = file.moment;
  left_at = file.left_at;
  failures = failures;
  gave = file.gave;
  honest = file.honest;
  given_once = file.given_once;
  bytes_left = file.bytes_left;
  same_length = file.same_length;
}

-- the file without its count of failures
abbrev pub uncounted : FileView → PositionedView
uncounted file = record {
  bytes = file.bytes;
  moment = file.moment;
  left_at = file.left_at;
  gave = file.gave;
  failed = 1 ≤ file.failures;
  last_failed = 1 ≤ file.failures;
  told = λ bytes. file.honest → bytes ≡ length file.bytes;
  honest = file.honest;
  given_once = file.given_once;
  failed_once = Prim.hlevel props;
  bytes_left = file.bytes_left;
  same_length = file.same_length;
}

-- A file of which nothing is known, so clauses about honest files hold only if honesty is assumed.
abbrev pub unknown_positioned : PositionedView
unknown_positioned = record {
  bytes = [];
  moment = 0;
  left_at = λ moment file. ⊥;
  gave = λ offset bytes. Unit {0};
  failed = Unit {0};
  last_failed = Unit {0};
  told = λ bytes. Unit {0};
  honest = ⊥;
  given_once = λ offset bytes. Unit-prop;
  failed_once = Unit-prop;
  bytes_left = λ honest. absurd honest;
  same_length = λ honest. absurd honest;
}

-- both are Ok, or both are errors
abbrev pub AnswersAlike : {E D : Type 0} → Result (Unit {0}) E → Result (Unit {0}) D → Type 0
AnswersAlike one other = MatchResult one (λ _. IsOk other) (λ _. IsErr other)

-- After an error this call is known to have failed. That a call has failed is known from then on; that the last one
-- did isn't after another.
pub record FailsAsCalled {A E : Type 0} (old new : PositionedView) (result : Result A E) : Type 0 where
  pub fails : OnErr result new.failed
  pub last : OnErr result new.last_failed
  pub still : old.failed → new.failed

-- A read of `count` consecutive sectors, whatever count of failed calls is kept beside the file.
pub record IsPositionedRead {E : Type 0} (old new : PositionedView) (offset count : ℕ) (sectors : Image)
    (result : Result (Unit {0}) E) : Type 0 where
  pub counted : (failures failures' : ℕ) → CountsFailure failures failures' result
      → IsRowRead (counted_file old failures) (counted_file new failures') offset count sectors result
  pub cause : FailsAsCalled old new result

-- A write of consecutive sectors, whatever count is kept.
pub record IsPositionedWrite {E : Type 0} (old new : PositionedView) (offset : ℕ) (row : List Sector)
    (result : Result (Unit {0}) E) : Type 0 where
  pub counted : (failures failures' : ℕ) → CountsFailure failures failures' result
      → IsRowWrite (counted_file old failures) (counted_file new failures') offset row result
  pub cause : FailsAsCalled old new result

-- A sync, whatever count is kept.
pub record IsPositionedSync {E : Type 0} (old new : PositionedView) (result : Result (Unit {0}) E) : Type 0 where
  pub counted : (failures failures' : ℕ) → CountsFailure failures failures' result
      → IsFileSync (counted_file old failures) (counted_file new failures') result
  pub cause : FailsAsCalled old new result

-- No write or sync was requested.
abbrev pub IsOnlyRead : PositionedView → PositionedView → Type 0
IsOnlyRead old new = OnlyFileReads (counted_file old 0) (counted_file new 0)

-- Nothing changed, and the number is the length in bytes.
pub record IsMeasured {E : Type 0} (old new : PositionedView) (result : Result ℕ E) : Type 0 where
  pub only : IsOnlyRead old new
  pub found : old.honest → IfOk result (λ bytes. bytes ≡ length old.bytes)
  pub told : IfOk result new.told
  pub cause : FailsAsCalled old new result

-- no write or sync was requested
abbrev pub IsUncalled : PositionedView → Type 0
IsUncalled file = file.honest → file.moment ≡ 0

-- The device has the first sectors of the file, and no call of it was made.
pub record ShowsFront (file : PositionedView) (view : View) : Type 0 where
  pub honest : file.honest → view.honest
  pub was_honest : view.honest → file.honest
  pub within : file.honest → SECTOR_SIZE * view.size ≤ length file.bytes
  pub content : file.honest → view.content ≡ sectors_of view.size file.bytes
  -- a crash now may leave the sectors of any file that a crash may leave, and nothing else
  pub left : file.honest → (bytes : List ℕ) → file.left_at file.moment bytes
      → view.left_at 0 (sectors_of view.size bytes)
  pub no_other : (image : Image) → view.left_at 0 image → (bytes : List ℕ) × file.left_at file.moment bytes
      × (image ≡ sectors_of view.size bytes)
