-- Why the end of a file can't be read.
use Rattle.std.specs.Prelude.{Some, None, Option, Result, Ok, Err, IfErr, IfOk, IfSome}
use Rattle.std.specs.List.{after_first}
use Rattle.std.proofs.Common.{◌≡◌, ◌∙◌, ◌⊎◌, ◌<◌, ◌+◌, ◌-◌, ◌^◌, inl, inr, ℕ, List, length, take, drop, sym, ap, subst, arith}
use Rattle.audit_text.specs.Lines.{is_line_feed, IsCutInLines}
use Rattle.audit_cli_connection.specs.declared.fault.RemoteError.{RemoteError}
use Rattle.audit_cli_connection.specs.declared.fault.RemoteError.TheVariants.{BadStateLine}
use Rattle.audit_cli_witness.specs.declared.state_lines.Tail.{Tail}
use Rattle.audit_cli_witness.specs.declared.state_file.TheConstants.{TAIL_LEN}
use Rattle.audit_cli_witness.specs.State.{ReadsTail, HoldsLines}
use Rattle.audit_cli_witness.specs.StateFaults.{IsBadStateLine, IsRefusedLine, HasNoBadLine, HasLineCause, HasStateCause, HasReadCause, end_start, judged_text, line_feeds}
use Rattle.audit_cli_witness.proofs.FileLines.{judged_whole, judged_end, first_bad, first_bad_whole, long_line, none_refused}

-- an error of reading a file of which the length is known
abbrev pub HasEndCause : Type 0 → Option (List ℕ) → ℕ → RemoteError → Type 0
HasEndCause Failed known size fault = HasStateCause Failed fault ⊎ ((line : ℕ) × (fault ≡ BadStateLine line)
    × IfSome known (λ file. size ≡ length file → IsRefusedLine file line))

-- the same of a line that was numbered from a place on
abbrev pub HasNumberCause : Type 0 → Option (List ℕ) → ℕ → ℕ → RemoteError → Type 0
HasNumberCause Failed known before line fault = HasStateCause Failed fault ⊎ ((number : ℕ) × (fault ≡ BadStateLine number)
    × IfSome known (λ file. line_feeds (take before file) + line < 2 ^ 64 → number ≡ line_feeds (take before file) + line))

same_start : (file : List ℕ) (start size : ℕ) → start ≡ size - TAIL_LEN → size ≡ length file → start ≡ end_start file
same_start file start size is sized = is ∙ ap (λ n. n - TAIL_LEN) sized

-- ---- all of the file was read

whole_text : (file text : List ℕ) (start : ℕ) → text ≡ drop start file → start ≡ 0 → text ≡ file
whole_text file text start is none = is ∙ ap (λ n. drop n file) none

pub whole_sound : (read : Result Tail RemoteError) (known : Option (List ℕ)) (text : List ℕ) (start size : ℕ) → IfOk read (ReadsTail text) → IfSome known (λ file. text ≡ drop start file) → start ≡ size - TAIL_LEN → start ≡ 0
    → IfOk read (λ tail. IfSome known (λ file. size ≡ length file → HasNoBadLine file))
whole_sound (Err fault) known text start size reads is at none = tt
whole_sound (Ok tail) None text start size reads is at none = tt
whole_sound (Ok tail) (Some file) text start size reads is at none = λ sized.
    let whole : end_start file ≡ 0 = sym (same_start file start size at sized) ∙ none in
    let same : text ≡ judged_text file = whole_text file text start is none ∙ sym (judged_whole file whole) in
    none_refused file tail.kept.items tail.torn tail.lacks_feed (subst (λ (t : List ℕ). HoldsLines t tail.kept.items tail.torn tail.lacks_feed) same reads) (inl whole)

whole_cause : (Failed : Type 0) (fault : RemoteError) (known : Option (List ℕ)) (text : List ℕ) (start size : ℕ) → HasLineCause text fault → IfSome known (λ file. text ≡ drop start file) → start ≡ size - TAIL_LEN → start ≡ 0
    → HasEndCause Failed known size fault
whole_cause Failed fault known text start size (inl memory) is at none = inl (inr (inl memory))
whole_cause Failed fault None text start size (inr bad) is at none = inr (bad.0, bad.1, tt)
whole_cause Failed fault (Some file) text start size (inr bad) is at none = inr (
  bad.0,
  bad.1,
  λ sized.
      inl (first_bad_whole file bad.0 (sym (same_start file start size at sized) ∙ none) (subst (λ (t : List ℕ). IsBadStateLine t bad.0) (whole_text file text start is none) bad.2)),
)

pub whole_failed : (Failed : Type 0) (read : Result Tail RemoteError) (known : Option (List ℕ)) (text : List ℕ) (start size : ℕ) → IfErr read (HasLineCause text) → IfSome known (λ file. text ≡ drop start file) → start ≡ size - TAIL_LEN → start ≡ 0
    → IfErr read (HasEndCause Failed known size)
whole_failed Failed (Ok tail) known text start size cause is at none = tt
whole_failed Failed (Err fault) known text start size cause is at none = whole_cause Failed fault known text start size cause is at none

-- ---- the end of a long file was

end_text : (file text line lines : List ℕ) (start size : ℕ) → text ≡ drop start file → IsCutInLines text line lines → start ≡ size - TAIL_LEN → (start ≡ 0 → ⊥) → size ≡ length file → lines ≡ judged_text file
end_text file text line lines start size is cut at some sized =
    let place = same_start file start size at sized in
    cut.after ∙ ap (after_first is_line_feed) (is ∙ ap (λ n. drop n file) place) ∙ sym (judged_end file (λ none. some (place ∙ none)))

pub end_sound : (tail : Tail) (known : Option (List ℕ)) (text line lines : List ℕ) (start size : ℕ) → ReadsTail lines tail → IfSome known (λ file. text ≡ drop start file) → IsCutInLines text line lines → start ≡ size - TAIL_LEN → (start ≡ 0 → ⊥) → 0 < length tail.kept.items
    → IfSome known (λ file. size ≡ length file → HasNoBadLine file)
end_sound tail None text line lines start size reads is cut at some kept = tt
end_sound tail (Some file) text line lines start size reads is cut at some kept = λ sized.
    none_refused file tail.kept.items tail.torn tail.lacks_feed
    (subst (λ (t : List ℕ). HoldsLines t tail.kept.items tail.torn tail.lacks_feed) (end_text file text line lines start size is cut at some sized) reads) (inr kept)

pub end_long : (Failed : Type 0) (fault : RemoteError) (tail : Tail) (known : Option (List ℕ)) (text line lines : List ℕ) (start size : ℕ) → size < 2 ^ 64 → ReadsTail lines tail → IfSome known (λ file. text ≡ drop start file) → IsCutInLines text line lines → start ≡ size - TAIL_LEN → (start ≡ 0 → ⊥) → length tail.kept.items ≡ 0
    → HasNumberCause Failed known start 1 fault → HasEndCause Failed known size fault
end_long Failed fault tail known text line lines start size small reads is cut at some none (inl cause) = inl cause
end_long Failed fault tail None text line lines start size small reads is cut at some none (inr number) = inr (number.0, number.1, tt)
end_long Failed fault tail (Some file) text line lines start size small reads is cut at some none (inr number) = inr (
  number.0,
  number.1,
  λ sized.
      let place = same_start file start size at sized in
      inr (long_line file tail.kept.items tail.torn number.0 tail.lacks_feed (omega (arith, some, place)) (omega (arith, small, sized))
      (subst (λ (t : List ℕ). HoldsLines t tail.kept.items tail.torn tail.lacks_feed) (end_text file text line lines start size is cut at some sized) reads) none
      (subst (λ (n : ℕ). line_feeds (take n file) + 1 < 2 ^ 64 → number.0 ≡ line_feeds (take n file) + 1) place number.2)),
)

end_line : (Failed : Type 0) (fault : RemoteError) (known : Option (List ℕ)) (text line lines : List ℕ) (start size bad : ℕ) → size < 2 ^ 64 → IsBadStateLine lines bad → IfSome known (λ file. text ≡ drop start file) → IsCutInLines text line lines → start ≡ size - TAIL_LEN → (start ≡ 0 → ⊥)
    → HasNumberCause Failed known (size - length lines) bad fault → HasEndCause Failed known size fault
end_line Failed fault known text line lines start size bad small is_bad is cut at some (inl cause) = inl cause
end_line Failed fault None text line lines start size bad small is_bad is cut at some (inr number) = inr (number.0, number.1, tt)
end_line Failed fault (Some file) text line lines start size bad small is_bad is cut at some (inr number) = inr (
  number.0,
  number.1,
  λ sized.
      let same = end_text file text line lines start size is cut at some sized in
      let before : size - length lines ≡ length file - length (judged_text file) = omega (arith, sized, ap length same) in
      inl (first_bad file bad number.0 (subst (λ (t : List ℕ). IsBadStateLine t bad) same is_bad) (omega (arith, small, sized))
      (subst (λ (n : ℕ). line_feeds (take n file) + bad < 2 ^ 64 → number.0 ≡ line_feeds (take n file) + bad) before number.2)),
)

line_of_cause : (lines : List ℕ) (bad : ℕ) → HasLineCause lines (BadStateLine bad) → IsBadStateLine lines bad
line_of_cause lines bad (inl memory) = cc
line_of_cause lines bad (inr line) =
    let same : line.0 ≡ bad = cc in
    subst (IsBadStateLine lines) same line.2

pub end_bad : (Failed : Type 0) (fault : RemoteError) (known : Option (List ℕ)) (text line lines : List ℕ) (start size bad : ℕ) → size < 2 ^ 64 → HasLineCause lines (BadStateLine bad) → IfSome known (λ file. text ≡ drop start file) → IsCutInLines text line lines → start ≡ size - TAIL_LEN → (start ≡ 0 → ⊥)
    → HasNumberCause Failed known (size - length lines) bad fault → HasEndCause Failed known size fault
end_bad Failed fault known text line lines start size bad small cause is cut at some number =
    end_line Failed fault known text line lines start size bad small (line_of_cause lines bad cause) is cut at some number

-- another error is refused memory
pub end_memory : (Failed : Type 0) (fault : RemoteError) (known : Option (List ℕ)) (size : ℕ) (lines : List ℕ) → HasLineCause lines fault → ((line : ℕ) → fault ≡ BadStateLine line → ⊥) → HasEndCause Failed known size fault
end_memory Failed fault known size lines (inl memory) other = inl (inr (inl memory))
end_memory Failed fault known size lines (inr bad) other = absurd (other bad.0 bad.1)

-- ---- the file was of that length

sized_cause : (Failed : Type 0) (fault : RemoteError) (known : Option (List ℕ)) (size : ℕ) → IfSome known (λ file. size ≡ length file) → HasEndCause Failed known size fault → HasReadCause Failed known fault
sized_cause Failed fault known size sized (inl cause) = inl cause
sized_cause Failed fault None size sized (inr line) = inr (line.0, line.1, tt)
sized_cause Failed fault (Some file) size sized (inr line) = inr (line.0, line.1, line.2 sized)

pub sized_sound : (known : Option (List ℕ)) (size : ℕ) → IfSome known (λ file. size ≡ length file) → IfSome known (λ file. size ≡ length file → HasNoBadLine file) → IfSome known HasNoBadLine
sized_sound None size sized sound = tt
sized_sound (Some file) size sized sound = sound sized

-- a call failed in some state of the file
state_cause : {T : Type 0} (Failed : T → Type 0) (last : T) (fault : RemoteError) → HasStateCause (Failed last) fault → HasStateCause ((one : T) × Failed one) fault
state_cause Failed last fault (inl failed) = inl ((last, failed.0), failed.1)
state_cause Failed last fault (inr memory) = inr memory

end_cause : {T : Type 0} (Failed : T → Type 0) (last : T) (fault : RemoteError) (known : Option (List ℕ)) (size : ℕ) → HasEndCause (Failed last) known size fault → HasEndCause ((one : T) × Failed one) known size fault
end_cause Failed last fault known size (inl cause) = inl (state_cause Failed last fault cause)
end_cause Failed last fault known size (inr line) = inr line

pub read_cause : {T : Type 0} (Failed : T → Type 0) (last : T) (fault : RemoteError) (known : Option (List ℕ)) (size : ℕ) → IfSome known (λ file. size ≡ length file) → HasEndCause (Failed last) known size fault → HasReadCause ((one : T) × Failed one) known fault
read_cause {T} Failed last fault known size sized cause = sized_cause ((one : T) × Failed one) fault known size sized (end_cause Failed last fault known size cause)

-- what an error that names a line says of it
pub cause_at : (read : Result Tail RemoteError) (fault : RemoteError) (line : ℕ) (lines : List ℕ) → read ≡ Err fault → fault ≡ BadStateLine line → IfErr read (HasLineCause lines) → HasLineCause lines (BadStateLine line)
cause_at read fault line lines is same cause = subst (HasLineCause lines) same (subst (λ (r : Result Tail RemoteError). IfErr r (HasLineCause lines)) is cause)

-- the same of a place that is known
pub numbered_from : (Failed : Type 0) (known : Option (List ℕ)) (place before line : ℕ) (fault : RemoteError) → place ≡ before → HasNumberCause Failed known place line fault → HasNumberCause Failed known before line fault
numbered_from Failed known place before line fault is cause = subst (λ (n : ℕ). HasNumberCause Failed known n line fault) is cause
