-- Laws of consecutive calls.
use Rattle.std.specs.Prelude.{◌≡◌, ℕ, Bool, true, false, ◌||◌, Option, Some, None, List, [], ◌∷◌, ◌++◌}
use Rattle.std.specs.Io.KnownBytes.{Appends}
use Rattle.std.proofs.Common.{refl, sym, ap, subst, ◌∙◌, append_assoc, true≢false}
use Rattle.std.proofs.KnownBytes.{Appends-nil, Appends-trans}
use Rattle.audit_serve_passes.specs.Streams.{StreamCall, bytes_given, bytes_read, bytes_asked, bytes_sent}
use Rattle.audit_serve_passes.specs.Streams.{is_failed_write, has_failed_write}
use Rattle.audit_serve_passes.specs.Known.{is_read_at_end, has_read_at_end, IsReadBy, IsWrittenBy}

pub or_of_three : (x y z : Bool) → (x || (y || z)) ≡ ((x || y) || z)
or_of_three true y z = refl
or_of_three false y z = refl

pub or_false : (x : Bool) → (x || false) ≡ x
or_false true = refl
or_false false = refl

pub bytes_read-append : (calls later : List StreamCall)
    → bytes_read (calls ++ later) ≡ bytes_read calls ++ bytes_read later
bytes_read-append [] later = refl
bytes_read-append (call ∷ calls) later =
    ap (λ (bytes : List ℕ). bytes_given call ++ bytes) (bytes_read-append calls later)
    ∙ sym (append_assoc (bytes_given call) (bytes_read calls) (bytes_read later))

pub bytes_sent-append : (calls later : List StreamCall)
    → bytes_sent (calls ++ later) ≡ bytes_sent calls ++ bytes_sent later
bytes_sent-append [] later = refl
bytes_sent-append (call ∷ calls) later =
    ap (λ (bytes : List ℕ). bytes_asked call ++ bytes) (bytes_sent-append calls later)
    ∙ sym (append_assoc (bytes_asked call) (bytes_sent calls) (bytes_sent later))

pub failed-append : (calls later : List StreamCall)
    → has_failed_write (calls ++ later) ≡ (has_failed_write calls || has_failed_write later)
failed-append [] later = refl
failed-append (call ∷ calls) later =
    ap (λ (more : Bool). is_failed_write call || more) (failed-append calls later)
    ∙ or_of_three (is_failed_write call) (has_failed_write calls) (has_failed_write later)

at_end-append : (calls later : List StreamCall)
    → has_read_at_end (calls ++ later) ≡ (has_read_at_end calls || has_read_at_end later)
at_end-append [] later = refl
at_end-append (call ∷ calls) later =
    ap (λ (more : Bool). is_read_at_end call || more) (at_end-append calls later)
    ∙ or_of_three (is_read_at_end call) (has_read_at_end calls) (has_read_at_end later)

neither : (x y : Bool) → (x || y) ≡ false → (x ≡ false) × (y ≡ false)
neither true y none = absurd (true≢false none)
neither false y none = (refl, none)

either : {P : Type 0} (x y : Bool) → (x || y) ≡ true → (x ≡ true → P) → (y ≡ true → P) → P
either true y one first second = first refl
either false y one first second = second one

-- ---- whether a write has failed

pub closed_none : (closed : Bool) → closed ≡ (closed || false)
closed_none closed = sym (or_false closed)

pub closed_more : (old mid new : Bool) (calls later : List StreamCall) → mid ≡ (old || has_failed_write calls)
    → new ≡ (mid || has_failed_write later) → new ≡ (old || has_failed_write (calls ++ later))
closed_more old mid new calls later first second =
    second ∙ ap (λ (now : Bool). now || has_failed_write later) first
    ∙ sym (or_of_three old (has_failed_write calls) (has_failed_write later))
    ∙ ap (λ (any : Bool). old || any) (sym (failed-append calls later))

-- ---- known bytes

abbrev is_nothing : List ℕ → Bool
is_nothing [] = true
is_nothing (byte ∷ bytes) = false

nothing_left : (front rest : List ℕ) → [] ≡ front ++ rest → rest ≡ []
nothing_left [] rest none = sym none
nothing_left (byte ∷ front) rest none = absurd (true≢false (ap is_nothing none))

pub nothing_read : (known : Option (List ℕ)) → IsReadBy known known []
nothing_read None = tt
nothing_read (Some bytes) = (refl, λ ended. absurd (true≢false (sym ended)))

pub read_more : (old mid new : Option (List ℕ)) (calls later : List StreamCall) → IsReadBy old mid calls
    → IsReadBy mid new later → IsReadBy old new (calls ++ later)
read_more None mid new calls later first second = tt
read_more (Some unread) None new calls later first second = absurd first
read_more (Some unread) (Some rest) None calls later first second = absurd second
read_more (Some unread) (Some rest) (Some left) calls later first second = (
  first.0 ∙ ap (λ (bytes : List ℕ). bytes_read calls ++ bytes) second.0
      ∙ sym (append_assoc (bytes_read calls) (bytes_read later) left)
      ∙ ap (λ (bytes : List ℕ). bytes ++ left) (sym (bytes_read-append calls later)),
  λ ended. either (has_read_at_end calls) (has_read_at_end later) (sym (at_end-append calls later) ∙ ended)
      (λ e. nothing_left (bytes_read later) left (sym (first.1 e) ∙ second.0)) second.1,
)

pub nothing_written : (known : Option (List ℕ)) → IsWrittenBy known known []
nothing_written known = λ none. Appends-nil known

both_written : (old mid new : Option (List ℕ)) (calls later : List StreamCall) → IsWrittenBy old mid calls
    → IsWrittenBy mid new later → (has_failed_write calls ≡ false) × (has_failed_write later ≡ false)
    → Appends old new (bytes_sent (calls ++ later))
both_written old mid new calls later first second (one, other) =
    subst (Appends old new) (sym (bytes_sent-append calls later))
    (Appends-trans old mid new (bytes_sent calls) (bytes_sent later) (first one) (second other))

pub written_more : (old mid new : Option (List ℕ)) (calls later : List StreamCall) → IsWrittenBy old mid calls
    → IsWrittenBy mid new later → IsWrittenBy old new (calls ++ later)
written_more old mid new calls later first second = λ none. both_written old mid new calls later first second
    (neither (has_failed_write calls) (has_failed_write later) (sym (failed-append calls later) ∙ none))
