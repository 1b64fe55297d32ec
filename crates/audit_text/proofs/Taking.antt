-- Taking bytes from a reader, piece by piece.
use Rattle.std.proofs.Common.{◌≡◌, ℕ, ◌+◌, ◌<◌, ◌≤◌, Option, Some, None, List, [], ◌++◌, length, sym, ap, ◌∙◌, arith, append_assoc, append-nil, length-append}
use Rattle.std.specs.Prelude.{IfSome}
use Rattle.std.specs.Io.KnownBytes.{Consumes, IsAtEnd, Keeps}
use Rattle.audit_text.specs.Reading.{TakesAtMost}

pub taken_none : (known : Option (List ℕ)) → Consumes known known []
taken_none None = tt
taken_none (Some bytes) = λ i. bytes

pub taken_more : (old now next : Option (List ℕ)) (taken piece : List ℕ) → Consumes old now taken → Consumes now next piece → Consumes old next (taken ++ piece)
taken_more None now next taken piece first second = tt
taken_more (Some bytes) None next taken piece first second = absurd first
taken_more (Some bytes) (Some rest) None taken piece first second = absurd second
taken_more (Some bytes) (Some rest) (Some last) taken piece first second = first ∙ ap (λ r. taken ++ r) second ∙ sym (append_assoc taken piece last)

pub taken_all : (old now : Option (List ℕ)) (taken : List ℕ) → Consumes old now taken → IsAtEnd now → IfSome old (λ bytes. bytes ≡ taken)
taken_all None now taken first ended = tt
taken_all (Some bytes) None taken first ended = absurd first
taken_all (Some bytes) (Some rest) taken first ended = first ∙ ap (λ r. taken ++ r) ended ∙ append-nil taken

pub taken_long : (old now : Option (List ℕ)) (taken : List ℕ) (limit : ℕ) → Consumes old now taken → limit < length taken → IfSome old (λ bytes. limit < length bytes)
taken_long None now taken limit first long = tt
taken_long (Some bytes) None taken limit first long = absurd first
taken_long (Some bytes) (Some rest) taken limit first long = omega (arith, ap length first, length-append taken rest)

-- nothing more was taken
taken_kept : (old now next : Option (List ℕ)) (taken : List ℕ) → Consumes old now taken → Keeps now next → Consumes old next taken
taken_kept None now next taken first kept = tt
taken_kept (Some bytes) None next taken first kept = absurd first
taken_kept (Some bytes) (Some rest) None taken first kept = absurd kept
taken_kept (Some bytes) (Some rest) (Some last) taken first kept = first ∙ ap (λ r. taken ++ r) (sym kept)

pub at_most_kept : (old now next : Option (List ℕ)) (taken : List ℕ) (most : ℕ) → Consumes old now taken → length taken ≤ most → Keeps now next → TakesAtMost old next most
at_most_kept old now next taken most first few kept = record { taken = taken; within = few; bytes = taken_kept old now next taken first kept }

pub at_most : (old now next : Option (List ℕ)) (taken piece : List ℕ) (most : ℕ) → Consumes old now taken → Consumes now next piece → length taken + length piece ≤ most → TakesAtMost old next most
at_most old now next taken piece most first second few =
    let whole : length (taken ++ piece) ≤ most = omega (arith, length-append taken piece) in
    record { taken = taken ++ piece; within = whole; bytes = taken_more old now next taken piece first second }
