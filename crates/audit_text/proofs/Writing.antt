-- Writing text to a writer, piece by piece.
use Rattle.std.proofs.Common.{◌≡◌, ℕ, Option, Some, None, List, [], ◌++◌, refl, sym, ap, ◌∙◌, subst, append_assoc, append-nil}
use Rattle.std.specs.Io.KnownBytes.{Appends, Keeps}
use Rattle.audit_text.specs.Writing.{WritesInPart}

-- the text was written except for the rest
pub record IsWrittenUpTo (old now : Option (List ℕ)) (rest whole : List ℕ) : Type 0 where
  pub front : List ℕ
  pub appended : Appends old now front
  pub all : front ++ rest ≡ whole

appends_none : (known : Option (List ℕ)) → Appends known known []
appends_none None = tt
appends_none (Some bytes) = sym (append-nil bytes)

appends_more : (old now next : Option (List ℕ)) (front piece : List ℕ) → Appends old now front → Appends now next piece → Appends old next (front ++ piece)
appends_more None now next front piece first second = tt
appends_more (Some bytes) None next front piece first second = absurd first
appends_more (Some bytes) (Some held) None front piece first second = absurd second
appends_more (Some bytes) (Some held) (Some last) front piece first second = second ∙ ap (λ h. h ++ piece) first ∙ append_assoc bytes front piece

pub written_none : (known : Option (List ℕ)) (whole : List ℕ) → IsWrittenUpTo known known whole whole
written_none known whole = record { front = []; appended = appends_none known; all = refl }

pub written_more : (old now next : Option (List ℕ)) (piece rest before whole : List ℕ) → IsWrittenUpTo old now before whole → before ≡ piece ++ rest → Appends now next piece → IsWrittenUpTo old next rest whole
written_more old now next piece rest before whole h split more = record {
  front = h.front ++ piece;
  appended = appends_more old now next h.front piece h.appended more;
  all = append_assoc h.front piece rest ∙ ap (λ r. h.front ++ r) (sym split) ∙ h.all;
}

pub written_all : (old now next : Option (List ℕ)) (last before whole : List ℕ) → IsWrittenUpTo old now before whole → before ≡ last → Appends now next last → Appends old next whole
written_all old now next last before whole h same more =
    subst (Appends old next) (ap (λ r. h.front ++ r) (sym same) ∙ h.all) (appends_more old now next h.front last h.appended more)

-- nothing more was written
appends_kept : (old now next : Option (List ℕ)) (front : List ℕ) → Appends old now front → Keeps now next → Appends old next front
appends_kept None now next front first kept = tt
appends_kept (Some bytes) None next front first kept = absurd first
appends_kept (Some bytes) (Some held) None front first kept = absurd kept
appends_kept (Some bytes) (Some held) (Some last) front first kept = kept ∙ first

pub written_part : (old now next : Option (List ℕ)) (rest whole : List ℕ) → IsWrittenUpTo old now rest whole → Keeps now next → WritesInPart old next whole
written_part old now next rest whole h kept = record {
  written = h.front;
  rest = rest;
  split = sym h.all;
  appended = appends_kept old now next h.front h.appended kept;
}

-- a part of the rest was written
pub written_further : (old now next : Option (List ℕ)) (piece rest before whole : List ℕ) → IsWrittenUpTo old now before whole → before ≡ piece ++ rest → WritesInPart now next piece
    → WritesInPart old next whole
written_further old now next piece rest before whole h split part = record {
  written = h.front ++ part.written;
  rest = part.rest ++ rest;
  split = sym h.all ∙ ap (λ r. h.front ++ r) (split ∙ ap (λ p. p ++ rest) part.split ∙ append_assoc part.written part.rest rest) ∙ sym (append_assoc h.front part.written (part.rest ++ rest));
  appended = appends_more old now next h.front part.written h.appended part.appended;
}

-- nothing was left to write
pub written_whole : (old now : Option (List ℕ)) (rest whole : List ℕ) → IsWrittenUpTo old now rest whole → rest ≡ [] → Appends old now whole
written_whole old now rest whole h none = subst (Appends old now) (sym (append-nil h.front) ∙ ap (λ r. h.front ++ r) (sym none) ∙ h.all) h.appended
