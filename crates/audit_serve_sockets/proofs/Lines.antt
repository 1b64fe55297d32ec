-- Frames written as lines, with one more frame.
use Rattle.std.proofs.Common.{◌≡◌, ℕ, ◌<◌, ◌^◌, Option, Some, None, List, [], ◌∷◌, ◌++◌, length, refl, sym, ap, ◌∙◌, subst}
use Rattle.std.proofs.Common.{append_assoc, append-nil, ◌/◌, ◌%◌, slice_index}
use Rattle.hex.specs.Hex.{encode_with, encode_lower, lower_digits}
use Rattle.std.specs.List.{flat_map}
use Rattle.std.specs.Io.KnownBytes.{Appends, Keeps}
use Rattle.audit_wire.specs.Frame.{frame}
use Rattle.audit_serve_sockets.specs.Frames.{AreBodies, AreUnfinished, frame_line, HasLines}

encoded_both : (digits bytes more : List ℕ) → encode_with digits (bytes ++ more) ≡ encode_with digits bytes ++ encode_with digits more
unfolding encode_with
encoded_both digits [] more = refl
encoded_both digits (byte ∷ bytes) more = ap (λ l. slice_index digits (byte / 16) ∷ slice_index digits (byte % 16) ∷ l) (encoded_both digits bytes more)

pub hex_of_both : (bytes more : List ℕ) → encode_lower (bytes ++ more) ≡ encode_lower bytes ++ encode_lower more
hex_of_both = encoded_both lower_digits

-- all bytes except the rest were written as lines
pub record HasLinesBefore (old now : Option (List ℕ)) (rest whole : List ℕ) : Type 0 where
  pub front : List ℕ
  pub all : front ++ rest ≡ whole
  pub lines : HasLines old now front

appends_none : (known : Option (List ℕ)) → Appends known known []
appends_none None = tt
appends_none (Some bytes) = sym (append-nil bytes)

pub appends_more : (old now next : Option (List ℕ)) (front piece : List ℕ) → Appends old now front → Appends now next piece → Appends old next (front ++ piece)
appends_more None now next front piece first second = tt
appends_more (Some bytes) None next front piece first second = absurd first
appends_more (Some bytes) (Some held) None front piece first second = absurd second
appends_more (Some bytes) (Some held) (Some last) front piece first second = second ∙ ap (λ h. h ++ piece) first ∙ append_assoc bytes front piece

bodies_of_both : (bodies more : List (List ℕ)) → AreBodies bodies → AreBodies more → AreBodies (bodies ++ more)
bodies_of_both [] more are also = also
bodies_of_both (body ∷ bodies) more are also = (are.0, bodies_of_both bodies more are.1 also)

pub both_mapped : (f : List ℕ → List ℕ) (bodies more : List (List ℕ)) → flat_map f (bodies ++ more) ≡ flat_map f bodies ++ flat_map f more
both_mapped f [] more = refl
both_mapped f (body ∷ bodies) more = ap (λ l. f body ++ l) (both_mapped f bodies more) ∙ sym (append_assoc (f body) (flat_map f bodies) (flat_map f more))

pub no_lines : (known : Option (List ℕ)) → HasLines known known []
no_lines known = record { bodies = []; are = tt; all = refl; written = appends_none known }

pub lines_of_both : (old now next : Option (List ℕ)) (bytes more : List ℕ) → HasLines old now bytes → HasLines now next more → HasLines old next (bytes ++ more)
lines_of_both old now next bytes more first second = record {
  bodies = first.bodies ++ second.bodies;
  are = bodies_of_both first.bodies second.bodies first.are second.are;
  all = ap (λ l. l ++ more) first.all ∙ ap (λ l. flat_map frame first.bodies ++ l) second.all ∙ sym (both_mapped frame first.bodies second.bodies);
  written = subst (Appends old next) (sym (both_mapped frame_line first.bodies second.bodies))
      (appends_more old now next (flat_map frame_line first.bodies) (flat_map frame_line second.bodies) first.written second.written);
}

pub one_line : (old now : Option (List ℕ)) (body line : List ℕ) → length body < 2 ^ 16 → line ≡ frame_line body → Appends old now line → HasLines old now (frame body)
one_line old now body line short text written = record {
  bodies = body ∷ [];
  are = (short, tt);
  all = sym (append-nil (frame body));
  written = subst (Appends old now) (text ∙ sym (append-nil (frame_line body))) written;
}

pub nothing_written : (known : Option (List ℕ)) (whole : List ℕ) → HasLinesBefore known known whole whole
nothing_written known whole = record { front = []; all = refl; lines = no_lines known }

pub line_more : (old now next : Option (List ℕ)) (rest whole body after line : List ℕ) → HasLinesBefore old now rest whole
    → rest ≡ frame body ++ after → length body < 2 ^ 16 → line ≡ frame_line body → Appends now next line → HasLinesBefore old next after whole
line_more old now next rest whole body after line h split short text written = record {
  front = h.front ++ frame body;
  all = append_assoc h.front (frame body) after ∙ ap (λ r. h.front ++ r) (sym split) ∙ h.all;
  lines = lines_of_both old now next h.front (frame body) h.lines (one_line now next body line short text written);
}

pub all_written : (old now : Option (List ℕ)) (rest whole : List ℕ) → HasLinesBefore old now rest whole → rest ≡ [] → HasLines old now whole
all_written old now rest whole h none = subst (HasLines old now) (sym (append-nil h.front) ∙ ap (λ r. h.front ++ r) (sym none) ∙ h.all) h.lines

-- what is left doesn't begin with a whole frame
pub cut_off_before : (old now : Option (List ℕ)) (rest whole : List ℕ) → HasLinesBefore old now rest whole → 0 < length rest
    → ((body later : List ℕ) → length body < 2 ^ 16 → rest ≡ frame body ++ later → ⊥) → AreUnfinished whole
cut_off_before old now rest whole h some none = record {
  bodies = h.lines.bodies;
  are = h.lines.are;
  rest = rest;
  split = sym h.all ∙ ap (λ (front : List ℕ). front ++ rest) h.lines.all;
  some = some;
  none = none;
}

-- nothing more was written
appends_kept : (old now next : Option (List ℕ)) (front : List ℕ) → Appends old now front → Keeps now next → Appends old next front
appends_kept None now next front first kept = tt
appends_kept (Some bytes) None next front first kept = absurd first
appends_kept (Some bytes) (Some held) None front first kept = absurd kept
appends_kept (Some bytes) (Some held) (Some last) front first kept = kept ∙ first

pub lines_kept : (old now next : Option (List ℕ)) (bytes : List ℕ) → HasLines old now bytes → Keeps now next → HasLines old next bytes
lines_kept old now next bytes h kept = record { bodies = h.bodies; are = h.are; all = h.all; written = appends_kept old now next _ h.written kept }
