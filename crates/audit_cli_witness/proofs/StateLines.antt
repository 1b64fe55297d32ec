-- The lines of a witness's file, read one after another.
use Rattle.std.specs.Prelude.{◌<◌, ◌≤◌, ◌+◌, ◌-◌, map, not, true, false, Bool, Some, None, Option, Result, Ok, Err, IfOk, slice_get, IfSome}
use Rattle.std.specs.List.{position_or_len, before_first, after_first}
use Rattle.std.proofs.Common.{◌≡◌, ◌∙◌, inl, inr, ℕ, suc, List, [], ◌∷◌, ◌++◌, length, take, drop, get_or, append_assoc, append-nil, length-append, sym, ap, subst, refl, arith}
use Rattle.audit_wire_ask.specs.Keeping.{last_kept}
use Rattle.std.proofs.lemmas.Bool.{eqb-true}
use Rattle.std.proofs.lemmas.Option.{none-some}
use Rattle.std.proofs.lemmas.List.{map-append, length-take, length-take-le, length-drop, take_all, take-append-drop, append_cancel_right}
use Rattle.std.proofs.lemmas.List.Sums.{split_at_first, passes_at_first, fails_before_first}
use Rattle.std.proofs.Math.Seq.{take-append_seam}
use Rattle.audit_proof.specs.declared.commitment.Commitment.{Commitment}
use Rattle.audit_text.specs.Lines.{lines_of, line_feed, is_line_feed, IsCutInLines}
use Rattle.audit_text.proofs.FirstLine.{first_of_lines}
use Rattle.audit_cli_offline.specs.CommitmentWord.{commitment_in_word}
use Rattle.audit_cli_connection.specs.declared.fault.RemoteError.{RemoteError}
use Rattle.audit_cli_witness.specs.declared.state_lines.Tail.{Tail}
use Rattle.audit_cli_witness.specs.State.{AreLinesOf, ReadsLastLine, ReadsTail, HoldsLines, HoldsState, IsCutOffAfter, IsStored, lacks_feed, line_after, commitment_word, onto_kept, kept_in_lines, kept_in}
use Rattle.audit_cli_witness.proofs.AddedLines.{no_lines, after_whole, line_added, word_read}

-- whole lines of these commitments were read, and the rest remains
pub record IsReadUpTo (text : List ℕ) (kept : List Commitment) (rest : List ℕ) : Type 0 where
  pub front : List ℕ
  pub split : text ≡ front ++ rest
  pub whole : lacks_feed front ≡ false
  pub read : AreLinesOf (lines_of front) kept

pub none_read : (text : List ℕ) → IsReadUpTo text [] text
none_read text = record { front = []; split = refl; whole = refl; read = ap (map commitment_in_word) no_lines }

one_more : (lines : List (List ℕ)) (kept : List Commitment) (line : List ℕ) (one : Commitment) → AreLinesOf lines kept → commitment_in_word line ≡ Some one → AreLinesOf (lines ++ line ∷ []) (kept ++ one ∷ [])
one_more lines kept line one read is =
    map-append commitment_in_word lines (line ∷ []) ∙ ap (λ (l : List (Option Commitment)). l ++ commitment_in_word line ∷ []) read
    ∙ ap (λ (o : Option Commitment). map (λ (k : Commitment). Some k) kept ++ o ∷ []) is ∙ sym (map-append (λ (k : Commitment). Some k) kept (one ∷ []))

-- a text that ends in a line feed
pub ends_whole : (bytes : List ℕ) → lacks_feed (bytes ++ line_feed ∷ []) ≡ false
ends_whole [] = refl
ends_whole (byte ∷ []) = refl
ends_whole (byte ∷ next ∷ bytes) = ends_whole (next ∷ bytes)

-- a text lacks its last line feed where its end does
lacks_at_end : (front : List ℕ) (byte : ℕ) (bytes : List ℕ) → lacks_feed (front ++ byte ∷ bytes) ≡ lacks_feed (byte ∷ bytes)
lacks_at_end [] byte bytes = refl
lacks_at_end (first ∷ []) byte bytes = refl
lacks_at_end (first ∷ second ∷ front) byte bytes = lacks_at_end (second ∷ front) byte bytes

pub lacks_end : (front line : List ℕ) → 0 < length line → lacks_feed (front ++ line) ≡ lacks_feed line
lacks_end front [] some = absurd (omega arith)
lacks_end front (byte ∷ bytes) some = lacks_at_end front byte bytes

pub lacks_none : (bytes : List ℕ) → 0 < length bytes → ((k : ℕ) → k < length bytes → is_line_feed (get_or bytes k 0) ≡ false) → lacks_feed bytes ≡ true
lacks_none [] some none = absurd (omega arith)
lacks_none (byte ∷ []) some none = ap not (none 0 (omega arith))
lacks_none (byte ∷ next ∷ bytes) some none = lacks_none (next ∷ bytes) (omega arith) (λ k small. none (suc k) (omega arith))

-- a line that ends in a line feed
pub line_cut : (rest line after : List ℕ) → IsCutInLines rest line after → (length line ≡ length rest → ⊥) → rest ≡ line ++ line_feed ∷ after
line_cut rest line after cut other =
    let place = position_or_len is_line_feed rest in
    let within : place < length rest = omega (arith, ap length cut.first, length-take place rest, other) in
    let feed : get_or rest place 0 ≡ line_feed = eqb-true _ _ (passes_at_first is_line_feed rest 0 within) in
    split_at_first is_line_feed rest 0 within
    ∙ ap (λ (byte : ℕ). before_first is_line_feed rest ++ byte ∷ after_first is_line_feed rest) feed
    ∙ ap (λ (l : List ℕ). l ++ line_feed ∷ after_first is_line_feed rest) (sym cut.first)
    ∙ ap (λ (l : List ℕ). line ++ line_feed ∷ l) (sym cut.after)

line_read : (rest line after : List ℕ) → 0 < length rest → IsCutInLines rest line after → (length line ≡ length rest → ⊥) → lines_of (line ++ line_feed ∷ []) ≡ line ∷ []
line_read rest line after some cut other =
    append_cancel_right (lines_of (line ++ line_feed ∷ [])) (line ∷ []) (lines_of after)
    (sym (after_whole (line ++ line_feed ∷ []) after (ends_whole line)) ∙ ap lines_of (append_assoc line (line_feed ∷ []) after ∙ sym (line_cut rest line after cut other)) ∙ first_of_lines rest line after some cut)

pub one_line_more : (text : List ℕ) (kept : List Commitment) (one : Commitment) (rest line after : List ℕ) → IsReadUpTo text kept rest → 0 < length rest → IsCutInLines rest line after → (length line ≡ length rest → ⊥) → commitment_in_word line ≡ Some one
    → IsReadUpTo text (kept ++ one ∷ []) after
one_line_more text kept one rest line after so_far some cut other is =
    let front = so_far.front in
    let whole_line = line ++ line_feed ∷ [] in
    let lines : lines_of (front ++ whole_line) ≡ lines_of front ++ line ∷ [] =
    after_whole front whole_line so_far.whole ∙ ap (λ (l : List (List ℕ)). lines_of front ++ l) (line_read rest line after some cut other) in
    record {
      front = front ++ whole_line;
      split = so_far.split ∙ ap (λ (l : List ℕ). front ++ l) (line_cut rest line after cut other ∙ sym (append_assoc line (line_feed ∷ []) after)) ∙ sym (append_assoc front whole_line after);
      whole = ap lacks_feed (sym (append_assoc front line (line_feed ∷ []))) ∙ ends_whole (front ++ line);
      read = subst (λ (l : List (List ℕ)). AreLinesOf l (kept ++ one ∷ [])) (sym lines) (one_more (lines_of front) kept line one so_far.read is);
    }

-- nothing is left
pub all_lines_read : (text : List ℕ) (kept : List Commitment) (rest : List ℕ) → IsReadUpTo text kept rest → length rest ≡ 0 → HoldsLines text kept 0 false
all_lines_read text kept [] so_far none = record {
  front = so_far.front;
  rest = [];
  whole = so_far.split;
  lines = so_far.read;
  torn_is = refl;
  lacks_is = sym so_far.whole;
  cut = inl refl;
}
all_lines_read text kept (byte ∷ rest) so_far none = absurd (omega (arith, none))

-- nothing is left after a line that is as long as what was left
pub none_left : (rest line after : List ℕ) → IsCutInLines rest line after → length line ≡ length rest → length after ≡ 0
none_left rest line after cut whole =
    let place = position_or_len is_line_feed rest in
    omega (arith, whole, ap length cut.first, length-take place rest, ap length cut.after, length-drop (place + 1) rest)

pub after_none : (after : List ℕ) → length after ≡ 0 → lines_of after ≡ []
after_none [] none = no_lines
after_none (byte ∷ after) none = absurd (omega (arith, none))

-- the last line has no line feed
pub last_line_read : (text : List ℕ) (kept : List Commitment) (rest line after : List ℕ) (tail : Tail) → IsReadUpTo text kept rest → 0 < length rest → IsCutInLines rest line after → length line ≡ length rest
    → ReadsLastLine kept line tail → ReadsTail text tail
last_line_read text kept rest line after tail so_far some cut whole last =
    let front = so_far.front in
    let place = position_or_len is_line_feed rest in
    let far : length rest ≤ place = omega (arith, whole, ap length cut.first, length-take place rest) in
    let same : line ≡ rest = cut.first ∙ take_all place rest far in
    let alone : lines_of line ≡ line ∷ [] =
    ap lines_of same ∙ first_of_lines rest line after some cut ∙ ap (λ (l : List (List ℕ)). line ∷ l) (after_none after (none_left rest line after cut whole)) in
    let split : text ≡ front ++ line = so_far.split ∙ ap (λ (l : List ℕ). front ++ l) (sym same) in
    let lacks : lacks_feed rest ≡ true = lacks_none rest some (λ k small. fails_before_first is_line_feed rest k 0 (omega (arith, far, small))) in
    elim last [
      | inl read ↦ record {
        front = front ++ line;
        rest = [];
        whole = split ∙ sym (append-nil (front ++ line));
        lines = subst (λ (l : List (List ℕ)). AreLinesOf l tail.kept.items) (sym (after_whole front line so_far.whole ∙ ap (λ (l : List (List ℕ)). lines_of front ++ l) alone))
            (subst (AreLinesOf (lines_of front ++ line ∷ [])) (sym read.4) (one_more (lines_of front) kept line read.2 so_far.read read.3));
        torn_is = read.0;
        lacks_is = read.1 ∙ sym (lacks_end front line (omega (arith, some, whole)) ∙ ap lacks_feed same ∙ lacks);
        cut = inl refl;
      }
      | inr torn ↦ record {
        front = front;
        rest = line;
        whole = split;
        lines = subst (AreLinesOf (lines_of front)) (sym torn.2) so_far.read;
        torn_is = torn.0;
        lacks_is = torn.1 ∙ sym so_far.whole;
        cut = inr (so_far.whole, alone, torn.3, torn.4);
      }
    ]

pub last_read_if : (text : List ℕ) (kept : List Commitment) (rest line after : List ℕ) (r : Result Tail RemoteError) → IsReadUpTo text kept rest → 0 < length rest → IsCutInLines rest line after → length line ≡ length rest
    → IfOk r (ReadsLastLine kept line) → IfOk r (ReadsTail text)
last_read_if text kept rest line after (Ok tail) so_far some cut whole last = last_line_read text kept rest line after tail so_far some cut whole last
last_read_if text kept rest line after (Err error) so_far some cut whole last = tt

-- ---- the commitments of a text's lines

onto_more : (one : Option Commitment) (first second : List Commitment) → onto_kept one (first ++ second) ≡ onto_kept one first ++ second
onto_more None first second = refl
onto_more (Some one) first second = refl

kept_append : (first second : List (List ℕ)) → kept_in_lines (first ++ second) ≡ kept_in_lines first ++ kept_in_lines second
kept_append [] second = refl
kept_append (line ∷ first) second = ap (onto_kept (commitment_in_word line)) (kept_append first second) ∙ onto_more (commitment_in_word line) (kept_in_lines first) (kept_in_lines second)

-- after whole lines
kept_after : (before text : List ℕ) → lacks_feed before ≡ false → kept_in (before ++ text) ≡ kept_in before ++ kept_in text
kept_after before text whole = ap kept_in_lines (after_whole before text whole) ∙ kept_append (lines_of before) (lines_of text)

lines_kept : (lines : List (List ℕ)) (kept : List Commitment) → AreLinesOf lines kept → kept_in_lines lines ≡ kept
lines_kept [] [] are = refl
lines_kept [] (one ∷ kept) are = cc
lines_kept (line ∷ lines) [] are = cc
lines_kept (line ∷ lines) (one ∷ kept) are =
    let first : commitment_in_word line ≡ Some one = cc in
    let later : AreLinesOf lines kept = cc in
    ap (λ (o : Option Commitment). onto_kept o (kept_in_lines lines)) first ∙ ap (λ (l : List Commitment). one ∷ l) (lines_kept lines kept later)

none_torn : (front rest : List ℕ) → IsCutOffAfter front rest → kept_in (front ++ rest) ≡ kept_in front
none_torn front rest (inl none) = ap (λ (l : List ℕ). kept_in (front ++ l)) none ∙ ap kept_in (append-nil front)
none_torn front rest (inr torn) =
    kept_after front rest torn.0 ∙ ap (λ (l : List (List ℕ)). kept_in front ++ kept_in_lines l) torn.1
    ∙ ap (λ (o : Option Commitment). kept_in front ++ onto_kept o []) torn.3 ∙ append-nil (kept_in front)

pub text_kept : (text : List ℕ) (kept : List Commitment) (torn : ℕ) (lacks : Bool) → HoldsLines text kept torn lacks → kept_in text ≡ kept
text_kept text kept torn lacks holds = ap kept_in holds.whole ∙ none_torn holds.front holds.rest holds.cut ∙ lines_kept (lines_of holds.front) kept holds.lines

-- ---- the whole file

pub lacks_after : (before front : List ℕ) → lacks_feed before ≡ false → lacks_feed (before ++ front) ≡ lacks_feed front
lacks_after before [] whole = ap lacks_feed (append-nil before) ∙ whole
lacks_after before (byte ∷ bytes) whole = lacks_at_end before byte bytes

last_part : (all first kept : List Commitment) → all ≡ first ++ kept → take (length all - length kept) all ++ kept ≡ all
last_part all first kept is =
    let place : length all - length kept ≡ length first = omega (arith, ap length is, length-append first kept) in
    ap (λ (n : ℕ). take n all ++ kept) place ∙ ap (λ (l : List Commitment). take (length first) l ++ kept) is
    ∙ ap (λ (l : List Commitment). l ++ kept) (take-append_seam first kept) ∙ sym is

state_from : (file before text : List ℕ) (kept : List Commitment) (torn size : ℕ) (lacks : Bool) → file ≡ before ++ text → lacks_feed before ≡ false → (kept ≡ [] → before ≡ []) → size ≡ length file
    → HoldsLines text kept torn lacks → HoldsState file kept (size - torn) lacks
state_from file before text kept torn size lacks split whole some sized holds =
    let front = holds.front in
    let rest = holds.rest in
    let parts : file ≡ (before ++ front) ++ rest = split ∙ ap (λ (l : List ℕ). before ++ l) holds.whole ∙ sym (append_assoc before front rest) in
    let place : length (before ++ front) ≡ size - torn = omega (arith, sized, holds.torn_is, ap length parts, length-append (before ++ front) rest) in
    let up_to : take (size - torn) file ≡ before ++ front =
    ap (take (size - torn)) parts ∙ ap (λ (n : ℕ). take n ((before ++ front) ++ rest)) (sym place) ∙ take-append_seam (before ++ front) rest in
    let all : kept_in file ≡ kept_in before ++ kept = ap kept_in split ∙ kept_after before text whole ∙ ap (λ (l : List Commitment). kept_in before ++ l) (text_kept text kept torn lacks holds) in
    let read : kept_in (take (size - torn) file) ≡ kept_in before ++ kept =
    ap kept_in up_to ∙ kept_after before front whole ∙ ap (λ (l : List Commitment). kept_in before ++ l) (lines_kept (lines_of front) kept holds.lines) in
    record {
      last = last_part (kept_in file) (kept_in before) kept all;
      some = λ none. all ∙ ap (λ (l : List ℕ). kept_in l ++ kept) (some none) ∙ ap (λ (l : List (List ℕ)). kept_in_lines l ++ kept) no_lines ∙ none;
      within = omega (arith, sized);
      all = read ∙ sym all;
      lacks_is = holds.lacks_is ∙ sym (lacks_after before front whole) ∙ ap lacks_feed (sym up_to);
    }

-- all of a short file was read
pub state_whole : (file text : List ℕ) (kept : List Commitment) (torn size : ℕ) (lacks : Bool) → text ≡ file → size ≡ length file → HoldsLines text kept torn lacks → HoldsState file kept (size - torn) lacks
state_whole file text kept torn size lacks same sized holds = state_from file [] text kept torn size lacks (sym same) refl (λ none. refl) sized holds

empty_front : (front rest : List ℕ) → front ++ rest ≡ [] → front ≡ []
empty_front [] rest same = refl
empty_front (byte ∷ front) rest same = cc

none_in_none : (kept : List Commitment) (torn : ℕ) (lacks : Bool) → HoldsLines [] kept torn lacks → length kept ≡ 0
none_in_none kept torn lacks holds =
    let empty : holds.front ≡ [] = empty_front holds.front holds.rest (sym holds.whole) in
    let none : kept_in [] ≡ kept = text_kept [] kept torn lacks holds in
    ap length (sym none) ∙ ap (λ (l : List (List ℕ)). length (kept_in_lines l)) no_lines

-- the end of a long file was read, from the first line that begins in it on
pub state_tail : (file text line lines : List ℕ) (kept : List Commitment) (start torn size : ℕ) (lacks : Bool) → text ≡ drop start file → size ≡ length file → IsCutInLines text line lines
    → HoldsLines lines kept torn lacks → 0 < length kept → HoldsState file kept (size - torn) lacks
state_tail file text line [] kept start torn size lacks same sized cut holds some = absurd (omega (arith, some, none_in_none kept torn lacks holds))
state_tail file text line (byte ∷ bytes) kept start torn size lacks same sized cut holds some =
    let place = position_or_len is_line_feed text in
    let other : length line ≡ length text → ⊥ = λ h. omega (arith, h, ap length cut.first, length-take place text, ap length cut.after, length-drop (place + 1) text) in
    let front = take start file ++ line in
    let split : file ≡ (front ++ line_feed ∷ []) ++ byte ∷ bytes =
    sym (take-append-drop start file) ∙ ap (λ (l : List ℕ). take start file ++ l) (sym same ∙ line_cut text line (byte ∷ bytes) cut other)
    ∙ sym (append_assoc (take start file) line (line_feed ∷ byte ∷ bytes)) ∙ sym (append_assoc front (line_feed ∷ []) (byte ∷ bytes)) in
    state_from file (front ++ line_feed ∷ []) (byte ∷ bytes) kept torn size lacks split (ends_whole front) (λ none. absurd (omega (arith, some, ap length none))) sized holds

-- what is left of a line was cut off
pub state_cut : (file : List ℕ) (kept : List Commitment) (end : ℕ) (lacks : Bool) → HoldsState file kept end lacks → HoldsState (take end file) kept end lacks
state_cut file kept end lacks state =
    let place : length (take end file) ≡ end = length-take-le end file state.within in
    let same : take end (take end file) ≡ take end file = take_all end (take end file) (omega (arith, place)) in
    record {
      last = rw state.all state.last;
      some = λ none. state.all ∙ state.some none;
      within = omega (arith, place);
      all = ap kept_in same;
      lacks_is = state.lacks_is ∙ ap lacks_feed (sym same);
    }

line_whole : (front : List ℕ) (lacks : Bool) (seen : Commitment) → lacks_feed (front ++ line_after lacks seen) ≡ false
line_whole front true seen = ap lacks_feed (sym (append_assoc front (line_feed ∷ commitment_word seen) (line_feed ∷ []))) ∙ ends_whole (front ++ line_feed ∷ commitment_word seen)
line_whole front false seen = ap lacks_feed (sym (append_assoc front (commitment_word seen) (line_feed ∷ []))) ∙ ends_whole (front ++ commitment_word seen)

kept_added : (front : List ℕ) (lacks : Bool) (seen : Commitment) → IsStored seen → lacks ≡ lacks_feed front → kept_in (front ++ line_after lacks seen) ≡ kept_in front ++ seen ∷ []
kept_added front lacks seen stored is =
    ap kept_in_lines (line_added front lacks seen stored (sym is)) ∙ kept_append (lines_of front) (commitment_word seen ∷ [])
    ∙ ap (λ (o : Option Commitment). kept_in front ++ onto_kept o []) (word_read seen stored)

-- the line of a commitment was added
pub state_added : (file : List ℕ) (kept : List Commitment) (end : ℕ) (lacks : Bool) (seen : Commitment) → HoldsState file kept end lacks → IsStored seen
    → HoldsState (take end file ++ line_after lacks seen) (kept ++ seen ∷ []) (end + length (line_after lacks seen)) false
state_added file kept end lacks seen state stored =
    let line = line_after lacks seen in
    let front = take end file in
    let after = front ++ line in
    let before = take (length (kept_in file) - length kept) (kept_in file) in
    let place : length after ≡ end + length line = omega (arith, length-append front line, length-take-le end file state.within) in
    let same : take (end + length line) after ≡ after = take_all (end + length line) after (omega (arith, place)) in
    let all : kept_in after ≡ before ++ (kept ++ seen ∷ []) =
    kept_added front lacks seen stored state.lacks_is ∙ ap (λ (l : List Commitment). l ++ seen ∷ []) (state.all ∙ sym state.last) ∙ append_assoc before kept (seen ∷ []) in
    record {
      last = last_part (kept_in after) before (kept ++ seen ∷ []) all;
      some = λ none. absurd (omega (arith, ap length none, length-append kept (seen ∷ [])));
      within = omega (arith, place);
      all = ap kept_in same;
      lacks_is = sym (ap lacks_feed same ∙ line_whole front lacks seen);
    }

-- the same of a file whose bytes are known
pub added_known : (old new : Option (List ℕ)) (kept : List Commitment) (end : ℕ) (lacks : Bool) (seen : Commitment) (line : List ℕ) → IfSome old (λ file. new ≡ Some (take end file ++ line)) → (old ≡ None → new ≡ None)
    → ((file : List ℕ) → old ≡ Some file → HoldsState file kept end lacks) → line ≡ line_after lacks seen → IsStored seen
    → (file : List ℕ) → new ≡ Some file → HoldsState file (kept ++ seen ∷ []) (end + length line) false
added_known None new kept end lacks seen line done unknown holds is stored file known = absurd (none-some file (sym (unknown refl) ∙ known))
added_known (Some old) new kept end lacks seen line done unknown holds is stored file known =
    let same : file ≡ take end old ++ line = cc in
    let added = state_added old kept end lacks seen (holds old refl) stored in
    rw (same, is) added

pub whole_known : (read : Result Tail RemoteError) (known : Option (List ℕ)) (text : List ℕ) (start size : ℕ) → IfOk read (ReadsTail text) → IfSome known (λ file. text ≡ drop start file) → start ≡ 0
    → IfOk read (λ tail. IfSome known (λ file. size ≡ length file → HoldsState file tail.kept.items (size - tail.torn) tail.lacks_feed))
whole_known (Err error) known text start size reads is none = tt
whole_known (Ok tail) None text start size reads is none = tt
whole_known (Ok tail) (Some file) text start size reads is none =
    λ sized. state_whole file text tail.kept.items tail.torn size tail.lacks_feed (is ∙ ap (λ n. drop n file) none) sized reads

pub tail_known : (tail : Tail) (known : Option (List ℕ)) (text line lines : List ℕ) (start size : ℕ) → ReadsTail lines tail → IfSome known (λ file. text ≡ drop start file) → IsCutInLines text line lines → 0 < length tail.kept.items
    → IfSome known (λ file. size ≡ length file → HoldsState file tail.kept.items (size - tail.torn) tail.lacks_feed)
tail_known tail None text line lines start size reads is cut some = tt
tail_known tail (Some file) text line lines start size reads is cut some =
    λ sized. state_tail file text line lines tail.kept.items start tail.torn size tail.lacks_feed is sized cut reads some

-- ---- what the next look reads

last_of_more : (first : List Commitment) (one : Commitment) (later : List Commitment) → last_kept (first ++ one ∷ later) ≡ last_kept (one ∷ later)
last_of_more [] one later = refl
last_of_more (only ∷ []) one later = refl
last_of_more (only ∷ second ∷ first) one later = last_of_more (second ∷ first) one later

pub newest_kept : (file : List ℕ) (kept : List Commitment) (end : ℕ) (lacks : Bool) → HoldsState file kept end lacks → last_kept (kept_in file) ≡ last_kept kept
newest_kept file [] end lacks state = ap last_kept (state.some refl)
newest_kept file (one ∷ later) end lacks state = ap last_kept (sym state.last) ∙ last_of_more (take (length (kept_in file) - length (one ∷ later)) (kept_in file)) one later

pub newest_known : (known : Option (List ℕ)) (kept : List Commitment) (torn size : ℕ) (lacks : Bool) → IfSome known (λ file. size ≡ length file)
    → IfSome known (λ file. size ≡ length file → HoldsState file kept (size - torn) lacks) → (file : List ℕ) → known ≡ Some file → last_kept (kept_in file) ≡ last_kept kept
newest_known None kept torn size lacks sized holds file is = absurd (none-some file is)
newest_known (Some bytes) kept torn size lacks sized holds file is =
    let same : bytes ≡ file = cc in
    ap (λ (l : List ℕ). last_kept (kept_in l)) (sym same) ∙ newest_kept bytes kept (size - torn) lacks (holds sized)

-- the last of a list is at its last place
pub last_place : (kept : List Commitment) → slice_get kept (length kept - 1) ≡ last_kept kept
last_place [] = refl
last_place (only ∷ []) = refl
last_place (first ∷ second ∷ later) =
    let place : length (first ∷ second ∷ later) - 1 ≡ suc (length (second ∷ later) - 1) = omega arith in
    ap (slice_get (first ∷ second ∷ later)) place ∙ last_place (second ∷ later)
