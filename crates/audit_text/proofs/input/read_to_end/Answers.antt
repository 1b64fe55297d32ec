use Rattle.std.proofs.Common.{◌≡◌, ◌++◌, ◌≤◌, ℕ, Option, List, length, take, drop, refl, ◌∙◌, ap, sym, subst, arith, append-nil, length-take}
use Rattle.std.proofs.lemmas.List.{take-append-le}
use Rattle.std.proofs.lemmas.Result.{err_from_is_err_and}
use Rattle.std.specs.Io.KnownBytes.{Consumes}
use Rattle.audit_text.proofs.Taking.{taken_none, taken_more, taken_all, taken_long, at_most_kept, at_most}
use Rattle.audit_text.proofs.input.read_to_end.Goals as goal

-- the bytes taken so far and those of one more piece, which stands in front of others
joined : (old now next : Option (List ℕ)) (taken piece others all : List ℕ) (count : ℕ) → count ≤ length piece → Consumes old now taken → Consumes now next (take count piece)
    → all ≡ taken ++ take count (piece ++ others) → Consumes old next all
joined old now next taken piece others all count within first second is =
    let front : take count (piece ++ others) ≡ take count piece = rw take-append-le refl in
    subst (Consumes old next) (sym (is ∙ ap (λ bytes. taken ++ bytes) front)) (taken_more old now next taken (take count piece) first second)

-- a piece of no bytes
joined_none : (old now next : Option (List ℕ)) (taken piece : List ℕ) (count : ℕ) → count ≡ 0 → Consumes old now taken → Consumes now next (take count piece) → Consumes old next taken
joined_none old now next taken piece count none first second =
    subst (Consumes old next) (ap (λ n. taken ++ take n piece) none ∙ append-nil taken) (taken_more old now next taken (take count piece) first second)

pub loop-init : goal.loop-init
loop-init g c =
    let known = g.R.Read.remaining c.args.reader.now in
    record {
      taken = subst (Consumes known known) (sym c.requires.empty) (taken_none known);
      within = omega (arith, ap length c.requires.empty, c.args.input.now.ok.0);
    }

pub returns-in_err-taken-clause-fault : goal.returns-in_err-taken-clause-fault
returns-in_err-taken-clause-fault g c =
    let p = err_from_is_err_and c.from_residual.result c.from_residual.ensures.1 in
    rw (p.1, p.2, c.in_err-taken.ensures.fault) tt

pub returns-in_err-taken-clause-taken : goal.returns-in_err-taken-clause-taken
returns-in_err-taken-clause-taken g c = at_most_kept _ _ _ c.loop.input.items _ c.loop.invariant.taken (omega arith) c.in_err-taken.ensures.kept

pub returns-then-taken-eq0-clause-whole : goal.returns-then-taken-eq0-clause-whole
returns-then-taken-eq0-clause-whole g c =
    let read = c.in_ok-taken.ensures.taken in
    let all = joined_none _ _ (g.R.Read.remaining c.read_piece.new.reader) c.loop.input.items c.read_piece.new.piece c.in_ok-taken.taken c.if-taken-eq0.true c.loop.invariant.taken read.bytes in
    taken_all _ _ c.loop.input.items all (read.none c.if-taken-eq0.true (omega (arith, simp length-take at c.read_piece.auto.piece)))

pub returns-then-taken-eq0-clause-taken : goal.returns-then-taken-eq0-clause-taken
returns-then-taken-eq0-clause-taken g c =
    record {
      taken = c.loop.input.items;
      within = omega arith;
      bytes = joined_none _ _ (g.R.Read.remaining c.read_piece.new.reader) c.loop.input.items c.read_piece.new.piece c.in_ok-taken.taken c.if-taken-eq0.true c.loop.invariant.taken c.in_ok-taken.ensures.taken.bytes;
    }

pub returns-in_err-extend_from_slice-clause-fault : goal.returns-in_err-extend_from_slice-clause-fault
returns-in_err-extend_from_slice-clause-fault g c =
    let p = err_from_is_err_and c.from_residual-in_err-extend_from_slice.result c.from_residual-in_err-extend_from_slice.ensures.1 in
    rw (p.1, p.2) tt

pub returns-in_err-extend_from_slice-clause-taken : goal.returns-in_err-extend_from_slice-clause-taken
returns-in_err-extend_from_slice-clause-taken g c =
    let taken = c.in_ok-taken.taken in
    let piece = c.read_piece.new.piece in
    at_most _ _ _ c.loop.input.items (take taken piece) _ c.loop.invariant.taken c.in_ok-taken.ensures.taken.bytes (simp length-take (omega (arith, simp length-take at c.read_piece.auto.piece)))

pub returns-then-len-gt-INPUT_LIMIT-clause-fault : goal.returns-then-len-gt-INPUT_LIMIT-clause-fault
returns-then-len-gt-INPUT_LIMIT-clause-fault g c =
    let read = c.in_ok-taken.ensures.taken in
    let all = joined _ _ (g.R.Read.remaining c.read_piece.new.reader) c.loop.input.items c.read_piece.new.piece (drop c.min-room.result c.loop.piece) c.extend_from_slice.new.self.items c.in_ok-taken.taken read.within c.loop.invariant.taken read.bytes c.in_ok-extend_from_slice.ensures.items in
    taken_long _ _ c.extend_from_slice.new.self.items _ all (omega (arith, c.extend_from_slice.new.self.ok.0))

pub returns-then-len-gt-INPUT_LIMIT-clause-taken : goal.returns-then-len-gt-INPUT_LIMIT-clause-taken
returns-then-len-gt-INPUT_LIMIT-clause-taken g c =
    let taken = c.in_ok-taken.taken in
    let piece = c.read_piece.new.piece in
    at_most _ _ _ c.loop.input.items (take taken piece) _ c.loop.invariant.taken c.in_ok-taken.ensures.taken.bytes (simp length-take (omega (arith, simp length-take at c.read_piece.auto.piece)))

pub loop-preserved : goal.loop-preserved
loop-preserved g c =
    let read = c.in_ok-taken.ensures.taken in
    record {
      taken = joined _ _ (g.R.Read.remaining c.read_piece.new.reader) c.loop.input.items c.read_piece.new.piece (drop c.min-room.result c.loop.piece) c.extend_from_slice.new.self.items c.in_ok-taken.taken read.within c.loop.invariant.taken read.bytes c.in_ok-extend_from_slice.ensures.items;
      within = omega arith;
    }
