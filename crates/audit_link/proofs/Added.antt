-- One more event of a kind.
use Rattle.std.specs.Prelude.{slice_set}
use Rattle.std.specs.List.{insert}
use Rattle.std.proofs.Common.{inl, inr, ◌≡◌, ◌≢◌, ℕ, ◌+◌, ◌<◌, ◌≤◌, ◌^◌, List, [], ◌∷◌, length, refl, sym, ap, subst, ◌∙◌, arith, add-one}
use Rattle.std.proofs.lemmas.Bool.{cases_lt, cases_eq, lt-ltb, le-ltb, eq-eqb, ne_eqb}
use Rattle.std.proofs.lemmas.List.{length-set}
use Rattle.std.proofs.lemmas.List.Edits.{length-insert}
use Rattle.audit_base.specs.declared.limits.TheConstants.{RESERVED_KIND}
use Rattle.audit_link.specs.declared.kind_count.KindCount.{KindCount}
use Rattle.audit_link.specs.declared.counts.TheConstants.{MAX_KINDS}
use Rattle.audit_link.specs.Counts.{IsCount, Ascends, AreCounts, count_of, added}
use Rattle.audit_link.specs.Places.{IsAt, IsBefore}

abbrev one : ℕ → KindCount
one kind = record { kind = kind; count = 1 }

-- a kind below the lowest isn't counted
none_below : (lowest kind : ℕ) (counts : List KindCount) → kind < lowest → Ascends lowest counts → count_of kind counts ≡ 0
none_below lowest kind [] below ascends = refl
none_below lowest kind (counted ∷ counts) below ascends =
    rw (ne_eqb counted.kind kind (λ same. omega (arith, same, ascends.0)))
    (none_below (counted.kind + 1) kind counts (omega (arith, ascends.0)) ascends.2)

pub empty_before : (kind : ℕ) → IsBefore kind [] 0
unfolding added
empty_before kind = record { within = omega arith; count_is = refl; added_is = refl }

pub at_here : (kind : ℕ) (counted : KindCount) (counts : List KindCount) → counted.kind ≡ kind → IsAt kind (counted ∷ counts) 0 counted.count
unfolding added
at_here kind counted counts same = record {
  within = omega arith;
  count_is = rw (eq-eqb counted.kind kind same) refl;
  added_is = rw (eq-eqb counted.kind kind same) (ap (λ (k : ℕ). record { kind = k; count = counted.count + 1 } ∷ counts) same);
}

pub before_here : (kind : ℕ) (counted : KindCount) (counts : List KindCount) → Ascends (counted.kind + 1) counts → kind < counted.kind → IsBefore kind (counted ∷ counts) 0
unfolding added
before_here kind counted counts ascends below =
    let other = ne_eqb counted.kind kind (λ same. omega (arith, same, below)) in
    record {
      within = omega arith;
      count_is = rw other (none_below (counted.kind + 1) kind counts (omega (arith, below)) ascends);
      added_is = rw (other, lt-ltb kind counted.kind below) refl;
    }

set_later : (counted : KindCount) (counts : List KindCount) (place : ℕ) (changed : KindCount) → slice_set (counted ∷ counts) (place + 1) changed ≡ counted ∷ slice_set counts place changed
set_later counted counts place changed = rw (add-one place) refl

insert_later : (counted : KindCount) (counts : List KindCount) (place : ℕ) (new : KindCount) → insert (counted ∷ counts) (place + 1) new ≡ counted ∷ insert counts place new
insert_later counted counts place new = rw (add-one place) refl

pub at_later : (kind : ℕ) (counted : KindCount) (counts : List KindCount) (place count : ℕ) → counted.kind ≢ kind → counted.kind ≤ kind → IsAt kind counts place count → IsAt kind (counted ∷ counts) (place + 1) count
unfolding added
at_later kind counted counts place count other below is =
    let not = ne_eqb counted.kind kind other in
    record {
      within = omega (arith, is.within);
      count_is = rw not is.count_is;
      added_is = rw (not, le-ltb kind counted.kind below)
          (ap (λ (cs : List KindCount). counted ∷ cs) is.added_is ∙ sym (set_later counted counts place (record { kind = kind; count = count + 1 })));
    }

pub before_later : (kind : ℕ) (counted : KindCount) (counts : List KindCount) (place : ℕ) → counted.kind ≢ kind → counted.kind ≤ kind → IsBefore kind counts place → IsBefore kind (counted ∷ counts) (place + 1)
unfolding added
before_later kind counted counts place other below is =
    let not = ne_eqb counted.kind kind other in
    record {
      within = omega (arith, is.within);
      count_is = rw not is.count_is;
      added_is = rw (not, le-ltb kind counted.kind below)
          (ap (λ (cs : List KindCount). counted ∷ cs) is.added_is ∙ sym (insert_later counted counts place (one kind)));
    }

-- ---- what is counted after one more event

module _ (kind : ℕ) where
  ascends_over : (lowest : ℕ) (counted : KindCount) (counts : List KindCount) → lowest ≤ kind → kind < RESERVED_KIND → count_of kind (counted ∷ counts) + 1 < 2 ^ 64 → lowest ≤ counted.kind → IsCount counted
      → Ascends (counted.kind + 1) counts → (counted.kind + 1 ≤ kind → count_of kind counts + 1 < 2 ^ 64 → Ascends (counted.kind + 1) (added kind counts)) → Ascends lowest (added kind (counted ∷ counts))
  unfolding added
  ascends_over lowest counted counts low fits small at is ascends rest = elim (cases_eq counted.kind kind) [
    | inl same ↦ (let eq = eq-eqb counted.kind kind same in rw eq (
      at,
      record { kind = is.kind; some = omega arith; small = let n : count_of kind (counted ∷ counts) ≡ counted.count = rw eq refl in omega (arith, small, n) },
      ascends,
    ))
    | inr other ↦ (let not = ne_eqb counted.kind kind other in elim (cases_lt kind counted.kind) [
      | inl below ↦ rw (not, lt-ltb kind counted.kind below) (
        low,
        record { kind = fits; some = omega arith; small = omega arith },
        (omega (arith, below), is, ascends),
      )
      | inr above ↦ (let n : count_of kind (counted ∷ counts) ≡ count_of kind counts = rw not refl in
          rw (not, le-ltb kind counted.kind above) (at, is, rest (omega (arith, above, other)) (omega (arith, small, n))))
    ])
  ]

  pub added_ascends : (lowest : ℕ) (counts : List KindCount) → lowest ≤ kind → kind < RESERVED_KIND → count_of kind counts + 1 < 2 ^ 64 → Ascends lowest counts → Ascends lowest (added kind counts)
  unfolding added
  added_ascends lowest [] low fits small ascends = (low, record { kind = fits; some = omega arith; small = omega arith }, tt)
  added_ascends lowest (counted ∷ counts) low fits small ascends =
      ascends_over lowest counted counts low fits small ascends.0 ascends.1 ascends.2 (λ above less. added_ascends (counted.kind + 1) counts above fits less ascends.2)

pub added_are : (kind : ℕ) (counts : List KindCount) → kind < RESERVED_KIND → count_of kind counts + 1 < 2 ^ 64 → length (added kind counts) ≤ MAX_KINDS → AreCounts counts → AreCounts (added kind counts)
added_are kind counts fits small few are = record { ascend = added_ascends kind 0 counts (omega arith) fits small are.ascend; few = few }

-- ---- the same of lists as they are in memory

pub too_many_events : (kind place count : ℕ) (shown counts : List KindCount) → shown ≡ counts → IsAt kind shown place count → 2 ^ 64 ≤ count + 1 → 2 ^ 64 ≤ count_of kind counts + 1
too_many_events kind place count shown counts same at many = omega (arith, many, at.count_is, ap (count_of kind) same)

pub too_many_kinds : (kind place : ℕ) (shown counts : List KindCount) → shown ≡ counts → IsBefore kind shown place → MAX_KINDS ≤ length counts → MAX_KINDS < length (added kind counts)
too_many_kinds kind place shown counts same before many =
    omega (arith, many, ap length same, ap (λ (cs : List KindCount). length (added kind cs)) same, ap length before.added_is, length-insert shown place (one kind) before.within)

pub set_are : (kind place count next : ℕ) (shown counts : List KindCount) → shown ≡ counts → AreCounts counts → IsAt kind shown place count → kind < RESERVED_KIND → next ≡ count + 1 → next < 2 ^ 64
    → AreCounts (slice_set counts place (record { kind = kind; count = next }))
set_are kind place count next shown counts same are at fits is small =
    let changed : KindCount = record { kind = kind; count = next } in
    let added_is : added kind shown ≡ slice_set shown place changed = at.added_is ∙ ap (λ (n : ℕ). slice_set shown place (record { kind = kind; count = n })) (sym is) in
    let known : AreCounts shown = subst AreCounts (sym same) are in
    let long : length (added kind shown) ≡ length shown = ap length added_is ∙ length-set shown place changed in
    let all : AreCounts (added kind shown) = added_are kind shown fits (omega (arith, at.count_is, is, small)) (omega (arith, long, known.few)) known in
    subst (λ (cs : List KindCount). AreCounts (slice_set cs place changed)) same (subst AreCounts added_is all)

pub insert_are : (kind place : ℕ) (shown counts after : List KindCount) → shown ≡ counts → AreCounts counts → IsBefore kind shown place → kind < RESERVED_KIND → length counts < MAX_KINDS → after ≡ insert counts place (record { kind = kind; count = 1 })
    → AreCounts after
insert_are kind place shown counts after same are before fits few is =
    let known : AreCounts shown = subst AreCounts (sym same) are in
    let long : length (added kind shown) ≡ length shown + 1 = ap length before.added_is ∙ length-insert shown place (one kind) before.within in
    let all : AreCounts (added kind shown) = added_are kind shown fits (omega (arith, before.count_is)) (omega (arith, long, ap length same, few)) known in
    subst AreCounts (before.added_is ∙ ap (λ (cs : List KindCount). insert cs place (one kind)) same ∙ sym is) all

pub no_counts_left : (counts : List KindCount) → length counts ≡ 0 → counts ≡ []
no_counts_left [] none = refl
no_counts_left (counted ∷ counts) none = absurd (omega (arith, none))
