-- The words for sources, judged one after another.
use denote.Ref.{Bor}
use Rattle.std.proofs.Common.{arith, ◌≡◌, ◌≢◌, ◌⊎◌, inl, inr, refl, sym, ap, ◌∙◌, subst, ℕ, suc, ◌<◌, ◌≤◌, ◌+◌, Bool, true, false, ◌||◌, ◌==◌, nat_lt, is_none, Option, Some, None, List, [], ◌∷◌, ◌++◌, length, map, take, drop, get_or, true≢false}
use Rattle.std.specs.List.{list_any, cons_option}
use Rattle.std.proofs.lemmas.Bool.{eqb-true, eq-eqb, lt-ltb, ltb-true}
use Rattle.std.proofs.lemmas.List.{take_more, take_all, append_assoc, length-map, map-append, take-map}
use Rattle.std.proofs.Math.ListN.{get_or-map}
use Rattle.std.proofs.lemmas.List.Elements.{filter_map-append}
use Rattle.std.proofs.lemmas.List.Folds.{list_any-append, list_any_at}
use Rattle.std.proofs.Math.Seq.{split_at}
use Rattle.std.proofs.Math.Bool.{or_comm}
use Rattle.audit_serve_passes.specs.declared.bound_kinds.BoundKinds.{BoundKinds}
use Rattle.audit_serve_passes.specs.Rights.{is_bound, bound_count}
use Rattle.audit_serve_passes.specs.declared.rights.Rights.{Rights}
use Rattle.audit_cli_daemon.specs.Rights.{rights_of_readers, source_rights, rights_at, modes_at}
use Rattle.audit_cli_daemon.specs.Sources.{SourceData, words_of, source_in, sources_in, has_kind, has_kind_twice, are_no_sources, kinds_bound}

pub or_true : (a b : Bool) → (a || b) ≡ true → (a ≡ true) ⊎ (b ≡ true)
or_true true b either = inl refl
or_true false b either = inr either

or_second : (a b : Bool) → b ≡ true → (a || b) ≡ true
or_second true b second = refl
or_second false b second = second

or_first : (a b : Bool) → a ≡ true → (a || b) ≡ true
or_first a b first = ap (λ (x : Bool). x || b) first

both_false : (a b : Bool) → a ≡ false → b ≡ false → (a || b) ≡ false
both_false a b first second = ap (λ (x : Bool). x || b) first ∙ second

first_false : (a b : Bool) → (a || b) ≡ false → a ≡ false
first_false true b neither = absurd (true≢false neither)
first_false false b neither = refl

second_false : (a b : Bool) → (a || b) ≡ false → b ≡ false
second_false true b neither = absurd (true≢false neither)
second_false false b neither = neither

-- a test that isn't true is false
not_true : (test : Bool) → (test ≡ true → ⊥) → test ≡ false
not_true true never = absurd (never refl)
not_true false never = refl

-- ---- kinds among sources

has_kind_more : (xs : List SourceData) (s : SourceData) (kind : ℕ) → has_kind (xs ++ s ∷ []) kind ≡ (s.kind == kind || has_kind xs kind)
has_kind_more xs s kind = list_any-append (λ one. one.kind == kind) xs (s ∷ []) ∙ ap (λ (b : Bool). has_kind xs kind || b) (or_comm (s.kind == kind) false) ∙ or_comm (has_kind xs kind) (s.kind == kind)

once_more : (xs : List SourceData) (s : SourceData) → has_kind_twice xs ≡ false → has_kind xs s.kind ≡ false → has_kind_twice (xs ++ s ∷ []) ≡ false
once_more [] s once other = refl
once_more (x ∷ xs) s once other =
    both_false (has_kind (xs ++ s ∷ []) x.kind) (has_kind_twice (xs ++ s ∷ []))
    (has_kind_more xs s x.kind ∙ both_false (s.kind == x.kind) (has_kind xs x.kind)
    (not_true (s.kind == x.kind) (λ same. true≢false (sym (eq-eqb x.kind s.kind (sym (eqb-true s.kind x.kind same))) ∙ first_false (x.kind == s.kind) (has_kind xs s.kind) other)))
    (first_false (has_kind xs x.kind) (has_kind_twice xs) once))
    (once_more xs s (second_false (has_kind xs x.kind) (has_kind_twice xs) once) (second_false (x.kind == s.kind) (has_kind xs s.kind) other))

-- one among others has the kind of the next
twice_here : (xs ys : List SourceData) (s : SourceData) → has_kind xs s.kind ≡ true → has_kind_twice (xs ++ s ∷ ys) ≡ true
twice_here [] ys s there = absurd (true≢false (sym there))
twice_here (x ∷ xs) ys s there = elim (or_true (x.kind == s.kind) (has_kind xs s.kind) there) [
  | inl same ↦ or_first (has_kind (xs ++ s ∷ ys) x.kind) (has_kind_twice (xs ++ s ∷ ys))
      (list_any-append (λ one. one.kind == x.kind) xs (s ∷ ys)
      ∙ or_second (has_kind xs x.kind) (has_kind (s ∷ ys) x.kind) (or_first (s.kind == x.kind) (has_kind ys x.kind) (eq-eqb s.kind x.kind (sym (eqb-true x.kind s.kind same)))))
  | inr later ↦ or_second (has_kind (xs ++ s ∷ ys) x.kind) (has_kind_twice (xs ++ s ∷ ys)) (twice_here xs ys s later)
]

-- ---- the words so far

-- the first of the words ask for sources of different kinds, and these kinds are bound
pub record AreJudged (words : List (List ℕ)) (i : ℕ) (bound : BoundKinds) : Type 0 where
  pub counted : bound_count bound ≡ i
  pub few : i ≤ 15
  pub kinds : (kind : ℕ) → is_bound bound kind ≡ has_kind (sources_in (take i words)) kind
  pub each : list_any (λ word. is_none (source_in word)) (take i words) ≡ false
  pub apart : has_kind_twice (sources_in (take i words)) ≡ false

found_is : (found : Option SourceData) (s : SourceData) → found ≡ Some s → is_none found ≡ false
found_is found s is = ap is_none is

module _ (words : List (List ℕ)) (i : ℕ) (s : SourceData) (within : i < length words) (is : source_in (get_or words i []) ≡ Some s) where
  one_alone : sources_in (get_or words i [] ∷ []) ≡ s ∷ []
  one_alone = rw is refl

  sources_more : sources_in (take (i + 1) words) ≡ sources_in (take i words) ++ s ∷ []
  sources_more = ap sources_in (take_more words i [] within) ∙ filter_map-append source_in (take i words) (get_or words i [] ∷ []) ∙ ap (λ (one : List SourceData). sources_in (take i words) ++ one) one_alone

  sources_around : sources_in words ≡ sources_in (take i words) ++ s ∷ sources_in (drop (suc i) words)
  sources_around =
      ap sources_in (split_at words i [] within)
      ∙ filter_map-append source_in (take i words) (get_or words i [] ∷ drop (suc i) words)
      ∙ ap (λ (rest : List SourceData). sources_in (take i words) ++ rest)
      (filter_map-append source_in (get_or words i [] ∷ []) (drop (suc i) words) ∙ ap (λ (one : List SourceData). one ++ sources_in (drop (suc i) words)) one_alone)

  -- one more
  pub judged_more : (bound more : BoundKinds) → AreJudged words i bound → is_bound bound s.kind ≡ false → ((other : ℕ) → is_bound more other ≡ (s.kind == other || is_bound bound other)) → bound_count more ≡ 1 + bound_count bound → i ≢ 15
      → AreJudged words (i + 1) more
  judged_more bound more so free added count least =
      let counted = so.counted in
      let few = so.few in
      record {
        counted = omega (arith, count, counted);
        few = omega (arith, few, least);
        kinds = λ kind. added kind ∙ ap (λ (b : Bool). s.kind == kind || b) (so.kinds kind) ∙ sym (has_kind_more (sources_in (take i words)) s kind) ∙ ap (λ (all : List SourceData). has_kind all kind) (sym sources_more);
        each = ap (list_any (λ word. is_none (source_in word))) (take_more words i [] within)
            ∙ list_any-append (λ word. is_none (source_in word)) (take i words) (get_or words i [] ∷ [])
            ∙ both_false (list_any (λ word. is_none (source_in word)) (take i words)) (is_none (source_in (get_or words i [])) || false) so.each (both_false (is_none (source_in (get_or words i []))) false (found_is (source_in (get_or words i [])) s is) refl);
        apart = ap has_kind_twice sources_more ∙ once_more (sources_in (take i words)) s so.apart (sym (so.kinds s.kind) ∙ free);
      }

  -- its kind is bound already
  pub judged_twice : (bound : BoundKinds) → AreJudged words i bound → is_bound bound s.kind ≡ true → are_no_sources words ≡ true
  judged_twice bound so there =
      or_second (nat_lt 15 (length words)) (list_any (λ word. is_none (source_in word)) words || has_kind_twice (sources_in words))
      (or_second (list_any (λ word. is_none (source_in word)) words) (has_kind_twice (sources_in words))
      (ap has_kind_twice sources_around ∙ twice_here (sources_in (take i words)) (sources_in (drop (suc i) words)) s (sym (so.kinds s.kind) ∙ there)))

-- the kind of one more, if it asks for a source
pub kinds_more : (words : List (List ℕ)) (i : ℕ) (found : Option SourceData) → i < length words → source_in (get_or words i []) ≡ found → kinds_bound (sources_in (take (i + 1) words)) ≡ kinds_bound (sources_in (take i words)) ++ kinds_bound (cons_option found [])
kinds_more words i found within is =
    ap (λ (all : List (List ℕ)). kinds_bound (sources_in all)) (take_more words i [] within)
    ∙ ap kinds_bound (filter_map-append source_in (take i words) (get_or words i [] ∷ []))
    ∙ map-append (λ (source : SourceData). source.kind) (sources_in (take i words)) (sources_in (get_or words i [] ∷ []))
    ∙ ap (λ (one : Option SourceData). kinds_bound (sources_in (take i words)) ++ kinds_bound (cons_option one [])) is

-- a word asks for none
pub judged_none : (words : List (List ℕ)) (i : ℕ) → i < length words → source_in (get_or words i []) ≡ None → are_no_sources words ≡ true
judged_none words i within none =
    or_second (nat_lt 15 (length words)) (list_any (λ word. is_none (source_in word)) words || has_kind_twice (sources_in words))
    (or_first (list_any (λ word. is_none (source_in word)) words) (has_kind_twice (sources_in words)) (list_any_at (λ word. is_none (source_in word)) words i [] within (ap is_none none)))

-- there are too many
pub judged_many : (words : List (List ℕ)) (i : ℕ) (bound : BoundKinds) → i < length words → AreJudged words i bound → bound_count bound ≡ 15 → are_no_sources words ≡ true
judged_many words i bound within so full =
    let counted = so.counted in
    or_first (nat_lt 15 (length words)) _ (lt-ltb 15 (length words) (omega (arith, within, counted, full)))

-- none of them was wrong
pub judged_all : (words : List (List ℕ)) (i : ℕ) (bound : BoundKinds) → length words ≤ i → i ≤ length words → AreJudged words i bound → are_no_sources words ≡ false
judged_all words i bound past within so =
    let few = so.few in
    let all = take_all i words past in
    both_false (nat_lt 15 (length words)) _ (not_true (nat_lt 15 (length words)) (λ many. let more = ltb-true 15 (length words) many in omega (arith, more, few, past, within)))
    (both_false (list_any (λ word. is_none (source_in word)) words) (has_kind_twice (sources_in words))
    (subst (λ (some : List (List ℕ)). list_any (λ word. is_none (source_in word)) some ≡ false) all so.each)
    (subst (λ (some : List (List ℕ)). has_kind_twice (sources_in some) ≡ false) all so.apart))

pub judged_kinds : (words : List (List ℕ)) (i : ℕ) (bound : BoundKinds) → length words ≤ i → AreJudged words i bound → (kind : ℕ) → is_bound bound kind ≡ has_kind (sources_in words) kind
judged_kinds words i bound past so kind = so.kinds kind ∙ ap (λ (some : List (List ℕ)). has_kind (sources_in some) kind) (take_all i words past)

-- ---- words as they are given

abbrev pub no_word : Bor (List ℕ)
no_word = record { ref_ptr = (0, 0); now = [] }

pub word_at : (words : List (Bor (List ℕ))) (i : ℕ) → source_in (get_or (words_of words) i []) ≡ source_in (get_or words i no_word).now
word_at words i = ap source_in (get_or-map (λ (word : Bor (List ℕ)). word.now) words i no_word)

pub word_within : (words : List (Bor (List ℕ))) (i : ℕ) → i < length words → i < length (words_of words)
word_within words i within =
    let long = length-map words (λ (word : Bor (List ℕ)). word.now) in
    omega (arith, long, within)

-- ---- the sockets so far

pub sources_taken : (words : List (Bor (List ℕ))) (i : ℕ) (s : SourceData) → i < length words → source_in (get_or words i no_word).now ≡ Some s → sources_in (words_of (take (i + 1) words)) ≡ sources_in (words_of (take i words)) ++ s ∷ []
sources_taken words i s within is =
    ap (λ (some : List (List ℕ)). sources_in some) (sym (take-map (λ (word : Bor (List ℕ)). word.now) (i + 1) words))
    ∙ sources_more (words_of words) i s (word_within words i within) (word_at words i ∙ is)
    ∙ ap (λ (some : List (List ℕ)). sources_in some ++ s ∷ []) (take-map (λ (word : Bor (List ℕ)). word.now) i words)

-- one more with what its source has
pub pushed : {A B : Type 0} (f : A → B) (of : SourceData → B) (begun old : List A) (e : A) (before after : List SourceData) (s : SourceData) → map f old ≡ map f begun ++ map of before → f e ≡ of s → after ≡ before ++ s ∷ [] → map f (old ++ e ∷ []) ≡ map f begun ++ map of after
pushed f of begun old e before after s so is more =
    map-append f old (e ∷ [])
    ∙ ap (λ front. front ++ f e ∷ []) so
    ∙ append_assoc (map f begun) (map of before) (f e ∷ [])
    ∙ ap (λ rest. map f begun ++ rest) (ap (λ one. map of before ++ one ∷ []) is ∙ sym (map-append of before (s ∷ [])) ∙ ap (map of) (sym more))

-- all have the same permissions
same_modes : (mode : ℕ) (sources : List SourceData) → map (λ (one : Rights). mode) (map source_rights sources) ≡ map (λ (source : SourceData). mode) sources
same_modes mode [] = refl
same_modes mode (source ∷ sources) = ap (λ (rest : List ℕ). mode ∷ rest) (same_modes mode sources)

pub modes_joined : {A : Type 0} (mode : ℕ) (readers : Option A) (sources : List SourceData) (others : Rights) (front : List ℕ) → front ≡ map (λ (one : Rights). mode) (rights_of_readers readers)
    → (front ++ map (λ (source : SourceData). mode) sources) ++ mode ∷ [] ≡ modes_at (rights_at readers sources others) mode
modes_joined mode readers sources others front is =
    append_assoc front (map (λ (source : SourceData). mode) sources) (mode ∷ [])
    ∙ ap (λ (first : List ℕ). first ++ (map (λ (source : SourceData). mode) sources ++ mode ∷ [])) is
    ∙ ap (λ (middle : List ℕ). map (λ (one : Rights). mode) (rights_of_readers readers) ++ (middle ++ mode ∷ [])) (sym (same_modes mode sources))
    ∙ ap (λ (rest : List ℕ). map (λ (one : Rights). mode) (rights_of_readers readers) ++ rest) (sym (map-append (λ (one : Rights). mode) (map source_rights sources) (others ∷ [])))
    ∙ sym (map-append (λ (one : Rights). mode) (rights_of_readers readers) (map source_rights sources ++ others ∷ []))
