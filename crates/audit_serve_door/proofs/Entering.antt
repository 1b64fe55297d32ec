-- Nobody enters where nobody waits.
use Rattle.std.specs.Prelude.{is_some, IfSome, nat_lt, if◌then◌else◌}
use Rattle.std.proofs.Common.{◌≡◌, ℕ, Bool, true, false, Option, Some, None, List, [], ◌∷◌, refl, sym, ap, subst, true≢false}
use Rattle.std.specs.Ordering.{nat_cmp}
use Rattle.std.specs.BTreeMap.{BTreeMap, get}
use Rattle.audit_serve_door.specs.declared.choice.Taken.{Taken}
use Rattle.audit_serve_door.specs.declared.waiting.Waiting.{Waiting}
use Rattle.audit_serve_door.specs.Choice.{if_first, earlier, next_entry}
use Rattle.audit_serve_door.specs.Entering.{first_number, first_of_all, has_some, has_reader, has_other, waits_as_other, heads_of, NobodyEnters}
use Rattle.audit_serve_door.specs.Waits.{heard_at}

none_some : {A : Type 0} (all : List A) → has_some all ≡ false → all ≡ []
none_some [] none = refl
none_some (one ∷ others) none = absurd (true≢false none)

pub no_next : (taken : Taken) (reader other closing : Option ℕ) (waits : Bool) → reader ≡ None → other ≡ None → waits ≡ false
    → next_entry (record { reader = reader; other = other; closing = closing; closing_waits = waits }) taken ≡ None
no_next taken reader other closing waits none no_other none_waits = by (nat_lt taken.readers taken.most) (nat_lt taken.others taken.most) reader other waits none no_other none_waits
  where
    by : (r o : Bool) (reader other : Option ℕ) (waits : Bool) → reader ≡ None → other ≡ None → waits ≡ false
        → earlier (if r then if_first reader closing else None) (if o then if_first other closing else if waits then closing else None) ≡ None
    by true true None None waits none no_other none_waits = refl
    by true false None None false none no_other none_waits = refl
    by true false None None true none no_other none_waits = absurd (true≢false none_waits)
    by false true reader None waits none no_other none_waits = refl
    by false false reader other false none no_other none_waits = refl
    by false false reader other true none no_other none_waits = absurd (true≢false none_waits)
    by true o (Some number) other waits none no_other none_waits = absurd (cc none)
    by true true None (Some number) waits none no_other none_waits = absurd (cc no_other)
    by true false None (Some number) waits none no_other none_waits = absurd (cc no_other)
    by false true reader (Some number) waits none no_other none_waits = absurd (cc no_other)

nobody_of : {A : Type 0} (number : ℕ) (map : BTreeMap ℕ A) → map.entries ≡ [] → is_some (get nat_cmp map number) ≡ false
nobody_of number map none = search (none)

module _ {S : Type 0} where
  none_waits : (closing : Option ℕ) (waiting : Waiting S) → has_other waiting ≡ false → waits_as_other closing waiting ≡ false
  none_waits None waiting none = refl
  none_waits (Some number) waiting none = nobody_of number waiting.others (none_some waiting.others.entries none)

  pub nobody_next : (taken : Taken) (waiting : Waiting S) → next_entry (heads_of waiting) taken ≡ None → NobodyEnters taken waiting
  nobody_next taken waiting none = subst (λ (found : Option ℕ). IfSome found (λ number. heard_at waiting number ≡ None)) (sym none) tt

  pub nobody_enters : (taken : Taken) (waiting : Waiting S) → has_reader waiting ≡ false → has_other waiting ≡ false → NobodyEnters taken waiting
  nobody_enters taken waiting no_reader no_other = nobody_next taken waiting
      (no_next taken (first_number waiting.readers.entries) (first_number waiting.others.entries) (first_of_all waiting.closing.keys) (waits_as_other (first_of_all waiting.closing.keys) waiting)
      (ap first_number (none_some waiting.readers.entries no_reader)) (ap first_number (none_some waiting.others.entries no_other)) (none_waits (first_of_all waiting.closing.keys) waiting no_other))

  pub next_is_gone : (taken : Taken) (waiting : Waiting S) (number : ℕ) → next_entry (heads_of waiting) taken ≡ Some number → heard_at waiting number ≡ None → NobodyEnters taken waiting
  next_is_gone taken waiting number next gone = subst (λ (found : Option ℕ). IfSome found (λ (one : ℕ). heard_at waiting one ≡ None)) (sym next) gone
