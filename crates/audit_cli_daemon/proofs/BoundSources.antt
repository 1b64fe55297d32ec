-- Who may append an event of a kind that is bound to a source.
use Rattle.std.specs.Prelude.{Contains, if◌then◌else◌, nat_lt}
use Rattle.std.specs.List.{AllByRecursion, cons_option, before_first, after_first}
use Rattle.std.proofs.Common.{arith, ◌≡◌, ◌≢◌, ◌⊎◌, inl, inr, refl, sym, ap, ◌∙◌, subst, ℕ, zero, suc, ◌<◌, Bool, true, false, not, ◌==◌, Option, Some, None, List, [], ◌∷◌, ◌++◌, length, map, true≢false}
use Rattle.std.proofs.lemmas.Bool.{eqb-true, ltb-true}
use Rattle.audit_base.specs.declared.limits.TheConstants.{RESERVED_KIND}
use Rattle.audit_serve_passes.specs.declared.bound_kinds.BoundKinds.{BoundKinds}
use Rattle.audit_serve_passes.specs.declared.rights.Rights.{Rights}
use Rattle.audit_serve_passes.specs.declared.rights.Rights.TheVariants as rights
use Rattle.audit_serve_passes.specs.Rights.{is_bound, may_append}
use Rattle.audit_server_commit.specs.Waiting.{Append}
use Rattle.audit_server.specs.Rights.{IsRightful}
use Rattle.audit_cli_daemon.specs.Rights.{rights_of_readers, source_rights, rights_at, rights_of_others}
use Rattle.audit_text.specs.LineEvents.{kind_in_word, unreserved_kind}
use Rattle.audit_text.specs.Number.{number_in_text}
use Rattle.audit_cli_base.specs.SocketPath.{is_socket_path}
use Rattle.audit_cli_daemon.specs.Sources.{SourceData, source_with, source_in, sources_in, has_kind}
use Rattle.audit_cli_daemon.proofs.JudgedSources.{or_true}

pub all_at : {X : Type 0} (P : X → Type 0) (xs : List X) (x : X) → AllByRecursion P xs → Contains xs x → P x
all_at P [] x all (i, within, is) = absurd (omega (arith, within))
all_at P (y ∷ xs) x all (zero, within, is) = subst P is all.0
all_at P (y ∷ xs) x all (suc i, within, is) = all_at P xs x all.1 (i, omega (arith, within), is)

module _ (kind : ℕ) where
  -- whoever has these rights and may append the kind is its source
  abbrev IsItsSource : Rights → Type 0
  IsItsSource allowed = may_append allowed kind ≡ true → allowed ≡ rights.Source kind

  by_sources : (sources : List SourceData) (more : List Rights) → AllByRecursion IsItsSource more → AllByRecursion IsItsSource (map source_rights sources ++ more)
  by_sources [] more all = all
  by_sources (source ∷ sources) more all = ((λ may. ap (λ (k : ℕ). rights.Source k) (sym (eqb-true kind source.kind may))), by_sources sources more all)

  by_readers : {A : Type 0} (readers : Option A) (more : List Rights) → AllByRecursion IsItsSource more → AllByRecursion IsItsSource (rights_of_readers readers ++ more)
  by_readers None more all = all
  by_readers (Some readers) more all = ((λ may. absurd (true≢false (sym may))), all)

  by_others : (may_close : Bool) (bound : BoundKinds) → is_bound bound kind ≡ true → IsItsSource (rights_of_others may_close bound)
  by_others true bound is may = absurd (true≢false (sym may ∙ ap not is))
  by_others false bound is may = absurd (true≢false (sym may ∙ ap not is))

  -- whoever comes by one of the sockets
  pub one_is_source : {A : Type 0} (readers : Option A) (sources : List SourceData) (may_close : Bool) (bound : BoundKinds) (allowed : Rights) → is_bound bound kind ≡ true
      → Contains (rights_at readers sources (rights_of_others may_close bound)) allowed → may_append allowed kind ≡ true → allowed ≡ rights.Source kind
  one_is_source readers sources may_close bound allowed is there =
      all_at IsItsSource (rights_at readers sources (rights_of_others may_close bound)) allowed
      (by_readers readers (map source_rights sources ++ rights_of_others may_close bound ∷ []) (by_sources sources (rights_of_others may_close bound ∷ []) (by_others may_close bound is, tt))) there

-- what is allowed of a kind
pub kind_allowed : (allowed : Rights) (append : Append) (kind : ℕ) → IsRightful allowed append → append.event.kind ≡ kind → kind ≢ RESERVED_KIND → may_append allowed kind ≡ true
kind_allowed allowed append kind (inl close) same plain = absurd (plain (sym same ∙ close.0))
kind_allowed allowed append kind (inr may) same plain = ap (may_append allowed) (sym same) ∙ may.1

-- ---- no word binds the reserved kind

unreserved : (word : Option ℕ) (kind : ℕ) → unreserved_kind word ≡ Some kind → kind < RESERVED_KIND
unreserved None kind is = absurd (cc is)
unreserved (Some given) kind is = by (nat_lt given RESERVED_KIND) refl is
  where
    by : (test : Bool) → nat_lt given RESERVED_KIND ≡ test → (if test then Some given else None) ≡ Some kind → kind < RESERVED_KIND
    by true less same = let one : given ≡ kind = cc same in subst (λ (k : ℕ). k < RESERVED_KIND) one (ltb-true given RESERVED_KIND less)
    by false less same = absurd (cc same)

in_word : (word : List ℕ) (kind : ℕ) → kind_in_word word ≡ Some kind → kind < RESERVED_KIND
in_word word kind is = by (nat_lt 10 (length word)) is
  where
    by : (long : Bool) → (if long then None else unreserved_kind (number_in_text word)) ≡ Some kind → kind < RESERVED_KIND
    by true same = absurd (cc same)
    by false same = unreserved (number_in_text word) kind same

of_kind : (given : Option ℕ) (path : List ℕ) (source : SourceData) → source_with given path ≡ Some source → given ≡ Some source.kind
of_kind None path source is = absurd (cc is)
of_kind (Some kind) path source is = by (is_socket_path path 0) is
  where
    by : (good : Bool) → (if good then Some (record { kind = kind; path = path }) else None) ≡ Some source → Some kind ≡ Some source.kind
    by true same = let one : record { kind = kind; path = path } ≡ source = cc same in ap (λ (s : SourceData). Some s.kind) one
    by false same = absurd (cc same)

one_unreserved : (word : List ℕ) (source : SourceData) → source_in word ≡ Some source → source.kind < RESERVED_KIND
one_unreserved word source is = in_word (before_first (λ b. b == 58) word) source.kind (of_kind (kind_in_word (before_first (λ b. b == 58) word)) (after_first (λ b. b == 58) word) source is)

pub bound_is_unreserved : (words : List (List ℕ)) (kind : ℕ) → has_kind (sources_in words) kind ≡ true → kind < RESERVED_KIND
bound_is_unreserved [] kind there = absurd (true≢false (sym there))
bound_is_unreserved (word ∷ words) kind there = by (source_in word) refl there (λ later. bound_is_unreserved words kind later)
  where
    by : (found : Option SourceData) → source_in word ≡ found → has_kind (cons_option found (sources_in words)) kind ≡ true → (has_kind (sources_in words) kind ≡ true → kind < RESERVED_KIND) → kind < RESERVED_KIND
    by None is there rest = rest there
    by (Some source) is there rest = either (or_true (source.kind == kind) (has_kind (sources_in words) kind) there)
      where
        either : ((source.kind == kind) ≡ true) ⊎ (has_kind (sources_in words) kind ≡ true) → kind < RESERVED_KIND
        either (inl same) = subst (λ (k : ℕ). k < RESERVED_KIND) (eqb-true source.kind kind same) (one_unreserved word source is)
        either (inr later) = rest later

pub unlike_reserved : (kind : ℕ) → kind < RESERVED_KIND → kind ≢ RESERVED_KIND
unlike_reserved kind less same = absurd (omega (arith, less, same))
