-- An export that is judged without a key of its log: the entries read so far, and the frontier of their tree.
use Rattle.std.proofs.Common.{inl, inr, ◌≡◌, ◌≢◌, ◌⊎◌, Bool, true, false, ℕ, suc, ◌+◌, ◌<◌, ◌≤◌, min, Option, Some, None, IfSome, Result, Ok, Err, List, [], ◌∷◌, ◌++◌, length, refl, sym, ap, ◌∙◌, subst, arith, append-nil}
use Rattle.std.specs.Prelude.{IfOk, IfErr}
use Rattle.std.proofs.lemmas.Bool.{cases_lt}
use Rattle.audit_base.specs.declared.limits.TheConstants.{MAX_COUNT}
use Rattle.audit_chain.specs.EntryForm.{EntryParts, bytes_of_parts}
use Rattle.audit_tree.specs.Subtree.{leaf_hash_of}
use Rattle.audit_tree.specs.Frontier.{FrontierData, IsSized}
use Rattle.audit_tree.specs.Continued.{frontier_after, root_after}
use Rattle.audit_tree.proofs.ContinuedTrees.{frontier_further, root_further, after_none}
use Rattle.audit_proof.specs.declared.commitment.Commitment.{Commitment}
use Rattle.audit_verify.specs.declared.accepted.Accepted.{Accepted}
use Rattle.audit_verify.specs.declared.fault.Cause.{Cause}
use Rattle.audit_verify.specs.declared.fault.Cause.TheVariants.{Short, BadLength, BadLink, BadMac, WrongCommitment, ReadFault, BadClose, Memory}
use Rattle.audit_verify.specs.declared.fault.VerifyFault.{VerifyFault}
use Rattle.audit_chain.specs.Closing.{is_closed}
use Rattle.audit_disclosure.specs.declared.disclosure.Start.{Start}
use Rattle.audit_disclosure.specs.LinkedEntries.{leaves_of, commitment_with_entries, IsUnmatched, IsUnlinkedNext, IsUnlinkedThen, IsUnmatchedAfter, bytes_of_entries, last_link_of, sealed_events}
use Rattle.audit_disclosure.specs.LinkReading.{LinkState, HasReadLinked, HasEndedLinked, HasTakenLinked, StopsLinked, end_of_entries, end_of_reading}
use Rattle.audit_disclosure.specs.Matching.{MatchesExport}

pub record IsBuiltLinked (start : Start) (before after : Option (List ℕ)) (state : LinkState) (tree : FrontierData) : Type 0 where
  pub entries : List EntryParts
  pub read : HasReadLinked start before after state entries
  pub count : tree.count ≡ min state.count MAX_COUNT
  pub tree_is : state.count ≤ MAX_COUNT → tree ≡ frontier_after start.tree (leaves_of entries)

pub linked_none : {start : Start} {known : Option (List ℕ)} {state : LinkState} {tree : FrontierData} → IsSized start.tree.count start.tree.hashes → HasReadLinked start known known state [] → tree ≡ start.tree → IsBuiltLinked start known known state tree
linked_none {start = start} sized has same = record {
  entries = [];
  read = has;
  count = omega (arith, has.count, ap (λ (f : FrontierData). f.count) same, sized.most);
  tree_is = λ few. same ∙ sym (after_none start.tree sized);
}

leaves_more : (entries : List EntryParts) (parts : EntryParts) → leaves_of (entries ++ parts ∷ []) ≡ leaves_of entries ++ leaf_hash_of (bytes_of_parts parts) ∷ []
leaves_more [] parts = refl
leaves_more (one ∷ entries) parts = ap (λ ls. leaf_hash_of (bytes_of_parts one) ∷ ls) (leaves_more entries parts)

pub linked_one : {start : Start} {before mid after : Option (List ℕ)} {old new : LinkState} {tree next : FrontierData} {leaf : List ℕ} (built : IsBuiltLinked start before mid old tree) → HasTakenLinked start before after new built.entries
    → new.count ≡ old.count + 1 → leaf ≡ leaf_hash_of new.held → next ≡ frontier_after tree (leaf ∷ []) → tree.count < MAX_COUNT → IsBuiltLinked start before after new next
linked_one {start = start} {old = old} {new = new} {tree = tree} {leaf = leaf} built one count hash grows room = record {
  entries = built.entries ++ one.parts ∷ [];
  read = one.read;
  count = omega (arith, built.count, count, ap (λ (f : FrontierData). f.count) grows, room);
  tree_is = λ few.
      grows ∙ ap (λ f. frontier_after f (leaf ∷ [])) (built.tree_is (omega (arith, few, count)))
      ∙ frontier_further start.tree (leaves_of built.entries) (leaf ∷ [])
      ∙ ap (frontier_after start.tree) (ap (λ h. leaves_of built.entries ++ h ∷ []) (hash ∙ ap leaf_hash_of one.held) ∙ sym (leaves_more built.entries one.parts));
}

pub linked_full : {start : Start} {before mid after : Option (List ℕ)} {old new : LinkState} {tree : FrontierData} (built : IsBuiltLinked start before mid old tree) → HasTakenLinked start before after new built.entries
    → new.count ≡ old.count + 1 → MAX_COUNT ≤ tree.count → IsBuiltLinked start before after new tree
linked_full built one count full = record {
  entries = built.entries ++ one.parts ∷ [];
  read = one.read;
  count = omega (arith, built.count, count, full);
  tree_is = λ few. absurd (omega (arith, few, count, full, built.count));
}

-- ---- the end

abbrev accepted_with : ℕ → List ℕ → Bool → Accepted
accepted_with count link closed = record { count = count; last_link = link; closed = closed }

pub end_is : {start : Start} {before after : Option (List ℕ)} {state : LinkState} {entries : List EntryParts} → HasReadLinked start before after state entries → end_of_reading state ≡ end_of_entries start entries
end_is {start = start} {state = state} {entries = entries} has =
    ap (λ n. accepted_with n state.link state.closed) has.count ∙ ap (λ l. accepted_with (start.tree.count + length entries) l state.closed) has.link
    ∙ ap (accepted_with (start.tree.count + length entries) (last_link_of start.link entries)) has.closed

abbrev commitment_made : ℕ → List ℕ → Commitment
commitment_made count root = record { count = count; root = root }

length_leaves : (entries : List EntryParts) → length (leaves_of entries) ≡ length entries
length_leaves [] = refl
length_leaves (one ∷ entries) = ap (λ n. suc n) (length_leaves entries)

-- the root of the frontier is that of all entries
root_is : {start : Start} {before after : Option (List ℕ)} {state : LinkState} {tree : FrontierData} (built : IsBuiltLinked start before after state tree) → state.count ≤ MAX_COUNT → root_after tree [] ≡ root_after start.tree (leaves_of built.entries)
root_is {start = start} built few =
    let leaves : List (List ℕ) = leaves_of built.entries in
    let none : leaves ++ [] ≡ leaves = append-nil leaves in
    ap (λ t. root_after t []) (built.tree_is few)
    ∙ root_further start.tree leaves [] (omega (arith, few, built.read.count, ap (λ (ls : List (List ℕ)). length ls) none, length_leaves built.entries))
    ∙ ap (root_after start.tree) none

-- what the judgment at the end says
abbrev pub IsRightEnd : Accepted → FrontierData → Commitment → Accepted → Type 0
IsRightEnd end tree commitment given = (given ≡ end) × (end.count ≤ MAX_COUNT) × (end.count ≡ commitment.count) × (root_after tree [] ≡ commitment.root)

abbrev pub IsWrongEnd : Accepted → FrontierData → Commitment → VerifyFault → Type 0
IsWrongEnd end tree commitment fault = (fault ≡ record { index = end.count; cause = WrongCommitment })
    × ((MAX_COUNT < end.count) ⊎ ((end.count ≢ commitment.count) ⊎ (root_after tree [] ≢ commitment.root)))

pub matched_end : {start : Start} {before after mid : Option (List ℕ)} {state next : LinkState} {tree : FrontierData} (commitment : Commitment) (end given : Accepted) (built : IsBuiltLinked start before mid state tree)
    → HasEndedLinked start before after next built.entries → next.count ≡ state.count → end ≡ end_of_reading next → IsRightEnd end tree commitment given → IfSome before (λ bytes. MatchesExport start commitment bytes given)
matched_end {before = None} commitment end given built ended same is right = tt
matched_end {start = start} {before = Some bytes} {state = state} {next = next} {tree = tree} commitment end given built ended same is right =
    let ends : end ≡ end_of_entries start built.entries = is ∙ end_is ended.read in
    let few : state.count ≤ MAX_COUNT = omega (arith, right.1, ap (λ (a : Accepted). a.count) ends, built.read.count) in record {
      entries = built.entries;
      matched = record {
        follow = ended.read.follow;
        export = ended.whole;
        committed = ap (λ r. commitment_made (start.tree.count + length built.entries) r) (sym (root_is built few) ∙ right.3)
            ∙ ap (λ n. commitment_made n commitment.root) (sym (ap (λ (a : Accepted). a.count) ends) ∙ right.2);
        few = omega (arith, right.1, ap (λ (a : Accepted). a.count) ends);
      };
      end_is = right.0 ∙ ends;
    }

cases_le : (m n : ℕ) → (m ≤ n) ⊎ (n < m)
cases_le m n = elim (cases_lt n m) [
  | inl more ↦ inr more
  | inr within ↦ inl within
]

refused_end : {start : Start} {before mid : Option (List ℕ)} {state : LinkState} {tree : FrontierData} (commitment : Commitment) (count : ℕ) (built : IsBuiltLinked start before mid state tree) → count ≡ start.tree.count + length built.entries
    → (MAX_COUNT < count) ⊎ ((count ≢ commitment.count) ⊎ (root_after tree [] ≢ commitment.root)) → (commitment_with_entries start built.entries ≢ commitment) ⊎ (MAX_COUNT < start.tree.count + length built.entries)
refused_end {start = start} {state = state} commitment count built is why = elim why [
  | inl many ↦ inr (omega (arith, many, is))
  | inr other ↦ elim other [
    | inl number ↦ inl (λ same. number (is ∙ ap (λ (k : Commitment). k.count) same))
    | inr root ↦ elim (cases_le state.count MAX_COUNT) [
      | inl few ↦ inl (λ same. root (root_is built few ∙ ap (λ (k : Commitment). k.root) same))
      | inr many ↦ inr (omega (arith, many, built.read.count))
    ]
  ]
]

pub unmatched_end : {start : Start} {before after mid : Option (List ℕ)} {state next : LinkState} {tree : FrontierData} (commitment : Commitment) (end : Accepted) (fault : VerifyFault) (built : IsBuiltLinked start before mid state tree)
    → HasEndedLinked start before after next built.entries → end ≡ end_of_reading next → IsWrongEnd end tree commitment fault → IfSome before (λ bytes. IsUnmatched start commitment bytes fault)
unmatched_end {before = None} commitment end fault built ended is wrong = tt
unmatched_end {start = start} {before = Some bytes} {tree = tree} commitment end fault built ended is wrong =
    let ends : end ≡ end_of_entries start built.entries = is ∙ end_is ended.read in
    let count : end.count ≡ start.tree.count + length built.entries = ap (λ (a : Accepted). a.count) ends in record {
      entries = built.entries;
      rest = [];
      follow = ended.read.follow;
      split = ended.whole ∙ sym (append-nil (bytes_of_entries built.entries));
      index = ap (λ (f : VerifyFault). f.index) wrong.0 ∙ count;
      wrong = subst (λ c. IsUnmatchedAfter c start commitment built.entries []) (sym (ap (λ (f : VerifyFault). f.cause) wrong.0))
          (record { whole = refl; refused = refused_end commitment end.count built count wrong.1 });
    }

no_commitment : (closed : Bool) (last_link rest : List ℕ) → IsUnlinkedNext WrongCommitment closed last_link rest → ⊥
no_commitment true last_link rest wrong = wrong
no_commitment false last_link rest wrong = wrong

unmatched_after : (cause : Cause) (start : Start) (commitment : Commitment) (entries : List EntryParts) (rest : List ℕ) → IsUnlinkedThen cause start entries rest → IsUnmatchedAfter cause start commitment entries rest
unmatched_after Short start commitment entries rest wrong = wrong
unmatched_after BadLength start commitment entries rest wrong = wrong
unmatched_after BadLink start commitment entries rest wrong = wrong
unmatched_after BadMac start commitment entries rest wrong = wrong
unmatched_after WrongCommitment start commitment entries rest wrong = absurd (no_commitment (is_closed (sealed_events entries)) (last_link_of start.link entries) rest wrong)
unmatched_after ReadFault start commitment entries rest wrong = wrong
unmatched_after BadClose start commitment entries rest wrong = wrong
unmatched_after Memory start commitment entries rest wrong = wrong

pub unmatched_by : {start : Start} {before mid : Option (List ℕ)} {state : LinkState} {tree : FrontierData} {failed : Type 0} (commitment : Commitment) (fault : VerifyFault) (built : IsBuiltLinked start before mid state tree)
    → StopsLinked start before failed built.entries fault → IfSome before (λ bytes. IsUnmatched start commitment bytes fault)
unmatched_by {before = None} commitment fault built stops = tt
unmatched_by {start = start} {before = Some bytes} commitment fault built stops = record {
  entries = built.entries;
  rest = stops.wrong.rest;
  follow = built.read.follow;
  split = stops.wrong.split;
  index = stops.index;
  wrong = unmatched_after fault.cause start commitment built.entries stops.wrong.rest stops.wrong.wrong;
}

-- the result of the end, under both
pub ok_end : (result : Result Accepted VerifyFault) (P Q : Accepted → Type 0) → ((given : Accepted) → P given → Q given) → IfOk result P → IfOk result Q
ok_end (Ok given) P Q f h = f given h
ok_end (Err fault) P Q f h = tt

pub err_end : (result : Result Accepted VerifyFault) (P Q : VerifyFault → Type 0) → ((fault : VerifyFault) → P fault → Q fault) → IfErr result P → IfErr result Q
err_end (Ok given) P Q f h = tt
err_end (Err fault) P Q f h = f fault h
