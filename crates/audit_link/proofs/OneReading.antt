-- Bytes are those of at most one link.
use Rattle.std.specs.List.{concat}
use Rattle.std.proofs.Common.{◌≡◌, ℕ, ◌*◌, List, ◌++◌, length, take, drop, get_or, refl, sym, ap, ◌∙◌}
use Rattle.std.proofs.lemmas.List.{take_at, drop_at}
use Rattle.audit_base.proofs.HashRows.{length-concat, first_hashes-concat}
use Rattle.audit_base.specs.Hashes.{first_hashes}
use Rattle.audit_chain.specs.EntryForm.{BeginsWithEntry, bytes_of_parts}
use Rattle.audit_link.specs.OpenedEntry.{IsSoleEntry}
use Rattle.audit_link.specs.Links.{LinkData, IsLink}
use Rattle.audit_link.specs.LinkBytes.{link_bytes, SpellsLink}
use Rattle.audit_link.proofs.Opened.{one_entry}

-- two texts with fronts of one length
pub cut_alike : (p q rest others : List ℕ) → length p ≡ length q → p ++ rest ≡ q ++ others → (p ≡ q) × (rest ≡ others)
cut_alike p q rest others long same = (
  sym (take_at p rest (length p) refl) ∙ ap (take (length p)) same ∙ take_at q others (length p) (sym long),
  sym (drop_at p rest (length p) refl) ∙ ap (drop (length p)) same ∙ drop_at q others (length p) (sym long),
)

-- an entry at the start of a text, and what follows
pub entry_alike : (first other second another : List ℕ) → IsSoleEntry first → IsSoleEntry other → first ++ second ≡ other ++ another → (first ≡ other) × (second ≡ another)
entry_alike first other second another is also same =
    let text : List ℕ = first ++ second in
    let one : BeginsWithEntry text is.0 = record { parts_fit = is.1.0; rest = second; split = ap (λ bs. bs ++ second) is.1.1 } in
    let two : BeginsWithEntry text also.0 = record { parts_fit = also.1.0; rest = another; split = same ∙ ap (λ bs. bs ++ another) also.1.1 } in
    let parts : is.0 ≡ also.0 = one_entry text is.0 also.0 one two in
    let equal : first ≡ other = is.1.1 ∙ ap bytes_of_parts parts ∙ sym also.1.1 in
    (equal, (cut_alike first other second another (ap length equal) same).1)

made : List (List ℕ) → List ℕ → List ℕ → List ℕ → List ℕ → List ℕ → List ℕ → LinkData
made hashes link tag key other entry another = record {
  hashes = hashes;
  last = record { link = link; tag = tag };
  first = record { key = key; entry = entry };
  second = record { key = other; entry = another };
}

-- the bytes after the hashes
rest_of : LinkData → List ℕ
rest_of link = link.last.link ++ (link.last.tag ++ (link.first.key ++ (link.second.key ++ (link.first.entry ++ link.second.entry))))

pub record SameRest (link another : LinkData) : Type 0 where
  pub last_link : link.last.link ≡ another.last.link
  pub last_tag : link.last.tag ≡ another.last.tag
  pub first_key : link.first.key ≡ another.first.key
  pub second_key : link.second.key ≡ another.second.key
  pub first : link.first.entry ≡ another.first.entry
  pub second : link.second.entry ≡ another.second.entry

same_rest : (link another : LinkData) → IsLink link → IsLink another → rest_of link ≡ rest_of another → SameRest link another
unfolding rest_of
same_rest link another is also same =
    let links = cut_alike _ _ _ _ (is.last_link ∙ sym also.last_link) same in
    let tags = cut_alike _ _ _ _ (is.last_tag ∙ sym also.last_tag) links.1 in
    let keys = cut_alike _ _ _ _ (is.first_key ∙ sym also.first_key) tags.1 in
    let others = cut_alike _ _ _ _ (is.second_key ∙ sym also.second_key) keys.1 in
    let entries = entry_alike _ _ _ _ is.first also.first others.1 in
    record {
      last_link = links.0;
      last_tag = tags.0;
      first_key = keys.0;
      second_key = others.0;
      first = entries.0;
      second = entries.1;
    }

pub same_data : (link another : LinkData) → link.hashes ≡ another.hashes → SameRest link another → link ≡ another
unfolding made
same_data link another hashes rest =
    ap (λ hs. made hs link.last.link link.last.tag link.first.key link.second.key link.first.entry link.second.entry) hashes
    ∙ ap (λ l. made another.hashes l link.last.tag link.first.key link.second.key link.first.entry link.second.entry) rest.last_link
    ∙ ap (λ t. made another.hashes another.last.link t link.first.key link.second.key link.first.entry link.second.entry) rest.last_tag
    ∙ ap (λ k. made another.hashes another.last.link another.last.tag k link.second.key link.first.entry link.second.entry) rest.first_key
    ∙ ap (λ k. made another.hashes another.last.link another.last.tag another.first.key k link.first.entry link.second.entry) rest.second_key
    ∙ ap (λ e. made another.hashes another.last.link another.last.tag another.first.key another.second.key e link.second.entry) rest.first
    ∙ ap (λ e. made another.hashes another.last.link another.last.tag another.first.key another.second.key another.first.entry e) rest.second

same_bytes : (link another : LinkData) → IsLink link → IsLink another → link_bytes link ≡ link_bytes another → link ≡ another
unfolding link_bytes rest_of
same_bytes link another is also same =
    let long : length link.hashes ≡ length another.hashes = ap (λ (bs : List ℕ). get_or bs 1 0) same in
    let body : concat link.hashes ++ rest_of link ≡ concat another.hashes ++ rest_of another = ap (drop 2) same in
    let rows : length (concat link.hashes) ≡ length (concat another.hashes) =
    length-concat link.hashes is.hashes ∙ ap (λ n. 32 * n) long ∙ sym (length-concat another.hashes also.hashes) in
    let parts = cut_alike _ _ _ _ rows body in
    let hashes : link.hashes ≡ another.hashes =
    sym (first_hashes-concat link.hashes (rest_of link) is.hashes)
    ∙ ap (first_hashes (length link.hashes)) body
    ∙ ap (λ n. first_hashes n (concat another.hashes ++ rest_of another)) long
    ∙ first_hashes-concat another.hashes (rest_of another) also.hashes in
    same_data link another hashes (same_rest link another is also parts.1)

pub one_link : (bytes : List ℕ) (link another : LinkData) → SpellsLink bytes link → SpellsLink bytes another → link ≡ another
one_link bytes link another first second =
    same_bytes link another first.link_is second.link_is (sym first.bytes_are ∙ second.bytes_are)
