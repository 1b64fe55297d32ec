-- The parts of a link's bytes at their places.
use Rattle.std.proofs.Common.{◌≡◌, ℕ, ◌*◌, ◌+◌, ◌≤◌, List, ◌++◌, length, take, drop, get_or, sym, ap, ◌∙◌, arith, length-append}
use Rattle.std.specs.List.{concat}
use Rattle.std.proofs.lemmas.List.{take_at, drop_at, drop-drop}
use Rattle.audit_base.specs.Hashes.{first_hashes}
use Rattle.audit_base.proofs.HashRows.{first_hashes-concat, drop-concat, length-joined}
use Rattle.audit_link.specs.Links.{LinkData, IsLink}
use Rattle.audit_link.specs.LinkBytes.{link_bytes, SpellsLink}

-- four parts of 32 bytes, and what follows them
pub record AtPlaces (rest one two three four after : List ℕ) : Type 0 where
  pub first : take 32 (drop 0 rest) ≡ one
  pub second : take 32 (drop 32 rest) ≡ two
  pub third : take 32 (drop 64 rest) ≡ three
  pub fourth : take 32 (drop 96 rest) ≡ four
  pub last : drop 128 rest ≡ after

pub at_places : (rest one two three four after : List ℕ) → length one ≡ 32 → length two ≡ 32 → length three ≡ 32 → length four ≡ 32 → rest ≡ one ++ (two ++ (three ++ (four ++ after)))
    → AtPlaces rest one two three four after
at_places rest one two three four after l1 l2 l3 l4 is =
    let from32 : drop 32 rest ≡ two ++ (three ++ (four ++ after)) = ap (drop 32) is ∙ drop_at one (two ++ (three ++ (four ++ after))) 32 l1 in
    let from64 : drop 64 rest ≡ three ++ (four ++ after) = sym (drop-drop 32 32 rest) ∙ ap (drop 32) from32 ∙ drop_at two (three ++ (four ++ after)) 32 l2 in
    let from96 : drop 96 rest ≡ four ++ after = sym (drop-drop 32 64 rest) ∙ ap (drop 32) from64 ∙ drop_at three (four ++ after) 32 l3 in
    record {
      first = ap (take 32) is ∙ take_at one (two ++ (three ++ (four ++ after))) 32 l1;
      second = ap (take 32) from32 ∙ take_at two (three ++ (four ++ after)) 32 l2;
      third = ap (take 32) from64 ∙ take_at three (four ++ after) 32 l3;
      fourth = ap (take 32) from96 ∙ take_at four after 32 l4;
      last = sym (drop-drop 32 96 rest) ∙ ap (drop 32) from96 ∙ drop_at four after 32 l4;
    }

-- the bytes after the hashes
abbrev pub rest_of : LinkData → List ℕ
rest_of link = link.last.link ++ (link.last.tag ++ (link.first.key ++ (link.second.key ++ (link.first.entry ++ link.second.entry))))

pub record HasParts (bytes : List ℕ) (link : LinkData) : Type 0 where
  pub number : get_or bytes 1 0 ≡ length link.hashes
  pub long : 130 + 32 * length link.hashes ≤ length bytes
  pub hashes : first_hashes (length link.hashes) (drop 2 bytes) ≡ link.hashes
  pub rest : drop (32 * length link.hashes) (drop 2 bytes) ≡ rest_of link

long_rest : (link : LinkData) → IsLink link → 128 ≤ length (rest_of link)
long_rest link is =
    let entries = link.first.entry ++ link.second.entry in
    omega (
      arith,
      is.last_link,
      is.last_tag,
      is.first_key,
      is.second_key,
      length-append link.last.link (link.last.tag ++ (link.first.key ++ (link.second.key ++ entries))),
      length-append link.last.tag (link.first.key ++ (link.second.key ++ entries)),
      length-append link.first.key (link.second.key ++ entries),
      length-append link.second.key entries,
    )

pub has_parts : (bytes : List ℕ) (link : LinkData) → SpellsLink bytes link → HasParts bytes link
unfolding link_bytes
has_parts bytes link spells =
    let is = spells.link_is in
    let body : List ℕ = concat link.hashes ++ rest_of link in
    let dropped : drop 2 bytes ≡ body = ap (drop 2) spells.bytes_are in
    record {
      number = ap (λ (bs : List ℕ). get_or bs 1 0) spells.bytes_are;
      long = omega (arith, ap length spells.bytes_are, length-joined link.hashes (rest_of link) is.hashes, long_rest link is);
      hashes = ap (first_hashes (length link.hashes)) dropped ∙ first_hashes-concat link.hashes (rest_of link) is.hashes;
      rest = ap (drop (32 * length link.hashes)) dropped ∙ drop-concat link.hashes (rest_of link) is.hashes;
    }
