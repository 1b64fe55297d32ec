-- A disclosure as lines of text: where its export begins, if that isn't the first entry, and the keys of chosen entries.
use Rattle.std.specs.Prelude.{◌≡◌, ◌≢◌, ℕ, ◌+◌, ◌<◌, ◌≤◌, ◌==◌, List, [], ◌∷◌, ◌++◌, codes, if◌then◌else◌}
use Rattle.std.specs.Fmt.{decimal}
use Rattle.std.specs.List.{AllByRecursion, flat_map}
use Rattle.hex.specs.Hex.{encode_lower}
use Rattle.audit_chain.specs.Entries.{first_link}
use Rattle.audit_text.specs.NumberedLine.{numbered_line}
use Rattle.audit_tree.specs.Frontier.{IsSized}
use Rattle.audit_verify.specs.StateText.{node_lines}
use Rattle.audit_proof.specs.SoundCommitment.{IsHash}
use Rattle.audit_text.specs.Fields.{field_line}
use Rattle.audit_disclosure.specs.declared.reading.TheConstants.{INDEX_LIMIT}
use Rattle.audit_disclosure.specs.declared.disclosure.DisclosedKey.{DisclosedKey}
use Rattle.audit_disclosure.specs.declared.disclosure.Start.{Start}

-- the line of a key, as receipts have it
abbrev pub disclosed_line : DisclosedKey → List ℕ
disclosed_line one = numbered_line (codes "key ") one.index one.key

abbrev pub disclosed_lines : List DisclosedKey → List ℕ
disclosed_lines keys = flat_map disclosed_line keys

-- the lines of a state that say where an export begins
abbrev pub later_lines : Start → List ℕ
later_lines start =
    field_line (codes "count") (decimal start.tree.count) ++ (field_line (codes "link") (encode_lower start.link)
    ++ node_lines start.tree.count start.tree.hashes)

-- none if it begins with the first entry
unfoldable pub start_lines : Start → List ℕ
start_lines start =
    if start.tree.count == 0 then []
    else later_lines start

unfoldable pub disclosure_text : Start → List DisclosedKey → List ℕ
disclosure_text start keys = start_lines start ++ disclosed_lines keys

-- an index has at most eight digits, and a key 32 bytes
pub record IsDisclosedKey (one : DisclosedKey) : Type 0 where
  pub index : one.index < INDEX_LIMIT
  pub key : IsHash one.key

-- the keys are in the order of their indices, of which the first is at least this one
abbrev pub AreKeysFrom : ℕ → List DisclosedKey → Type 0
AreKeysFrom least [] = Unit {0}
AreKeysFrom least (one ∷ keys) = (least ≤ one.index) × IsDisclosedKey one × AreKeysFrom (one.index + 1) keys

-- a tree can have that many leaves, and before the first entry there is no link
pub record IsFittingStart (start : Start) : Type 0 where
  pub tree : IsSized start.tree.count start.tree.hashes
  pub first : start.tree.count ≡ 0 → start.link ≡ first_link

-- and the link and the nodes are hashes
pub record IsSoundStart (start : Start) : Type 0 where
  pub fits : IsFittingStart start
  pub link : IsHash start.link
  pub nodes : AllByRecursion IsHash start.tree.hashes

-- this text is the disclosure
pub record SpellsDisclosure (text : List ℕ) (start : Start) (keys : List DisclosedKey) : Type 0 where
  pub start_is : IsFittingStart start
  pub keys_are : AreKeysFrom 0 keys
  pub text_is : text ≡ disclosure_text start keys

-- the text is no disclosure
abbrev pub IsNoDisclosure : List ℕ → Type 0
IsNoDisclosure text = (start : Start) (keys : List DisclosedKey) → IsSoundStart start → AreKeysFrom 0 keys
    → text ≢ disclosure_text start keys
