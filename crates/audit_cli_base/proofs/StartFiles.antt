-- Texts of states, their lengths, and files that hold neither a state nor a key.
use Rattle.std.specs.Prelude.{◌/◌, ◌%◌, ◌==◌, codes, if◌then◌else◌, Option, Some, IfSome}
use Rattle.std.specs.Fmt.{decimal}
use Rattle.std.specs.List.{AllByRecursion}
use Rattle.std.proofs.Common.{◌≡◌, ℕ, ◌+◌, ◌*◌, ◌^◌, ◌<◌, ◌≤◌, Bool, true, false, None, List, [], ◌∷◌, ◌++◌, length, length-append, sym, ap, ◌∙◌, subst, arith, lit<}
use Rattle.std.proofs.lemmas.Fmt.{length-decimal-le}
use Rattle.std.proofs.lemmas.Option.{none-some}
use Rattle.hex.specs.Hex.{encode_lower, lower_digits}
use Rattle.hex.proofs.HexLemmas.{length-encode_with}
use Rattle.sha2.specs.Sha256.{sha256}
use Rattle.sha2.proofs.Facts256.{length-sha256}
use Rattle.audit_text.specs.declared.input.TheConstants.{INPUT_LIMIT}
use Rattle.audit_verify.specs.State.{StateData}
use Rattle.audit_verify.specs.StateText.{IsSoundState, node_lines, log_word, state_lines, state_text}
use Rattle.audit_proof.specs.SoundCommitment.{IsHash}
use Rattle.audit_text.specs.Fields.{field_line}
use Rattle.audit_proof.specs.declared.commitment.Commitment.{Commitment}
use Rattle.audit_verify.specs.Bookmark.{AreSoundParts, newest_lines, marked_lines, bookmark_text}
use Rattle.audit_proof.specs.SoundCommitment.{IsSoundCommitment}
use Rattle.audit_cli_base.specs.KeyFile.{key_of_file}
use Rattle.audit_cli_base.specs.StartFile.{IsNoStart}
use Rattle.audit_cli_base.proofs.KeyFiles.{no_key_if_long, too_long_for_a_key}

below-digits : (n : ℕ) → n < 2 ^ 64 → n < 10 ^ 20
below-digits n small = omega arith

length-field : (word value : List ℕ) → length (field_line word value) ≡ length word + length value + 2
length-field word value = omega (arith, length-append word (32 ∷ (value ++ (10 ∷ []))), length-append value (10 ∷ []))

length-digits : (hash : List ℕ) → IsHash hash → length (encode_lower hash) ≡ 64
length-digits hash is = omega (arith, length-encode_with lower_digits hash, is.long)

node_or_none : (test : Bool) (hash : List ℕ) → IsHash hash → length (if test then field_line (codes "node") (encode_lower hash) else []) ≤ 70
node_or_none true hash is = omega (arith, length-field (codes "node") (encode_lower hash), length-digits hash is)
node_or_none false hash is = omega arith

length-nodes : (count : ℕ) (hashes : List (List ℕ)) → AllByRecursion IsHash hashes → length (node_lines count hashes) ≤ 70 * length hashes
unfolding node_lines
length-nodes count [] each = omega arith
length-nodes count (hash ∷ hashes) each =
    let line = if count % 2 == 1 then field_line (codes "node") (encode_lower hash) else [] in
    omega (arith, length-append line (node_lines (count / 2) hashes), node_or_none (count % 2 == 1) hash each.0, length-nodes (count / 2) hashes each.1)

length-log : (closed : Bool) → length (log_word closed) ≤ 6
length-log true = omega arith
length-log false = omega arith

length-lines : (state : StateData) → IsSoundState state → length (state_lines state) ≤ 4000
unfolding state_lines
length-lines state is =
    let nodes = node_lines state.frontier.count state.frontier.hashes in
    let log = field_line (codes "log") (log_word state.closed) in
    let link = field_line (codes "link") (encode_lower state.link) in
    let key = field_line (codes "key") (encode_lower state.key) in
    let count = field_line (codes "count") (decimal state.frontier.count) in
    omega (
      arith,
      is.frontier.most,
      is.frontier.long,
      length-append (field_line (codes "audit-state") (codes "1")) (count ++ (key ++ (link ++ (log ++ nodes)))),
      length-field (codes "audit-state") (codes "1"),
      length-append count (key ++ (link ++ (log ++ nodes))),
      length-field (codes "count") (decimal state.frontier.count),
      length-decimal-le 8 state.frontier.count (lit< tt) (omega (arith, is.frontier.most)) (omega (arith, is.frontier.most)),
      length-append key (link ++ (log ++ nodes)),
      length-field (codes "key") (encode_lower state.key),
      length-digits state.key is.key,
      length-append link (log ++ nodes),
      length-field (codes "link") (encode_lower state.link),
      length-digits state.link is.link,
      length-append log nodes,
      length-field (codes "log") (log_word state.closed),
      length-log state.closed,
      length-nodes state.frontier.count state.frontier.hashes is.nodes,
    )

length-digest : (text : List ℕ) → length (field_line (codes "sha256") (encode_lower (sha256 text))) ≡ 72
length-digest text =
    let hash = sha256 text in
    omega (arith, length-field (codes "sha256") (encode_lower hash), length-encode_with lower_digits hash, length-sha256 text)

length-state : (state : StateData) → length (state_text state) ≡ length (state_lines state) + 72
unfolding state_text
length-state state = omega (arith, length-append (state_lines state) (field_line (codes "sha256") (encode_lower (sha256 (state_lines state)))), length-digest (state_lines state))

length-newest : (newest : Commitment) → IsSoundCommitment newest → length (newest_lines newest) ≤ 200
length-newest newest is = omega (
  arith,
  length-append (field_line (codes "newest") (decimal newest.count)) (field_line (codes "root") (encode_lower newest.root)),
  length-field (codes "newest") (decimal newest.count),
  length-decimal-le 20 newest.count (lit< tt) (below-digits newest.count is.count) is.count,
  length-field (codes "root") (encode_lower newest.root),
  length-digits newest.root is.root,
)

-- a bookmark's text is no longer than an input may be
length-text : (state : StateData) (newest : Option Commitment) → AreSoundParts state newest → length (bookmark_text state newest) ≤ INPUT_LIMIT
unfolding bookmark_text marked_lines
length-text state None is = omega (arith, length-lines state is.state_is, length-state state)
length-text state (Some newest) is =
    let lines = marked_lines state newest in
    omega (
      arith,
      length-lines state is.state_is,
      length-append (state_lines state) (newest_lines newest),
      length-newest newest is.newest_is,
      length-append lines (field_line (codes "sha256") (encode_lower (sha256 lines))),
      length-digest lines,
    )

-- and it has no key
no_key_in_bookmark : (state : StateData) (newest : Option Commitment) → key_of_file (bookmark_text state newest) ≡ None
unfolding bookmark_text
no_key_in_bookmark state None = no_key_if_long (state_text state) (omega (arith, length-state state))
no_key_in_bookmark state (Some newest) =
    let lines = marked_lines state newest in
    let last = field_line (codes "sha256") (encode_lower (sha256 lines)) in
    no_key_if_long (lines ++ last) (omega (arith, length-append lines last, length-digest lines))

-- a text with a key is that of no bookmark
pub no_bookmark_with_key : (text key : List ℕ) (state : StateData) (newest : Option Commitment) → key_of_file text ≡ Some key → text ≡ bookmark_text state newest → ⊥
no_bookmark_with_key text key state newest keyed is =
    none-some key (sym (no_key_in_bookmark state newest) ∙ ap key_of_file (sym is) ∙ keyed)

too_long_for_a_start : (text : List ℕ) → INPUT_LIMIT < length text → IsNoStart text
too_long_for_a_start text long = record {
  key = too_long_for_a_key text long;
  state = λ state newest sound is. omega (arith, subst (λ (t : List ℕ). length t ≤ INPUT_LIMIT) (sym is) (length-text state newest sound), long);
}

pub no_start_if_too_long : (known : Option (List ℕ)) → IfSome known (λ text. INPUT_LIMIT < length text) → IfSome known IsNoStart
no_start_if_too_long None long = tt
no_start_if_too_long (Some text) long = too_long_for_a_start text long
