-- The lines of a state and of a newest commitment, one after another.
use Rattle.std.proofs.Common.{◌≡◌, ◌∙◌, ℕ, ◌-◌, List, [], ◌++◌, Option, None, Some, length, take, refl, sym, ap, arith, append_assoc, append-nil, length-append}
use Rattle.std.specs.Prelude.{codes, IfSome}
use Rattle.std.specs.Fmt.{decimal}
use Rattle.std.proofs.Math.Seq.{take-append_seam}
use Rattle.hex.specs.Hex.{encode_lower}
use Rattle.sha2.specs.Sha256.{sha256}
use Rattle.audit_proof.specs.declared.commitment.Commitment.{Commitment}
use Rattle.audit_verify.specs.State.{StateData}
use Rattle.audit_verify.specs.StateText.{node_lines, log_word, state_lines, state_text}
use Rattle.audit_text.specs.Fields.{field_line}
use Rattle.audit_verify.specs.Bookmark.{newest_lines, marked_lines, bookmark_text}
use Rattle.audit_proof.specs.SoundCommitment.{IsSoundCommitment}
use Rattle.audit_verify.proofs.TextParts.{text_parts}
use Rattle.audit_verify.proofs.Marks.{rest_of}
use Rattle.audit_verify_saved.specs.Saved.{mark_lines}

-- a state's lines, with the digits that were written for its parts
abbrev pub lines_of : List ℕ → List ℕ → List ℕ → List ℕ → List ℕ → List ℕ
lines_of count key link log rest =
    field_line (codes "audit-state") (codes "1") ++ (field_line (codes "count") count ++ (field_line (codes "key") key
    ++ (field_line (codes "link") link ++ (field_line (codes "log") log ++ rest))))

pub state_split : (state : StateData) (count key link log nodes rest : List ℕ) → count ≡ decimal state.frontier.count → key ≡ encode_lower state.key → link ≡ encode_lower state.link → log ≡ log_word state.closed
    → nodes ≡ node_lines state.frontier.count state.frontier.hashes → state_lines state ++ rest ≡ lines_of count key link log (nodes ++ rest)
state_split state count key link log nodes rest count_is key_is link_is log_is nodes_is =
    text_parts state rest
    ∙ ap (λ d. lines_of d (encode_lower state.key) (encode_lower state.link) (log_word state.closed) (node_lines state.frontier.count state.frontier.hashes ++ rest)) (sym count_is)
    ∙ ap (λ d. lines_of count d (encode_lower state.link) (log_word state.closed) (node_lines state.frontier.count state.frontier.hashes ++ rest)) (sym key_is)
    ∙ ap (λ d. lines_of count key d (log_word state.closed) (node_lines state.frontier.count state.frontier.hashes ++ rest)) (sym link_is)
    ∙ ap (λ d. lines_of count key link d (node_lines state.frontier.count state.frontier.hashes ++ rest)) (sym log_is)
    ∙ ap (λ d. lines_of count key link log (d ++ rest)) (sym nodes_is)

-- the lines of a newest commitment, with the digits that were written for it
pub mark_split : (newest : Commitment) (count root rest : List ℕ) → count ≡ decimal newest.count → root ≡ encode_lower newest.root
    → newest_lines newest ++ rest ≡ field_line (codes "newest") count ++ (field_line (codes "root") root ++ rest)
mark_split newest count root rest count_is root_is =
    append_assoc (field_line (codes "newest") (decimal newest.count)) (field_line (codes "root") (encode_lower newest.root)) rest
    ∙ ap (λ d. field_line (codes "newest") d ++ (field_line (codes "root") (encode_lower newest.root) ++ rest)) (sym count_is)
    ∙ ap (λ d. field_line (codes "newest") count ++ (field_line (codes "root") d ++ rest)) (sym root_is)

-- all lines but the last
abbrev pub front_of : StateData → Option Commitment → List ℕ
front_of state newest = state_lines state ++ mark_lines newest

abbrev pub digest_line : List ℕ → List ℕ
digest_line front = field_line (codes "sha256") (encode_lower (sha256 front))

-- the text is these lines, and the last one
pub text_of : (state : StateData) (newest : Option Commitment) → bookmark_text state newest ≡ front_of state newest ++ digest_line (front_of state newest)
unfolding bookmark_text state_text marked_lines
text_of state None =
    let same : state_lines state ≡ state_lines state ++ [] = sym (append-nil (state_lines state)) in
    ap (λ front. front ++ digest_line front) same
text_of state (Some newest) = refl

-- what follows the lines of the state is the lines of the newest commitment and the last one
pub rest_split : (state : StateData) (newest : Option Commitment) → rest_of state newest ≡ mark_lines newest ++ digest_line (front_of state newest)
unfolding marked_lines
rest_split state None = ap digest_line (sym (append-nil (state_lines state)))
rest_split state (Some newest) = refl

pub record Finds (text : List ℕ) (found : Option Commitment) : Type 0 where
  pub none : (digits : List ℕ) → text ≡ field_line (codes "sha256") digits → found ≡ None
  pub some : (newest : Commitment) (rest : List ℕ) → IsSoundCommitment newest → text ≡ newest_lines newest ++ rest → found ≡ Some newest

pub found_in : (state : StateData) (newest : Option Commitment) → IfSome newest IsSoundCommitment → (text : List ℕ) (found : Option Commitment) → Finds text found → text ≡ rest_of state newest → found ≡ newest
found_in state None is text found finds rest = finds.none (encode_lower (sha256 (state_lines state))) rest
found_in state (Some newest) is text found finds rest = finds.some newest (field_line (codes "sha256") (encode_lower (sha256 (marked_lines state newest)))) is rest

-- what is before the rest of a text
pub front_before : (text front rest : List ℕ) → text ≡ front ++ rest → take (length text - length rest) text ≡ front
front_before text front rest is =
    let size : length text - length rest ≡ length front = omega (arith, ap length is, length-append front rest) in
    ap (λ n. take n text) size ∙ ap (take (length front)) is ∙ take-append_seam front rest

-- three parts of a text
pub joined : (text lines mark after rest : List ℕ) → text ≡ lines ++ after → after ≡ mark ++ rest → text ≡ (lines ++ mark) ++ rest
joined text lines mark after rest first second = first ∙ ap (λ t. lines ++ t) second ∙ sym (append_assoc lines mark rest)
