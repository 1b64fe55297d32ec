-- The body of a reply reads as that reply, and has the length that its length field states.
use Rattle.std.proofs.Common.{◌≡◌, ℕ, Bool, ◌+◌, ◌*◌, ◌<◌, ◌≤◌, ◌^◌, true, false, get_or, ◌&&◌, leb, eqb, cond, List, [], ◌∷◌, ◌++◌, length, take, drop, Some, None, refl, sym, ap, ◌∙◌, arith, length-append}
use Rattle.std.specs.List.{concat, flat_map, AllByRecursion}
use Rattle.std.specs.Int.{w16, w32, w64, to_be_bytes, from_be_bytes}
use Rattle.std.proofs.lemmas.Bool.{and_from, le-leb, eq-eqb, cond-true}
use Rattle.std.proofs.lemmas.List.{append-nil, take_at, drop_at, take_all, drop-drop, get_or-drop}
use Rattle.std.proofs.lemmas.Nat.{from_be_bytes-to_be_bytes_2, from_be_bytes-to_be_bytes_4, from_be_bytes-to_be_bytes_8}
use Rattle.audit_base.specs.declared.limits.TheConstants.{HASH_LEN, MAX_MEMBER_HASHES, MAX_INCREMENT_HASHES, MAX_ENTRY}
use Rattle.audit_base.specs.Bytes.{number_at}
use Rattle.audit_base.specs.Hashes.{first_hashes}
use Rattle.audit_base.proofs.HashRows.{flat_map-concat, first_hashes-concat, drop-concat, length-joined, length-concat}
use Rattle.audit_wire.specs.declared.refusal.Refusal.{Refusal}
use Rattle.audit_wire.specs.declared.refusal.Refusal.TheVariants as refusal
use Rattle.audit_wire.specs.declared.reply.Reply.{Reply}
use Rattle.audit_wire.specs.declared.reply.Reply.TheVariants as reply
use Rattle.audit_wire.specs.Frame.{frame}
use Rattle.audit_wire.specs.Reply.{IsWholeReply, reply_frame, longest_frame, reply_body, refusal_code, hash_list, IsReply, HasReplyFields, refusal_with_code, refused_with, acknowledgement_in, commitment_reply_in, membership_reply_in, increment_reply_in, entry_reply_in, state_tail, state_reply_in, place_reply_in, placed_reply_in, refused_in, reply_in}

-- the concatenated hashes of a reply
joined : (hashes : List (List ℕ)) (entry : List ℕ) → flat_map (λ (hash : List ℕ). hash) hashes ++ entry ≡ concat hashes ++ entry
joined hashes entry = ap (λ bytes. bytes ++ entry) (flat_map-concat hashes)

acknowledgement_again : (tag index count : ℕ) (root : List ℕ) → HasReplyFields (reply.Acknowledgement tag index count root)
    → acknowledgement_in (to_be_bytes w32 tag ++ to_be_bytes w64 index ++ to_be_bytes w64 count ++ root) ≡ Some (reply.Acknowledgement tag index count root)
unfolding acknowledgement_in
acknowledgement_again tag index count root fits =
    let fields : List ℕ = to_be_bytes w32 tag ++ to_be_bytes w64 index ++ to_be_bytes w64 count ++ root in
    cond-true (eqb (length fields) 52) (Some (reply.Acknowledgement (number_at w32 0 fields) (number_at w64 4 fields) (number_at w64 12 fields) (take HASH_LEN (drop 20 fields)))) None
    (eq-eqb (length fields) 52 (omega (arith, fits.3)))
    ∙ ap (λ (last : List ℕ). Some (reply.Acknowledgement (number_at w32 0 fields) (number_at w64 4 fields) (number_at w64 12 fields) last)) (take_all HASH_LEN root (omega (arith, fits.3)))
    ∙ ap (λ (n : ℕ). Some (reply.Acknowledgement n (number_at w64 4 fields) (number_at w64 12 fields) root)) (from_be_bytes-to_be_bytes_4 tag fits.0)
    ∙ ap (λ (n : ℕ). Some (reply.Acknowledgement tag n (number_at w64 12 fields) root)) (from_be_bytes-to_be_bytes_8 index fits.1)
    ∙ ap (λ (n : ℕ). Some (reply.Acknowledgement tag index n root)) (from_be_bytes-to_be_bytes_8 count fits.2)

commitment_again : (tag count : ℕ) (root : List ℕ) → HasReplyFields (reply.Commitment tag count root)
    → commitment_reply_in (to_be_bytes w32 tag ++ to_be_bytes w64 count ++ root) ≡ Some (reply.Commitment tag count root)
unfolding commitment_reply_in
commitment_again tag count root fits =
    let fields : List ℕ = to_be_bytes w32 tag ++ to_be_bytes w64 count ++ root in
    cond-true (eqb (length fields) 44) (Some (reply.Commitment (number_at w32 0 fields) (number_at w64 4 fields) (take HASH_LEN (drop 12 fields)))) None
    (eq-eqb (length fields) 44 (omega (arith, fits.2)))
    ∙ ap (λ (last : List ℕ). Some (reply.Commitment (number_at w32 0 fields) (number_at w64 4 fields) last)) (take_all HASH_LEN root (omega (arith, fits.2)))
    ∙ ap (λ (n : ℕ). Some (reply.Commitment n (number_at w64 4 fields) root)) (from_be_bytes-to_be_bytes_4 tag fits.0)
    ∙ ap (λ (n : ℕ). Some (reply.Commitment tag n root)) (from_be_bytes-to_be_bytes_8 count fits.1)

membership_again : (tag : ℕ) (hashes : List (List ℕ)) (entry : List ℕ) → IsReply (reply.Membership tag hashes entry) → HasReplyFields (reply.Membership tag hashes entry)
    → membership_reply_in (to_be_bytes w32 tag ++ hash_list hashes ++ entry) ≡ Some (reply.Membership tag hashes entry)
unfolding membership_reply_in
membership_again tag hashes entry within fits =
    let all = concat hashes ++ entry in
    let fields : List ℕ = to_be_bytes w32 tag ++ length hashes ∷ all in
    let same : to_be_bytes w32 tag ++ hash_list hashes ++ entry ≡ fields = ap (λ (bytes : List ℕ). to_be_bytes w32 tag ++ length hashes ∷ bytes) (joined hashes entry) in
    let size = length-joined hashes entry fits.1 in
    let n = length hashes in
    let short : (leb 5 (length fields) && leb n MAX_MEMBER_HASHES) ≡ true =
    and_from (leb 5 (length fields)) (leb n MAX_MEMBER_HASHES) (le-leb 5 (length fields) (omega arith)) (le-leb n MAX_MEMBER_HASHES (omega (arith, within.0))) in
    let there : ((leb 5 (length fields) && leb n MAX_MEMBER_HASHES) && leb (5 + HASH_LEN * n) (length fields)) ≡ true =
    and_from (leb 5 (length fields) && leb n MAX_MEMBER_HASHES) (leb (5 + HASH_LEN * n) (length fields)) short (le-leb (5 + HASH_LEN * n) (length fields) (omega arith)) in
    let whole : (((leb 5 (length fields) && leb n MAX_MEMBER_HASHES) && leb (5 + HASH_LEN * n) (length fields)) && leb (length fields) (5 + HASH_LEN * n + MAX_ENTRY)) ≡ true =
    and_from ((leb 5 (length fields) && leb n MAX_MEMBER_HASHES) && leb (5 + HASH_LEN * n) (length fields)) (leb (length fields) (5 + HASH_LEN * n + MAX_ENTRY)) there
    (le-leb (length fields) (5 + HASH_LEN * n + MAX_ENTRY) (omega (arith, within.1))) in
    ap membership_reply_in same
    ∙ cond-true (((leb 5 (length fields) && leb n MAX_MEMBER_HASHES) && leb (5 + HASH_LEN * n) (length fields)) && leb (length fields) (5 + HASH_LEN * n + MAX_ENTRY))
    (Some (reply.Membership (number_at w32 0 fields) (first_hashes n all) (drop (HASH_LEN * n) all))) None whole
    ∙ ap (λ (m : ℕ). Some (reply.Membership m (first_hashes n all) (drop (HASH_LEN * n) all))) (from_be_bytes-to_be_bytes_4 tag fits.0)
    ∙ ap (λ (hs : List (List ℕ)). Some (reply.Membership tag hs (drop (HASH_LEN * n) all))) (first_hashes-concat hashes entry fits.1)
    ∙ ap (λ (after : List ℕ). Some (reply.Membership tag hashes after)) (drop-concat hashes entry fits.1)

increment_again : (tag : ℕ) (hashes : List (List ℕ)) → IsReply (reply.Incremental tag hashes) → HasReplyFields (reply.Incremental tag hashes)
    → increment_reply_in (to_be_bytes w32 tag ++ hash_list hashes) ≡ Some (reply.Incremental tag hashes)
unfolding increment_reply_in
increment_again tag hashes within fits =
    let all = concat hashes ++ [] in
    let n = length hashes in
    let fields : List ℕ = to_be_bytes w32 tag ++ n ∷ all in
    let same : to_be_bytes w32 tag ++ hash_list hashes ≡ fields =
    ap (λ (bytes : List ℕ). to_be_bytes w32 tag ++ n ∷ bytes) (flat_map-concat hashes ∙ sym (append-nil (concat hashes))) in
    let size : length all ≡ HASH_LEN * n + 0 = length-joined hashes [] fits.1 in
    let short : (leb 5 (length fields) && leb n MAX_INCREMENT_HASHES) ≡ true =
    and_from (leb 5 (length fields)) (leb n MAX_INCREMENT_HASHES) (le-leb 5 (length fields) (omega arith)) (le-leb n MAX_INCREMENT_HASHES (omega (arith, within))) in
    let whole : ((leb 5 (length fields) && leb n MAX_INCREMENT_HASHES) && eqb (length fields) (5 + HASH_LEN * n)) ≡ true =
    and_from (leb 5 (length fields) && leb n MAX_INCREMENT_HASHES) (eqb (length fields) (5 + HASH_LEN * n)) short (eq-eqb (length fields) (5 + HASH_LEN * n) (omega arith)) in
    ap increment_reply_in same
    ∙ cond-true ((leb 5 (length fields) && leb n MAX_INCREMENT_HASHES) && eqb (length fields) (5 + HASH_LEN * n))
    (Some (reply.Incremental (number_at w32 0 fields) (first_hashes n all))) None whole
    ∙ ap (λ (m : ℕ). Some (reply.Incremental m (first_hashes n all))) (from_be_bytes-to_be_bytes_4 tag fits.0)
    ∙ ap (λ (hs : List (List ℕ)). Some (reply.Incremental tag hs)) (first_hashes-concat hashes [] fits.1)

entry_again : (tag : ℕ) (entry : List ℕ) → IsReply (reply.Entry tag entry) → tag < 2 ^ 32 → entry_reply_in (to_be_bytes w32 tag ++ entry) ≡ Some (reply.Entry tag entry)
unfolding entry_reply_in
entry_again tag entry within fits =
    let fields : List ℕ = to_be_bytes w32 tag ++ entry in
    cond-true (leb 4 (length fields) && leb (length fields) (4 + MAX_ENTRY)) (Some (reply.Entry (number_at w32 0 fields) (drop 4 fields))) None
    (and_from (leb 4 (length fields)) (leb (length fields) (4 + MAX_ENTRY)) (le-leb 4 (length fields) (omega arith)) (le-leb (length fields) (4 + MAX_ENTRY) (omega (arith, within))))
    ∙ ap (λ (n : ℕ). Some (reply.Entry n entry)) (from_be_bytes-to_be_bytes_4 tag fits)

-- a list after one of as many bytes as a hash
past : (root after : List ℕ) (count : ℕ) → length root ≡ HASH_LEN → drop (HASH_LEN + count) (root ++ after) ≡ drop count after
past root after count size = sym (drop-drop count HASH_LEN (root ++ after)) ∙ ap (drop count) (drop_at root after HASH_LEN size)

marked : (closed : Bool) → leb (cond closed 1 0) 1 ≡ true
marked true = refl
marked false = refl

mark_again : (closed : Bool) → eqb (cond closed 1 0) 1 ≡ closed
mark_again true = refl
mark_again false = refl

state_again : (tag count : ℕ) (root : List ℕ) (end sectors generation version : ℕ) (closed : Bool) → HasReplyFields (reply.State tag count root end sectors generation version closed)
    → state_reply_in (to_be_bytes w32 tag ++ to_be_bytes w64 count ++ root ++ state_tail end sectors generation version closed) ≡ Some (reply.State tag count root end sectors generation version closed)
unfolding state_reply_in
state_again tag count root end sectors generation version closed fits =
    let after : List ℕ = state_tail end sectors generation version closed in
    let fields : List ℕ = to_be_bytes w32 tag ++ to_be_bytes w64 count ++ root ++ after in
    let mark : get_or fields 70 0 ≡ cond closed 1 0 = sym (get_or-drop 58 (root ++ after) 0 0) ∙ ap (λ (bytes : List ℕ). get_or bytes 0 0) (past root after 26 fits.2) in
    let test : (eqb (length fields) 71 && leb (get_or fields 70 0) 1) ≡ true = and_from (eqb (length fields) 71) (leb (get_or fields 70 0) 1) (eq-eqb (length fields) 71 (omega (arith, fits.2, length-append root after))) (ap (λ (m : ℕ). leb m 1) mark ∙ marked closed) in
    let end_is : number_at w64 44 fields ≡ end = ap (λ (bytes : List ℕ). from_be_bytes w64 (take 8 bytes)) (past root after 0 fits.2) ∙ from_be_bytes-to_be_bytes_8 end fits.3 in
    let sectors_is : number_at w64 52 fields ≡ sectors = ap (λ (bytes : List ℕ). from_be_bytes w64 (take 8 bytes)) (past root after 8 fits.2) ∙ from_be_bytes-to_be_bytes_8 sectors fits.4 in
    let generation_is : number_at w64 60 fields ≡ generation = ap (λ (bytes : List ℕ). from_be_bytes w64 (take 8 bytes)) (past root after 16 fits.2) ∙ from_be_bytes-to_be_bytes_8 generation fits.5 in
    let version_is : number_at w16 68 fields ≡ version = ap (λ (bytes : List ℕ). from_be_bytes w16 (take 2 bytes)) (past root after 24 fits.2) ∙ from_be_bytes-to_be_bytes_2 version fits.6 in
    cond-true (eqb (length fields) 71 && leb (get_or fields 70 0) 1)
    (Some (reply.State (number_at w32 0 fields) (number_at w64 4 fields) (take HASH_LEN (drop 12 fields)) (number_at w64 44 fields) (number_at w64 52 fields) (number_at w64 60 fields) (number_at w16 68 fields) (eqb (get_or fields 70 0) 1)))
    None test
    ∙ ap (λ (last : List ℕ). Some (reply.State (number_at w32 0 fields) (number_at w64 4 fields) last (number_at w64 44 fields) (number_at w64 52 fields) (number_at w64 60 fields) (number_at w16 68 fields) (eqb (get_or fields 70 0) 1))) (take_at root after HASH_LEN fits.2)
    ∙ ap (λ (n : ℕ). Some (reply.State n (number_at w64 4 fields) root (number_at w64 44 fields) (number_at w64 52 fields) (number_at w64 60 fields) (number_at w16 68 fields) (eqb (get_or fields 70 0) 1))) (from_be_bytes-to_be_bytes_4 tag fits.0)
    ∙ ap (λ (n : ℕ). Some (reply.State tag n root (number_at w64 44 fields) (number_at w64 52 fields) (number_at w64 60 fields) (number_at w16 68 fields) (eqb (get_or fields 70 0) 1))) (from_be_bytes-to_be_bytes_8 count fits.1)
    ∙ ap (λ (n : ℕ). Some (reply.State tag count root n (number_at w64 52 fields) (number_at w64 60 fields) (number_at w16 68 fields) (eqb (get_or fields 70 0) 1))) end_is
    ∙ ap (λ (n : ℕ). Some (reply.State tag count root end n (number_at w64 60 fields) (number_at w16 68 fields) (eqb (get_or fields 70 0) 1))) sectors_is
    ∙ ap (λ (n : ℕ). Some (reply.State tag count root end sectors n (number_at w16 68 fields) (eqb (get_or fields 70 0) 1))) generation_is
    ∙ ap (λ (n : ℕ). Some (reply.State tag count root end sectors generation n (eqb (get_or fields 70 0) 1))) version_is
    ∙ ap (λ (n : ℕ). Some (reply.State tag count root end sectors generation version (eqb n 1))) mark
    ∙ ap (λ (is : Bool). Some (reply.State tag count root end sectors generation version is)) (mark_again closed)

place_again : (tag number count : ℕ) → HasReplyFields (reply.Place tag number count)
    → place_reply_in (to_be_bytes w32 tag ++ to_be_bytes w64 number ++ to_be_bytes w64 count) ≡ Some (reply.Place tag number count)
unfolding place_reply_in
place_again tag number count fits =
    let fields : List ℕ = to_be_bytes w32 tag ++ to_be_bytes w64 number ++ to_be_bytes w64 count in
    ap (λ (n : ℕ). Some (reply.Place n (number_at w64 4 fields) (number_at w64 12 fields))) (from_be_bytes-to_be_bytes_4 tag fits.0)
    ∙ ap (λ (n : ℕ). Some (reply.Place tag n (number_at w64 12 fields))) (from_be_bytes-to_be_bytes_8 number fits.1)
    ∙ ap (λ (n : ℕ). Some (reply.Place tag number n)) (from_be_bytes-to_be_bytes_8 count fits.2)

placed_again : (tag index count : ℕ) (root key : List ℕ) → HasReplyFields (reply.Placed tag index count root key)
    → placed_reply_in (to_be_bytes w32 tag ++ to_be_bytes w64 index ++ to_be_bytes w64 count ++ root ++ key) ≡ Some (reply.Placed tag index count root key)
unfolding placed_reply_in
placed_again tag index count root key fits =
    let fields : List ℕ = to_be_bytes w32 tag ++ to_be_bytes w64 index ++ to_be_bytes w64 count ++ root ++ key in
    let key_is : take HASH_LEN (drop 52 fields) ≡ key = ap (take HASH_LEN) (past root key 0 fits.3) ∙ take_all HASH_LEN key (omega (arith, fits.4)) in
    cond-true (eqb (length fields) 84)
    (Some (reply.Placed (number_at w32 0 fields) (number_at w64 4 fields) (number_at w64 12 fields) (take HASH_LEN (drop 20 fields)) (take HASH_LEN (drop 52 fields)))) None
    (eq-eqb (length fields) 84 (omega (arith, fits.3, fits.4, length-append root key)))
    ∙ ap (λ (last : List ℕ). Some (reply.Placed (number_at w32 0 fields) (number_at w64 4 fields) (number_at w64 12 fields) last (take HASH_LEN (drop 52 fields)))) (take_at root key HASH_LEN fits.3)
    ∙ ap (λ (last : List ℕ). Some (reply.Placed (number_at w32 0 fields) (number_at w64 4 fields) (number_at w64 12 fields) root last)) key_is
    ∙ ap (λ (n : ℕ). Some (reply.Placed n (number_at w64 4 fields) (number_at w64 12 fields) root key)) (from_be_bytes-to_be_bytes_4 tag fits.0)
    ∙ ap (λ (n : ℕ). Some (reply.Placed tag n (number_at w64 12 fields) root key)) (from_be_bytes-to_be_bytes_8 index fits.1)
    ∙ ap (λ (n : ℕ). Some (reply.Placed tag index n root key)) (from_be_bytes-to_be_bytes_8 count fits.2)

refusal_again : (code : Refusal) → refusal_with_code (refusal_code code) ≡ Some code
refusal_again refusal.DamagedLog = refl
refusal_again refusal.Full = refl
refusal_again refusal.NoSuchVersion = refl
refusal_again refusal.Worn = refl
refusal_again refusal.Device = refl
refusal_again refusal.Closed = refl
refusal_again refusal.NotAllowed = refl
refusal_again refusal.NotCounted = refl
refusal_again refusal.Malformed = refl

refused_again : (tag : ℕ) (code : Refusal) → tag < 2 ^ 32 → refused_in (to_be_bytes w32 tag ++ refusal_code code ∷ []) ≡ Some (reply.Refused tag code)
unfolding refused_in
refused_again tag code fits =
    ap (refused_with (number_at w32 0 (to_be_bytes w32 tag ++ refusal_code code ∷ []))) (refusal_again code)
    ∙ ap (λ (n : ℕ). Some (reply.Refused n code)) (from_be_bytes-to_be_bytes_4 tag fits)

pub reply_again : (given : Reply) → IsReply given → HasReplyFields given → reply_in (reply_body given) ≡ Some given
unfolding reply_in
reply_again (reply.Acknowledgement tag index count root) within fits = acknowledgement_again tag index count root fits
reply_again (reply.Commitment tag count root) within fits = commitment_again tag count root fits
reply_again (reply.Membership tag hashes entry) within fits = membership_again tag hashes entry within fits
reply_again (reply.Incremental tag hashes) within fits = increment_again tag hashes within fits
reply_again (reply.Entry tag entry) within fits = entry_again tag entry within fits
reply_again (reply.State tag count root end sectors generation version closed) within fits = state_again tag count root end sectors generation version closed fits
reply_again (reply.Place tag number count) within fits = place_again tag number count fits
reply_again (reply.Placed tag index count root key) within fits = placed_again tag index count root key fits
reply_again (reply.Refused tag code) within fits = refused_again tag code fits

-- ---- sizes

pub reply_size : (given : Reply) → IsReply given → HasReplyFields given → length (reply_body given) < 2 ^ 16
reply_size (reply.Acknowledgement tag index count root) within fits = omega (arith, fits.3)
reply_size (reply.Commitment tag count root) within fits = omega (arith, fits.2)
reply_size (reply.Membership tag hashes entry) within fits = omega (arith, ap length (joined hashes entry), length-joined hashes entry fits.1, within.0, within.1)
reply_size (reply.Incremental tag hashes) within fits = omega (arith, ap length (flat_map-concat hashes), length-concat hashes fits.1, within)
reply_size (reply.Entry tag entry) within fits = omega (arith, within)
reply_size (reply.State tag count root end sectors generation version closed) within fits = omega (arith, fits.2, length-append root (state_tail end sectors generation version closed))
reply_size (reply.Place tag number count) within fits = omega arith
reply_size (reply.Placed tag index count root key) within fits = omega (arith, fits.3, fits.4, length-append root key)
reply_size (reply.Refused tag code) within fits = omega arith

-- a frame is no longer than the longest of its kind
pub reply_within : (given : Reply) → IsReply given → HasReplyFields given → length (reply_frame given) ≤ longest_frame given
reply_within (reply.Acknowledgement tag index count root) within fits = omega (arith, fits.3)
reply_within (reply.Commitment tag count root) within fits = omega (arith, fits.2)
reply_within (reply.Membership tag hashes entry) within fits = omega (arith, ap length (joined hashes entry), length-joined hashes entry fits.1, within.0, within.1)
reply_within (reply.Incremental tag hashes) within fits = omega (arith, ap length (flat_map-concat hashes), length-concat hashes fits.1, within)
reply_within (reply.Entry tag entry) within fits = omega (arith, within)
reply_within (reply.State tag count root end sectors generation version closed) within fits = omega (arith, fits.2, length-append root (state_tail end sectors generation version closed))
reply_within (reply.Place tag number count) within fits = omega arith
reply_within (reply.Placed tag index count root key) within fits = omega (arith, fits.3, fits.4, length-append root key)
reply_within (reply.Refused tag code) within fits = omega arith

-- ---- consecutive replies

-- the bodies of two frames, and what follows the frames
frame_split : (a b rest others : List ℕ) → length a < 2 ^ 16 → length b < 2 ^ 16 → frame a ++ rest ≡ frame b ++ others → (a ≡ b) × (rest ≡ others)
frame_split a b rest others short_a short_b same =
    let size : length a ≡ length b =
    sym (from_be_bytes-to_be_bytes_2 (length a) short_a) ∙ ap (λ (bytes : List ℕ). from_be_bytes w16 (take 2 bytes)) same ∙ from_be_bytes-to_be_bytes_2 (length b) short_b in
    let after : a ++ rest ≡ b ++ others = ap (drop 2) same in (
      sym (take_at a rest (length a) refl) ∙ ap (take (length a)) after ∙ take_at b others (length a) (sym size),
      sym (drop_at a rest (length a) refl) ∙ ap (drop (length a)) after ∙ drop_at b others (length a) (sym size),
    )

pub same_first_reply : (one other : Reply) (rest others : List ℕ) → IsWholeReply one → IsWholeReply other → reply_frame one ++ rest ≡ reply_frame other ++ others
    → (one ≡ other) × (rest ≡ others)
same_first_reply one other rest others whole_one whole_other same =
    let parts = frame_split (reply_body one) (reply_body other) rest others (reply_size one whole_one.within whole_one.fields) (reply_size other whole_other.within whole_other.fields) same in
    let read : Some one ≡ Some other = sym (reply_again one whole_one.within whole_one.fields) ∙ ap reply_in parts.0 ∙ reply_again other whole_other.within whole_other.fields in
    (cc, parts.1)

no_reply : (one : Reply) (rest : List ℕ) → reply_frame one ++ rest ≡ [] → ⊥
no_reply one rest none = cc

pub same_replies : (replies others : List Reply) → AllByRecursion IsWholeReply replies → AllByRecursion IsWholeReply others → flat_map reply_frame replies ≡ flat_map reply_frame others → replies ≡ others
same_replies [] [] all all_others same = refl
same_replies [] (other ∷ others) all all_others same = absurd (no_reply other (flat_map reply_frame others) (sym same))
same_replies (one ∷ replies) [] all all_others same = absurd (no_reply one (flat_map reply_frame replies) same)
same_replies (one ∷ replies) (other ∷ others) all all_others same =
    let first = same_first_reply one other (flat_map reply_frame replies) (flat_map reply_frame others) all.0 all_others.0 same in
    ap (λ r. r ∷ replies) first.0 ∙ ap (λ rs. other ∷ rs) (same_replies replies others all.1 all_others.1 first.1)
