-- All entries, asked for and read one after another.
use Rattle.std.specs.Prelude.{map}
use Rattle.std.specs.List.{flat_map, concat, filter}
use Rattle.std.specs.Io.KnownBytes.{Appends, Consumes}
use Rattle.std.proofs.Common.{◌≡◌, ◌≢◌, ◌∙◌, ℕ, zero, suc, ◌+◌, ◌-◌, ◌≤◌, Option, Some, List, [], ◌∷◌, ◌++◌, length, length-append, append-nil, sym, ap, subst, refl, arith, add-one, append_assoc}
use Rattle.std.proofs.lemmas.Grind.{flat_map-append}
use Rattle.std.proofs.lemmas.List.Elements.{filter-append}
use Rattle.std.proofs.lemmas.List.{map-append, length-map}
use Rattle.std.proofs.lemmas.List.Folds.{concat-append}
use Rattle.audit_base.specs.declared.limits.TheConstants.{MAX_COUNT}
use Rattle.audit_tree.specs.Subtree.{leaf_hash_of}
use Rattle.audit_tree.specs.Frontier.{FrontierData, IsSized}
use Rattle.audit_tree.specs.Continued.{root_after, frontier_after, empty_frontier}
use Rattle.audit_tree.proofs.ContinuedTrees.{root_further, frontier_further, root_of_leaves, none_of_leaves, after_none}
use Rattle.audit_verify.proofs.Commitments.{same_commitment}
use Rattle.sha2.specs.Sha256.{sha256}
use Rattle.audit_proof.specs.Acceptance.{commitment_to, AcceptsIncrement}
use Rattle.audit_wire.specs.declared.request.Request.{Request}
use Rattle.audit_wire.specs.declared.request.Request.TheVariants as request
use Rattle.audit_wire.specs.declared.reply.Reply.{Reply}
use Rattle.audit_wire.specs.declared.reply.Reply.TheVariants as reply
use Rattle.audit_wire.specs.Frame.{frame}
use Rattle.audit_wire.specs.Reply.{reply_in}
use Rattle.audit_wire.specs.Stream.{request_frame}
use Rattle.audit_wire_ask.specs.Conversation.{ReadsReply, ReadsReplies, Converses}
use Rattle.audit_proof.specs.declared.commitment.Commitment.{Commitment}
use Rattle.audit_wire_ask.specs.declared.asking.TheConstants.{NEWEST_TAG, ASKED_TAG}
use Rattle.audit_wire_ask.specs.Exporting.{entry_tag, entry_requests, entry_replies, asks_no_increment, gives_no_increment, AreForEntries, AsksEntries, AsksIncrements, ReceivesEntry, ReceivesEntries, IsBegunBy, Begins, commitment_from, first_requests, first_replies, opening_requests, opening_replies, GivesExport, WritesExport}
use Rattle.audit_wire_ask.proofs.Conversations.{consumes_more, appends_none, appends_more, converses_none, converses_more}

entry_requests-more : (n : ℕ) → entry_requests (n + 1) ≡ entry_requests n ++ request.Entry (entry_tag n) n ∷ []
entry_requests-more n = ap entry_requests (add-one n)

pub entry_replies-more : (first : ℕ) (entries : List (List ℕ)) (entry : List ℕ) → entry_replies first (entries ++ entry ∷ []) ≡ entry_replies first entries ++ reply.Entry (entry_tag (first + length entries)) entry ∷ []
entry_replies-more first [] entry = let e : first ≡ first + 0 = omega arith in ap (λ n. reply.Entry (entry_tag n) entry ∷ []) e
entry_replies-more first (e ∷ es) entry =
    let same : suc first + length es ≡ first + length (e ∷ es) = omega arith in
    ap (λ (rest : List Reply). reply.Entry (entry_tag first) e ∷ rest)
    (entry_replies-more (suc first) es entry ∙ ap (λ (n : ℕ). entry_replies (suc first) es ++ reply.Entry (entry_tag n) entry ∷ []) same)

-- one more reply was read
pub replies_more : (old mid new : Option (List ℕ)) (given : List Reply) (one : Reply) → ReadsReplies old mid given → ReadsReply mid new one → ReadsReplies old new (given ++ one ∷ [])
replies_more old mid new given one h k = record {
  bodies = h.bodies ++ k.body ∷ [];
  bytes =
      subst (Consumes old new)
      (ap (λ (rest : List ℕ). flat_map frame h.bodies ++ rest) (sym (append-nil (frame k.body))) ∙ sym (flat_map-append frame h.bodies (k.body ∷ [])))
      (consumes_more old mid new (flat_map frame h.bodies) (frame k.body) h.bytes k.bytes);
  read =
      map-append reply_in h.bodies (k.body ∷ []) ∙ ap (λ (front : List (Option Reply)). front ++ map reply_in (k.body ∷ [])) h.read
      ∙ ap (λ (last : Option Reply). map (λ reply. Some reply) given ++ last ∷ []) k.read ∙ sym (map-append (λ (reply : Reply). Some reply) given (one ∷ []));
}

-- one more request was put at the end of the others
pub asked_more : (asked wanted : ℕ) (requests : List Request) → entry_requests wanted ≡ entry_requests asked ++ requests
    → entry_requests (wanted + 1) ≡ entry_requests asked ++ (requests ++ request.Entry (entry_tag wanted) wanted ∷ [])
asked_more asked wanted requests so_far =
    entry_requests-more wanted ∙ ap (λ (l : List Request). l ++ request.Entry (entry_tag wanted) wanted ∷ []) so_far
    ∙ append_assoc (entry_requests asked) requests (request.Entry (entry_tag wanted) wanted ∷ [])

pub plain_more : (wanted : ℕ) (requests : List Request) → filter asks_no_increment requests ≡ requests
    → filter asks_no_increment (requests ++ request.Entry (entry_tag wanted) wanted ∷ []) ≡ requests ++ request.Entry (entry_tag wanted) wanted ∷ []
plain_more wanted requests plain =
    filter-append asks_no_increment requests (request.Entry (entry_tag wanted) wanted ∷ []) ∙ ap (λ (l : List Request). l ++ request.Entry (entry_tag wanted) wanted ∷ []) plain

pub frames_more : (wanted : ℕ) (requests : List Request) (frames next : List ℕ) → frames ≡ flat_map request_frame requests → next ≡ frames ++ request_frame (request.Entry (entry_tag wanted) wanted)
    → next ≡ flat_map request_frame (requests ++ request.Entry (entry_tag wanted) wanted ∷ [])
frames_more wanted requests frames next so_far more =
    let last = request_frame (request.Entry (entry_tag wanted) wanted) in
    more ∙ ap (λ (l : List ℕ). l ++ last) so_far
    ∙ ap (λ (l : List ℕ). flat_map request_frame requests ++ l) (sym (append-nil last))
    ∙ sym (flat_map-append request_frame requests (request.Entry (entry_tag wanted) wanted ∷ []))

pub received_none : (written read : Option (List ℕ)) (begun : FrontierData) (known : Option (List ℕ)) → IsSized begun.count begun.hashes
    → ReceivesEntries written written read read begun begun known known begun.count begun.count 0
received_none written read begun known sized = record {
  entries = [];
  counted = omega arith;
  asked = [];
  given = [];
  about = record { requests = sym (append-nil (entry_requests begun.count)); replies = refl };
  conversation = converses_none written read;
  leaves = sym (after_none begun sized);
  written = appends_none known;
  size_is = refl;
}

-- requests were written, and no reply read
pub converses_on : (w0 w1 w2 r0 r1 : Option (List ℕ)) (asked later : List Request) (given : List Reply) → Converses w0 w1 r0 r1 asked given → Appends w1 w2 (flat_map request_frame later)
    → Converses w0 w2 r0 r1 (asked ++ later) given
converses_on w0 w1 w2 r0 r1 asked later given so_far sent = record {
  sent = subst (Appends w0 w2) (sym (flat_map-append request_frame asked later)) (appends_more w0 w1 w2 _ _ so_far.sent sent);
  replies = so_far.replies;
}

-- the reply with the next entry was read
pub reads_entry : {w0 w1 r0 r1 r2 : Option (List ℕ)} {asked : List Request} {given : List Reply} {first ahead : ℕ} {entries : List (List ℕ)} {entry : List ℕ} → Converses w0 w1 r0 r1 asked given → AreForEntries asked given first ahead entries
    → ReadsReply r1 r2 (reply.Entry (entry_tag (first + length entries)) entry)
    → Converses w0 w1 r0 r2 asked (given ++ reply.Entry (entry_tag (first + length entries)) entry ∷ []) × AreForEntries asked (given ++ reply.Entry (entry_tag (first + length entries)) entry ∷ []) first ahead (entries ++ entry ∷ [])
reads_entry {r0 = r0} {r1 = r1} {r2 = r2} {given = given} {first = first} {entries = entries} {entry = entry} on about read =
    let last : Reply = reply.Entry (entry_tag (first + length entries)) entry in (
      record { sent = on.sent; replies = replies_more r0 r1 r2 given last on.replies read },
      record {
        requests = about.requests;
        replies =
            filter-append gives_no_increment given (last ∷ []) ∙ ap (λ (l : List Reply). l ++ last ∷ []) about.replies
            ∙ sym (entry_replies-more first entries entry);
      },
    )

-- requests after others, about the same entries
pub about_more : {asked later : List Request} {given : List Reply} {first ahead next : ℕ} {entries : List (List ℕ)} → AreForEntries asked given first ahead entries → filter asks_no_increment later ≡ later
    → entry_requests next ≡ entry_requests ahead ++ later → AreForEntries (asked ++ later) given first next entries
about_more {asked = asked} {later = later} {first = first} about plain all = record {
  requests =
      all ∙ ap (λ (l : List Request). l ++ later) about.requests
      ∙ append_assoc (entry_requests first) (filter asks_no_increment asked) later
      ∙ ap (λ (l : List Request). entry_requests first ++ l)
      (ap (λ (l : List Request). filter asks_no_increment asked ++ l) (sym plain) ∙ sym (filter-append asks_no_increment asked later));
  replies = about.replies;
}

module _ {w0 w1 w2 r0 r1 r2 o0 o1 o2 : Option (List ℕ)} {begun f1 f2 : FrontierData} {ahead next count size more : ℕ} (so_far : ReceivesEntries w0 w1 r0 r1 begun f1 o0 o1 ahead count size) (asks : AsksEntries w1 w2 ahead next) (one : ReceivesEntry r1 r2 f1 f2 o1 o2 count more) where
  pub received_more : (sum : ℕ) → sum ≡ size + more → ReceivesEntries w0 w2 r0 r2 begun f2 o0 o2 next (count + 1) sum
  received_more sum sum_is =
      let entries = so_far.entries in
      let entry = one.entry in
      let leaf = leaf_hash_of entry in
      let all : concat entries ++ entry ≡ concat (entries ++ entry ∷ []) = ap (λ (e : List ℕ). concat entries ++ e) (sym (append-nil entry)) ∙ sym (concat-append entries (entry ∷ [])) in
      let on = converses_on w0 w1 w2 r0 r1 so_far.asked asks.requests so_far.given so_far.conversation asks.sent in
      let both = reads_entry on (about_more so_far.about asks.plain asks.all) (subst (λ (n : ℕ). ReadsReply r1 r2 (reply.Entry (entry_tag n) entry)) (sym so_far.counted) one.read) in
      record {
        entries = entries ++ entry ∷ [];
        counted = omega (arith, so_far.counted, length-append entries (entry ∷ []));
        asked = so_far.asked ++ asks.requests;
        given = _;
        about = both.1;
        conversation = both.0;
        leaves = one.leaf ∙ ap (λ (f : FrontierData). frontier_after f (leaf ∷ [])) so_far.leaves
            ∙ frontier_further begun (map leaf_hash_of entries) (leaf ∷ [])
            ∙ ap (frontier_after begun) (sym (map-append leaf_hash_of entries (entry ∷ [])));
        written = subst (Appends o0 o2) all (appends_more o0 o1 o2 (concat entries) entry so_far.written one.written);
        size_is = sum_is ∙ omega (arith, so_far.size_is, one.size_is, ap length all, length-append (concat entries) entry);
      }

-- increments were asked for, or none
pub received_judged : {w0 w1 w2 r0 r1 r2 o0 o1 : Option (List ℕ)} {begun f : FrontierData} {ahead count size : ℕ} → ReceivesEntries w0 w1 r0 r1 begun f o0 o1 ahead count size → AsksIncrements w1 w2 r1 r2
    → ReceivesEntries w0 w2 r0 r2 begun f o0 o1 ahead count size
received_judged {w0 = w0} {w1 = w1} {w2 = w2} {r0 = r0} {r1 = r1} {r2 = r2} {begun = begun} so_far asks = record {
  entries = so_far.entries;
  counted = so_far.counted;
  asked = so_far.asked ++ asks.asked;
  given = so_far.given ++ asks.given;
  about = record {
    requests =
        so_far.about.requests ∙ ap (λ (l : List Request). entry_requests begun.count ++ l)
        (sym (filter-append asks_no_increment so_far.asked asks.asked ∙ ap (λ (l : List Request). filter asks_no_increment so_far.asked ++ l) asks.requests
        ∙ append-nil (filter asks_no_increment so_far.asked)));
    replies =
        filter-append gives_no_increment so_far.given asks.given ∙ ap (λ (l : List Reply). filter gives_no_increment so_far.given ++ l) asks.replies
        ∙ append-nil (filter gives_no_increment so_far.given) ∙ so_far.about.replies;
  };
  conversation = converses_more w0 w1 w2 r0 r1 r2 so_far.asked asks.asked so_far.given asks.given so_far.conversation asks.conversation;
  leaves = so_far.leaves;
  written = so_far.written;
  size_is = so_far.size_is;
}

-- none were asked for
pub no_increments : (written read : Option (List ℕ)) → AsksIncrements written written read read
no_increments written read = record { asked = []; given = []; conversation = converses_none written read; requests = refl; replies = refl }

-- one was
pub one_increment : {w0 w1 r0 r1 : Option (List ℕ)} {tag older newer : ℕ} {hashes : List (List ℕ)} → Converses w0 w1 r0 r1 (request.Incremental tag older newer ∷ []) (reply.Incremental tag hashes ∷ [])
    → AsksIncrements w0 w1 r0 r1
one_increment h = record { asked = _; given = _; conversation = h; requests = refl; replies = refl }

-- the frontier has as many leaves as entries were read, after those before
pub as_many_leaves : {w0 w1 r0 r1 o0 o1 : Option (List ℕ)} {begun f : FrontierData} {asked count size : ℕ} → ReceivesEntries w0 w1 r0 r1 begun f o0 o1 asked count size → f.count ≡ count
as_many_leaves {begun = begun} so_far =
    ap (λ (f : FrontierData). f.count) so_far.leaves ∙ ap (λ (n : ℕ). begun.count + n) (length-map so_far.entries leaf_hash_of) ∙ so_far.counted

-- the commitment of the frontier is that to what came before and to the entries
pub root_received : {w0 w1 r0 r1 o0 o1 : Option (List ℕ)} {begun f : FrontierData} {asked count size : ℕ} (so_far : ReceivesEntries w0 w1 r0 r1 begun f o0 o1 asked count size) → count ≤ MAX_COUNT
    → root_after f [] ≡ root_after begun (map leaf_hash_of so_far.entries)
root_received {begun = begun} so_far small =
    let leaves = map leaf_hash_of so_far.entries in
    let few : begun.count + length (leaves ++ []) ≤ MAX_COUNT = omega (arith, so_far.counted, small, length-map so_far.entries leaf_hash_of, length-append leaves []) in
    ap (λ (f : FrontierData). root_after f []) so_far.leaves ∙ root_further begun leaves [] few ∙ ap (root_after begun) (append-nil leaves)

-- what begins is a frontier of as many entries
pub begun_count : (first : ℕ) (newest : Commitment) (hashes : List (List ℕ)) (begun : FrontierData) → Begins first newest hashes begun → begun.count ≡ first
begun_count zero newest hashes begun is = ap (λ (f : FrontierData). f.count) is
begun_count (suc before) newest hashes begun is = is.count

-- from the first entry on the commitment is that to the entries alone
begun_whole : (first : ℕ) (newest : Commitment) (hashes : List (List ℕ)) (begun : FrontierData) (entries : List (List ℕ)) → Begins first newest hashes begun → newest ≡ commitment_from begun entries
    → first ≡ 0 → newest ≡ commitment_to entries
begun_whole zero newest hashes begun entries is same none =
    let leaves = map leaf_hash_of entries in
    same ∙ ap (λ (f : FrontierData). commitment_from f entries) is
    ∙ same_commitment (0 + length entries) (length entries) _ _ (omega arith) (root_of_leaves empty_frontier [] leaves (none_of_leaves empty_frontier refl))
begun_whole (suc before) newest hashes begun entries is same none = absurd (omega (arith, none))

-- all entries were received, and the root over them is that of the newest commitment
pub exported : {w0 w1 w2 w3 r0 r1 r2 r3 o0 o1 : Option (List ℕ)} {begun f : FrontierData} {newest : Commitment} {first size : ℕ} (hashes : List (List ℕ))
    → Converses w0 w1 r0 r1 (request.Commitment NEWEST_TAG ∷ []) (reply.Commitment NEWEST_TAG newest.count newest.root ∷ []) → Converses w1 w2 r1 r2 (first_requests first newest) (first_replies first hashes)
    → Begins first newest hashes begun → (all : ReceivesEntries w2 w3 r2 r3 begun f o0 o1 newest.count newest.count size) → newest.count ≤ MAX_COUNT
    → root_after f [] ≡ newest.root → {count : ℕ} → count ≡ newest.count - first
    → (entries : List (List ℕ)) × GivesExport w0 w3 r0 r3 first entries × WritesExport o0 o1 entries (record { count = count; size = size })
exported {w0 = w0} {w1 = w1} {w2 = w2} {w3 = w3} {r0 = r0} {r1 = r1} {r2 = r2} {r3 = r3} {begun = begun} {newest = newest} {first = first} hashes opened begins_by begins all small same count_is =
    let newest_is : newest ≡ commitment_from begun all.entries =
    same_commitment newest.count (begun.count + length all.entries) newest.root _ (sym all.counted) (sym same ∙ root_received all small) in (
      all.entries,
      record {
        newest = newest;
        hashes = hashes;
        begun = begun;
        begins = begins;
        asked = all.asked;
        given = all.given;
        about = all.about;
        conversation = converses_more w0 w2 w3 r0 r2 r3 (opening_requests first newest) all.asked (opening_replies first newest hashes) all.given
            (converses_more w0 w1 w2 r0 r1 r2 (request.Commitment NEWEST_TAG ∷ []) (first_requests first newest) (reply.Commitment NEWEST_TAG newest.count newest.root ∷ []) (first_replies first hashes) opened begins_by) all.conversation;
        newest_is = newest_is;
        whole = begun_whole first newest hashes begun all.entries begins newest_is;
      },
      record { written = all.written; count = omega (arith, count_is, all.counted, begun_count first newest hashes begun begins); size = all.size_is },
    )

-- the increment from the entries before was given, and the frontier is in it
pub begun_by : (first : ℕ) (newest : Commitment) (hashes : List (List ℕ)) (begun : FrontierData) {w0 w1 r0 r1 : Option (List ℕ)} → first ≢ 0 → IsBegunBy first newest hashes begun
    → Converses w0 w1 r0 r1 (request.Incremental ASKED_TAG first newest.count ∷ []) (reply.Incremental ASKED_TAG hashes ∷ [])
    → Begins first newest hashes begun × Converses w0 w1 r0 r1 (first_requests first newest) (first_replies first hashes)
begun_by zero newest hashes begun some is asked = absurd (some refl)
begun_by (suc before) newest hashes begun some is asked = (is, asked)

-- a root that is the frontier's own
pub accepted_from : (first : ℕ) (newest : Commitment) (hashes : List (List ℕ)) (begun : FrontierData) → begun.count ≡ first
    → AcceptsIncrement sha256 (record { count = first; root = root_after begun [] }) newest hashes → AcceptsIncrement sha256 (commitment_from begun []) newest hashes
accepted_from first newest hashes begun count accepted =
    subst (λ (c : Commitment). AcceptsIncrement sha256 c newest hashes) (same_commitment first (begun.count + 0) (root_after begun []) (root_after begun []) (omega (arith, count)) refl) accepted
