-- A reply that was read whole isn't a lost one.
use Rattle.std.specs.Prelude.{map, length, IfSome}
use Rattle.std.specs.List.{flat_map}
use Rattle.std.proofs.Common.{◌≡◌, ◌∙◌, inl, inr, ℕ, Option, Some, List, [], ◌∷◌, ◌++◌, drop, refl, sym, ap, subst, arith, length-append, append-nil}
use Rattle.std.proofs.lemmas.List.{append_cancel_right}
use Rattle.audit_proof.specs.declared.commitment.Commitment.{Commitment}
use Rattle.audit_wire.specs.declared.reply.Reply.{Reply}
use Rattle.audit_wire.specs.Frame.{frame}
use Rattle.audit_wire.specs.Reply.{reply_in, HasParts}
use Rattle.audit_wire_ask.specs.declared.fault.ClientError.{ClientError}
use Rattle.audit_wire_ask.specs.Asking.{newest_reply}
use Rattle.audit_wire_ask.specs.Conversation.{IsPartOfFrame, ReadsReply}
use Rattle.audit_wire_ask.specs.Failing.{FailsNewest, IsNewestReply}

pub no_part : (body more : List ℕ) → IsPartOfFrame (frame body ++ more) → ⊥
no_part body more h = omega (arith, h, length-append body more)

-- no reply has no frame
no_bodies : (bodies : List (List ℕ)) (rest : List ℕ) → map reply_in bodies ≡ [] → flat_map frame bodies ++ rest ≡ rest
no_bodies [] rest none = refl
no_bodies (body ∷ bodies) rest none = cc

-- what was read is the frame
same_bytes : (before after bytes : List ℕ) (body : List ℕ) → before ≡ frame body ++ after → before ≡ bytes ++ after → bytes ≡ frame body
same_bytes before after bytes body first second = append_cancel_right bytes (frame body) after (sym second ∙ first)

same_body : (last body : List ℕ) → frame last ≡ frame body → last ≡ body
same_body last body same = ap (drop 2) same

never_empty : (before after body : List ℕ) → before ≡ frame body ++ after → before ≡ after → ⊥
never_empty before after body first same = omega (arith, ap length first, ap length same, length-append (frame body) after)

pub newest_was_given : (w0 w1 : Option (List ℕ)) (before after : List ℕ) (newest : Commitment) (error : ClientError) → ReadsReply (Some before) (Some after) (newest_reply newest) → FailsNewest w0 w1 (Some before) (Some after) error → ⊥
newest_was_given w0 w1 before after newest error h (inl (inl (lost, inl unsent))) =
    never_empty before after h.body h.bytes (unsent.1.bytes ∙ no_bodies unsent.1.bodies after unsent.1.read)
newest_was_given w0 w1 before after newest error h (inl (inl (lost, inr unread))) =
    let reads = unread.1 in
    let part : reads.part ≡ frame h.body = same_bytes before after reads.part h.body h.bytes (reads.bytes ∙ ap (λ (l : List ℕ). l ++ after) (no_bodies reads.bodies reads.part reads.read)) in
    no_part h.body [] (subst IsPartOfFrame (part ∙ sym (append-nil (frame h.body))) reads.short)
newest_was_given w0 w1 before after newest error h (inl (inr memory)) =
    let exchange = memory.3 in
    let whole : frame exchange.last ≡ frame h.body = same_bytes before after (frame exchange.last) h.body h.bytes (exchange.bytes ∙ ap (λ (l : List ℕ). l ++ after) (no_bodies exchange.bodies (frame exchange.last) exchange.replies)) in
    let body : exchange.last ≡ h.body = same_body exchange.last h.body whole in
    let said : Some memory.1 ≡ Some (newest_reply newest) = sym exchange.heard ∙ ap reply_in body ∙ h.read in
    let is : memory.1 ≡ newest_reply newest = cc in
    subst HasParts is memory.2
newest_was_given w0 w1 before after newest error h (inr other) =
    let exchange = other.exchange in
    let whole : frame exchange.last ≡ frame h.body = same_bytes before after (frame exchange.last) h.body h.bytes (exchange.bytes ∙ ap (λ (l : List ℕ). l ++ after) (no_bodies exchange.bodies (frame exchange.last) exchange.replies)) in
    let body : exchange.last ≡ h.body = same_body exchange.last h.body whole in
    let said : other.said ≡ Some (newest_reply newest) = sym exchange.heard ∙ ap reply_in body ∙ h.read in
    subst (λ (o : Option Reply). IfSome o (λ reply. IsNewestReply reply → ⊥)) said other.otherwise (newest, refl)
