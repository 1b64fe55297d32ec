use Rattle.std.proofs.Common.{◌≡◌, ◌≢◌, ℕ, ◌<◌, ◌≤◌, ◌+◌, ◌*◌, [], inl, inr, drop, take, length, slice_index, slice_index_or, arith, ap, sym, refl, ◌∙◌, length-drop}
use Rattle.std.proofs.lemmas.List.{drop-drop}
use Rattle.std.proofs.lemmas.Bool.{cases_lt}
use Rattle.sha2.specs.Sha256.{compress, digest_bytes, hash_after, initial_hash_256}
use Rattle.sha2.proofs.Absorbing256.{hash_after_next}
use Rattle.audit_lanes.specs.States.{hash_in_lane}
use Rattle.audit_lanes.specs.Messages.{message_in_lane}
use Rattle.audit_lanes.proofs.messages.Messages.digests.Goals as goal

pub turns-init : goal.turns-init
unfolding hash_after
turns-init c = λ k l. (refl, (λ _. c.initial-states.ensures k l), λ none. absurd (omega (arith, c.requires.some k l)))

pub turns-preserved : goal.turns-preserved
turns-preserved c = λ k l.
    let held = c.turns.invariant k l in
    let message = message_in_lane c.args.self k in
    let at = 64 * c.turns.i in
    let count = slice_index c.args.counts.now k in
    let left : message_in_lane c.turns.self k ≡ drop at message = held.0 in
    let rest : message_in_lane c.next_states-next.new.self k ≡ drop (64 * (c.turns.i + 1)) message =
    c.next_states-next.ensures.rest k l ∙ rw left (drop-drop 64 at message ∙ ap (λ (n : ℕ). drop n message) (omega arith)) in
    let hash : c.turns.i + 1 ≤ count → hash_in_lane c.next_states-next.result k ≡ hash_after initial_hash_256 message (c.turns.i + 1) = λ more.
    let long : 64 ≤ length (message_in_lane c.turns.self k) = omega (arith, c.requires.whole k l, ap length left, length-drop at message) in
    let swapped : c.turns.i * 64 ≡ at = omega arith in
    c.next_states-next.ensures.block k l long
    ∙ rw (held.1 (omega arith), left, hash_after_next initial_hash_256 message c.turns.i, swapped) refl in (
      rest,
      hash,
      λ ended. elim (cases_lt c.turns.i count) [
        | inl now ↦
            let here : count ≡ c.turns.i + 1 = omega arith in
            c.with_ended-kept.ensures.ended k l here ∙ ap (λ h. digest_bytes h 8) (hash (omega arith)) ∙ rw here refl
        | inr before ↦ c.with_ended-kept.ensures.others k l (λ e. omega arith) ∙ held.2 (omega arith)
      ],
    )

pub returns : goal.returns
returns c = λ k l. (c.turns.invariant k l).2 (omega (arith, c.most_of-most.ensures k l))
