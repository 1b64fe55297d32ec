use Rattle.std.proofs.Common.{rules, arith, ◌≡◌, ◌+◌, ◌∷◌, drop, sym, ap, ◌∙◌}
use Rattle.std.proofs.lemmas.List.{drop_more}
use Rattle.audit_proof.proofs.Meetings.{same_values, reached_up, meeting_moved}
use Rattle.audit_proof.proofs.meeting.meet_with.Goals as goal

pub meet_texts-requires : goal.meet_texts-requires
meet_texts-requires g c = λ same.
    c.requires.differ
    (same_values c.args.side c.args.left.value c.args.right.value c.in-Some.left_sibling.now c.in-Some-get.right_sibling.now
    (sym c.text_over-left_text.ensures ∙ same ∙ c.text_over-right_text.ensures) (search rules))

pub returns : goal.returns
returns g c =
    let H = g.T.TextHash.value_of in
    let lefts = c.args.lefts.now in
    let rights = c.args.rights.now in
    let left = c.args.left in
    let right = c.args.right in
    let left_split : drop left.used lefts ≡ c.in-Some.left_sibling.now ∷ drop (left.used + 1) lefts = drop_more lefts left.used c.in-Some.left_sibling.now c.in-Some.ensures.lookup.3.0
    ∙ ap (λ h. h ∷ drop (left.used + 1) lefts) (sym c.in-Some.ensures.lookup.1) in
    let right_split : drop right.used rights ≡ c.in-Some-get.right_sibling.now ∷ drop (right.used + 1) rights = drop_more rights right.used c.in-Some-get.right_sibling.now c.in-Some-get.ensures.lookup.3.0
    ∙ ap (λ h. h ∷ drop (right.used + 1) rights) (sym c.in-Some-get.ensures.lookup.1) in
    meeting_moved H lefts rights c.meet_texts.result _ _ _ _
    (c.meet_texts.ensures lefts rights (omega (arith, c.in-Some.ensures.lookup.3.0)) (omega (arith, c.in-Some-get.ensures.lookup.3.0)))
    (reached_up H c.args.side left.value c.in-Some.left_sibling.now _ lefts left.used c.text_over-left_text.ensures left_split)
    (reached_up H c.args.side right.value c.in-Some-get.right_sibling.now _ rights right.used c.text_over-right_text.ensures right_split)
