use Rattle.std.proofs.Common.{◌≡◌, ◌++◌, ◌+◌, ◌/◌, ℕ, List, [], drop, get_or, refl, sym, ap, ◌∙◌, append_assoc}
use Rattle.std.specs.Prelude.{codes}
use Rattle.audit_verify.specs.StateText.{node_lines}
use Rattle.audit_text.specs.Fields.{field_line}
use Rattle.audit_verify.proofs.Nodes.{node_more, node_some, node_none, no_lines}
use Rattle.audit_verify_saved.proofs.lines.after_nodes.Goals as goal
use Rattle.audit_verify_saved.proofs.lines.after_nodes.Goals.{then-ones-eq1+in_ok-rest, else-ones-eq1}

-- a part of a text before its tail
grouped : (nodes line later tail : List ℕ) → nodes ≡ line ++ later → nodes ++ tail ≡ line ++ (later ++ tail)
grouped nodes line later tail is = ap (λ t. t ++ tail) is ∙ append_assoc line later tail

pub returns-in_err-rest-clause-only : goal.returns-in_err-rest-clause-only
returns-in_err-rest-clause-only c = λ rest is.
    let l = c.loop-hash in
    let hashes = c.args.hashes.now in
    let hash = get_or hashes l.hash-index [] in
    let later = node_lines (l.ones / 2) (drop (l.hash-index + 1) hashes) in
    let line = field_line (codes "node") c.digits_of.result in
    let nodes = node_more l.ones l.hash-index hashes hash c.loop-hash-test.true refl ∙ ap (λ t. t ++ later) (node_some l.ones hash c.if-ones-eq1.true)
    ∙ ap (λ d. field_line (codes "node") d ++ later) (sym c.digits_of.ensures) in
    absurd (rw c.in_err-rest.was at (c.after_line.ensures.only _ ((l.invariant rest).0 is ∙ grouped (node_lines l.ones (drop l.hash-index hashes)) line later rest nodes)))

pub loop-hash-preserved : goal.loop-hash-preserved
loop-hash-preserved c = λ tail.
    let l = c.loop-hash in
    let hashes = c.args.hashes.now in
    let hash = get_or hashes l.hash-index [] in
    let later = node_lines (l.ones / 2) (drop (l.hash-index + 1) hashes) in
    let here = node_lines l.ones (drop l.hash-index hashes) in
    let more = node_more l.ones l.hash-index hashes hash c.loop-hash-test.true refl in
    elim c.if-ones-eq1.branch [
      | then-ones-eq1+in_ok-rest w ↦
          let line = field_line (codes "node") w.digits_of.result in
          let nodes = more ∙ ap (λ t. t ++ later) (node_some l.ones hash w.if-ones-eq1.true) ∙ ap (λ d. field_line (codes "node") d ++ later) (sym w.digits_of.ensures) in
          let front = grouped here line later tail nodes in
          rw w.rest-is (
            λ is. rw w.in_ok-rest.was at (w.after_line.ensures.only _ ((l.invariant tail).0 is ∙ front)),
            λ e. (l.invariant tail).1 ((rw w.in_ok-rest.was at w.after_line.ensures.found) ∙ ap (λ t. line ++ t) e ∙ sym front),
          )
      | else-ones-eq1 w ↦
          let nodes : here ≡ later = more ∙ ap (λ t. t ++ later) (node_none l.ones hash w.if-ones-eq1.false) in
          rw w.rest-is (
            λ is. (l.invariant tail).0 is ∙ ap (λ t. t ++ tail) nodes,
            λ e. (l.invariant tail).1 (e ∙ ap (λ t. t ++ tail) (sym nodes)),
          )
    ]

pub returns-clause-found : goal.returns-clause-found
returns-clause-found c =
    let l = c.loop-hash in
    let none = no_lines l.ones l.hash-index c.args.hashes.now c.loop-hash-test.false in
    (l.invariant l.rest.now).1 (ap (λ t. t ++ l.rest.now) (sym none))

pub returns-clause-only : goal.returns-clause-only
returns-clause-only c = λ rest is.
    let l = c.loop-hash in
    let none = no_lines l.ones l.hash-index c.args.hashes.now c.loop-hash-test.false in
    (l.invariant rest).0 is ∙ ap (λ t. t ++ rest) none
