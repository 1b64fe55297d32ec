use Rattle.std.proofs.Common.{◌∙◌, ◌++◌, ℕ, List, sym, ap}
use Rattle.std.specs.Prelude.{codes}
use Rattle.std.specs.Fmt.{decimal}
use Rattle.audit_verify.specs.StateText.{node_lines}
use Rattle.audit_text.specs.Fields.{field_line}
use Rattle.audit_verify_saved.specs.Saved.{shown}
use Rattle.audit_verify_saved.proofs.Parts.{state_split}
use Rattle.audit_verify_saved.proofs.lines.after_state.Goals as goal

pub returns-in_err-after_version-clause-only : goal.returns-in_err-after_version-clause-only
returns-in_err-after_version-clause-only c = λ rest is.
    let state = shown c.args.saved.now in
    let count = c.decimal_of-count.ensures ∙ ap decimal c.count-number.ensures.count in
    let nodes = ap (λ n. node_lines n c.hashes-nodes.result.now) c.count-number.ensures.count ∙ ap (node_lines state.frontier.count) c.hashes-nodes.ensures.hashes in
    let split = λ (after : List ℕ). state_split state c.decimal_of-count.result.now c.digits_of-key.result c.digits_of-link.result c.word_of-log.result.now (node_lines c.count-number.result c.hashes-nodes.result.now) after count c.digits_of-key.ensures c.digits_of-link.ensures c.word_of-log.ensures nodes in
    absurd (rw c.in_err-after_version.was at (c.after_line.ensures.only _ (is ∙ split rest)))

pub returns-in_err-after_count-clause-only : goal.returns-in_err-after_count-clause-only
returns-in_err-after_count-clause-only c = λ rest is.
    let state = shown c.args.saved.now in
    let count = c.decimal_of-count.ensures ∙ ap decimal c.count-number.ensures.count in
    let nodes = ap (λ n. node_lines n c.hashes-nodes.result.now) c.count-number.ensures.count ∙ ap (node_lines state.frontier.count) c.hashes-nodes.ensures.hashes in
    let split = λ (after : List ℕ). state_split state c.decimal_of-count.result.now c.digits_of-key.result c.digits_of-link.result c.word_of-log.result.now (node_lines c.count-number.result c.hashes-nodes.result.now) after count c.digits_of-key.ensures c.digits_of-link.ensures c.word_of-log.ensures nodes in
    let at0 = rw c.in_ok-after_version.was at (c.after_line.ensures.only _ (is ∙ split rest)) in
    absurd (rw c.in_err-after_count.was at (c.after_line-2.ensures.only _ at0))

pub returns-in_err-after_key-clause-only : goal.returns-in_err-after_key-clause-only
returns-in_err-after_key-clause-only c = λ rest is.
    let state = shown c.args.saved.now in
    let count = c.decimal_of-count.ensures ∙ ap decimal c.count-number.ensures.count in
    let nodes = ap (λ n. node_lines n c.hashes-nodes.result.now) c.count-number.ensures.count ∙ ap (node_lines state.frontier.count) c.hashes-nodes.ensures.hashes in
    let split = λ (after : List ℕ). state_split state c.decimal_of-count.result.now c.digits_of-key.result c.digits_of-link.result c.word_of-log.result.now (node_lines c.count-number.result c.hashes-nodes.result.now) after count c.digits_of-key.ensures c.digits_of-link.ensures c.word_of-log.ensures nodes in
    let at0 = rw c.in_ok-after_version.was at (c.after_line.ensures.only _ (is ∙ split rest)) in
    let at1 = rw c.in_ok-after_count.was at (c.after_line-2.ensures.only _ at0) in
    absurd (rw c.in_err-after_key.was at (c.after_line-3.ensures.only _ at1))

pub returns-in_err-after_link-clause-only : goal.returns-in_err-after_link-clause-only
returns-in_err-after_link-clause-only c = λ rest is.
    let state = shown c.args.saved.now in
    let count = c.decimal_of-count.ensures ∙ ap decimal c.count-number.ensures.count in
    let nodes = ap (λ n. node_lines n c.hashes-nodes.result.now) c.count-number.ensures.count ∙ ap (node_lines state.frontier.count) c.hashes-nodes.ensures.hashes in
    let split = λ (after : List ℕ). state_split state c.decimal_of-count.result.now c.digits_of-key.result c.digits_of-link.result c.word_of-log.result.now (node_lines c.count-number.result c.hashes-nodes.result.now) after count c.digits_of-key.ensures c.digits_of-link.ensures c.word_of-log.ensures nodes in
    let at0 = rw c.in_ok-after_version.was at (c.after_line.ensures.only _ (is ∙ split rest)) in
    let at1 = rw c.in_ok-after_count.was at (c.after_line-2.ensures.only _ at0) in
    let at2 = rw c.in_ok-after_key.was at (c.after_line-3.ensures.only _ at1) in
    absurd (rw c.in_err-after_link.was at (c.after_line-4.ensures.only _ at2))

pub returns-in_err-after_log-clause-only : goal.returns-in_err-after_log-clause-only
returns-in_err-after_log-clause-only c = λ rest is.
    let state = shown c.args.saved.now in
    let count = c.decimal_of-count.ensures ∙ ap decimal c.count-number.ensures.count in
    let nodes = ap (λ n. node_lines n c.hashes-nodes.result.now) c.count-number.ensures.count ∙ ap (node_lines state.frontier.count) c.hashes-nodes.ensures.hashes in
    let split = λ (after : List ℕ). state_split state c.decimal_of-count.result.now c.digits_of-key.result c.digits_of-link.result c.word_of-log.result.now (node_lines c.count-number.result c.hashes-nodes.result.now) after count c.digits_of-key.ensures c.digits_of-link.ensures c.word_of-log.ensures nodes in
    let at0 = rw c.in_ok-after_version.was at (c.after_line.ensures.only _ (is ∙ split rest)) in
    let at1 = rw c.in_ok-after_count.was at (c.after_line-2.ensures.only _ at0) in
    let at2 = rw c.in_ok-after_key.was at (c.after_line-3.ensures.only _ at1) in
    let at3 = rw c.in_ok-after_link.was at (c.after_line-4.ensures.only _ at2) in
    absurd (rw c.in_err-after_log.was at (c.after_line-5.ensures.only _ at3))

pub returns-in_err-rest-clause-only : goal.returns-in_err-rest-clause-only
returns-in_err-rest-clause-only c = λ rest is.
    let state = shown c.args.saved.now in
    let count = c.decimal_of-count.ensures ∙ ap decimal c.count-number.ensures.count in
    let nodes = ap (λ n. node_lines n c.hashes-nodes.result.now) c.count-number.ensures.count ∙ ap (node_lines state.frontier.count) c.hashes-nodes.ensures.hashes in
    let split = λ (after : List ℕ). state_split state c.decimal_of-count.result.now c.digits_of-key.result c.digits_of-link.result c.word_of-log.result.now (node_lines c.count-number.result c.hashes-nodes.result.now) after count c.digits_of-key.ensures c.digits_of-link.ensures c.word_of-log.ensures nodes in
    let at0 = rw c.in_ok-after_version.was at (c.after_line.ensures.only _ (is ∙ split rest)) in
    let at1 = rw c.in_ok-after_count.was at (c.after_line-2.ensures.only _ at0) in
    let at2 = rw c.in_ok-after_key.was at (c.after_line-3.ensures.only _ at1) in
    let at3 = rw c.in_ok-after_link.was at (c.after_line-4.ensures.only _ at2) in
    let at4 = rw c.in_ok-after_log.was at (c.after_line-5.ensures.only _ at3) in
    absurd (rw c.in_err-rest.was at (c.after_nodes.ensures.only _ at4))

pub returns-clause-only : goal.returns-clause-only
returns-clause-only c = λ rest is.
    let state = shown c.args.saved.now in
    let count = c.decimal_of-count.ensures ∙ ap decimal c.count-number.ensures.count in
    let nodes = ap (λ n. node_lines n c.hashes-nodes.result.now) c.count-number.ensures.count ∙ ap (node_lines state.frontier.count) c.hashes-nodes.ensures.hashes in
    let split = λ (after : List ℕ). state_split state c.decimal_of-count.result.now c.digits_of-key.result c.digits_of-link.result c.word_of-log.result.now (node_lines c.count-number.result c.hashes-nodes.result.now) after count c.digits_of-key.ensures c.digits_of-link.ensures c.word_of-log.ensures nodes in
    let at0 = rw c.in_ok-after_version.was at (c.after_line.ensures.only _ (is ∙ split rest)) in
    let at1 = rw c.in_ok-after_count.was at (c.after_line-2.ensures.only _ at0) in
    let at2 = rw c.in_ok-after_key.was at (c.after_line-3.ensures.only _ at1) in
    let at3 = rw c.in_ok-after_link.was at (c.after_line-4.ensures.only _ at2) in
    let at4 = rw c.in_ok-after_log.was at (c.after_line-5.ensures.only _ at3) in
    rw c.in_ok-rest.was at (c.after_nodes.ensures.only _ at4)

pub returns-clause-found : goal.returns-clause-found
returns-clause-found c =
    let state = shown c.args.saved.now in
    let count = c.decimal_of-count.ensures ∙ ap decimal c.count-number.ensures.count in
    let nodes = ap (λ n. node_lines n c.hashes-nodes.result.now) c.count-number.ensures.count ∙ ap (node_lines state.frontier.count) c.hashes-nodes.ensures.hashes in
    let split = λ (after : List ℕ). state_split state c.decimal_of-count.result.now c.digits_of-key.result c.digits_of-link.result c.word_of-log.result.now (node_lines c.count-number.result c.hashes-nodes.result.now) after count c.digits_of-key.ensures c.digits_of-link.ensures c.word_of-log.ensures nodes in
    (rw c.in_ok-after_version.was at c.after_line.ensures.found)
    ∙ ap (λ t. field_line (codes "audit-state") (codes "1") ++ t) ((rw c.in_ok-after_count.was at c.after_line-2.ensures.found)
    ∙ ap (λ t. field_line (codes "count") c.decimal_of-count.result.now ++ t) ((rw c.in_ok-after_key.was at c.after_line-3.ensures.found)
    ∙ ap (λ t. field_line (codes "key") c.digits_of-key.result ++ t) ((rw c.in_ok-after_link.was at c.after_line-4.ensures.found)
    ∙ ap (λ t. field_line (codes "link") c.digits_of-link.result ++ t) ((rw c.in_ok-after_log.was at c.after_line-5.ensures.found)
    ∙ ap (λ t. field_line (codes "log") c.word_of-log.result.now ++ t) (rw c.in_ok-rest.was at c.after_nodes.ensures.found)))))
    ∙ sym (split c.in_ok-rest.rest.now)
