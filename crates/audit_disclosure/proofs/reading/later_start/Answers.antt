use Rattle.std.proofs.Common.{◌≡◌, ◌++◌, ℕ, List, sym, ap, ◌∙◌, subst, arith}
use Rattle.std.specs.Result.{result_ok}
use Rattle.std.proofs.lemmas.Bool.{iff_false}
use Rattle.std.proofs.lemmas.Option.{none-some}
use Rattle.hex.specs.Hex.{decode_sized}
use Rattle.audit_base.specs.declared.limits.TheConstants.{HASH_LEN}
use Rattle.audit_text.specs.Number.{number_in_text}
use Rattle.audit_tree.specs.Frontier.{FrontierData, IsSized}
use Rattle.audit_verify.specs.StateText.{node_lines}
use Rattle.audit_verify.proofs.Fields.{hash_read}
use Rattle.audit_text.proofs.FieldLines.{number_read, same_some, same_number}
use Rattle.audit_disclosure.specs.declared.disclosure.Start.{Start}
use Rattle.audit_disclosure.proofs.StartLines.{start_made, start_fields}
use Rattle.audit_disclosure.proofs.reading.later_start.Goals as goal

abbrev frontier_with : ℕ → List (List ℕ) → FrontierData
frontier_with count hashes = record { count = count; hashes = hashes }

pub returns-in_err-count-clause-only : goal.returns-in_err-count-clause-only
returns-in_err-count-clause-only c = λ start rest sound is.
    let f = start_fields start rest sound _ _ _ _ _ c.field.ensures c.field-2.ensures is in
    let number = c.number_in_text.ensures ∙ ap number_in_text f.count_is ∙ number_read start.tree.count (omega (arith, sound.fits.tree.most)) in
    absurd (none-some start.tree.count (sym c.in_err-count.was ∙ number))

pub returns-in_err-link-clause-only : goal.returns-in_err-link-clause-only
returns-in_err-link-clause-only c = λ start rest sound is.
    let f = start_fields start rest sound _ _ _ _ _ c.field.ensures c.field-2.ensures is in
    let link = c.hash_in.ensures ∙ ap (λ d. result_ok (decode_sized d HASH_LEN)) f.link_is ∙ hash_read start.link sound.link in
    absurd (none-some start.link (sym c.in_err-link.was ∙ link))

pub returns-in_err-nodes-clause-only : goal.returns-in_err-nodes-clause-only
returns-in_err-nodes-clause-only c = λ start rest sound is.
    let f = start_fields start rest sound _ _ _ _ _ c.field.ensures c.field-2.ensures is in
    let number = c.number_in_text.ensures ∙ ap number_in_text f.count_is ∙ number_read start.tree.count (omega (arith, sound.fits.tree.most)) in
    let same : c.in_ok-count.count ≡ start.tree.count = same_number _ _ (sym c.in_ok-count.was ∙ number) in
    let hashes = start.tree.hashes in
    let nodes = c.nodes_in.ensures hashes rest (subst (λ n. IsSized n hashes) (sym same) sound.fits.tree) sound.nodes (f.after_is ∙ ap (λ n. node_lines n hashes ++ rest) (sym same)) in
    absurd (rw c.in_err-nodes.was at nodes)

pub returns-in_err-tree-clause-only : goal.returns-in_err-tree-clause-only
returns-in_err-tree-clause-only c = λ start rest sound is.
    let f = start_fields start rest sound _ _ _ _ _ c.field.ensures c.field-2.ensures is in
    let number = c.number_in_text.ensures ∙ ap number_in_text f.count_is ∙ number_read start.tree.count (omega (arith, sound.fits.tree.most)) in
    let same : c.in_ok-count.count ≡ start.tree.count = same_number _ _ (sym c.in_ok-count.was ∙ number) in
    let hashes = start.tree.hashes in
    let nodes = c.nodes_in.ensures hashes rest (subst (λ n. IsSized n hashes) (sym same) sound.fits.tree) sound.nodes (f.after_is ∙ ap (λ n. node_lines n hashes ++ rest) (sym same)) in
    let found = rw c.in_ok-nodes.was at nodes in
    let refused = rw c.in_err-tree.was at c.from_hashes.ensures in
    absurd (refused (subst (IsSized c.in_ok-count.count) (sym found.0) (subst (λ n. IsSized n hashes) (sym same) sound.fits.tree)))

pub returns-then-not-is_fitting-clause-only : goal.returns-then-not-is_fitting-clause-only
returns-then-not-is_fitting-clause-only c = λ start rest sound is.
    let f = start_fields start rest sound _ _ _ _ _ c.field.ensures c.field-2.ensures is in
    let number = c.number_in_text.ensures ∙ ap number_in_text f.count_is ∙ number_read start.tree.count (omega (arith, sound.fits.tree.most)) in
    let same : c.in_ok-count.count ≡ start.tree.count = same_number _ _ (sym c.in_ok-count.was ∙ number) in
    let link = c.hash_in.ensures ∙ ap (λ d. result_ok (decode_sized d HASH_LEN)) f.link_is ∙ hash_read start.link sound.link in
    let hashes = start.tree.hashes in
    let nodes = c.nodes_in.ensures hashes rest (subst (λ n. IsSized n hashes) (sym same) sound.fits.tree) sound.nodes (f.after_is ∙ ap (λ n. node_lines n hashes ++ rest) (sym same)) in
    let found = rw c.in_ok-nodes.was at nodes in
    let tree : c.in_ok-tree.tree ≡ start.tree = (rw c.in_ok-tree.was at c.from_hashes.ensures) ∙ ap (λ n. frontier_with n c.in_ok-nodes.nodes.0) same ∙ ap (frontier_with start.tree.count) found.0 in
    let made : c.start_with-start.result ≡ start =
    c.start_with-start.ensures.parts ∙ ap (λ l. start_made l c.in_ok-tree.tree) (same_some _ _ (sym c.in_ok-link.was ∙ link)) ∙ ap (start_made start.link) tree in
    absurd (iff_false c.is_fitting.ensures c.if-not-is_fitting.true (λ none. ap (λ (s : Start). s.link) made ∙ sound.fits.first (ap (λ (s : Start). s.tree.count) (sym made) ∙ none)))

pub returns-clause-only : goal.returns-clause-only
returns-clause-only c = λ start rest sound is.
    let f = start_fields start rest sound _ _ _ _ _ c.field.ensures c.field-2.ensures is in
    let number = c.number_in_text.ensures ∙ ap number_in_text f.count_is ∙ number_read start.tree.count (omega (arith, sound.fits.tree.most)) in
    let same : c.in_ok-count.count ≡ start.tree.count = same_number _ _ (sym c.in_ok-count.was ∙ number) in
    let link = c.hash_in.ensures ∙ ap (λ d. result_ok (decode_sized d HASH_LEN)) f.link_is ∙ hash_read start.link sound.link in
    let hashes = start.tree.hashes in
    let nodes = c.nodes_in.ensures hashes rest (subst (λ n. IsSized n hashes) (sym same) sound.fits.tree) sound.nodes (f.after_is ∙ ap (λ n. node_lines n hashes ++ rest) (sym same)) in
    let found = rw c.in_ok-nodes.was at nodes in
    let tree : c.in_ok-tree.tree ≡ start.tree = (rw c.in_ok-tree.was at c.from_hashes.ensures) ∙ ap (λ n. frontier_with n c.in_ok-nodes.nodes.0) same ∙ ap (frontier_with start.tree.count) found.0 in
    let made : c.start_with-start.result ≡ start =
    c.start_with-start.ensures.parts ∙ ap (λ l. start_made l c.in_ok-tree.tree) (same_some _ _ (sym c.in_ok-link.was ∙ link)) ∙ ap (start_made start.link) tree in
    (made, found.1)
