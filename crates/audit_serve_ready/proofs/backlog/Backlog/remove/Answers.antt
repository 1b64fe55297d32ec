use Rattle.std.proofs.Common.{◌≡◌, ◌∙◌, ℕ, ◌+◌, ◌-◌, ◌≤◌, List, length, drop, sym, ap, arith, rules}
use Rattle.std.proofs.lemmas.List.{drop-drop, take_at}
use Rattle.std.proofs.lemmas.Slice.{drop-put_mid}
use borrow.Rule.Slice.PartMut.{put_mid, mid_of, same_len_mid}
use Rattle.audit_serve_ready.proofs.backlog.Backlog.remove.Goals as goal

pub returns : goal.returns
returns c =
    let start = c.self.inside.start in
    let count = c.args.count in
    let bytes = c.deref_mut.result.now in
    let within : start ≤ length bytes = omega (arith, c.self.invariant, ap length c.deref_mut.ensures.value) in
    let overwritten : length c.wipe-self-inside.new.bytes ≡ start + count - start = search rules in
    let wide = start + count - start in
    let zeros = c.wipe-self-inside.new.bytes in
    let long : length (put_mid start wide bytes zeros) ≡ length bytes = same_len_mid start wide bytes zeros (search rules) in
    ap (drop (start + count)) (take_at (put_mid start wide bytes zeros) _ _ (long ∙ c.deref_mut.ensures.len))
    ∙ drop-put_mid start (start + count - start) bytes c.wipe-self-inside.new.bytes (start + count) (omega arith) within overwritten
    ∙ ap (drop (start + count)) c.deref_mut.ensures.value
    ∙ sym (drop-drop count start c.self.inside.bytes.items)
    ∙ ap (drop count) c.self.view_is
