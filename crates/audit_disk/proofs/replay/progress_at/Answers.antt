use Rattle.std.proofs.Common.{◌≡◌, ◌+◌, List, [], ◌∷◌, ◌++◌, map, take, length, get_or, ap, ◌∙◌, sym, subst, arith, rules}
use Rattle.std.proofs.lemmas.List.{take_more, length-map, length-take, map-append}
use Rattle.audit_disk.specs.Held.{Held, settled}
use Rattle.audit_disk.specs.Progress.{IsSectorProgress, AreProgress}
use Rattle.audit_disk.specs.declared.block.Block.{Block}
use Rattle.audit_disk.specs.declared.progress.Progress.{Progress}
use Rattle.audit_disk.proofs.Replays.{progress_push}
use Rattle.audit_disk.proofs.replay.progress_at.Goals as goal

pub loop-k-preserved : goal.loop-k-preserved
loop-k-preserved c =
    let chosen : c.unwrap_or-chosen.result ≡ get_or c.args.pick.now c.loop-k.k 0 = search rules in
    let same = c.in_ok-push.ensures.items in
    let taken = take_more c.args.start.now c.loop-k.k c.index-start-k.result (omega arith) in
    let before = map settled (take c.loop-k.k c.args.start.now) in
    let k : length before ≡ c.loop-k.k = omega (arith, length-map (take c.loop-k.k c.args.start.now) settled, length-take c.loop-k.k c.args.start.now) in
    let more = progress_push before c.args.pick.now c.loop-k.progress.items (settled c.index-start-k.result) c.new.result c.loop-k.invariant
    (subst (λ p. IsSectorProgress (settled c.index-start-k.result) p c.new.result) (chosen ∙ ap (λ n. get_or c.args.pick.now n 0) (sym k)) c.new.ensures) in
    let blocks : before ++ settled c.index-start-k.result ∷ [] ≡ map settled (take (c.loop-k.k + 1) c.args.start.now) =
    ap (λ (b : Block). before ++ settled b ∷ []) c.index-start-k.is
    ∙ sym (map-append settled (take c.loop-k.k c.args.start.now) (get_or c.args.start.now c.loop-k.k c.index-start-k.result ∷ []))
    ∙ ap (λ (l : List Block). map settled l) (sym taken) in
    subst (λ (held : List Held). AreProgress held c.args.pick.now c.push.new.self.items) blocks
    (subst (λ (all : List Progress). AreProgress (before ++ settled c.index-start-k.result ∷ []) c.args.pick.now all) (sym same) more)
