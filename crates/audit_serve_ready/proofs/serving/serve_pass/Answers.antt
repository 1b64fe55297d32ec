use denote.Enum.Bare.{same_true}
use Rattle.std.proofs.Common.{◌≡◌, ◌≢◌, ◌⊎◌, inl, inr, Bool, true, false, ◌||◌, length, refl, sym, ap, ◌∙◌, rules, arith}
use Rattle.audit_serve_ready.specs.Clients.{next_first}
use Rattle.audit_serve_ready.specs.Rounds.{IsLetGo, IsLetIn}
use Rattle.audit_serve_ready.specs.contracts.turns.Pass.{the_type}
use Rattle.audit_serve_ready.proofs.Changes.{clients_then}
use Rattle.audit_serve_ready.proofs.TurnByTurn.{neither_of}
use Rattle.audit_serve_ready.proofs.Stages.{pass_serves}
use Rattle.audit_serve_ready.proofs.PlaceByPlace.{gone_turns, come_turns, changed_serves}
use Rattle.audit_serve_ready.specs.declared.turns.Pass.TheVariants.{Withheld}
use Rattle.audit_serve_ready.proofs.serving.serve_pass.Goals as goal
use Rattle.audit_serve_ready.proofs.serving.serve_pass.Goals.{then-gone-come, else-gone-come}

gone_or_come : {A B T : Type 0} (gone come : Bool) → (gone || come) ≡ true → (gone ≡ true → A) → (come ≡ true → B ⊎ T) → A ⊎ (B ⊎ T)
gone_or_come true come is went came = inl (went refl)
gone_or_come false come is went came = inr (came is)

pub returns-clause-served : goal.returns-clause-served
returns-clause-served g c =
    let M = g.C.SessionCore.model in
    let N = g.D.Stream.ReadyStream.calls in
    let E = g.D.Door.calls in
    let core = c.args.core.now in
    let mid = c.serve_present.new.core in
    let begun = c.args.slots.now in
    let turned = c.serve_present.new.slots in
    let left = c.let_go-gone.new.slots in
    let backlog = c.args.backlog in
    let first = c.args.first in
    let next = next_first first in
    clients_then M N backlog first next next core mid c.let_in-come.new.core begun left c.let_in-come.new.slots
    (clients_then M N backlog first next next core mid mid begun turned left (pass_serves M N E backlog true first c.args.door.now c.serve_present.new.door core mid begun turned (c.in_ok-pass.ensures.pass (search rules)).0)
    (changed_serves M N E backlog (IsLetGo M) (gone_turns M) (length turned) next c.serve_present.new.door c.let_go-gone.new.door mid mid turned left (c.let_go-gone.ensures.went backlog next)))
    (changed_serves M N E backlog (IsLetIn M) (come_turns M) (length left) next c.let_go-gone.new.door c.let_in-come.new.door mid c.let_in-come.new.core left c.let_in-come.new.slots (c.let_in-come.ensures.came backlog next).0)

pub returns-clause-once : goal.returns-clause-once
returns-clause-once g c = λ apart.
    let backlog = c.args.backlog in
    let next = next_first c.args.first in
    let passed = c.in_ok-pass.ensures.pass (search rules) in
    let come = c.let_in-come.ensures.came backlog next in (
      record {
        mid = c.serve_present.new.core;
        present = c.serve_present.new.slots;
        left = c.let_go-gone.new.slots;
        passed = c.serve_present.new.door;
        parted = c.let_go-gone.new.door;
        pass = passed.0;
        goes = c.let_go-gone.ensures.went backlog next;
        none_done = c.let_go-gone.ensures.none_done;
        comes = come.0;
      },
      (λ idle. elim c.if-gone-come.branch [
        | then-gone-come w ↦ absurd (cc (w.result-is, idle))
        | else-gone-come w ↦
            let neither = neither_of c.let_go-gone.result c.let_in-come.result (search rules) in
            let still = passed.1 (sym w.result-is ∙ idle) in
            (still.0, still.1, c.let_go-gone.ensures.still neither.0, c.let_in-come.ensures.still neither.1, come.1 neither.1)
      ]),
      (λ moving. elim c.if-gone-come.branch [
        | then-gone-come w ↦ inr (gone_or_come c.let_go-gone.result c.let_in-come.result (search rules) c.let_go-gone.ensures.moves come.2)
        | else-gone-come w ↦ inl (passed.2 (sym w.result-is ∙ moving))
      ]),
    )

pub returns-then-eq-clause-served : goal.returns-then-eq-clause-served
returns-then-eq-clause-served g c =
    pass_serves g.C.SessionCore.model g.D.Stream.ReadyStream.calls g.D.Door.calls c.args.backlog false c.args.first c.args.door.now c.serve_present.new.door c.args.core.now c.serve_present.new.core c.args.slots.now c.serve_present.new.slots
    (c.in_ok-pass.ensures.withheld (same_true the_type (search rules) _ _ (sym c.if-eq.ensures)))

pub returns-clause-within : goal.returns-clause-within
returns-clause-within g c =
    let backlog = c.args.backlog in λ nothing inside.
    c.let_in-come.ensures.within backlog (c.let_go-gone.ensures.within backlog (c.in_ok-pass.ensures.within nothing inside))

pub returns-clause-owes : goal.returns-clause-owes
returns-clause-owes g c =
    let M = g.C.SessionCore.model in
    let new = c.let_in-come.new.core in λ goes k below.
    M.owed_idle new k c.let_in-come.ensures.idle ∙ ap length (c.let_in-come.ensures.outputs k ∙ c.in_ok-pass.ensures.empty (search rules) k below)

pub let_go-gone-requires-clause-empty : goal.let_go-gone-requires-clause-empty
let_go-gone-requires-clause-empty g c = λ k below. c.in_ok-pass.ensures.empty (search rules) k (omega (arith, below, c.serve_present.auto.slots))

pub let_in-come-requires-clause-empty : goal.let_in-come-requires-clause-empty
let_in-come-requires-clause-empty g c = λ k below. c.in_ok-pass.ensures.empty (search rules) k (omega (arith, below, c.serve_present.auto.slots, c.let_go-gone.auto.slots))

pub returns-clause-withheld : goal.returns-clause-withheld
returns-clause-withheld g c = λ is.
    let apart : c.in_ok-pass.pass ≢ Withheld = search rules in
    elim c.if-gone-come.branch [
      | then-gone-come w ↦ absurd (cc (w.result-is, is))
      | else-gone-come w ↦ absurd (apart (sym w.result-is ∙ is))
    ]
