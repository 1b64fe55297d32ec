use Rattle.std.proofs.Common.{◌≡◌, ◌∙◌, inl, inr, true, false, is_some, refl, sym, ap, rules}
use Rattle.audit_serve_ready.specs.declared.next.Next.TheVariants as next
use Rattle.audit_serve_door.proofs.Arriving.{receives_refl, receives_then, receives_on, receives_kept, received_nobody}
use Rattle.audit_serve_door.proofs.Calls.{says_stop_kept, says_again_kept, says_finish_kept, noted_nothing, none_here, pause_call, places_kept, places_chosen}
use Rattle.audit_serve_door.specs.Comings.{candidates_of}
use Rattle.audit_serve_door.proofs.socket_door.SocketDoorDoor.pause.Goals.{then-is_some-via-then-is_some, then-is_some-via-else-is_some+then-has_come}
use Rattle.audit_serve_door.proofs.socket_door.SocketDoorDoor.pause.Goals as goal

pub returns-then-self : goal.returns-then-self
returns-then-self g c = pause_call g.L.Accepts.model g.J.Journal.notes g.W.Watch.left next.Stop c.args.self.now c.args.self.now
    (receives_refl g.L.Accepts.model g.J.Journal.notes c.args.self.now.entrances.items c.args.self.now.waiting c.args.self.now.journal)
    (says_stop_kept c.args.self.now.is_replaced _ _ c.args.self.now.now c.args.self.now.until c.args.self.now.until refl (inl c.if-self.true)) refl (noted_nothing next.Stop c.args.self.now c.args.self.now refl refl)

pub returns-then-is_err : goal.returns-then-is_err
returns-then-is_err g c = pause_call g.L.Accepts.model g.J.Journal.notes g.W.Watch.left next.Stop c.args.self.now _ c.wait.ensures.received
    (says_stop_kept c.args.self.now.is_replaced true _ c.wait.new.self.now c.args.self.now.until c.wait.new.self.until (ap (λ flags. flags.0) c.wait.ensures.flags) (inr refl)) c.wait.ensures.places
    (record { replaced = ap (λ flags. flags.1.0) c.wait.ensures.flags; failed = λ now. inr refl; noted = λ was. refl })

pub returns-then-is_some : goal.returns-then-is_some
returns-then-is_some g c = pause_call g.L.Accepts.model g.J.Journal.notes g.W.Watch.left c.finish-until.result.1 c.args.self.now _
    (receives_then g.L.Accepts.model g.J.Journal.notes _ _ _ _ _ _ _ _ _ c.wait.ensures.received
    (receives_on g.L.Accepts.model g.J.Journal.notes _ _ _ _ _ _ _ (ap (λ entrances. entrances.items) c.accept_orders.ensures.entrances)
    (received_nobody g.L.Accepts.model g.J.Journal.notes _ _ _ _ _ c.accept_orders.ensures.turned)))
    (says_finish_kept c.finish-until.result.1 c.args.self.now.is_replaced _ _ c.accept_orders.new.self.now c.args.self.now.until c.accept_orders.new.self.until c.finish-until.result.0 (ap (λ flags. flags.0) (c.accept_orders.ensures.flags ∙ c.wait.ensures.flags))
    (elim c.then-is_some.branch [
      | then-is_some-via-then-is_some w ↦ inl (search rules)
      | then-is_some-via-else-is_some+then-has_come w ↦ inr (sym w.has_come.ensures ∙ w.if-has_come.true)
    ])
    c.finish-until.ensures.begins c.finish-until.ensures.kept c.finish-until.ensures.over c.finish-until.ensures.on)
    (places_kept c.finish-until.result.1 c.args.self.now.until _ _ c.args.self.now.places _ (λ none. (c.finish-until.ensures.begins (ap (λ flags. flags.0) (c.accept_orders.ensures.flags ∙ c.wait.ensures.flags) ∙ none)).0) (c.accept_orders.ensures.places ∙ c.wait.ensures.places))
    (noted_nothing c.finish-until.result.1 c.args.self.now _ (ap (λ flags. flags.1.0) (c.accept_orders.ensures.flags ∙ c.wait.ensures.flags)) (ap (λ flags. flags.1.1) (c.accept_orders.ensures.flags ∙ c.wait.ensures.flags)))

pub returns : goal.returns
returns g c =
    let none : is_some c.accept_orders.new.self.until ≡ false = search rules in
    let flags = c.accept_orders.ensures.flags ∙ c.wait.ensures.flags in
    let all = c.choose_idle.ensures.flags ∙ (c.accept_clients.ensures.flags ∙ flags) in
    let same = ap (λ noted. noted.0) flags in
    pause_call g.L.Accepts.model g.J.Journal.notes g.W.Watch.left next.Again c.args.self.now c.choose_idle.new.self
    (receives_kept g.L.Accepts.model g.J.Journal.notes _ _ _ _ _ _ _ _ _ (ap (λ entrances. entrances.items) c.choose_idle.ensures.kept.entrances) c.choose_idle.ensures.kept.waiting c.choose_idle.ensures.kept.journal
    (receives_then g.L.Accepts.model g.J.Journal.notes _ _ _ _ _ _ _ _ _ c.wait.ensures.received
    (receives_then g.L.Accepts.model g.J.Journal.notes _ _ _ _ _ _ _ _ _
    (receives_on g.L.Accepts.model g.J.Journal.notes _ _ _ _ _ _ _ (ap (λ entrances. entrances.items) c.accept_orders.ensures.entrances)
    (received_nobody g.L.Accepts.model g.J.Journal.notes _ _ _ _ _ c.accept_orders.ensures.turned)) c.accept_clients.ensures.received)))
    (says_again_kept c.args.self.now.is_replaced _ _ c.choose_idle.new.self.now c.args.self.now.until c.choose_idle.new.self.until (ap (λ noted. noted.0) all) (sym same ∙ none_here c.accept_orders.new.self.until none))
    (places_chosen c.args.self.now.until (candidates_of c.choose_idle.new.self) c.choose_idle.new.self.now c.args.self.now.places c.choose_idle.new.self.places (sym same ∙ none_here c.accept_orders.new.self.until none) (search rules))
    (noted_nothing next.Again c.args.self.now c.choose_idle.new.self (ap (λ noted. noted.1.0) all) (ap (λ noted. noted.1.1) all))
