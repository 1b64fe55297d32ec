use Rattle.std.proofs.Common.{Some, None, [], ◌∷◌, ◌++◌, ◌∙◌, set, refl, sym, ap, inl, inr, rules, true≢false}
use Rattle.audit_serve_passes.specs.Core.{no_bytes}
use Rattle.std.proofs.lemmas.List.{get_or-set_same, get_or-set_other}
use Rattle.audit_serve_ready.specs.declared.departure.Departure.TheVariants.{Memory}
use Rattle.audit_serve_ready.specs.Door.{an_offer, a_parting}
use Rattle.audit_serve_ready.specs.Slot.{vacant, has_client}
use Rattle.audit_serve_ready.specs.Clients.{a_coming, a_refusal}
use Rattle.audit_serve_ready.specs.Rounds.{nobody, let_in, turned_away}
use Rattle.audit_serve_ready.proofs.Bounds.{refused_within, come_within}
use Rattle.audit_serve_ready.proofs.clients.let_in_at.Goals as goal

pub returns-in_default-clause-came : goal.returns-in_default-clause-came
returns-in_default-clause-came g c = (an_offer c.args.place None ∷ [], [], c.in_default.ensures, nobody, (λ backlog first. (refl, refl)), (λ still. refl), λ moving. absurd (true≢false (sym moving)))

pub returns-then-is_err-clause-came : goal.returns-then-is_err-clause-came
returns-then-is_err-clause-came g c =
    let client = c.in-Some.newcomer in
    let offered = an_offer c.args.place (Some client) ∷ [] in
    let parted = a_parting c.args.place client.stream Memory ∷ [] in (
      offered ++ parted,
      a_refusal c.args.place client ∷ [],
      g.D.Door.calls.more_called c.args.door.now c.next_client.new.self c.gone.new.self offered parted c.in-Some.ensures c.gone.ensures,
      turned_away client,
      (λ backlog first. (c.reopen.new.self, c.args.slots.now, record { refused = search rules; did = search rules; places = refl }, (refl, refl))),
      (λ still. absurd (true≢false still)),
      (λ moving. inr (client, refl)),
    )

pub returns-clause-came : goal.returns-clause-came
returns-clause-came g c =
    let client = c.in-Some.newcomer in
    let after = set c.args.slots.now c.args.place c.admit.new.self in (
      an_offer c.args.place (Some client) ∷ [],
      a_coming c.args.place client ∷ [],
      c.in-Some.ensures,
      let_in client,
      (λ backlog first. (c.reopen.new.self, after, record { ended = c.requires.ended; idle = c.requires.idle; taken = c.requires.taken; within = c.requires.within; vacant = c.requires.vacant; begun = search rules; place = search rules }, (refl, refl))),
      (λ still. absurd (true≢false still)),
      (λ moving. inl (ap has_client (get_or-set_same c.args.slots.now c.args.place c.admit.new.self vacant c.requires.within ∙ c.admit.ensures))),
    )

pub returns-clause-alone : goal.returns-clause-alone
returns-clause-alone g c = λ other apart.
    let begun : g.C.SessionCore.model.Begins c.args.place c.in-Some.newcomer.rights c.args.core.now c.reopen.new.self = search rules in (
      g.C.SessionCore.model.begun_alone c.args.core.now c.reopen.new.self c.args.place other c.in-Some.newcomer.rights begun apart,
      get_or-set_other c.args.slots.now c.args.place other c.admit.new.self vacant apart,
    )

pub returns-in_default-clause-alone : goal.returns-in_default-clause-alone
returns-in_default-clause-alone g c = λ other apart. (refl, refl)

pub returns-then-is_err-clause-alone : goal.returns-then-is_err-clause-alone
returns-then-is_err-clause-alone g c = λ other apart.
    let M = g.C.SessionCore.model in
    let did : M.DidSteps c.args.core.now c.reopen.new.self [] no_bytes = search rules in (
      M.ended_by_steps c.args.core.now c.reopen.new.self [] [] no_bytes other did,
      refl,
    )

pub returns-in_default-clause-within : goal.returns-in_default-clause-within
returns-in_default-clause-within g c = λ backlog within. within

pub returns-then-is_err-clause-within : goal.returns-then-is_err-clause-within
returns-then-is_err-clause-within g c =
    let M = g.C.SessionCore.model in λ backlog within.
    refused_within M backlog c.args.core.now c.reopen.new.self c.args.slots.now c.requires.idle c.reopen.ensures.idle c.reopen.ensures.outputs (search rules) within

pub returns-clause-within : goal.returns-clause-within
returns-clause-within g c =
    let M = g.C.SessionCore.model in λ backlog within.
    come_within M backlog c.args.place c.in-Some.newcomer.rights c.args.core.now c.reopen.new.self c.args.slots.now _ c.requires.within c.requires.idle c.reopen.ensures.idle c.requires.taken c.reopen.ensures.outputs (search rules) (search rules) within
