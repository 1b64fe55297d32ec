use Rattle.std.proofs.Common.{◌∙◌, ◌∷◌, [], Ok, Err, Result, List, ℕ, sym, ap, subst}
use Rattle.audit_wire.specs.declared.request.Request.{Request}
use Rattle.audit_wire.specs.Request.{request_by}
use Rattle.audit_server_commit.specs.declared.question.Query.{Query}
use Rattle.audit_server_commit.specs.Heard.{Terms}
use Rattle.audit_server.specs.declared.entering.Item.{Item}
use Rattle.audit_server.specs.Limit.{IsNotAdmitted, AreAdmitted}
use Rattle.audit_server.specs.Entering.{Enters, IsItem, arrival_by, item_heard}
use Rattle.audit_server.proofs.Fronts.{front_ended}
use Rattle.audit_server.proofs.Pieces.{Shows, unspoiled, not_spoiled, part_done, whole_done, last_done, untaken_done, withheld_done}
use Rattle.audit_server.proofs.session.Session.take_front.Goals as goal

pub returns-in_default : goal.returns-in_default
returns-in_default g c =
    let terms : Terms = record { grammar = c.self.inside.grammar; rights = c.self.inside.rights } in
    let shows : Shows terms c.self.inside.decoder c.self.inside.ended c.self.inside.cut_off c.args.self.now = record { view = c.self.view_is; live = c.requires.live; inside = c.self.invariant } in
    part_done c.feed-fed.new.self c.args.piece.now c.feed-fed.result c.args.committer.now c.args.limit.now shows c.feed-fed.ensures.fed (sym c.place_after.ensures ∙ c.in_default.is)

pub invariant_of-self-in-Ok-Request : goal.invariant_of-self-in-Ok-Request
invariant_of-self-in-Ok-Request g c =
    let found = subst (λ (item : Item). IsItem c.args.session (item_heard c.self.inside.rights (request_by c.self.inside.grammar c.body.result.now)) c.args.committer.now c.enter_body.new.committer c.args.limit.now c.enter_body.new.limit (Ok item)) c.in-Ok-Request.field-0-is c.in-Ok-Request.ensures in
    λ live. not_spoiled (record { grammar = c.self.inside.grammar; rights = c.self.inside.rights }) c.feed-fed.new.self found.0.0 (ap (λ (body : List ℕ). item_heard c.self.inside.rights (request_by c.self.inside.grammar body)) (sym c.body.ensures.body) ∙ found.0.1)

pub returns-in-Ok-Request : goal.returns-in-Ok-Request
returns-in-Ok-Request g c =
    let found = subst (λ (item : Item). IsItem c.args.session (item_heard c.self.inside.rights (request_by c.self.inside.grammar c.body.result.now)) c.args.committer.now c.enter_body.new.committer c.args.limit.now c.enter_body.new.limit (Ok item)) c.in-Ok-Request.field-0-is c.in-Ok-Request.ensures in
    let terms : Terms = record { grammar = c.self.inside.grammar; rights = c.self.inside.rights } in
    let shows : Shows terms c.self.inside.decoder c.self.inside.ended c.self.inside.cut_off c.args.self.now = record { view = c.self.view_is; live = c.requires.live; inside = c.self.invariant } in
    whole_done c.args.session c.feed-fed.new.self c.args.piece.now c.in-Some.taken c.args.committer.now c.enter_body.new.committer found.0.0 shows
    (front_ended c.self.inside.grammar c.self.inside.decoder c.feed-fed.new.self c.args.piece.now c.feed-fed.result c.in-Some.taken (unspoiled shows) c.feed-fed.ensures.fed (sym c.place_after.ensures ∙ c.in-Some.is))
    (ap (λ (body : List ℕ). item_heard c.self.inside.rights (request_by c.self.inside.grammar body)) (sym c.body.ensures.body) ∙ found.0.1)
    found.0.2
    (subst (λ (heard : Result Request Query). AreAdmitted (arrival_by c.args.session heard ∷ []) c.args.limit.now c.enter_body.new.limit) found.0.1 found.1)

pub returns-in-Ok-Last : goal.returns-in-Ok-Last
returns-in-Ok-Last g c =
    let found = subst (λ (item : Item). IsItem c.args.session (item_heard c.self.inside.rights (request_by c.self.inside.grammar c.body.result.now)) c.args.committer.now c.enter_body.new.committer c.args.limit.now c.enter_body.new.limit (Ok item)) c.in-Ok-Last.field-0-is c.in-Ok-Last.ensures in
    let terms : Terms = record { grammar = c.self.inside.grammar; rights = c.self.inside.rights } in
    let shows : Shows terms c.self.inside.decoder c.self.inside.ended c.self.inside.cut_off c.args.self.now = record { view = c.self.view_is; live = c.requires.live; inside = c.self.invariant } in
    last_done c.in-Ok-Last.is_cut_off c.args.session c.feed-fed.new.self c.args.piece.now c.in-Some.taken c.args.committer.now c.enter_body.new.committer found.0.0 found.0.2 shows
    (front_ended c.self.inside.grammar c.self.inside.decoder c.feed-fed.new.self c.args.piece.now c.feed-fed.result c.in-Some.taken (unspoiled shows) c.feed-fed.ensures.fed (sym c.place_after.ensures ∙ c.in-Some.is))
    (ap (λ (body : List ℕ). item_heard c.self.inside.rights (request_by c.self.inside.grammar body)) (sym c.body.ensures.body) ∙ found.0.1)
    found.0.3
    (subst (λ (heard : Result Request Query). AreAdmitted (arrival_by c.args.session heard ∷ []) c.args.limit.now c.enter_body.new.limit) found.0.1 found.1)

pub returns-in-Ok-Withheld : goal.returns-in-Ok-Withheld
returns-in-Ok-Withheld g c =
    let found = subst (λ (item : Item). IsItem c.args.session (item_heard c.self.inside.rights (request_by c.self.inside.grammar c.body.result.now)) c.args.committer.now c.enter_body.new.committer c.args.limit.now c.enter_body.new.limit (Ok item)) c.in-Ok-Withheld.field-0-is c.in-Ok-Withheld.ensures in
    let terms : Terms = record { grammar = c.self.inside.grammar; rights = c.self.inside.rights } in
    let shows : Shows terms c.self.inside.decoder c.self.inside.ended c.self.inside.cut_off c.args.self.now = record { view = c.self.view_is; live = c.requires.live; inside = c.self.invariant } in
    withheld_done c.args.session c.feed-fed.new.self c.put_back.new.self c.args.piece.now c.feed-fed.result c.in-Some.taken c.args.committer.now c.enter_body.new.committer shows
    (front_ended c.self.inside.grammar c.self.inside.decoder c.feed-fed.new.self c.args.piece.now c.feed-fed.result c.in-Some.taken (unspoiled shows) c.feed-fed.ensures.fed (sym c.place_after.ensures ∙ c.in-Some.is))
    c.feed-fed.ensures.fed
    (sym c.place_after.ensures ∙ c.in-Some.is)
    c.put_back.ensures.before
    found.0 found.1
    (subst (λ (body : List ℕ). IsNotAdmitted (arrival_by c.args.session (item_heard c.self.inside.rights (request_by c.self.inside.grammar body))) c.args.limit.now) c.body.ensures.body found.2)

pub returns-in-Err : goal.returns-in-Err
returns-in-Err g c =
    let terms : Terms = record { grammar = c.self.inside.grammar; rights = c.self.inside.rights } in
    let shows : Shows terms c.self.inside.decoder c.self.inside.ended c.self.inside.cut_off c.args.self.now = record { view = c.self.view_is; live = c.requires.live; inside = c.self.invariant } in
    untaken_done c.args.session c.feed-fed.new.self c.put_back-in-Err.new.self c.args.piece.now c.feed-fed.result c.in-Some.taken c.args.committer.now c.enter_body.new.committer c.in-Err.error shows
    (front_ended c.self.inside.grammar c.self.inside.decoder c.feed-fed.new.self c.args.piece.now c.feed-fed.result c.in-Some.taken (unspoiled shows) c.feed-fed.ensures.fed (sym c.place_after.ensures ∙ c.in-Some.is))
    c.feed-fed.ensures.fed
    (sym c.place_after.ensures ∙ c.in-Some.is)
    c.put_back-in-Err.ensures.before
    (subst (λ (body : List ℕ). Enters (arrival_by c.args.session (item_heard c.self.inside.rights (request_by c.self.inside.grammar body))) c.args.committer.now c.enter_body.new.committer (Err c.in-Err.error)) c.body.ensures.body c.in-Err.ensures.0)
    c.in-Err.ensures.1
