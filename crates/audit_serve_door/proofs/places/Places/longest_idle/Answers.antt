use Rattle.std.proofs.Common.{rules}
use Rattle.std.proofs.lemmas.Option.{slice_get-get_or}
use Rattle.audit_serve_door.proofs.Idle.{found_after, all_found}
use Rattle.audit_serve_door.proofs.places.Places.longest_idle.Goals as goal

pub loop-place-preserved : goal.loop-place-preserved
loop-place-preserved c =
    found_after c.args.candidates c.args.self.now.places c.loop-place.place _ c.loop-place.found c.earlier_of-found.result c.earlier_of-found.ensures
    (slice_get-get_or c.args.self.now.places c.loop-place.place _ (search rules)) c.loop-place.invariant

pub returns : goal.returns
returns c = all_found c.args.candidates c.args.self.now.places c.loop-place.place c.loop-place.found (search rules) c.loop-place.invariant
