use Rattle.std.proofs.Common.{◌∙◌}
use Rattle.std.proofs.lemmas.List.{take_rest}
use Rattle.audit_link.proofs.Places.{at_places}
use Rattle.audit_link.proofs.OneReading.{same_data}
use Rattle.audit_link.proofs.codec.parse_rest.Goals as goal

pub returns-in_default : goal.returns-in_default
returns-in_default c = λ link is hashes rest.
    let at = at_places c.args.rest.now link.last.link link.last.tag link.first.key link.second.key _ is.last_link is.last_tag is.first_key is.second_key rest in
    c.in_default.ensures link.first.entry link.second.entry is.first (take_rest c.args.rest.now 128 ∙ at.last)

pub returns : goal.returns
returns c = λ link is hashes rest.
    let at = at_places c.args.rest.now link.last.link link.last.tag link.first.key link.second.key _ is.last_link is.last_tag is.first_key is.second_key rest in
    let entries = c.in-Some.ensures link.first.entry link.second.entry is.first (take_rest c.args.rest.now 128 ∙ at.last) in
    same_data _ link hashes record {
      last_link = c.array_at.ensures ∙ at.first;
      last_tag = c.array_at-2.ensures ∙ at.second;
      first_key = c.array_at-3.ensures ∙ at.third;
      second_key = c.array_at-4.ensures ∙ at.fourth;
      first = c.in_ok-from_slice.ensures.items ∙ entries.0;
      second = c.in_ok-from_slice-2.ensures.items ∙ entries.1;
    }
