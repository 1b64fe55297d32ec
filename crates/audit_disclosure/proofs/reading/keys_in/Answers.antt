use Rattle.std.proofs.Common.{◌≤◌, sym, ap, ◌∙◌, subst}
use Rattle.std.proofs.lemmas.Bool.{iff_false}
use Rattle.audit_disclosure.specs.DisclosureText.{AreKeysFrom}
use Rattle.audit_disclosure.proofs.KeyLines.{after_keys, after_more, keys_more, next_key_left, no_keys_left, taken_key}
use Rattle.audit_disclosure.proofs.reading.keys_in.Goals as goal

pub returns-in_default-clause-only : goal.returns-in_default-clause-only
returns-in_default-clause-only c = λ keys are is.
    let next = next_key_left (c.loop-rest.invariant.only keys are is) (iff_false c.is_none.ensures c.loop-rest-test.true) in
    absurd (rw c.in_default.is at (c.key_in.ensures.only next.one next.more next.later next.is next.starts))

pub loop-rest-preserved : goal.loop-rest-preserved
loop-rest-preserved c =
    let l = c.loop-rest in
    let one = c.in-Some.found.0 in
    let sound = c.in-Some.ensures.sound in
    record {
      sound = subst (AreKeysFrom 0) (sym c.in_ok-push.ensures.items) (keys_more 0 l.keys.items one l.invariant.sound (subst (λ n. n ≤ one.index) l.invariant.least sound.0) sound.1);
      least = sym (ap (after_keys 0) c.in_ok-push.ensures.items ∙ after_more 0 l.keys.items one);
      only = λ keys are is.
          let next = next_key_left (l.invariant.only keys are is) (iff_false c.is_none.ensures c.loop-rest-test.true) in
          let found = rw c.in-Some.is at (c.key_in.ensures.only next.one next.more next.later next.is next.starts) in
          taken_key keys l.keys.items c.push.new.self.items one c.in-Some.found.1.now next found.0 found.1 c.in_ok-push.ensures.items;
    }

pub returns-clause-only : goal.returns-clause-only
returns-clause-only c = λ keys are is. no_keys_left (c.loop-rest.invariant.only keys are is) (c.is_none.ensures.0 c.loop-rest-test.false)
