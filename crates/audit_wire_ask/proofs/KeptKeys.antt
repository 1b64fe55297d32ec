-- Keys that are kept one after another.
use Rattle.std.specs.Prelude.{◌⊎◌, Result, Ok, Err, IsOk}
use Rattle.std.specs.List.{flat_map}
use Rattle.std.specs.Io.KnownBytes.{Appends, Keeps}
use Rattle.std.proofs.Common.{◌≡◌, ◌∙◌, ℕ, ◌+◌, Option, Some, None, List, [], ◌∷◌, ◌++◌, length, length-append, append-nil, sym, ap, subst, refl, inl, inr, arith}
use Rattle.std.proofs.lemmas.Grind.{flat_map-append}
use Rattle.audit_text.specs.Writing.{WritesInPart}
use Rattle.audit_text.specs.declared.fault.LinesError.{LinesError}
use Rattle.audit_wire.specs.declared.reply.Reply.{Reply}
use Rattle.audit_wire_ask.specs.declared.fault.ClientError.{ClientError}
use Rattle.audit_wire_ask.specs.declared.fault.ClientError.TheVariants as client
use Rattle.audit_wire_ask.specs.declared.send_error.SendError.{SendError}
use Rattle.audit_wire_ask.specs.declared.send_error.SendError.TheVariants.{Client, Keys}
use Rattle.audit_wire_ask.specs.EntryKeys.{key_kept, KeepsKey, KeepsInPart, KeepsAllKeys, KeepsKeys, KeysBreakOnlyIf}
use Rattle.audit_wire_ask.specs.Sending.{first_error, BreaksOnlyIf}
use Rattle.audit_wire_ask.proofs.Conversations.{appends_none, appends_more, replies_none, kept_same}
use Rattle.audit_wire_ask.proofs.Exports.{replies_more}
use Rattle.audit_wire_ask.proofs.PrintedAnswers.{replies_append, part_whole}

pub keys_none : (read keys : Option (List ℕ)) → KeepsAllKeys read read keys keys 0
keys_none read keys = record { answers = []; counted = refl; read = replies_none read; kept = appends_none keys }

pub keys_more : {r0 r1 r2 k0 k1 k2 : Option (List ℕ)} {count : ℕ} → KeepsAllKeys r0 r1 k0 k1 count → KeepsKey r1 r2 k1 k2 → KeepsAllKeys r0 r2 k0 k2 (count + 1)
keys_more {r0 = r0} {r1 = r1} {r2 = r2} {k0 = k0} {k1 = k1} {k2 = k2} h k = record {
  answers = h.answers ++ k.answer ∷ [];
  counted = omega (arith, h.counted, length-append h.answers (k.answer ∷ []));
  read = replies_more r0 r1 r2 h.answers k.answer h.read k.read;
  kept = subst (Appends k0 k2) (ap (λ (l : List ℕ). flat_map key_kept h.answers ++ l) (sym (append-nil (key_kept k.answer))) ∙ sym (flat_map-append key_kept h.answers (k.answer ∷ [])))
      (appends_more k0 k1 k2 (flat_map key_kept h.answers) (key_kept k.answer) h.kept k.kept);
}

pub keys_joined : {r0 r1 r2 k0 k1 k2 : Option (List ℕ)} {count more : ℕ} → KeepsAllKeys r0 r1 k0 k1 count → KeepsAllKeys r1 r2 k1 k2 more → KeepsAllKeys r0 r2 k0 k2 (count + more)
keys_joined {r0 = r0} {r1 = r1} {r2 = r2} {k0 = k0} {k1 = k1} {k2 = k2} h k = record {
  answers = h.answers ++ k.answers;
  counted = omega (arith, h.counted, k.counted, length-append h.answers k.answers);
  read = replies_append r0 r1 r2 h.answers k.answers h.read k.read;
  kept = subst (Appends k0 k2) (sym (flat_map-append key_kept h.answers k.answers)) (appends_more k0 k1 k2 (flat_map key_kept h.answers) (flat_map key_kept k.answers) h.kept k.kept);
}

-- and at most a part of one more
pub keys_last : {r0 r1 k0 k1 k2 : Option (List ℕ)} {count : ℕ} → KeepsAllKeys r0 r1 k0 k1 count → KeepsInPart r1 k1 k2 → KeepsKeys r0 k0 k2 count
keys_last {r1 = r1} {k1 = k1} h last = record { read_new = r1; mid = k1; all = h; last = last }

pub keys_whole : {r0 r1 k0 k1 : Option (List ℕ)} {count : ℕ} → KeepsAllKeys r0 r1 k0 k1 count → KeepsKeys r0 k0 k1 count
keys_whole {k1 = k1} h = keys_last h (inl (kept_same k1))

pub keys_after : {r0 r1 k0 k1 k2 : Option (List ℕ)} {count more : ℕ} → KeepsAllKeys r0 r1 k0 k1 count → KeepsKeys r1 k1 k2 more → KeepsKeys r0 k0 k2 (count + more)
keys_after h k = keys_last (keys_joined h k.all) k.last

-- ---- errors

-- memory was refused for a line, or it couldn't be written
pub key_fault : (Cause Printing : Type 0) (error : SendError) → (error ≡ Client client.Memory) ⊎ ((error ≡ Keys) × Cause) → KeysBreakOnlyIf Cause (Some error) × BreaksOnlyIf Printing (Some error)
key_fault Cause Printing error (inl memory) = rw memory (tt, tt)
key_fault Cause Printing error (inr broken) = rw broken.0 (broken.1, tt)

pub first_keys_break : (Cause : Type 0) (sent : Result (Unit {0}) ClientError) (answered : Option SendError) (taken : Option LinesError) → KeysBreakOnlyIf Cause answered → KeysBreakOnlyIf Cause (first_error sent answered taken)
first_keys_break Cause sent (Some error) taken h = h
first_keys_break Cause (Err error) None taken h = tt
first_keys_break Cause (Ok done) None None h = tt
first_keys_break Cause (Ok done) None (Some error) h = tt
