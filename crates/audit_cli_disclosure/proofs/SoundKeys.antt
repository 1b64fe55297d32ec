-- The keys of chosen entries are those of a disclosure.
use Rattle.std.specs.Prelude.{slice_index, if◌then◌else◌}
use Rattle.std.specs.Int.{w32, byte_at, to_be_bytes}
use Rattle.std.proofs.Common.{inl, inr, ℕ, zero, suc, ◌+◌, ◌-◌, ◌<◌, ◌≤◌, Bool, true, false, List, [], ◌∷◌, ◌++◌, length, refl, sym, subst, arith}
use Rattle.std.proofs.lemmas.Bool.{cases_lt}
use Rattle.std.proofs.Math.ListN.{get_or-append}
use Rattle.std.proofs.lemmas.List.{get_or-append_right}
use Rattle.sha2.specs.Sha256.{sha256, digest_bytes}
use Rattle.sha2.proofs.Facts256.{length-sha256}
use Rattle.audit_base.specs.Bytes.{AreBytes}
use Rattle.audit_base.specs.declared.limits.TheConstants.{MAX_COUNT}
use Rattle.audit_chain.specs.EventData.{EventData}
use Rattle.audit_chain.specs.Key.{entry_key, next_key}
use Rattle.audit_disclosure.specs.declared.choice.Choice.{Choice}
use Rattle.audit_disclosure.specs.declared.disclosure.DisclosedKey.{DisclosedKey}
use Rattle.audit_disclosure.specs.Choosing.{chosen_keys, is_chosen, start_after}
use Rattle.audit_disclosure.specs.DisclosureText.{AreKeysFrom, IsSoundStart}
use Rattle.audit_verify.specs.State.{StateData}
use Rattle.audit_verify.specs.StateText.{IsSoundState}
use Rattle.audit_proof.specs.SoundCommitment.{IsHash}

-- ---- a digest has bytes

append_bytes : (front back : List ℕ) → AreBytes front → AreBytes back → AreBytes (front ++ back)
append_bytes front back are also = λ place. elim (cases_lt place (length front)) [
  | inl before ↦ subst (λ (n : ℕ). n < 256) (sym (get_or-append front back 0 place before)) (are place)
  | inr after ↦ subst (λ (n : ℕ). n < 256) (sym (get_or-append_right front back (length front) place 0 refl after)) (also (place - length front))
]

one_byte : (i n : ℕ) → byte_at i n < 256
one_byte zero n = omega arith
one_byte (suc i) n = omega arith

word_bytes : (n : ℕ) → AreBytes (to_be_bytes w32 n)
word_bytes n zero = one_byte 3 n
word_bytes n (suc zero) = one_byte 2 n
word_bytes n (suc (suc zero)) = one_byte 1 n
word_bytes n (suc (suc (suc zero))) = one_byte 0 n
word_bytes n (suc (suc (suc (suc place)))) = omega arith

digest_are_bytes : (hash : List ℕ) (n : ℕ) → AreBytes (digest_bytes hash n)
unfolding digest_bytes
digest_are_bytes hash zero = λ place. omega arith
digest_are_bytes hash (suc n) = append_bytes (digest_bytes hash n) (to_be_bytes w32 (slice_index hash n)) (digest_are_bytes hash n) (word_bytes (slice_index hash n))

sha256_is_hash : (text : List ℕ) → IsHash (sha256 text)
unfolding sha256
sha256_is_hash text = record { long = length-sha256 text; bytes = digest_are_bytes _ 8 }

key_is_hash : (key : List ℕ) (kind : ℕ) → IsHash (entry_key key kind)
unfolding entry_key
key_is_hash key kind = sha256_is_hash _

-- ---- keys in order

less_from : (least more : ℕ) (keys : List DisclosedKey) → least ≤ more → AreKeysFrom more keys → AreKeysFrom least keys
less_from least more [] within are = tt
less_from least more (one ∷ keys) within are = (let from = are.0 in omega (arith, within, from), are.1, are.2)

with_key : (chosen : Bool) (index : ℕ) (key : List ℕ) (later : List DisclosedKey) → index < 100000000 → IsHash key → AreKeysFrom (index + 1) later
    → AreKeysFrom index ((if chosen then record { index = index; key = key } ∷ [] else []) ++ later)
with_key true index key later small is are = (let same : index ≤ index = omega arith in same, record { index = small; key = is }, are)
with_key false index key later small is are = less_from index (index + 1) later (omega arith) are

keys_from : (choice : Choice) (key : List ℕ) (index : ℕ) (events : List EventData) → index + length events ≤ MAX_COUNT → AreKeysFrom index (chosen_keys choice key index events)
keys_from choice key index [] few = tt
keys_from choice key index (event ∷ events) few =
    with_key (is_chosen choice index event.kind) index (entry_key key event.kind) (chosen_keys choice (next_key key) (index + 1) events) (omega (arith, few)) (key_is_hash key event.kind)
    (keys_from choice (next_key key) (index + 1) events (omega (arith, few)))

pub sound_keys : (choice : Choice) (state : StateData) (events : List EventData) → IsSoundState state → state.frontier.count + length events ≤ MAX_COUNT
    → IsSoundStart (start_after state) × AreKeysFrom 0 (chosen_keys choice state.key state.frontier.count events)
sound_keys choice state events sound few = (
  record { fits = record { tree = sound.frontier; first = λ none. (sound.fits.first none).0 }; link = sound.link; nodes = sound.nodes },
  less_from 0 state.frontier.count _ (omega arith) (keys_from choice state.key state.frontier.count events few),
)
