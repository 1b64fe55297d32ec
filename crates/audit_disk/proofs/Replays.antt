-- Replaying the calls before a crash leaves what the picks select.
use Rattle.std.proofs.Common.{◌≡◌, ℕ, zero, suc, ◌+◌, ◌-◌, ◌<◌, ◌≤◌, nat_lt, cond, List, [], ◌∷◌, ◌++◌, map, set, get_or, take, drop, length, refl, sym, ◌∙◌, ap, subst, arith}
use Rattle.std.proofs.lemmas.Bool.{lt-ltb, le-ltb}
use Rattle.std.proofs.lemmas.List.{length-append, map-append, take_more, drop_more, set_at, get_or_at, append_assoc, length-map, length-take}
use Rattle.audit_disk_model.specs.Image.{Image}
use Rattle.audit_disk.specs.Held.{Held, settled, picked, newest, bytes_of_blocks, crashed, after_write, after_sync}
use Rattle.audit_disk.specs.Memory.{after_call, after_calls}
use Rattle.audit_disk.specs.Progress.{IsSectorProgress, AreProgress, pushed, synced, written_at, after_effect, landed_of}
use Rattle.audit_disk.specs.declared.block.Block.{Block}
use Rattle.audit_disk.specs.declared.call.Call.{Call}
use Rattle.audit_disk.specs.declared.call.Effect.{Effect}
use Rattle.audit_disk.specs.declared.call.Effect.TheVariants.{Write, Sync}
use Rattle.audit_disk.specs.declared.progress.Progress.{Progress}
use Rattle.audit_disk.proofs.HeldLemmas.{newest-push, synced_first}
use Rattle.audit_disk.proofs.MemoryLemmas.{after_calls-append}

-- what a pick selects after one more write
chosen-push : (old block : Block) (since : List Block) (p : ℕ) → picked old (since ++ block ∷ []) p ≡ cond (nat_lt 0 (p - length since)) block (picked old since p)
chosen-push old block [] zero = refl
chosen-push old block [] (suc p) = ap (λ b. cond b block old) (sym (lt-ltb 0 (suc p - 0) (omega arith)))
chosen-push old block (next ∷ since) zero = ap (λ b. cond b block old) (sym (le-ltb 0 (0 - suc (length since)) (omega arith)))
chosen-push old block (next ∷ since) (suc p) =
    let less : p - length since ≡ suc p - suc (length since) = omega arith in
    chosen-push next block since p ∙ ap (λ n. cond (nat_lt 0 n) block (picked next since p)) less

-- one sector, after a write and after a sync
progress-push : (held : Held) (p : ℕ) (progress : Progress) (block : Block) → IsSectorProgress held p progress
    → IsSectorProgress (record { synced = held.synced; since = held.since ++ block ∷ [] }) p (pushed progress block)
progress-push held p progress block is = record {
  newest = sym (newest-push held.synced block held.since);
  landed = ap (λ n. cond (nat_lt 0 n) block progress.landed) is.left ∙ ap (λ (b : Block). cond (nat_lt 0 (p - length held.since)) block b) is.landed
      ∙ sym (chosen-push held.synced block held.since p);
  pick = is.pick;
  left = omega (arith, is.left, length-append held.since (block ∷ []));
}

progress-synced : (held : Held) (p : ℕ) (progress : Progress) → IsSectorProgress held p progress → IsSectorProgress (settled (newest held.synced held.since)) p (synced progress)
progress-synced held p progress is = record {
  newest = is.newest;
  landed = is.newest;
  pick = is.pick;
  left = omega (arith, is.pick);
}

-- all sectors, after a write and after a sync
written : (held : List Held) (picks : List ℕ) (all : List Progress) (at : ℕ) (block : Block) → AreProgress held picks all → AreProgress (after_write held at block) picks (written_at all at block)
written [] picks [] at block are = tt
written [] picks (progress ∷ others) at block are = absurd are
written (sector ∷ rest) picks [] at block are = absurd are
written (sector ∷ rest) [] (progress ∷ others) zero block are = (progress-push sector 0 progress block are.0, are.1)
written (sector ∷ rest) (pick ∷ picks) (progress ∷ others) zero block are = (progress-push sector pick progress block are.0, are.1)
written (sector ∷ rest) [] (progress ∷ others) (suc at) block are = (are.0, written rest [] others at block are.1)
written (sector ∷ rest) (pick ∷ picks) (progress ∷ others) (suc at) block are = (are.0, written rest picks others at block are.1)

all_synced : (held : List Held) (picks : List ℕ) (all : List Progress) → AreProgress held picks all → AreProgress (after_sync held) picks (map synced all)
all_synced [] picks [] are = tt
all_synced [] picks (progress ∷ others) are = absurd are
all_synced (sector ∷ rest) picks [] are = absurd are
all_synced (sector ∷ rest) [] (progress ∷ others) are = (progress-synced sector 0 progress are.0, all_synced rest [] others are.1)
all_synced (sector ∷ rest) (pick ∷ picks) (progress ∷ others) are = (progress-synced sector pick progress are.0, all_synced rest picks others are.1)

progress-call : (effect : Effect) (held : List Held) (picks : List ℕ) (all : List Progress) → AreProgress held picks all → AreProgress (after_call effect held) picks (after_effect effect all)
progress-call (Write at block) held picks all are = written held picks all at block are
progress-call Sync held picks all are = all_synced held picks all are

-- one more recorded call
pub progress_more : (calls : List Call) (start : List Held) (picks : List ℕ) (all : List Progress) (i : ℕ) (call : Call) → i < length calls
    → AreProgress (after_calls (take i calls) start) picks all → AreProgress (after_calls (take (i + 1) calls) start) picks (after_effect (get_or calls i call).effect all)
progress_more calls start picks all i call lt are =
    let next = get_or calls i call in
    subst (λ (held : List Held). AreProgress held picks (after_effect next.effect all))
    (sym (ap (λ (c : List Call). after_calls c start) (take_more calls i call lt) ∙ after_calls-append (take i calls) (next ∷ []) start))
    (progress-call next.effect (after_calls (take i calls) start) picks all are)

-- one more sector
pub progress_push : (held : List Held) (picks : List ℕ) (all : List Progress) (sector : Held) (progress : Progress) → AreProgress held picks all
    → IsSectorProgress sector (get_or picks (length held) 0) progress → AreProgress (held ++ sector ∷ []) picks (all ++ progress ∷ [])
progress_push [] [] [] sector progress are is = (is, tt)
progress_push [] (pick ∷ picks) [] sector progress are is = (is, tt)
progress_push [] picks (first ∷ others) sector progress are is = absurd are
progress_push (held ∷ rest) picks [] sector progress are is = absurd are
progress_push (held ∷ rest) [] (first ∷ others) sector progress are is = (are.0, progress_push rest [] others sector progress are.1 is)
progress_push (held ∷ rest) (pick ∷ picks) (first ∷ others) sector progress are is = (are.0, progress_push rest picks others sector progress are.1 is)

-- what the crash finally leaves
pub landed-crashed : (held : List Held) (picks : List ℕ) (all : List Progress) → AreProgress held picks all → bytes_of_blocks (landed_of all) ≡ crashed held picks
landed-crashed [] picks [] are = refl
landed-crashed [] picks (progress ∷ others) are = absurd are
landed-crashed (sector ∷ rest) picks [] are = absurd are
landed-crashed (sector ∷ rest) [] (progress ∷ others) are =
    ap (λ (b : Block). b.bytes ∷ bytes_of_blocks (landed_of others)) are.0.landed
    ∙ ap (λ (s : List ℕ). s ∷ bytes_of_blocks (landed_of others)) (sym (synced_first sector.synced sector.since))
    ∙ ap (λ (i : Image). sector.synced.bytes ∷ i) (landed-crashed rest [] others are.1)
landed-crashed (sector ∷ rest) (pick ∷ picks) (progress ∷ others) are =
    ap (λ (b : Block). b.bytes ∷ bytes_of_blocks (landed_of others)) are.0.landed
    ∙ ap (λ (i : Image). (picked sector.synced sector.since pick).bytes ∷ i) (landed-crashed rest picks others are.1)

-- a write to one place of the list
pub set-written_at : (all : List Progress) (at : ℕ) (block : Block) (progress : Progress) → set all at (pushed (get_or all at progress) block) ≡ written_at all at block
set-written_at [] at block progress = refl
set-written_at (first ∷ others) zero block progress = refl
set-written_at (first ∷ others) (suc at) block progress = ap (λ (all : List Progress). first ∷ all) (set-written_at others at block progress)

pub written_at_past : (all : List Progress) (at : ℕ) (block : Block) → length all ≤ at → all ≡ written_at all at block
written_at_past [] at block le = refl
written_at_past (first ∷ others) zero block le = absurd (omega arith)
written_at_past (first ∷ others) (suc at) block le = ap (λ (all : List Progress). first ∷ all) (written_at_past others at block (omega arith))

-- one more sector was synced
pub synced_more : (first now : List Progress) (i : ℕ) (progress next : Progress) → i < length first → now ≡ map synced (take i first) ++ drop i first
    → next ≡ synced (get_or now i progress) → set now i next ≡ map synced (take (i + 1) first) ++ drop (i + 1) first
synced_more first now i progress next lt is done =
    let before = map synced (take i first) in
    let item = get_or first i progress in
    let rest = drop (i + 1) first in
    let long : length before ≡ i = omega (arith, length-map (take i first) synced, length-take i first) in
    let split : now ≡ before ++ item ∷ rest = is ∙ ap (λ (l : List Progress). before ++ l) (drop_more first i progress lt) in
    let same : get_or now i progress ≡ item = ap (λ (l : List Progress). get_or l i progress) split ∙ get_or_at before item rest progress i long in
    ap (λ (l : List Progress). set l i next) split
    ∙ set_at before item rest next i long
    ∙ ap (λ (p : Progress). before ++ p ∷ rest) (done ∙ ap synced same)
    ∙ sym (append_assoc before (synced item ∷ []) rest)
    ∙ ap (λ (l : List Progress). l ++ rest) (sym (map-append synced (take i first) (item ∷ [])) ∙ ap (λ (l : List Progress). map synced l) (sym (take_more first i progress lt)))

length-written_at : (all : List Progress) (at : ℕ) (block : Block) → length (written_at all at block) ≡ length all
length-written_at [] at block = refl
length-written_at (first ∷ others) zero block = refl
length-written_at (first ∷ others) (suc at) block = ap suc (length-written_at others at block)

-- a call doesn't change the number of sectors
pub length-after_effect : (effect : Effect) (all : List Progress) → length (after_effect effect all) ≡ length all
length-after_effect (Write at block) all = length-written_at all at block
length-after_effect Sync all = length-map all synced
