-- The content after some calls, and calls that end with a sync.
use Rattle.std.proofs.Common.{◌≡◌, ℕ, zero, suc, ◌+◌, ◌<◌, List, [], ◌∷◌, ◌++◌, map, set, get_or, take, drop, length, refl, sym, ◌∙◌, ap, subst}
use Rattle.std.proofs.lemmas.List.{take_more, take-append-drop, length-set}
use Rattle.audit_disk.specs.Held.{Held, settled, newest, crashed, after_write, after_sync}
use Rattle.audit_disk.specs.Memory.{after_call, after_calls}
use Rattle.audit_disk.specs.Contents.{newest_of, content_after, EndSynced}
use Rattle.audit_disk.specs.declared.block.Block.{Block}
use Rattle.audit_disk.specs.declared.call.Call.{Call}
use Rattle.audit_disk.specs.declared.call.Effect.{Effect}
use Rattle.audit_disk.specs.declared.call.Effect.TheVariants.{Write, Sync}
use Rattle.audit_disk.proofs.HeldLemmas.{newest-push}
use Rattle.audit_disk.proofs.MemoryLemmas.{after_calls-append}

pub newest_of-settled : (blocks : List Block) → newest_of (map settled blocks) ≡ blocks
newest_of-settled [] = refl
newest_of-settled (block ∷ blocks) = ap (λ (rest : List Block). block ∷ rest) (newest_of-settled blocks)

newest_of-after_write : (held : List Held) (at : ℕ) (block : Block) → newest_of (after_write held at block) ≡ set (newest_of held) at block
newest_of-after_write [] at block = refl
newest_of-after_write (sector ∷ rest) zero block = ap (λ (b : Block). b ∷ newest_of rest) (newest-push sector.synced block sector.since)
newest_of-after_write (sector ∷ rest) (suc at) block = ap (λ (blocks : List Block). newest sector.synced sector.since ∷ blocks) (newest_of-after_write rest at block)

newest_of-after_sync : (held : List Held) → newest_of (after_sync held) ≡ newest_of held
newest_of-after_sync [] = refl
newest_of-after_sync (sector ∷ rest) = ap (λ (blocks : List Block). newest sector.synced sector.since ∷ blocks) (newest_of-after_sync rest)

newest_of-after_call : (effect : Effect) (held : List Held) → newest_of (after_call effect held) ≡ content_after effect (newest_of held)
newest_of-after_call (Write at block) held = newest_of-after_write held at block
newest_of-after_call Sync held = newest_of-after_sync held

pub length-content_after : (effect : Effect) (blocks : List Block) → length (content_after effect blocks) ≡ length blocks
length-content_after (Write at block) blocks = length-set blocks at block
length-content_after Sync blocks = refl

-- a sync leaves nothing pending
after_sync-settled : (held : List Held) → after_sync held ≡ map settled (newest_of (after_sync held))
after_sync-settled [] = refl
after_sync-settled (sector ∷ rest) = ap (λ (held : List Held). settled (newest sector.synced sector.since) ∷ held) (after_sync-settled rest)

-- no calls, and calls of which the last is a sync
pub end_synced_none : EndSynced []
end_synced_none = record { settled = λ start. ap (λ (blocks : List Block). map settled blocks) (sym (newest_of-settled start)) }

pub end_synced_more : (calls : List Call) (i : ℕ) (call : Call) → i < length calls → call ≡ get_or calls i call → call.effect ≡ Sync → EndSynced (take (i + 1) calls)
end_synced_more calls i call lt here is =
    subst EndSynced (sym (take_more calls i call lt ∙ ap (λ (c : Call). take i calls ++ c ∷ []) (sym here)))
    (record {
      settled = λ start.
          let before = after_calls (take i calls) (map settled start) in
          let all : after_calls (take i calls ++ call ∷ []) (map settled start) ≡ after_sync before =
          after_calls-append (take i calls) (call ∷ []) (map settled start) ∙ ap (λ (effect : Effect). after_call effect before) is in
          all ∙ after_sync-settled before ∙ ap (λ (held : List Held). map settled (newest_of held)) (sym all);
    })

-- one more call
pub content_more : (calls : List Call) (start : List Held) (blocks : List Block) (i : ℕ) (call : Call) → i < length calls → call ≡ get_or calls i call
    → blocks ≡ newest_of (after_calls (take i calls) start) → content_after call.effect blocks ≡ newest_of (after_calls (take (i + 1) calls) start)
content_more calls start blocks i call lt here is =
    ap (λ (b : List Block). content_after call.effect b) is
    ∙ sym (newest_of-after_call call.effect (after_calls (take i calls) start))
    ∙ ap newest_of (sym (after_calls-append (take i calls) (call ∷ []) start))
    ∙ ap (λ (c : List Call). newest_of (after_calls c start)) (ap (λ (c : Call). take i calls ++ c ∷ []) here ∙ sym (take_more calls i call lt))

-- an image left after the last sync is still left
pub crashed_later : (calls : List Call) (start blocks : List Block) (until : ℕ) (pick : List ℕ) → EndSynced (take until calls) → blocks ≡ newest_of (after_calls (take until calls) (map settled start))
    → crashed (after_calls (drop until calls) (map settled blocks)) pick ≡ crashed (after_calls calls (map settled start)) pick
crashed_later calls start blocks until pick synced is =
    ap (λ (held : List Held). crashed (after_calls (drop until calls) held) pick) (ap (λ (b : List Block). map settled b) is ∙ sym (synced.settled start))
    ∙ ap (λ (held : List Held). crashed held pick) (sym (after_calls-append (take until calls) (drop until calls) (map settled start)) ∙ ap (λ (c : List Call). after_calls c (map settled start)) (take-append-drop until calls))
