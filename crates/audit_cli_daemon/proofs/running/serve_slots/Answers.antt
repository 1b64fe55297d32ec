use Rattle.std.proofs.Common.{◌≡◌, ◌∙◌, inr, ℕ, true, List, refl, sym, subst}
use Rattle.audit_disk_model.specs.declared.sectors.Sectors as sectors
use Rattle.audit_store.specs.declared.store_error.StoreError.{StoreError}
use Rattle.audit_store.specs.declared.store_error.StoreError.TheVariants.{Memory}
use Rattle.audit_server_commit.specs.Committer.{is_full_of}
use Rattle.audit_serve_passes.specs.Streams.{CallModel}
use Rattle.audit_serve_ready.specs.Slot.{SlotData}
use Rattle.audit_serve_ready.specs.Clients.{StopsServing}
use Rattle.audit_server.specs.declared.server_core.Core.{Core}
use Rattle.audit_server.specs.Core.{committer_of, Refuses}
use Rattle.audit_server.specs.CoreModel.{core_model}
use Rattle.audit_cli_daemon.specs.Running.{EndsForSpace}
use Rattle.audit_cli_daemon.proofs.running.serve_slots.Goals as goal

for_space : {D : Type 0} {g : sectors.Ghosts D} {S : Type 0} (N : CallModel S) (backlog : ℕ) (error : StoreError) (old new : Core D g) (before after : List (SlotData S)) → error ≡ Memory
    → StopsServing core_model N backlog (λ first later. Refuses first later error) 0 old new before after → is_full_of (committer_of new) ≡ true → EndsForSpace N backlog old new before after
for_space N backlog error old new before after is stopped full = record {
  stopped = subst (λ (one : StoreError). StopsServing core_model N backlog (λ first later. Refuses first later one) 0 old new before after) is stopped;
  full = full;
}

pub returns-in-Ok-clause-served : goal.returns-in-Ok-clause-served
returns-in-Ok-clause-served g c = record {
  between = c.serve_clients.new.slots;
  turn = c.in-Ok.ensures.served.0;
  stopped = c.serve_clients.new.door;
  rounds = c.in-Ok.ensures.rounds;
  written = c.finish_writing.ensures.written;
  served = c.in-Ok.ensures.served.1;
  within = c.in-Ok.ensures.within;
  finished = c.finish_writing.ensures.writes;
}

pub returns-in-Ok-answer_waiting-clause-served : goal.returns-in-Ok-answer_waiting-clause-served
returns-in-Ok-answer_waiting-clause-served g c = record {
  mid = c.serve_clients.new.core;
  between = c.serve_clients.new.slots;
  ends = for_space g.E.Stream.ReadyStream.calls c.args.most c.in-Err-Memory.field-0 c.args.core.now c.serve_clients.new.core c.args.slots.now c.serve_clients.new.slots (cc) c.in-Err-Memory.ensures.stopped (sym c.is_full.ensures ∙ c.if-is_full.true);
  begun = c.begin_end.new.self;
  in_end = c.begin_end.ensures;
  answered = c.in-Ok-answer_waiting.ensures.answered;
}

pub returns-in-Err-answer_waiting-clause-stopped : goal.returns-in-Err-answer_waiting-clause-stopped
returns-in-Err-answer_waiting-clause-stopped g c = inr (
  c.if-stops_when_full.true,
  record {
    mid = c.serve_clients.new.core;
    between = c.serve_clients.new.slots;
    ends = for_space g.E.Stream.ReadyStream.calls c.args.most c.in-Err-Memory.field-0 c.args.core.now c.serve_clients.new.core c.args.slots.now c.serve_clients.new.slots (cc) c.in-Err-Memory.ensures.stopped (sym c.is_full.ensures ∙ c.if-is_full.true);
    went = c.in-Err-answer_waiting.ensures.reaches;
    error = c.in-Err-answer_waiting.refusal;
    fault_is = refl;
    refused = c.in-Err-answer_waiting.ensures.refused;
  },
)
