-- The recorder as a core that serves sessions.
use Rattle.std.specs.Prelude.{◌+◌, Bool, false, ◌||◌, if◌then◌else◌, List, [], ◌∷◌, length}
use Rattle.std.specs.Prelude.{map, slice_index_or}
use Rattle.std.proofs.Common.{refl, sym, ap, ◌∙◌}
use Rattle.std.proofs.lemmas.List.{get_or-set_other}
use Rattle.audit_serve_passes.specs.Steps.{has_end}
use Rattle.audit_serve_passes.specs.Core.{CoreModel, appending}
use Rattle.audit_test_serve.specs.Recorder.{RecorderData, has_ended, recorded_output, count_fed, IsRecorderIdle, recorded_owed, EndedBy, IsLiveAgain}
use Rattle.audit_test_serve.specs.RecorderLaws.{ended_then, no_end, none_fed, none_recorded, nothing_fed, or_none, or_true}

abbrev pub recorder_model : CoreModel RecorderData
recorder_model = record {
  ended = λ core steps k. has_ended core k || has_end k steps;
  cut_off = λ core k. false;
  output = recorded_output;
  Idle = IsRecorderIdle;
  owed = recorded_owed;
  waiting = λ core. count_fed core.fed;
  none_waits = λ core idle. none_fed core.fed idle;
  requests = λ core k bytes. map (λ byte. appending) bytes;
  replies = λ core k bytes. length bytes;
  requests_alone = λ old new steps taken k bytes did others. (refl, refl);
  no_replies = λ core k bytes. none_recorded bytes;
  longest = 1;
  acknowledgement = 1;
  refusal = 0;
  Begins = IsLiveAgain;
  LacksMemory = λ k old new. Unit {0};
  DidSteps = λ old new steps taken. EndedBy old new steps;
  DidStepsInPart = λ old new steps taken. Unit {0};
  nothing_done = λ core k. or_none (has_ended core k);
  more_done = λ old mid new steps later taken more first second k. second k
      ∙ ap (λ (had : Bool). had || has_end k later) (first k) ∙ ended_then (has_ended old k) k steps later;
  ended_by_steps = λ old new steps later taken k did. ap (λ (had : Bool). had || has_end k later) (did k)
      ∙ ended_then (has_ended old k) k steps later;
  ended_alone = λ core steps step k other.
      sym (ended_then (has_ended core k) k steps (step ∷ []))
      ∙ ap (λ (last : Bool). (has_ended core k || has_end k steps) || (last || false)) (no_end k step other)
      ∙ sym (or_none (has_ended core k || has_end k steps));
  ended_stays = λ core steps later k ended.
      sym (ended_then (has_ended core k) k steps later)
      ∙ or_true (has_ended core k || has_end k steps) (has_end k later) ended;
  begun_alone = λ old new k other allowed begun apart. ap (λ (ended : List Bool). slice_index_or ended other false || false)
      begun.ended ∙ ap (λ (had : Bool). had || false) (get_or-set_other old.ended k other false false apart);
  owed_idle = λ core k idle.
      ap (λ (fed : Bool). length (recorded_output core k) + (if fed then 1 else 0)) (idle k)
      ∙ nothing_fed (length (recorded_output core k));
  done_in_part = λ old new steps taken did. tt;
  then_in_part = λ old mid new steps later taken more first second. tt;
}
