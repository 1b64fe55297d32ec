use Rattle.std.proofs.Common.{◌≡◌, ◌+◌, ◌-◌, ◌≤◌, length, take, vec_len, vec_capacity}
use Rattle.audit_cli_daemon.specs.Sources.{words_of, sources_in, kinds_bound}
use Rattle.audit_cli_daemon.proofs.sources.kinds_of_sources.Given as goal

abbrev pub invariant-loop-word : goal.invariant-loop-word
invariant-loop-word l = record {
  kinds : l.kinds.items ≡ kinds_bound (sources_in (take l.word-index (words_of l.words)));
  room : vec_len l.kinds + (length l.words - l.word-index) ≤ vec_capacity l.kinds;
}
