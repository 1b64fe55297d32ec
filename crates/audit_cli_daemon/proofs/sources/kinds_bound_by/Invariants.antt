use Rattle.audit_cli_daemon.specs.Sources.{words_of}
use Rattle.audit_cli_daemon.proofs.JudgedSources.{AreJudged}
use Rattle.audit_cli_daemon.proofs.sources.kinds_bound_by.Given as goal

-- the words so far were right
abbrev pub invariant-loop-word : goal.invariant-loop-word
invariant-loop-word l = AreJudged (words_of l.fn.words) l.word-index l.bound
