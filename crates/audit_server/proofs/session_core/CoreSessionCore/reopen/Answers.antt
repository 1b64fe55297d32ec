use Rattle.std.proofs.Common.{◌≡◌, Result, Ok, Err, OnErr, [], List, sym, subst}
use Rattle.audit_disk_model.specs.declared.sectors.Sectors as sectors
use Rattle.audit_server_commit.specs.declared.committer.Committer.{Committer}
use Rattle.audit_serve_passes.specs.Core.{no_bytes}
use Rattle.audit_server_commit.specs.Sessions.{SessionData}
use Rattle.audit_server_commit.specs.Serving.{HasServed}
use Rattle.audit_server_commit.proofs.ServedSteps.{served_none}
use Rattle.audit_server.specs.declared.server_core.Core.{Core}
use Rattle.audit_server.specs.Core.{committer_of, sessions_of, data_of}
use Rattle.audit_server.proofs.session_core.CoreSessionCore.reopen.Goals as goal

module _ {D : Type 0} {g : sectors.Ghosts D} where
  untouched : (old new : Core D g) → committer_of new ≡ committer_of old → sessions_of new ≡ sessions_of old → HasServed (data_of old) (data_of new) [] no_bytes
  untouched old new committer sessions =
      subst (λ (c : Committer D g). HasServed (data_of old) (record { committer = c; sessions = sessions_of new }) [] no_bytes) (sym committer)
      (subst (λ (s : List SessionData). HasServed (data_of old) (record { committer = committer_of old; sessions = s }) [] no_bytes) (sym sessions) (served_none (data_of old)))

  refused : {E : Type 0} (result : Result (Unit {0}) E) (old new : Core D g) → committer_of new ≡ committer_of old → OnErr result (sessions_of new ≡ sessions_of old) → OnErr result (HasServed (data_of old) (data_of new) [] no_bytes)
  refused (Ok unit) old new committer sessions = tt
  refused (Err error) old new committer sessions = untouched old new committer sessions

pub returns-clause-refused : goal.returns-clause-refused
returns-clause-refused g c = refused c.reopen.result c.args.self.now c.reopen.new.self c.reopen.ensures.committer c.reopen.ensures.refused
