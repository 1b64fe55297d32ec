-- The end of a session.
use Rattle.std.specs.Prelude.{◌≡◌, ◌≢◌, ℕ, Result, Ok, Err, MatchResult, [], ◌∷◌}
use Rattle.audit_disk_model.specs.declared.sectors.Sectors as sectors
use Rattle.audit_server_commit.specs.Arrivals.{malformed_from}
use Rattle.audit_store.specs.declared.store_error.StoreError.{StoreError}
use Rattle.audit_store.specs.declared.store_error.StoreError.TheVariants.{Broken}
use Rattle.audit_server_commit.specs.declared.committer.Committer.{Committer}
use Rattle.audit_server_commit.specs.Entering.{IsArrivalEnd}
use Rattle.audit_server_commit.specs.Sessions.{SessionData, ended_session, arrivals_by_end}
use Rattle.audit_server.specs.Running.{Run, IsRefusedAfter}

module _ {D : Type 0} {g : sectors.Ghosts D} where
  -- an incomplete frame couldn't be queued as malformed
  pub record IsEndRefused (k : ℕ) (error : StoreError) (session : SessionData)
      (before after : Committer D g) : Type 0 where
    pub begun : arrivals_by_end k session ≡ malformed_from k ∷ []
    pub end : IsArrivalEnd (malformed_from k) before after (Err error)
    pub not_broken : error ≢ Broken
    pub refused : IsRefusedAfter [] error before after

  abbrev pub IsFrameEnd : ℕ → SessionData → Committer D g → Committer D g → Result (Unit {0}) StoreError → Type 0
  IsFrameEnd k session before after (Ok done) = Run (arrivals_by_end k session) before after
  IsFrameEnd k session before after (Err error) = IsEndRefused k error session before after

  -- the session has ended, or on an error is unchanged
  pub record IsEnd (k : ℕ) (old new : SessionData) (before after : Committer D g)
      (result : Result (Unit {0}) StoreError) : Type 0 where
    pub session : MatchResult result (λ done. new ≡ ended_session old) (λ error. new ≡ old)
    pub frame : IsFrameEnd k old before after result
