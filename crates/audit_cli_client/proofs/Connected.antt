-- Calls that end over a connection, or because there is none.
use Rattle.std.specs.Prelude.{IfErr, IfOk, OnOk}
use Rattle.std.proofs.Common.{◌≡◌, ◌⊎◌, ◌∙◌, inl, inr, ℕ, ◌<◌, List, Result, Ok, Err, refl, sym, ap, subst, arith}
use Rattle.audit_cli_base.specs.declared.fault.CommandError.TheVariants.{BadArgument, File}
use Rattle.audit_cli_base.specs.declared.fault.CommandError.{CommandError}
use Rattle.audit_cli_base.specs.declared.status.Status.{Status}
use Rattle.audit_cli_connection.specs.Dialing.{DialFacts, HasConnection, IsUnconnected, IsUnseen}
use Rattle.audit_cli_connection.specs.Faults.{IsNoBadArgument}
use Rattle.audit_cli_connection.specs.declared.fault.RemoteError.{RemoteError}
use Rattle.audit_cli_connection.specs.declared.fault.RemoteError.TheVariants.{Command, ReaderInUse}
use Rattle.audit_wire_ask.specs.declared.placing.Placing.{Placing}
use Rattle.audit_wire_ask.specs.declared.sending.SendEnd.{SendEnd}
use Rattle.audit_cli_client.specs.Sent.{EndsSending, nothing_sent}
use Rattle.audit_cli_client.specs.SocketCalls.{EndsOver, AsksSocket, SendsToSocket}

no_bad : (dials : DialFacts) (socket : List ℕ) (seconds : ℕ) (fault : RemoteError) → IsUnconnected dials socket seconds fault → IsNoBadArgument fault
no_bad dials socket seconds (Command cause) why = absurd why
no_bad dials socket seconds _ why = tt

not_bad_unseen : (Failed : Type 0) (fault : RemoteError) → IsUnseen Failed fault → IsNoBadArgument fault
not_bad_unseen Failed (Command cause) why = absurd why
not_bad_unseen Failed _ why = tt

module _ {T : Type 0} (dials : DialFacts) (socket : List ℕ) (seconds : ℕ) (done result : Result T RemoteError) (same : IfErr done IsNoBadArgument → result ≡ done) where
  -- the same if a wrong argument is called a fault of a file
  pub over_without_words : EndsOver dials socket seconds done → EndsOver dials socket seconds result
  over_without_words (inl over) = inl over
  over_without_words (inr (fault, is, why)) = inr (fault, same (subst (λ (one : Result T RemoteError). IfErr one IsNoBadArgument) (sym is) (no_bad dials socket seconds fault why)) ∙ is, why)

  pub asked_without_words : (Failed : Type 0) → AsksSocket Failed dials socket seconds done → AsksSocket Failed dials socket seconds result
  asked_without_words Failed (inl over) = inl (over_without_words over)
  asked_without_words Failed (inr (fault, is, why)) = inr (fault, same (subst (λ (one : Result T RemoteError). IfErr one IsNoBadArgument) (sym is) (not_bad_unseen Failed fault why)) ∙ is, why)

module _ {T : Type 0} (dials : DialFacts) (socket : List ℕ) (seconds : ℕ) where
  -- a result was over a connection
  pub over_ok : (result : Result T RemoteError) → EndsOver dials socket seconds result → IfOk result (λ given. HasConnection dials socket)
  over_ok (Ok given) (inl over) = over
  over_ok (Ok given) (inr (fault, is, why)) = absurd (cc is)
  over_ok (Err fault) over = tt

  -- so was an error, or there was no connection
  pub over_err : (result : Result T RemoteError) → EndsOver dials socket seconds result → IfErr result (λ fault. HasConnection dials socket ⊎ IsUnconnected dials socket seconds fault)
  over_err (Ok given) over = tt
  over_err (Err fault) (inl over) = inl over
  over_err (Err fault) (inr (other, is, why)) = let same : fault ≡ other = cc is in inr (subst (IsUnconnected dials socket seconds) (sym same) why)

-- what is known of the connections afterwards is that of the connections to the socket
module _ (dials : DialFacts) (socket : List ℕ) (seconds : ℕ) (Reached : Type 0) (Broke : RemoteError → Type 0) (Sent : ℕ → Placing → SendEnd → Type 0)
    (reached : Reached → HasConnection dials socket) (broke : (fault : RemoteError) → Broke fault → HasConnection dials socket ⊎ IsUnconnected dials socket seconds fault)
    (sent : (count : ℕ) (next : Placing) (total : SendEnd) → Sent count next total → ((count ≡ 0) × (total ≡ nothing_sent)) ⊎ Reached) where
  sent_over : (status : Status) → EndsSending Sent Broke status → HasConnection dials socket
  sent_over status (count, next, total, did, inl (some, is)) = by (sent count next total did) where
    by : ((count ≡ 0) × (total ≡ nothing_sent)) ⊎ Reached → HasConnection dials socket
    by (inl (none, nothing)) = absurd (subst (λ (n : ℕ). 0 < n → ⊥) (sym none) (λ less. omega (arith, less)) some)
    by (inr over) = reached over
  sent_over status (count, next, total, did, inr (fault, lost, is, left)) = by (sent count next total did) where
    by : ((count ≡ 0) × (total ≡ nothing_sent)) ⊎ Reached → HasConnection dials socket
    by (inl (none, nothing)) = absurd (subst (λ (end : SendEnd). end.answered < end.sent → ⊥) (sym nothing) (λ less. omega (arith, less)) left)
    by (inr over) = reached over

  pub sends_to : (result : Result Status RemoteError) → IfOk result (EndsSending Sent Broke) → IfErr result (λ fault. Broke fault ⊎ (fault ≡ Command File)) → SendsToSocket dials socket seconds result
  sends_to (Ok status) ends fault = inl (inl (sent_over status ends))
  sends_to (Err fault) ends (inl lost) = by (broke fault lost) where
    by : HasConnection dials socket ⊎ IsUnconnected dials socket seconds fault → SendsToSocket {T = Status} dials socket seconds (Err fault)
    by (inl over) = inl (inl over)
    by (inr why) = inl (inr (fault, refl, why))
  sends_to (Err fault) ends (inr file) = inr (File, ap Err file)

-- the same system, socket and seconds
pub sends_alike : {A : Type 0} (dials : A → DialFacts) (rt other : A) (socket path : List ℕ) (seconds limit : ℕ) (result : Result Status RemoteError) → rt ≡ other → socket ≡ path → seconds ≡ limit
    → SendsToSocket (dials rt) socket seconds result → SendsToSocket (dials other) path limit result
sends_alike dials rt other socket path seconds limit result a b c sends =
    subst (λ (n : ℕ). SendsToSocket (dials other) path n result) c (subst (λ (p : List ℕ). SendsToSocket (dials other) p seconds result) b (subst (λ one. SendsToSocket (dials one) socket seconds result) a sends))

-- the same for events if a wrong argument is called a fault of a file
module _ {T : Type 0} (done result : Result T RemoteError) (same : IfErr done IsNoBadArgument → result ≡ done) (bad : done ≡ Err (Command BadArgument) → result ≡ Err (Command File)) where
  cause_of : (cause : CommandError) → done ≡ Err (Command cause) → (other : CommandError) × (result ≡ Err (Command other))
  cause_of BadArgument is = (File, bad is)
  cause_of cause is = (cause, same (subst (λ (one : Result T RemoteError). IfErr one IsNoBadArgument) (sym is) tt) ∙ is)

  pub sends_without_words : (dials : DialFacts) (socket : List ℕ) (seconds : ℕ) → SendsToSocket dials socket seconds done → SendsToSocket dials socket seconds result
  sends_without_words dials socket seconds (inl over) = inl (over_without_words dials socket seconds done result same over)
  sends_without_words dials socket seconds (inr (cause, is)) = inr (cause_of cause is)

-- what was done while a lock was held
module _ {T : Type 0} (done result : Result T RemoteError) where
  pub locked_ok : (P : Type 0) → ((done ≡ Err ReaderInUse) × (result ≡ Err (Command File))) ⊎ (result ≡ done) → OnOk done P → OnOk result P
  locked_ok P (inl (was, is)) had = subst (λ (one : Result T RemoteError). OnOk one P) (sym is) tt
  locked_ok P (inr same) had = subst (λ (one : Result T RemoteError). OnOk one P) (sym same) had

  pub locked_bad : ((done ≡ Err ReaderInUse) × (result ≡ Err (Command File))) ⊎ (result ≡ done) → result ≡ Err (Command BadArgument) → done ≡ Err (Command BadArgument)
  locked_bad (inl (was, is)) bad = absurd (subst (λ (one : Result T RemoteError). IfErr one IsNoBadArgument) bad (subst (λ (one : Result T RemoteError). IfErr one IsNoBadArgument) (sym is) tt))
  locked_bad (inr same) bad = sym same ∙ bad
