-- Readings of a log, one after another.
use Rattle.std.specs.Prelude.{Bool, false, Option, Result, Ok, Err}
use Rattle.std.specs.List.{flat_map, AllByRecursion}
use Rattle.std.proofs.Common.{◌≡◌, ◌∙◌, ℕ, ◌+◌, List, [], ◌∷◌, ◌++◌, length, length-append, refl, sym, subst, arith}
use Rattle.std.proofs.lemmas.Grind.{flat_map-append}
use Rattle.audit_cli_connection.specs.declared.fault.RemoteError.{RemoteError}
use Rattle.audit_cli_connection.specs.Faults.{is_passing_fault}
use Rattle.audit_cli_connection.specs.declared.read_task.ReadTask.{ReadTask}
use Rattle.audit_cli_client.specs.ReadingTask.{FollowsReading, OneReading, IsReadAgain, ArePrintedInTurn, reading_calls_of, ReadsOnAgain, ReadsLast}
use Rattle.audit_cli_connection.specs.ServerCalls.{ServersModel, a_reading, a_rest}

again_more : (readings : List OneReading) (one : OneReading) → AllByRecursion (λ (reading : OneReading). IsReadAgain reading.done) readings → IsReadAgain one.done
    → AllByRecursion (λ (reading : OneReading). IsReadAgain reading.done) (readings ++ one ∷ [])
again_more [] one all last = (last, tt)
again_more (first ∷ readings) one all last = (all.0, again_more readings one all.1 last)

again_of : (done : Result (Unit {0}) RemoteError) (reported : Option RemoteError) → FollowsReading done (Ok reported) → IsReadAgain done
again_of (Ok done) reported follows = tt
again_of (Err fault) reported follows = follows.0

printed_more : (old : Option (List ℕ)) (readings : List OneReading) (between new : Option (List ℕ)) (done : Result (Unit {0}) RemoteError) → ArePrintedInTurn old readings between
    → ArePrintedInTurn old (readings ++ record { before = between; after = new; done = done } ∷ []) new
printed_more old [] between new done printed = (printed, refl)
printed_more old (first ∷ readings) between new done printed = (printed.0, printed_more first.after readings between new done printed.1)

pub one_more_reading : (readings : List OneReading) (one : OneReading) (times : ℕ) → length readings ≡ times → length (readings ++ one ∷ []) ≡ times + 1
one_more_reading readings one times count = omega (arith, count, length-append readings (one ∷ []))

module _ {F : Type 0} (servers : ServersModel F) (task : ReadTask) (every : ℕ) where
  pub no_readings : (now : F) (known : Option (List ℕ)) → ReadsOnAgain servers task every now now known known []
  no_readings now known = record { did = servers.nothing_called now; again = tt; printed = refl }

  pub readings_more : (was mid rested now : F) (old between new : Option (List ℕ)) (readings : List OneReading) (done : Result (Unit {0}) RemoteError) (reported : Option RemoteError)
      → ReadsOnAgain servers task every was mid old between readings → servers.DidCalls mid rested (a_reading task between new done ∷ []) → servers.DidCalls rested now (a_rest every ∷ [])
      → FollowsReading done (Ok reported) → ReadsOnAgain servers task every was now old new (readings ++ record { before = between; after = new; done = done } ∷ [])
  readings_more was mid rested now old between new readings done reported before read rests follows =
      let one : OneReading = record { before = between; after = new; done = done } in
      record {
        did = subst (servers.DidCalls was now) (sym (flat_map-append (reading_calls_of task every) readings (one ∷ [])))
            (servers.more_called was mid now (flat_map (reading_calls_of task every) readings) (reading_calls_of task every one) before.did
            (servers.more_called mid rested now (a_reading task between new done ∷ []) (a_rest every ∷ []) read rests));
        again = again_more readings one before.again (again_of done reported follows);
        printed = printed_more old readings between new done before.printed;
      }

  -- the last one failed for more than a while, and this is why
  pub reads_last : (was mid now : F) (old between new : Option (List ℕ)) (readings : List OneReading) (done : Result (Unit {0}) RemoteError) (last : RemoteError)
      → ReadsOnAgain servers task every was mid old between readings → servers.DidCalls mid now (a_reading task between new done ∷ []) → FollowsReading done (Err last)
      → ReadsLast servers task every was now old new last
  reads_last was mid now old between new readings (Ok done) last before read follows = absurd follows
  reads_last was mid now old between new readings (Err fault) last before read follows = record {
    readings = readings;
    mid = mid;
    between = between;
    earlier = before;
    last = subst (λ (f : RemoteError). servers.DidCalls mid now (a_reading task between new (Err f) ∷ [])) (sym follows.1) read;
    lasting = subst (λ (f : RemoteError). is_passing_fault f ≡ false) (sym follows.1) follows.0;
  }
