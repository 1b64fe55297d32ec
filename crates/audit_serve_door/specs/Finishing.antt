-- The time in which clients may take their replies after the order to stop.
use Rattle.std.specs.Prelude.{◌≡◌, ◌⊎◌, ◌+◌, ◌≤◌, ℤ, Bool, true, Option, Some, None, nat_lt, length}
use Rattle.std.specs.Time.{instant_nanos, FitsClock}
use Rattle.std.specs.declared.time.Instant.{Instant}
use Rattle.mio.specs.Net.{unix_listener_fd}
use Rattle.audit_serve_ready.specs.declared.next.Next.{Next}
use Rattle.audit_serve_ready.specs.declared.next.Next.TheVariants as next
use Rattle.audit_serve_door.specs.Entrances.{listener_of}
use Rattle.audit_serve_door.specs.declared.stop_orders.StopOrders.{StopOrders}

-- It lasts five seconds, unless the clock ends before.
abbrev pub IsFinishingTime : Instant → Option Instant → Type 0
IsFinishingTime now None = FitsClock (instant_nanos now + 5_000_000_000) → ⊥
IsFinishingTime now (Some last) = instant_nanos last ≡ instant_nanos now + 5_000_000_000

-- by the clock that time is over
abbrev pub IsOver : Instant → Instant → Type 0
IsOver now last = instant_nanos last ≤ instant_nanos now

-- the order to stop has come
abbrev pub has_order : StopOrders → Bool
has_order orders = nat_lt 0 (length orders.given.items)

-- the descriptor of the socket on which orders come
abbrev pub descriptor_of_orders : StopOrders → ℤ
descriptor_of_orders orders = unix_listener_fd (listener_of orders.incoming)

-- What a pause says. It ends serving if what is served was found out of its place, if the system's readiness or clock
-- failed, or by an order. Then that time begins, which nothing changes; and as long as it isn't over, and nothing of
-- that happens, a pause says to go on.
pub record SaysNext (answer : Next) (is_replaced has_failed is_ordered : Bool) (now : Instant)
    (was until : Option Instant) : Type 0 where
  pub begins : was ≡ None → answer ≡ next.Stop → (is_replaced ≡ true) ⊎ (has_failed ≡ true)
      ⊎ ((is_ordered ≡ true) × IsFinishingTime now until)
  pub goes : was ≡ None → answer ≡ next.Again → until ≡ None
  pub kept : (last : Instant) → was ≡ Some last → until ≡ Some last
  pub over : (last : Instant) → was ≡ Some last → answer ≡ next.Stop
      → (is_replaced ≡ true) ⊎ (has_failed ≡ true) ⊎ IsOver now last
  pub on : (last : Instant) → was ≡ Some last → answer ≡ next.Again → IsOver now last → ⊥
