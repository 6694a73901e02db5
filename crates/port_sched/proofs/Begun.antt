-- Counts of turns, one call after another.
use Rattle.std.proofs.Common.{◌≡◌, ℕ, ◌+◌, ◌<◌, List, Some, length, set, get_or, slice_get, refl, arith}
use Rattle.std.proofs.lemmas.Option.{slice_get_read}
use Rattle.port_words.specs.home.Seats.{HomeKnown}
use Rattle.run_queue.specs.Seats.{counted}
use Rattle.port_sched.specs.declared.counts.TurnCounts.{TurnCounts}
use Rattle.port_sched.specs.Counts.{BeginsAt, Begin, AreCounts, KeepsCounts}
use Rattle.port_sched.proofs.HomeSteps.{sum_written}

module _ {B : Type 0} where
  pub none_begun : (homes : List (HomeKnown B)) → Begin 0 0 homes homes
  none_begun homes = record { queued_more = omega arith; idle_more = omega arith }

  -- the seat of one port began turns
  pub begin_at : (queued idle : ℕ) (homes : List (HomeKnown B)) (port : ℕ) (x y : HomeKnown B) → port < length homes → x ≡ get_or homes port x → BeginsAt queued idle x y
      → Begin queued idle homes (set homes port y)
  begin_at queued idle homes port x y lt at begins =
      let here : slice_get homes port ≡ Some x = slice_get_read homes (length homes) port x refl lt at in
      record {
        queued_more = sum_written (λ s. length s.known.claimed) homes port x y queued here begins.queued_more;
        idle_more = sum_written (λ s. length s.known.idle) homes port x y idle here begins.idle_more;
      }

  -- a new count
  pub new_counts : (counts : TurnCounts) (homes : List (HomeKnown B)) → counts.queued ≡ 0 → counts.idle ≡ 0 → AreCounts counts homes homes
  new_counts counts homes queued idle = record { queued = 0; idle = 0; begun = none_begun homes; queued_count = queued; idle_count = idle }

  -- no turn was begun, one with a ticket, or one without
  pub keeps_none : (counts : TurnCounts) (homes homes' : List (HomeKnown B)) → Begin 0 0 homes homes' → KeepsCounts counts homes counts homes'
  keeps_none counts homes homes' none start are =
      let a = none.queued_more in
      let b = none.idle_more in
      let c = are.begun.queued_more in
      let d = are.begun.idle_more in
      record { queued = are.queued; idle = are.idle; begun = record { queued_more = omega arith; idle_more = omega arith }; queued_count = are.queued_count; idle_count = are.idle_count }

  pub keeps_queued : (old new : TurnCounts) (homes homes' : List (HomeKnown B)) → Begin 1 0 homes homes' → new ≡ record old { queued = counted (old.queued + 1) } → KeepsCounts old homes new homes'
  keeps_queued old new homes homes' one is start are =
      let a = one.queued_more in
      let b = one.idle_more in
      let c = are.begun.queued_more in
      let d = are.begun.idle_more in
      let e = are.queued_count in
      rw is (record { queued = are.queued + 1; idle = are.idle; begun = record { queued_more = omega arith; idle_more = omega arith }; queued_count = omega arith; idle_count = are.idle_count })

  pub keeps_idle : (old new : TurnCounts) (homes homes' : List (HomeKnown B)) → Begin 0 1 homes homes' → new ≡ record old { idle = counted (old.idle + 1) } → KeepsCounts old homes new homes'
  keeps_idle old new homes homes' one is start are =
      let a = one.queued_more in
      let b = one.idle_more in
      let c = are.begun.queued_more in
      let d = are.begun.idle_more in
      let e = are.idle_count in
      rw is (record { queued = are.queued; idle = are.idle + 1; begun = record { queued_more = omega arith; idle_more = omega arith }; queued_count = are.queued_count; idle_count = omega arith })

  -- one call after another
  pub keeps_then : (a b c : TurnCounts) (first second third : List (HomeKnown B)) → KeepsCounts a first b second → KeepsCounts b second c third → KeepsCounts a first c third
  keeps_then a b c first second third one two start are = two start (one start are)
