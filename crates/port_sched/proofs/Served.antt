-- What was served by one call after another.
use Rattle.std.proofs.Common.{◌≡◌, true≢false, ℕ, ◌≤◌, List, [], ◌∷◌, ◌++◌, Result, Ok, Err, length, sym, refl, ◌∙◌, subst, arith, inl, inr}
use Rattle.std.specs.Prelude.{IsErr}
use Rattle.std.proofs.lemmas.List.Sums.{sum_by-append}
use Rattle.std.proofs.lemmas.List.Elements.{All-nil, All-cons, All-append, All-weaker}
use Rattle.port_words.specs.declared.home.homes.Ticket.{Ticket}
use Rattle.port_words.specs.home.Seats.{HomeKnown}
use Rattle.run_queue.specs.Seats.{RunKnown, put_by_owner, Took}
use Rattle.port_sched.specs.Homes.{HomesUse, weighed}
use Rattle.port_sched.specs.Tickets.{IsSameSeat, Serves}
use Rattle.port_sched.specs.Serving.{QueuedNext, KeptNext, KeptBy}
use Rattle.port_sched.proofs.HomeSteps.{steps_none, steps_then}
use Rattle.port_sched.proofs.QueueSteps.{pushed, took}

same_none : (s : RunKnown) → IsSameSeat s s
same_none s = record { number = refl; seats = refl; deques = refl; owners = refl; parts = refl; injector = refl; entry_parts = refl; is_seat = λ is. is }

same_then : (r s t : RunKnown) → IsSameSeat r s → IsSameSeat s t → IsSameSeat r t
same_then r s t one two = record {
  number = two.number ∙ one.number;
  seats = two.seats ∙ one.seats;
  deques = two.deques ∙ one.deques;
  owners = two.owners ∙ one.owners;
  parts = two.parts ∙ one.parts;
  injector = two.injector ∙ one.injector;
  entry_parts = two.entry_parts ∙ one.entry_parts;
  is_seat = λ is. two.is_seat (one.is_seat is);
}

module _ {B : Type 0} where
  abbrev OfNoPort : List (HomeKnown B) → Ticket → Type 0
  OfNoPort homes t = length homes ≤ t.port

  -- nothing was done
  pub served_none : (homes : List (HomeKnown B)) (run : RunKnown) → Serves [] [] homes run homes run
  served_none homes run = record {
    steps = steps_none homes;
    same = same_none run;
    strange = [];
    no_port = All-nil (OfNoPort homes);
    used = λ is weight. omega arith;
    made = λ is weight. omega arith;
  }

  -- the homes used the tickets that were held, and those that they made are kept
  pub served_homes : (used made : List Ticket) (homes homes' : List (HomeKnown B)) (run : RunKnown) → HomesUse used made homes homes' → Serves used made homes run homes' run
  served_homes used made homes homes' run uses = record {
    steps = uses.steps;
    same = same_none run;
    strange = [];
    no_port = All-nil (OfNoPort homes);
    used = λ is weight. let u = uses.used_tickets weight in omega arith;
    made = λ is weight. let m = uses.made_tickets weight in omega arith;
  }

  -- a home made a ticket, and it was pushed
  pub served_push : (ticket : Ticket) (homes homes' : List (HomeKnown B)) (run run' : RunKnown) → HomesUse [] (ticket ∷ []) homes homes' → run' ≡ put_by_owner ticket run → Serves [] [] homes run homes' run'
  served_push ticket homes homes' run run' uses is_pushed =
      let step = pushed ticket run run' is_pushed in
      record {
        steps = uses.steps;
        same = step.same;
        strange = [];
        no_port = All-nil (OfNoPort homes);
        used = λ is weight. let u = uses.used_tickets weight in let q = step.taken_tickets is (weighed weight) in omega arith;
        made = λ is weight. let m = uses.made_tickets weight in let q = step.put_tickets is (weighed weight) in omega arith;
      }

  -- the next turn was queued, or its ticket is kept
  pub served_next : (port : ℕ) (homes homes' : List (HomeKnown B)) (run run' : RunKnown) → QueuedNext port homes run homes' run' → Serves [] [] homes run homes' run'
  served_next port homes homes' run run' (inl next) = served_push next.0 homes homes' run run' next.2 next.3
  served_next port homes homes' run run' (inr none) = subst (λ r. Serves [] [] homes run homes' r) (sym none.1) (served_homes [] [] homes homes' run none.0)

  pub served_kept : (port : ℕ) (homes homes' : List (HomeKnown B)) (run run' : RunKnown) (next : KeptNext port homes run homes' run') → Serves [] (next.0 ∷ []) homes run homes' run'
  served_kept port homes homes' run run' next = subst (λ r. Serves [] (next.0 ∷ []) homes run homes' r) (sym next.3) (served_homes [] (next.0 ∷ []) homes homes' run next.2)

  -- a ticket of no port was let go
  pub served_strange : (ticket : Ticket) (homes : List (HomeKnown B)) (run : RunKnown) → length homes ≤ ticket.port → Serves (ticket ∷ []) [] homes run homes run
  served_strange ticket homes run far = record {
    steps = steps_none homes;
    same = same_none run;
    strange = ticket ∷ [];
    no_port = All-cons (OfNoPort homes) ticket [] far (All-nil (OfNoPort homes));
    used = λ is weight. omega arith;
    made = λ is weight. omega arith;
  }

  -- the ticket that a call held was taken of the queues before
  pub served_taken : (ticket : Ticket) (kept : List Ticket) (homes homes' : List (HomeKnown B)) (run between run' : RunKnown)
      → Took ticket run between → Serves (ticket ∷ []) kept homes between homes' run' → Serves [] kept homes run homes' run'
  served_taken ticket kept homes homes' run between run' is_taken served =
      let step = took ticket run between is_taken in
      record {
        steps = served.steps;
        same = same_then run between run' step.same served.same;
        strange = served.strange;
        no_port = served.no_port;
        used = λ is weight. let u = served.used (step.same.is_seat is) weight in let q = step.taken_tickets is (weighed weight) in omega arith;
        made = λ is weight. let m = served.made (step.same.is_seat is) weight in let q = step.put_tickets is (weighed weight) in omega arith;
      }

  -- one call after another
  pub served_then : (held kept : List Ticket) (first second third : List (HomeKnown B)) (r s t : RunKnown)
      → Serves held [] first r second s → Serves [] kept second s third t → Serves held kept first r third t
  served_then held kept first second third r s t one two =
      let same : length second ≡ length first = one.steps.count in
      let later = All-weaker (OfNoPort second) (OfNoPort first) (λ u far. (let f : length second ≤ u.port = far in omega arith)) two.strange two.no_port in
      record {
        steps = steps_then first second third one.steps two.steps;
        same = same_then r s t one.same two.same;
        strange = one.strange ++ two.strange;
        no_port = All-append (OfNoPort first) one.strange two.strange one.no_port later;
        used = λ is weight.
            let a = one.used is weight in
            let b = two.used (one.same.is_seat is) weight in
            omega (arith, sum_by-append (weighed weight) one.strange two.strange);
        made = λ is weight.
            let a = one.made is weight in
            let b = two.made (one.same.is_seat is) weight in
            omega arith;
      }

  -- nothing is kept
  pub served_all : (held kept : List Ticket) (homes homes' : List (HomeKnown B)) (run run' : RunKnown) → kept ≡ [] → Serves held kept homes run homes' run' → Serves held [] homes run homes' run'
  served_all held kept homes homes' run run' none served = subst (λ k. Serves held k homes run homes' run') none served

-- a call that found no memory keeps one ticket at most
pub kept_err : {A E : Type 0} (r : Result A E) → IsErr r → (kept : List Ticket) → length kept ≤ 1 → KeptBy r kept
kept_err (Ok x) is kept few = absurd (true≢false (sym is))
kept_err (Err e) is kept few = few
