-- What a job did by one call after another.
use Rattle.std.proofs.Common.{◌≡◌, List, [], ◌∷◌, refl, ◌∙◌, arith, subst, sym}
use Rattle.std.proofs.lemmas.List.Sums.{sum_by-append}
use Rattle.port_words.specs.declared.home.homes.Ticket.{Ticket}
use Rattle.port_words.specs.home.Seats.{HomeKnown}
use Rattle.run_queue.specs.Seats.{EntryKnown, put_entry}
use Rattle.port_sched.specs.Homes.{HomesUse, weighed}
use Rattle.port_sched.specs.Waking.{IsSameEntry, Wakes}
use Rattle.port_sched.proofs.HomeSteps.{steps_none, steps_then}

pub entry_none : (e : EntryKnown) → IsSameEntry e e
entry_none e = record { injector = refl; parts = refl; taken = refl }

module _ {B : Type 0} where
  -- nothing was done
  pub woke_none : (homes : List (HomeKnown B)) (entry : EntryKnown) → Wakes [] homes entry homes entry
  woke_none homes entry = record { steps = steps_none homes; same = entry_none entry; used = λ weight. refl; made = λ weight. omega arith }

  -- the homes made these tickets, which are kept
  pub woke_kept : (kept : List Ticket) (homes homes' : List (HomeKnown B)) (entry entry' : EntryKnown) → HomesUse [] kept homes homes' → entry' ≡ entry → Wakes kept homes entry homes' entry'
  woke_kept kept homes homes' entry entry' uses same = subst (λ (e : EntryKnown). Wakes kept homes entry homes' e) (sym same) (record {
    steps = uses.steps;
    same = entry_none entry;
    used = λ weight. let u = uses.used_tickets weight in omega arith;
    made = λ weight. let m = uses.made_tickets weight in omega arith;
  })

  -- a home made a ticket, and it was put
  pub woke_put : (ticket : Ticket) (homes homes' : List (HomeKnown B)) (entry entry' : EntryKnown) → HomesUse [] (ticket ∷ []) homes homes' → entry' ≡ put_entry (ticket ∷ []) entry
      → Wakes [] homes entry homes' entry'
  woke_put ticket homes homes' entry entry' uses put = subst (λ (e : EntryKnown). Wakes [] homes entry homes' e) (sym put) (record {
    steps = uses.steps;
    same = record { injector = refl; parts = refl; taken = refl };
    used = λ weight. let u = uses.used_tickets weight in omega arith;
    made = λ weight. let m = uses.made_tickets weight in omega (arith, sum_by-append (weighed weight) entry.hand.put (ticket ∷ []));
  })

  -- one call after another
  pub woke_then : (kept : List Ticket) (first second third : List (HomeKnown B)) (d e f : EntryKnown) → Wakes [] first d second e → Wakes kept second e third f → Wakes kept first d third f
  woke_then kept first second third d e f one two = record {
    steps = steps_then first second third one.steps two.steps;
    same = record { injector = two.same.injector ∙ one.same.injector; parts = two.same.parts ∙ one.same.parts; taken = two.same.taken ∙ one.same.taken };
    used = λ weight. two.used weight ∙ one.used weight;
    made = λ weight. let a = one.made weight in let b = two.made weight in omega arith;
  }
