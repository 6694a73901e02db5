-- The seats of a run in the midst of being joined, and the account of their tickets.
use Rattle.std.proofs.Common.{◌≡◌, ℕ, zero, suc, ◌+◌, ◌-◌, ◌<◌, ◌≤◌, List, [], ◌∷◌, ◌++◌, Option, Some, None, MatchOption, length, slice_get, sym, refl, ap, ◌∙◌, subst, arith, length-append, append_assoc}
use Rattle.std.specs.List.{All, sum_by}
use Rattle.std.proofs.lemmas.List.Sums.{sum_by-cons}
use Rattle.std.proofs.lemmas.List.Elements.{All-head, All-tail, All-append}
use Rattle.std.proofs.lemmas.Option.{slice_get_within}
use Rattle.port_words.specs.declared.home.homes.Ticket.{Ticket}
use Rattle.port_words.specs.home.Seats.{HomeKnown}
use Rattle.run_queue.specs.Account.{all_parts}
use Rattle.run_queue.specs.Seats.{RunKnown, EntryKnown, entry_parts, joined_seat, joined_entry, HasEvery, IsLeftOf, AreOfOneQueue}
use Rattle.run_queue.proofs.SeatLemmas.{all_from_get, get_middle}
use Rattle.port_sched.specs.declared.body.PortBody.{Ghosts}
use Rattle.port_sched.specs.declared.scheduling.SchedEnd.{SchedEnd}
use Rattle.port_sched.specs.declared.scheduling.SchedEnd.TheVariants.{Done, NoMemory}
use Rattle.port_sched.specs.declared.scheduling.SchedSeats.{SchedSeats}
use Rattle.port_sched.specs.declared.schedulers.Scheduler.{Scheduler}
use Rattle.port_sched.specs.declared.waking.JobSeats.{JobSeats}
use Rattle.port_sched.specs.Closing.{joined_homes, CanJoinHomes, IsWhole}
use Rattle.port_sched.specs.Homes.{made_at, made_of, weighed}
use Rattle.port_sched.specs.Schedulers.{EndsAs}
use Rattle.port_sched.specs.Serving.{KeptAtEnd}
use Rattle.port_words.specs.over.Over.{OverKnown}
use Rattle.ticket_account.specs.Account.{IsAccount, IsJobAccount, HasNoTickets}
use Rattle.ticket_account.specs.Run.{AreDealt, HasRun, HomesOfRun, IsDone, HasPutAll, IsSettled}
use Rattle.ticket_account.proofs.Sums.{new_account, served_account, joined_account, joined_job_account, each_once, no_tickets, unused_seat}
use Rattle.ticket_account.proofs.Seats.{found_at, QueueOne, QueueFrom, one_of_fresh, one_after, from_last, from_more, of_one_queue, owners_apart, has_all, AreHeld, held_after, held_both, can_join_homes, same_ports, held_whole, homes_of}

abbrev pub OfNoPort : ℕ → Ticket → Type 0
OfNoPort ports t = ports ≤ t.port

dealt_unused : {B : Type 0} (homes : List _) (bodies : List B) (seats : ℕ) (mine : List (HomeKnown B)) → AreDealt homes bodies seats mine → All HasNoTickets mine
dealt_unused homes bodies seats mine dealt = all_from_get HasNoTickets mine (λ n s e. (dealt.1 n s e).unused)

-- a word of OVER stays the same
same_word : (old new : OverKnown) (end : Option SchedEnd) → EndsAs old new end → new.word ≡ old.word
same_word old new None ends = absurd ends
same_word old new (Some Done) ends = ap (λ (k : OverKnown). k.word) ends.0.1
same_word old new (Some NoMemory) ends = ap (λ (k : OverKnown). k.word) ends.3

-- what a scheduler kept that saw the end of the run
kept_none : (end : Option SchedEnd) (kept : List Ticket) → MatchOption end ⊥ (λ e. KeptAtEnd e kept) → end ≡ Some Done → kept ≡ []
kept_none None kept keeps is = absurd keeps
kept_none (Some Done) kept keeps is = keeps
kept_none (Some NoMemory) kept keeps is = subst (λ (e : Option SchedEnd). MatchOption e ⊥ (λ x. KeptAtEnd x kept)) is keeps

module _ {A : Type 0} where
  pub nil_of : (xs : List A) → length xs ≡ 0 → xs ≡ []
  nil_of [] none = refl
  nil_of (x ∷ xs) none = absurd (omega arith)

  -- where the last of what is left of a list was taken
  pub next_of : (items rest gone whole : List A) (x : A) → items ≡ rest ++ x ∷ [] → items ++ gone ≡ whole
      → (slice_get whole (length rest) ≡ Some x) × (length items ≡ length rest + 1) × (rest ++ (x ∷ gone) ≡ whole)
  next_of items rest gone whole x taken are =
      let all : (rest ++ x ∷ []) ++ gone ≡ whole = ap (λ l. l ++ gone) (sym taken) ∙ are in (
        ap (λ l. slice_get l (length rest)) (sym all) ∙ get_middle rest x gone,
        ap length taken ∙ length-append rest (x ∷ []),
        sym (append_assoc rest (x ∷ []) gone) ∙ all,
      )

-- 0 below a number, and 1 from there on
abbrev far : ℕ → ℕ → ℕ
far zero p = 1
far (suc c) zero = 0
far (suc c) (suc p) = far c p

far_below : (c p : ℕ) → p < c → far c p ≡ 0
far_below zero p lt = absurd (omega arith)
far_below (suc c) zero lt = refl
far_below (suc c) (suc p) lt = far_below c p (omega arith)

far_from : (c p : ℕ) → c ≤ p → far c p ≡ 1
far_from zero p le = refl
far_from (suc c) zero le = absurd (omega arith)
far_from (suc c) (suc p) le = far_from c p (omega arith)

abbrev by_port : ℕ → ℕ → ℕ → ℕ
by_port count port turn = far count port

far_turns : (count port : ℕ) (turns : List ℕ) → port < count → sum_by (by_port count port) turns ≡ 0
far_turns count port [] lt = refl
far_turns count port (t ∷ ts) lt =
    let here = far_below count port lt in
    let one : by_port count port t ≡ far count port = refl in
    let rest = far_turns count port ts lt in
    omega (arith, sum_by-cons (by_port count port) t ts)

far_tickets : (count : ℕ) (tickets : List Ticket) → All (OfNoPort count) tickets → sum_by (weighed (by_port count)) tickets ≡ length tickets
far_tickets count [] all = refl
far_tickets count (t ∷ ts) all =
    let here = far_from count t.port (All-head (OfNoPort count) t ts all) in
    let one : weighed (by_port count) t ≡ far count t.port = refl in
    let rest = far_tickets count ts (All-tail (OfNoPort count) t ts all) in
    omega (arith, sum_by-cons (weighed (by_port count)) t ts)

far_homes : {B : Type 0} (count from : ℕ) (homes : List (HomeKnown B)) → ((n : ℕ) (s : HomeKnown B) → slice_get homes n ≡ Some s → s.port < count) → made_of (by_port count) homes ≡ 0
far_homes count from [] near = refl
far_homes count from (s ∷ ss) near =
    let here : made_at (by_port count s.port) s ≡ 0 = far_turns count s.port s.known.made (near 0 s refl) in
    let rest : made_of (by_port count) ss ≡ 0 = far_homes count from ss (λ n t e. near (suc n) t e) in
    omega (arith, sum_by-cons (λ u. made_at (by_port count u.port) u) s ss)

-- the parts of the injector that a scheduler has
parts_later : (schedulers jobs number parts : ℕ) → 0 < number → parts ≡ entry_parts schedulers jobs number → parts ≡ 1
parts_later schedulers jobs zero parts some is = absurd (omega arith)
parts_later schedulers jobs (suc n) parts some is = is

parts_first : (schedulers jobs number parts : ℕ) → number ≡ 0 → parts ≡ entry_parts schedulers jobs number → parts ≡ 1 + (all_parts - jobs - schedulers)
parts_first schedulers jobs zero parts none is = is
parts_first schedulers jobs (suc n) parts none is = absurd (omega arith)

both_none : (a b : List Ticket) → a ≡ [] → b ≡ [] → a ++ b ≡ []
both_none a b x y = ap (λ l. l ++ b) x ∙ y

module _ {B : Type 0} {g : Ghosts B} {S : List (Scheduler B g)} {J : List (JobSeats B g)} where
  -- the seats of one scheduler, after it has run
  pub record IsPart (run : HasRun S J) (number : ℕ) (s : Scheduler B g) : Type 0 where
    pub queue : QueueOne run.opened.deques run.opened.injector number (all_parts - length S) s.seats.run
    pub entry : s.seats.run.entry.hand.parts ≡ entry_parts (length S) (length J) number
    pub held : AreHeld run.opened.homes run.opened.bodies (length S + length J) 1 s.seats.homes.items
    pub word : s.seats.over.word ≡ run.opened.word
    pub kept : List Ticket
    pub strange : List Ticket
    pub account : IsAccount kept strange s.seats.homes.items s.seats.run
    pub no_port : All (OfNoPort (length run.opened.homes)) strange
    pub all_put : IsDone s → kept ≡ []

  pub part_of : (run : HasRun S J) (number : ℕ) (s : Scheduler B g) → slice_get S number ≡ Some s → IsPart run number s
  part_of run number s e =
      let o = run.opened in
      let count : length S ≡ length run.before = run.ran.count in
      let jobs : length J ≡ length run.before_jobs = run.woke.count in
      let was = found_at run.before number (let w = slice_get_within S number s e in omega arith) in
      let old = was.0 in
      let fresh = o.each number old was.1 in
      let ended = run.ran.each number old s was.1 e in
      let served = ended.tickets.2 in
      let within : number < length o.deques = (let w = slice_get_within S number s e in let d = o.deques_count in omega arith) in
      let unused = unused_seat o.deques o.injector number (entry_parts (length run.before) (length run.before_jobs) number) old.seats.run within fresh.run in
      let rest : all_parts - length o.deques ≡ all_parts - length S = (let d = o.deques_count in omega arith) in
      let total : length run.before + length run.before_jobs ≡ length S + length J = omega arith in
      record {
        queue = subst (λ r. QueueOne o.deques o.injector number r s.seats.run) rest
            (one_after o.deques o.injector number (all_parts - length o.deques) old.seats.run s.seats.run (one_of_fresh o.deques o.injector number _ old.seats.run fresh.run) served.same);
        entry = served.same.entry_parts ∙ ap (λ (r : RunKnown). r.entry.hand.parts) fresh.run ∙ ap (λ n. entry_parts n (length run.before_jobs) number) (sym count)
            ∙ ap (λ n. entry_parts (length S) n number) (sym jobs);
        held = subst (λ t. AreHeld o.homes o.bodies t 1 s.seats.homes.items) total
            (held_after o.homes o.bodies (length run.before + length run.before_jobs) old.seats.homes.items s.seats.homes.items fresh.homes_are served.steps ended.homes);
        word = same_word old.seats.over s.seats.over s.end ended.ends ∙ fresh.over;
        kept = [] ++ ended.tickets.0;
        strange = [] ++ served.strange;
        account = served_account _ [] [] ended.tickets.0 _ _ _ _ unused.0 (new_account _ _ _ (dealt_unused o.homes o.bodies _ old.seats.homes.items fresh.homes_are) unused.1) served;
        no_port = subst (λ n. All (OfNoPort n) served.strange) fresh.homes_are.0 served.no_port;
        all_put = λ done. kept_none s.end ended.tickets.0 ended.tickets.1 done;
      }

  -- the seats of one other job, after the run
  pub record IsJobPart (run : HasRun S J) (j : JobSeats B g) : Type 0 where
    pub injector : j.entry.injector ≡ run.opened.injector
    pub parts : j.entry.hand.parts ≡ 1
    pub held : AreHeld run.opened.homes run.opened.bodies (length S + length J) 1 j.homes.items
    pub kept : List Ticket
    pub account : IsJobAccount kept j.homes.items j.entry
    pub all_put : HasPutAll j → kept ≡ []

  pub job_part_of : (run : HasRun S J) (number : ℕ) (j : JobSeats B g) → slice_get J number ≡ Some j → IsJobPart run j
  job_part_of run number j e =
      let o = run.opened in
      let count : length S ≡ length run.before = run.ran.count in
      let jobs : length J ≡ length run.before_jobs = run.woke.count in
      let was = found_at run.before_jobs number (let w = slice_get_within J number j e in omega arith) in
      let old = was.0 in
      let fresh = o.each_job number old was.1 in
      let woke = (run.woke.each number old j was.1 e).1 in
      let total : length run.before + length run.before_jobs ≡ length S + length J = omega arith in
      let unused = dealt_unused o.homes o.bodies _ old.homes.items fresh.homes_are in
      record {
        injector = woke.tickets.same.injector ∙ ap (λ (k : EntryKnown). k.injector) fresh.entry_is;
        parts = woke.tickets.same.parts ∙ ap (λ (k : EntryKnown). k.hand.parts) fresh.entry_is;
        held = subst (λ t. AreHeld o.homes o.bodies t 1 j.homes.items) total
            (held_after o.homes o.bodies (length run.before + length run.before_jobs) old.homes.items j.homes.items fresh.homes_are woke.tickets.steps woke.homes);
        kept = (run.woke.each number old j was.1 e).0;
        account = record {
          made = λ weight.
              let m = woke.tickets.made weight in
              let none = (no_tickets old.homes.items unused weight).0 in
              let put : sum_by (weighed weight) old.entry.hand.put ≡ 0 = ap (λ (k : EntryKnown). sum_by (weighed weight) k.hand.put) fresh.entry_is in
              omega arith;
          used = λ weight. woke.tickets.used weight ∙ (no_tickets old.homes.items unused weight).1;
          taken = woke.tickets.same.taken ∙ ap (λ (k : EntryKnown). k.hand.taken) fresh.entry_is;
        };
        all_put = woke.all_put;
      }

  -- so many schedulers and jobs aren't joined yet, and the others are
  pub record Gathered (run : HasRun S J) (gone : List (Scheduler B g)) (gone_jobs : List (JobSeats B g)) (left left_jobs : ℕ) (all : SchedSeats B g) : Type 0 where
    pub queue : QueueFrom run.opened.deques run.opened.injector left (length S - left) (all_parts - length S) all.run
    pub entry_later : 0 < left → all.run.entry.hand.parts + left ≡ length S
    pub entry_whole : left ≡ 0 → all.run.entry.hand.parts + left_jobs ≡ all_parts
    pub held : AreHeld run.opened.homes run.opened.bodies (length S + length J) (length S - left + (length J - left_jobs)) all.homes.items
    pub word : all.over.word ≡ run.opened.word
    pub kept : List Ticket
    pub strange : List Ticket
    pub account : IsAccount kept strange all.homes.items all.run
    pub no_port : All (OfNoPort (length run.opened.homes)) strange
    pub all_put : All IsDone gone → All HasPutAll gone_jobs → kept ≡ []

  sizes : (run : HasRun S J) → (length run.opened.deques ≡ length S) × (length J + length S ≤ all_parts)
  sizes run = (let c = run.ran.count in let j = run.woke.count in let d = run.opened.deques_count in let f = run.opened.few in (omega arith, omega arith))

  -- the last scheduler alone
  pub gathered_last : (run : HasRun S J) (s : Scheduler B g) (left : ℕ) → slice_get S left ≡ Some s → left + 1 ≡ length S → Gathered run (s ∷ []) [] left (length J) s.seats
  gathered_last run s left e last =
      let part = part_of run left s e in
      let z = sizes run in
      record {
        queue = subst (λ n. QueueFrom run.opened.deques run.opened.injector left n (all_parts - length S) s.seats.run) (let one : 1 ≡ length S - left = omega arith in one)
            (from_last run.opened.deques run.opened.injector left (all_parts - length S) s.seats.run part.queue (let d = z.0 in omega arith));
        entry_later = λ some. (let p = parts_later (length S) (length J) left _ some part.entry in omega arith);
        entry_whole = λ none. (let p = parts_first (length S) (length J) left _ none part.entry in let f = z.1 in omega arith);
        held = subst (λ n. AreHeld run.opened.homes run.opened.bodies (length S + length J) n s.seats.homes.items) (let one : 1 ≡ length S - left + (length J - length J) = omega arith in one) part.held;
        word = part.word;
        kept = part.kept;
        strange = part.strange;
        account = part.account;
        no_port = part.no_port;
        all_put = λ done jobs. part.all_put (All-head IsDone s [] done);
      }

  -- one scheduler more
  pub gathered_more : (run : HasRun S J) (gone : List (Scheduler B g)) (left : ℕ) (all new : SchedSeats B g) (s : Scheduler B g) → slice_get S left ≡ Some s
      → Gathered run gone [] (left + 1) (length J) all
      → new.homes.items ≡ joined_homes all.homes.items s.seats.homes.items → new.run ≡ joined_seat all.run s.seats.run → new.over.word ≡ all.over.word
      → Gathered run (s ∷ gone) [] left (length J) new
  gathered_more run gone left all new s e before homes queue word =
      let part = part_of run left s e in
      let z = sizes run in
      let within = slice_get_within S left s e in
      let rest = all_parts - length S in
      let apart = owners_apart run.opened.deques run.opened.injector left _ rest all.run s.seats.run before.queue part.queue in
      let ports = same_ports run.opened.homes run.opened.bodies _ _ _ all.homes.items s.seats.homes.items before.held part.held in
      record {
        queue = subst (λ r. QueueFrom run.opened.deques run.opened.injector left (length S - left) rest r) (sym queue)
            (subst (λ n. QueueFrom run.opened.deques run.opened.injector left n rest (joined_seat all.run s.seats.run)) (let one : length S - (left + 1) + 1 ≡ length S - left = omega arith in one)
            (from_more run.opened.deques run.opened.injector left (length S - (left + 1)) rest all.run s.seats.run before.queue part.queue));
        entry_later = λ some. (
            let p = parts_later (length S) (length J) left _ some part.entry in
            let b = before.entry_later (omega arith) in
            let now : new.run.entry.hand.parts ≡ all.run.entry.hand.parts + s.seats.run.entry.hand.parts = ap (λ (r : RunKnown). r.entry.hand.parts) queue in
            omega arith);
        entry_whole = λ none. (
            let p = parts_first (length S) (length J) left _ none part.entry in
            let b = before.entry_later (omega arith) in
            let f = z.1 in
            let now : new.run.entry.hand.parts ≡ all.run.entry.hand.parts + s.seats.run.entry.hand.parts = ap (λ (r : RunKnown). r.entry.hand.parts) queue in
            omega arith);
        held = subst (λ m. AreHeld run.opened.homes run.opened.bodies (length S + length J) (length S - left + (length J - length J)) m) (sym homes)
            (subst (λ n. AreHeld run.opened.homes run.opened.bodies (length S + length J) n (joined_homes all.homes.items s.seats.homes.items))
            (let one : length S - (left + 1) + (length J - length J) + 1 ≡ length S - left + (length J - length J) = omega arith in one)
            (held_both run.opened.homes run.opened.bodies _ _ _ all.homes.items s.seats.homes.items before.held part.held));
        word = word ∙ before.word;
        kept = before.kept ++ part.kept;
        strange = before.strange ++ part.strange;
        account = subst (λ m. IsAccount (before.kept ++ part.kept) (before.strange ++ part.strange) m new.run) (sym homes)
            (subst (λ r. IsAccount (before.kept ++ part.kept) (before.strange ++ part.strange) (joined_homes all.homes.items s.seats.homes.items) r) (sym queue)
            (joined_account _ before.kept before.strange part.kept part.strange _ _ _ _ ports apart before.account part.account));
        no_port = All-append (OfNoPort (length run.opened.homes)) before.strange part.strange before.no_port part.no_port;
        all_put = λ done jobs. both_none before.kept part.kept (before.all_put (All-tail IsDone s gone done) jobs) (part.all_put (All-head IsDone s gone done));
      }

  -- one other job more
  pub gathered_job : (run : HasRun S J) (gone : List (Scheduler B g)) (gone_jobs : List (JobSeats B g)) (left : ℕ) (all new : SchedSeats B g) (j : JobSeats B g) → slice_get J left ≡ Some j
      → Gathered run gone gone_jobs 0 (left + 1) all
      → new.homes.items ≡ joined_homes all.homes.items j.homes.items → new.run ≡ (record all.run { entry = joined_entry all.run.entry j.entry }) → new.over.word ≡ all.over.word
      → Gathered run gone (j ∷ gone_jobs) 0 left new
  gathered_job run gone gone_jobs left all new j e before homes queue word =
      let part = job_part_of run left j e in
      let within = slice_get_within J left j e in
      let q = before.queue in
      let rest = all_parts - length S in
      let ports = same_ports run.opened.homes run.opened.bodies _ _ _ all.homes.items j.homes.items before.held part.held in
      record {
        queue = subst (λ r. QueueFrom run.opened.deques run.opened.injector 0 (length S - 0) rest r) (sym queue)
            (record { ids_are = q.ids_are; injector_is = q.injector_is; seats_are = q.seats_are; below = q.below; above = q.above });
        entry_later = λ some. absurd (omega arith);
        entry_whole = λ none. (
            let b = before.entry_whole refl in
            let p = part.parts in
            let now : new.run.entry.hand.parts ≡ all.run.entry.hand.parts + j.entry.hand.parts = ap (λ (r : RunKnown). r.entry.hand.parts) queue in
            omega arith);
        held = subst (λ m. AreHeld run.opened.homes run.opened.bodies (length S + length J) (length S - 0 + (length J - left)) m) (sym homes)
            (subst (λ n. AreHeld run.opened.homes run.opened.bodies (length S + length J) n (joined_homes all.homes.items j.homes.items))
            (let one : length S - 0 + (length J - (left + 1)) + 1 ≡ length S - 0 + (length J - left) = omega arith in one)
            (held_both run.opened.homes run.opened.bodies _ _ _ all.homes.items j.homes.items before.held part.held));
        word = word ∙ before.word;
        kept = before.kept ++ part.kept;
        strange = before.strange;
        account = subst (λ m. IsAccount (before.kept ++ part.kept) before.strange m new.run) (sym homes)
            (subst (λ r. IsAccount (before.kept ++ part.kept) before.strange (joined_homes all.homes.items j.homes.items) r) (sym queue)
            (joined_job_account _ before.kept before.strange part.kept _ _ _ _ ports before.account part.account));
        no_port = before.no_port;
        all_put = λ done jobs. both_none before.kept part.kept (before.all_put done (All-tail HasPutAll j gone_jobs jobs)) (part.all_put (All-head HasPutAll j gone_jobs jobs));
      }

  -- when all are joined they have every part of the queues
  pub gathered_every : (run : HasRun S J) (gone : List (Scheduler B g)) (gone_jobs : List (JobSeats B g)) (all : SchedSeats B g) → Gathered run gone gone_jobs 0 0 all → HasEvery all.run
  gathered_every run gone gone_jobs all is = record {
    deques = has_all run.opened.deques run.opened.injector (length S - 0) (all_parts - length S) all.run is.queue (let f = (sizes run).1 in omega arith);
    entry = (let w = is.entry_whole refl in omega arith);
  }

  -- the next scheduler can be joined, and so can the next job
  pub can_join_part : (run : HasRun S J) (gone : List (Scheduler B g)) (left : ℕ) (all : SchedSeats B g) (s : Scheduler B g) → slice_get S left ≡ Some s → Gathered run gone [] (left + 1) (length J) all
      → CanJoinHomes all.homes.items s.seats.homes.items × AreOfOneQueue all.run s.seats.run × (s.seats.over.word ≡ all.over.word)
  can_join_part run gone left all s e before =
      let part = part_of run left s e in
      let within = slice_get_within S left s e in (
        can_join_homes run.opened.homes run.opened.bodies _ _ _ all.homes.items s.seats.homes.items before.held part.held,
        of_one_queue run.opened.deques run.opened.injector left _ _ all.run s.seats.run before.queue part.queue (let d = (sizes run).0 in omega arith),
        part.word ∙ sym before.word,
      )

  pub can_join_job : (run : HasRun S J) (gone : List (Scheduler B g)) (gone_jobs : List (JobSeats B g)) (left : ℕ) (all : SchedSeats B g) (j : JobSeats B g) → slice_get J left ≡ Some j
      → Gathered run gone gone_jobs 0 (left + 1) all → CanJoinHomes all.homes.items j.homes.items × (j.entry.injector ≡ all.run.entry.injector)
  can_join_job run gone gone_jobs left all j e before =
      let part = job_part_of run left j e in (
        can_join_homes run.opened.homes run.opened.bodies _ _ _ all.homes.items j.homes.items before.held part.held,
        part.injector ∙ sym before.queue.injector_is,
      )

  -- all schedulers are joined
  pub all_schedulers : (run : HasRun S J) (gone items : List (Scheduler B g)) (all : SchedSeats B g) → items ++ gone ≡ S → length items ≡ 0 → Gathered run gone [] (length items) (length J) all
      → Gathered run S [] 0 (length J) all
  all_schedulers run gone items all are none is =
      let whole : gone ≡ S = ap (λ l. l ++ gone) (sym (nil_of items none)) ∙ are in
      subst (λ (l : List (Scheduler B g)). Gathered run l [] 0 (length J) all) whole (subst (λ n. Gathered run gone [] n (length J) all) none is)

  -- all jobs are
  pub all_jobs : (run : HasRun S J) (gone items : List (JobSeats B g)) (all : SchedSeats B g) → items ++ gone ≡ J → length items ≡ 0 → Gathered run S gone 0 (length items) all → Gathered run S J 0 0 all
  all_jobs run gone items all are none is =
      let whole : gone ≡ J = ap (λ l. l ++ gone) (sym (nil_of items none)) ∙ are in
      subst (λ (l : List (JobSeats B g)). Gathered run S l 0 0 all) whole (subst (λ n. Gathered run S gone 0 n all) none is)

  pub gathered_whole : (run : HasRun S J) (all : SchedSeats B g) → Gathered run S J 0 0 all → All IsWhole all.homes.items
  gathered_whole run all is = held_whole run.opened.homes run.opened.bodies (length S + length J) all.homes.items
      (subst (λ n. AreHeld run.opened.homes run.opened.bodies (length S + length J) n all.homes.items) (let one : length S - 0 + (length J - 0) ≡ length S + length J = omega arith in one) is.held)

  pub gathered_homes : (all : SchedSeats B g) → ((run : HasRun S J) → Gathered run S J 0 0 all) → HomesOfRun S J all.homes.items
  gathered_homes all each run = homes_of run.opened.homes run.opened.bodies _ _ all.homes.items run.opened.each_home (each run).held

  -- no ticket was of no port
  none_strange : (run : HasRun S J) (all : SchedSeats B g) (is : Gathered run S J 0 0 all) (left : List Ticket) → IsLeftOf all.run left → is.strange ≡ []
  none_strange run all is left rest =
      let count = length run.opened.homes in
      let near = far_homes count 0 all.homes.items (λ n s e. (let h = (is.held.1 n s e).port_is in let w = slice_get_within all.homes.items n s e in let l = is.held.0 in omega arith)) in
      let far_ones = far_tickets count is.strange is.no_port in
      let m = is.account.made (by_port count) in
      let u = is.account.used (by_port count) in
      let l = rest (weighed (by_port count)) in
      nil_of is.strange (omega arith)

  pub gathered_settled : (run : HasRun S J) (all : SchedSeats B g) → Gathered run S J 0 0 all → (left : List Ticket) → IsLeftOf all.run left → IsSettled S J all.homes.items
  gathered_settled run all is left rest = record {
    left = left;
    kept = is.kept;
    none_kept = is.all_put;
    each_once = λ weight.
        let e = each_once _ is.kept is.strange left all.homes.items all.run is.account rest weight in
        let none : sum_by (weighed weight) is.strange ≡ 0 = ap (sum_by (weighed weight)) (none_strange run all is left rest) in
        omega arith;
  }
