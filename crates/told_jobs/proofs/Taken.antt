-- What a worker took of its lane, sender by sender.
use Rattle.std.proofs.Common.{◌≡◌, ℕ, ◌+◌, ◌<◌, ◌≤◌, eqb, cond, Bool, true, false, List, [], ◌∷◌, ◌++◌, map, length, get_or, refl, sym, ap, ◌∙◌, subst, inl, inr, arith, append_assoc, ⊎_elim}
use mathlib.Core.List.{IsPrefix}
use Rattle.std.specs.List.{AllByRecursion, All, Contains, filter}
use Rattle.std.proofs.lemmas.Bool.{cases_lt, eq-eqb}
use Rattle.std.proofs.lemmas.List.{map-append, get_or-map, length-map}
use Rattle.std.proofs.lemmas.List.Elements.{All-contains, Contains-append_left, Contains-get_or, Contains-push, filter-append, recursion_from_All}
use Rattle.task_queue.specs.declared.item.Item.{Item}
use Rattle.task_queue.specs.declared.protocol.Ended.{Ended}
use Rattle.task_queue.specs.Ends.{ended_of}
use Rattle.task_queue.specs.Items.{items_of, of}
use Rattle.async_jobs.specs.declared.job.Job.{Job}
use Rattle.async_jobs.specs.declared.job.WorkItem.{WorkItem}
use Rattle.async_jobs.specs.declared.job.WorkItem.TheVariants.{Work, Finish}
use Rattle.async_jobs.specs.Items.{jobs_in}
use Rattle.async_jobs.specs.Pool.{PoolEnd}
use Rattle.run_jobs.specs.Working.{values}
use Rattle.told_jobs.specs.Runs.{WorkerRun, HasSettled}
use Rattle.told_jobs.proofs.Given.{IsOwn}
use Rattle.told_jobs.proofs.Rising.{In, in-front}

pub prefix-append : {X : Type 0} (front behind : List X) → IsPrefix front (front ++ behind)
prefix-append front behind = (behind, refl)

pub prefix-then : {X : Type 0} (a b c : List X) → IsPrefix a b → IsPrefix b c → IsPrefix a c
prefix-then a b c p q = (p.0 ++ q.0, sym (append_assoc a p.0 q.0) ∙ ap (λ l. l ++ q.0) p.1 ∙ q.1)

pub prefix-map : {X Y : Type 0} (f : X → Y) (a b : List X) → IsPrefix a b → IsPrefix (map f a) (map f b)
prefix-map f a b p = (map f p.0, sym (map-append f a p.0) ∙ ap (map f) p.1)

jobs_in-append : (xs ys : List WorkItem) → jobs_in (xs ++ ys) ≡ jobs_in xs ++ jobs_in ys
jobs_in-append [] ys = refl
jobs_in-append (Work job ∷ xs) ys = ap (λ l. job ∷ l) (jobs_in-append xs ys)
jobs_in-append (Finish ∷ xs) ys = jobs_in-append xs ys

pub prefix-jobs : (a b : List WorkItem) → IsPrefix a b → IsPrefix (jobs_in a) (jobs_in b)
prefix-jobs a b p = (jobs_in p.0, sym (jobs_in-append a p.0) ∙ ap jobs_in p.1)

pub prefix-of : (number : ℕ) (xs ys : List (Item WorkItem)) → IsPrefix (of number xs) (of number (xs ++ ys))
prefix-of number xs ys =
    let value : Item WorkItem → WorkItem = λ x. x.value in
    (of number ys, sym (ap (map value) (filter-append (λ (x : Item WorkItem). eqb x.sender number) xs ys) ∙ map-append value (items_of number xs) (items_of number ys)))

front-of : {X : Type 0} (P : X → Type 0) (xs ys : List X) → AllByRecursion P (xs ++ ys) → AllByRecursion P xs
front-of P [] ys all = tt
front-of P (x ∷ xs) ys all = (all.0, front-of P xs ys all.1)

at-in : {X : Type 0} (P : X → Type 0) (x : X) (xs : List X) → AllByRecursion P xs → In x xs → P x
at-in P x [] all i = absurd i
at-in P x (y ∷ xs) all (inl same) = subst P (sym same) all.0
at-in P x (y ∷ xs) all (inr i) = at-in P x xs all.1 i

all-in : {X : Type 0} (P : X → Type 0) (xs : List X) → ((x : X) → In x xs → P x) → AllByRecursion P xs
all-in P [] each = tt
all-in P (x ∷ xs) each = (each x (inl refl), all-in P xs (λ y i. each y (inr i)))

in-cond : (b : Bool) (x : Item WorkItem) (v : WorkItem) (xs : List (Item WorkItem)) → In v (map (λ (x : Item WorkItem). x.value) xs) → In v (map (λ (x : Item WorkItem). x.value) (cond b (x ∷ xs) xs))
in-cond true x v xs i = inr i
in-cond false x v xs i = i

-- an item is among those of its sender
in-of : (x : Item WorkItem) (items : List (Item WorkItem)) → In x items → In x.value (of x.sender items)
in-of x [] i = absurd i
in-of x (y ∷ items) (inl same) =
    subst (λ b. In x.value (map (λ (x : Item WorkItem). x.value) (cond b (y ∷ items_of x.sender items) (items_of x.sender items)))) (sym (eq-eqb y.sender x.sender (ap (λ z. z.sender) (sym same))))
    (inl (ap (λ z. z.value) same))
in-of x (y ∷ items) (inr i) = in-cond (eqb y.sender x.sender) y x.value (items_of x.sender items) (in-of x items i)

-- each job is of the port of its sender's number
abbrev pub OwnItem : Item WorkItem → Type 0
OwnItem x = IsOwn x.sender x.value

job-cond : (b : Bool) (job : Job) (jobs : List Job) (mine : List WorkItem) → jobs ≡ jobs_in mine → cond b (job ∷ jobs) jobs ≡ jobs_in (cond b (Work job ∷ mine) mine)
job-cond true job jobs mine e = ap (λ l. job ∷ l) e
job-cond false job jobs mine e = e

finish-cond : (b : Bool) (mine : List WorkItem) → jobs_in mine ≡ jobs_in (cond b (Finish ∷ mine) mine)
finish-cond true mine = refl
finish-cond false mine = refl

-- the jobs of a port
abbrev pub for_port : ℕ → List Job → List Job
for_port port jobs = filter (λ (j : Job). eqb j.port port) jobs

value-step : (port sender : ℕ) (v : WorkItem) (all mine : List WorkItem) → IsOwn sender v → for_port port (jobs_in all) ≡ jobs_in mine
    → for_port port (jobs_in (v ∷ all)) ≡ jobs_in (cond (eqb sender port) (v ∷ mine) mine)
value-step port sender (Work job) all mine own e =
    ap (λ n. cond (eqb n port) (job ∷ for_port port (jobs_in all)) (for_port port (jobs_in all))) own ∙ job-cond (eqb sender port) job (for_port port (jobs_in all)) mine e
value-step port sender Finish all mine own e = e ∙ finish-cond (eqb sender port) mine

value_of-cond : (b : Bool) (x : Item WorkItem) (xs : List (Item WorkItem))
    → cond b (x.value ∷ map (λ (x : Item WorkItem). x.value) xs) (map (λ (x : Item WorkItem). x.value) xs) ≡ map (λ (x : Item WorkItem). x.value) (cond b (x ∷ xs) xs)
value_of-cond true x xs = refl
value_of-cond false x xs = refl

-- the jobs of a port are those that its end sent
pub by-sender : (port : ℕ) (items : List (Item WorkItem)) → AllByRecursion OwnItem items → for_port port (jobs_in (values items)) ≡ jobs_in (of port items)
by-sender port [] own = refl
by-sender port (x ∷ items) own =
    value-step port x.sender x.value (values items) (of port items) own.0 (by-sender port items own.1)
    ∙ ap jobs_in (value_of-cond (eqb x.sender port) x (items_of port items))

finish-own : (number : ℕ) (items : List WorkItem) → AllByRecursion (λ item. item ≡ Finish) items → AllByRecursion (IsOwn number) items
finish-own number [] all = tt
finish-own number (item ∷ items) all = (subst (IsOwn number) (sym all.0) tt, finish-own number items all.1)

-- what was taken of an end that was taken in is the first that it sent
taken-of : (ports : ℕ) (w : WorkerRun) (worked : HasSettled ports w) (e : PoolEnd) → Contains w.settled.ended (ended_of e) → IsPrefix (of e.number w.settled.taken) e.sent
taken-of ports w worked e there = All-contains (λ (d : Ended WorkItem). IsPrefix (of d.number w.settled.taken) d.sent) w.settled.ended (ended_of e) worked.order.prefix there

last-there : (ports : ℕ) (w : WorkerRun) (worked : HasSettled ports w) → Contains w.settled.ended (ended_of w.last)
last-there ports w worked = subst (λ l. Contains l (ended_of w.last)) (sym worked.ended) (Contains-push (map ended_of w.ends) (ended_of w.last))

end-there : (ports : ℕ) (w : WorkerRun) (worked : HasSettled ports w) (port : ℕ) (d : PoolEnd) → port < ports → Contains w.settled.ended (ended_of (get_or w.ends port d))
end-there ports w worked port d below =
    let within : port < length w.ends = (let m = worked.ends_many in omega (arith, m, below)) in
    subst (λ l. Contains l (ended_of (get_or w.ends port d))) (sym worked.ended)
    (Contains-append_left (map ended_of w.ends) (ended_of w.last ∷ []) (ended_of (get_or w.ends port d))
    (subst (Contains (map ended_of w.ends)) (get_or-map ended_of w.ends port d (ended_of d) within)
    (Contains-get_or (map ended_of w.ends) port (ended_of d) (let m = length-map w.ends ended_of in omega (arith, m, within)))))

-- the ends of the ports in the lane of a worker: each sent jobs of its own port, and the first made all
pub record OwnEnds (ports : ℕ) (ends : List PoolEnd) : Type 0 where
  pub number : (port : ℕ) (d : PoolEnd) → port < ports → (get_or ends port d).number ≡ port
  pub made : (d : PoolEnd) → 0 < ports → (get_or ends 0 d).made ≡ ports + 1
  pub own : (port : ℕ) (d : PoolEnd) → port < ports → AllByRecursion (IsOwn port) (get_or ends port d).sent

-- what the worker took of a port's end is the first that this sent
pub first-taken : (ports : ℕ) (w : WorkerRun) → HasSettled ports w → OwnEnds ports w.ends → (port : ℕ) (d : PoolEnd) → port < ports
    → IsPrefix (of port w.settled.taken) (get_or w.ends port d).sent
first-taken ports w worked ends port d below =
    subst (λ n. IsPrefix (of n w.settled.taken) (get_or w.ends port d).sent) (ends.number port d below)
    (taken-of ports w worked (get_or w.ends port d) (end-there ports w worked port d below))

own-of : (x : Item WorkItem) (items : List (Item WorkItem)) (sent : List WorkItem) → In x items → IsPrefix (of x.sender items) sent → AllByRecursion (IsOwn x.sender) sent → OwnItem x
own-of x items sent i prefix own =
    at-in (IsOwn x.sender) x.value sent own (subst (In x.value) prefix.1 (in-front x.value (of x.sender items) prefix.0 (in-of x items i)))

-- all that the worker took are jobs of the ports of their senders
pub own-taken : (ports : ℕ) (w : WorkerRun) → HasSettled ports w → OwnEnds ports w.ends → 0 < ports → AllByRecursion OwnItem w.settled.taken
own-taken ports w worked ends some = all-in OwnItem w.settled.taken each where
  first : PoolEnd
  first = get_or w.ends 0 w.last

  senders : AllByRecursion (λ (x : Item WorkItem). x.sender < first.made) w.settled.taken
  senders = recursion_from_All (λ (x : Item WorkItem). x.sender < first.made) w.settled.taken
      ((All-contains (λ (e : Ended WorkItem). e.number ≡ 0 → All (λ (x : Item WorkItem). x.sender < e.made) w.settled.taken × All (λ (d : Ended WorkItem). d.number < e.made) w.settled.ended)
      w.settled.ended (ended_of first) worked.order.counted (end-there ports w worked 0 w.last some) (ends.number 0 w.last some)).0)

  of-last : (x : Item WorkItem) → In x w.settled.taken → x.sender ≡ ports → OwnItem x
  of-last x i same = own-of x w.settled.taken w.last.sent i
      (subst (λ n. IsPrefix (of n w.settled.taken) w.last.sent) (worked.last_is ∙ sym same) (taken-of ports w worked w.last (last-there ports w worked)))
      (finish-own x.sender w.last.sent (recursion_from_All (λ item. item ≡ Finish) w.last.sent worked.finishes))

  each : (x : Item WorkItem) → In x w.settled.taken → OwnItem x
  each x i = ⊎_elim
      (λ (below : x.sender < ports). own-of x w.settled.taken (get_or w.ends x.sender w.last).sent i (first-taken ports w worked ends x.sender w.last below) (ends.own x.sender w.last below))
      (λ (above : ports ≤ x.sender).
      let within : x.sender < first.made = at-in (λ (x : Item WorkItem). x.sender < first.made) x w.settled.taken senders i in
      let made : first.made ≡ ports + 1 = ends.made w.last some in
      of-last x i (omega (arith, above, within, made)))
      (cases_lt x.sender ports)

-- and so the jobs that it took while it worked
pub own-items : (items more : List (Item WorkItem)) → AllByRecursion OwnItem (items ++ more) → AllByRecursion OwnItem items
own-items items more own = front-of OwnItem items more own
