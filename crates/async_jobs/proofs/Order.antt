-- Why jobs of one key are taken and answered in the order of their submission.
use Rattle.std.proofs.Common.{◌≡◌, ◌≢◌, ℕ, ◌%◌, eqb, cond, Bool, true, false, Some, List, [], ◌∷◌, ◌++◌, map, length, get_or, refl, sym, ap, ◌∙◌, ⊎_elim, subst, append-nil, append_assoc, inl, inr}
use mathlib.Core.List.{IsPrefix}
use Rattle.std.specs.List.{flat_map}
use Rattle.std.proofs.lemmas.Bool.{cases_eq, eq-eqb, ne_eqb}
use Rattle.std.proofs.lemmas.List.{map-append}
use Rattle.std.proofs.lemmas.List.Elements.{filter-append, All-contains}
use Rattle.task_queue.specs.declared.item.Item.{Item}
use Rattle.task_queue.specs.Items.{of, items_of}
use Rattle.task_queue.specs.Lane.{sender_hand, taker_hand}
use Rattle.task_queue.specs.Ends.{ended_of}
use Rattle.task_queue.proofs.Told.{left_always, took}
use Rattle.async_jobs.specs.declared.job.Job.{Job}
use Rattle.async_jobs.specs.declared.job.Done.{Done}
use Rattle.async_jobs.specs.declared.job.WorkItem.{WorkItem}
use Rattle.async_jobs.specs.declared.job.WorkItem.TheVariants.{Work, Finish}
use Rattle.async_jobs.specs.declared.worker.Worked.{Worked}
use Rattle.async_jobs.specs.declared.worker.Worked.TheVariants as worked
use Rattle.async_jobs.specs.Items.{AnyFits, jobs_in, jobs_of, with_key}
use Rattle.async_jobs.specs.Pool.{PoolEnd, Lanes, worker_of, Submitted}
use Rattle.async_jobs.specs.Turns.{Worker, Took, Turned, IsDoneOf}
use Rattle.async_jobs.specs.Order.{share_of, SubmittedByKey, TakenByKey, TakenOnceEnded, AllTakenByKey, AskedJob, asked_by, answered_by, jobs_taken, AnsweredAsTaken, IsPartOf, AnsweredByKey, AllAnsweredByKey}

jobs_in-append : (xs ys : List WorkItem) → jobs_in (xs ++ ys) ≡ jobs_in xs ++ jobs_in ys
jobs_in-append [] ys = refl
jobs_in-append (Work job ∷ xs) ys = ap (λ l. job ∷ l) (jobs_in-append xs ys)
jobs_in-append (Finish ∷ xs) ys = jobs_in-append xs ys

with_key-append : (key : ℕ) (xs ys : List Job) → with_key key (xs ++ ys) ≡ with_key key xs ++ with_key key ys
with_key-append key xs ys = filter-append (λ (j : Job). eqb j.key key) xs ys

jobs_of-append : (key : ℕ) (xs ys : List WorkItem) → jobs_of key (xs ++ ys) ≡ jobs_of key xs ++ jobs_of key ys
jobs_of-append key xs ys = ap (with_key key) (jobs_in-append xs ys) ∙ with_key-append key (jobs_in xs) (jobs_in ys)

-- a job of another key is no job of this one
with_key-other : (key : ℕ) (job : Job) → job.key ≢ key → with_key key (job ∷ []) ≡ []
with_key-other key job other = ap (λ b. cond b (job ∷ []) []) (ne_eqb job.key key other)

cond-nil : (b : Bool) (jobs : List Job) → jobs ≡ [] → cond b jobs [] ≡ []
cond-nil true jobs none = none
cond-nil false jobs none = refl

cond-append : {X : Type 0} (b : Bool) (xs ys : List X) → cond b xs [] ++ cond b ys [] ≡ cond b (xs ++ ys) []
cond-append true xs ys = refl
cond-append false xs ys = refl

share-own : (lanes : Lanes) (n key : ℕ) (jobs : List Job) → n ≡ worker_of lanes key → share_of lanes n key jobs ≡ with_key key jobs
share-own lanes n key jobs own = ap (λ b. cond b (with_key key jobs) []) (eq-eqb n (worker_of lanes key) own)

share-other : (lanes : Lanes) (n key : ℕ) (jobs : List Job) → n ≢ worker_of lanes key → share_of lanes n key jobs ≡ []
share-other lanes n key jobs other = ap (λ b. cond b (with_key key jobs) []) (ne_eqb n (worker_of lanes key) other)

share-none : (lanes : Lanes) (n key : ℕ) (jobs : List Job) → with_key key jobs ≡ [] → share_of lanes n key jobs ≡ []
share-none lanes n key jobs none = cond-nil (eqb n (worker_of lanes key)) (with_key key jobs) none

-- one job is the share of its own worker
share-one_own : (lanes : Lanes) (n key : ℕ) (job : Job) → n ≡ worker_of lanes job.key → with_key key (job ∷ []) ≡ share_of lanes n key (job ∷ [])
share-one_own lanes n key job own =
    ⊎_elim
    (λ (same : job.key ≡ key). sym (share-own lanes n key (job ∷ []) (own ∙ ap (worker_of lanes) same)))
    (λ (other : job.key ≡ key → ⊥). with_key-other key job other ∙ sym (share-none lanes n key (job ∷ []) (with_key-other key job other)))
    (cases_eq job.key key)

-- and of no other
share-one_other : (lanes : Lanes) (n key : ℕ) (job : Job) → n ≢ worker_of lanes job.key → share_of lanes n key (job ∷ []) ≡ []
share-one_other lanes n key job away =
    ⊎_elim
    (λ (same : job.key ≡ key). share-other lanes n key (job ∷ []) (λ own. away (own ∙ ap (worker_of lanes) (sym same))))
    (λ (other : job.key ≡ key → ⊥). share-none lanes n key (job ∷ []) (with_key-other key job other))
    (cases_eq job.key key)

share-cons : (old next : Lanes) (n key : ℕ) (job : Job) (jobs : List Job) → length next ≡ length old
    → share_of old n key (job ∷ []) ++ share_of next n key jobs ≡ share_of old n key (job ∷ jobs)
share-cons old next n key job jobs len =
    let b = eqb n (worker_of old key) in
    ap (λ w. share_of old n key (job ∷ []) ++ cond (eqb n (key % w)) (with_key key jobs) []) len
    ∙ cond-append b (with_key key (job ∷ [])) (with_key key jobs)
    ∙ ap (λ l. cond b l []) (sym (with_key-append key (job ∷ []) jobs))

submitted_one : (old new : Lanes) (job : Job) → Submitted old job new → (n key : ℕ) (e : PoolEnd)
    → jobs_of key (get_or new n e).sent ≡ jobs_of key (get_or old n e).sent ++ share_of old n key (job ∷ [])
submitted_one old new job its n key e =
    let before = get_or old n e in
    ⊎_elim
    (λ (own : n ≡ worker_of old job.key).
    let here : get_or new n e ≡ record before { sent = before.sent ++ Work job ∷ [] } =
    subst (λ m. get_or new m e ≡ record (get_or old m e) { sent = (get_or old m e).sent ++ Work job ∷ [] }) (sym own) (its.own e) in
    ap (λ (s : PoolEnd). jobs_of key s.sent) here
    ∙ jobs_of-append key before.sent (Work job ∷ [])
    ∙ ap (λ l. jobs_of key before.sent ++ l) (share-one_own old n key job own))
    (λ (away : n ≡ worker_of old job.key → ⊥).
    ap (λ (s : PoolEnd). jobs_of key s.sent) (its.others n e away)
    ∙ sym (append-nil (jobs_of key before.sent))
    ∙ ap (λ l. jobs_of key before.sent ++ l) (sym (share-one_other old n key job away)))
    (cases_eq n (worker_of old job.key))

pub submitted_by_key : SubmittedByKey
submitted_by_key old new [] same n key e =
    ap (λ (lanes : Lanes). jobs_of key (get_or lanes n e).sent) same
    ∙ sym (append-nil (jobs_of key (get_or old n e).sent))
    ∙ ap (λ l. jobs_of key (get_or old n e).sent ++ l) (sym (share-none old n key [] refl))
submitted_by_key old new (job ∷ jobs) (next, one, rest) n key e =
    submitted_by_key next new jobs rest n key e
    ∙ ap (λ l. l ++ share_of next n key jobs) (submitted_one old next job one n key e)
    ∙ append_assoc (jobs_of key (get_or old n e).sent) (share_of old n key (job ∷ [])) (share_of next n key jobs)
    ∙ ap (λ l. jobs_of key (get_or old n e).sent ++ l) (share-cons old next n key job jobs one.workers)

pub taken_by_key : TakenByKey
taken_by_key old new jobs all n key e items t ends =
    let s = get_or new n e in
    sym (jobs_of-append key (of s.number t.taken) (of s.number items))
    ∙ ap (jobs_of key) (left_always AnyFits items (taker_hand (Some t.key) t.taken t.ended) (sender_hand (Some s.key) s.number s.made s.sent) ends)
    ∙ submitted_by_key old new jobs all n key e

pub taken_once_ended : TakenOnceEnded
taken_once_ended old new jobs all n key e t among order =
    let s = get_or new n e in
    let (rest, is) : IsPrefix (of s.number t.taken) s.sent = All-contains (λ d. IsPrefix (of d.number t.taken) d.sent) t.ended (ended_of s) order.prefix among in
    (jobs_of key rest, sym (jobs_of-append key (of s.number t.taken) rest) ∙ ap (jobs_of key) is ∙ submitted_by_key old new jobs all n key e)

pub all_taken_by_key : AllTakenByKey
all_taken_by_key old new jobs all n key e t among whole =
    ap (jobs_of key) (took t (ended_of (get_or new n e)) among whole) ∙ submitted_by_key old new jobs all n key e

-- the jobs taken, after one more item
took_jobs : (old new : Worker) (v : WorkItem) → Took old v new → jobs_taken new ≡ jobs_taken old ++ jobs_in (v ∷ [])
took_jobs old new v (x, is, step) =
    let value : Item WorkItem → WorkItem = λ x. x.value in
    ap jobs_taken step
    ∙ ap jobs_in (map-append value old.taken (x ∷ []))
    ∙ jobs_in-append (map value old.taken) (x.value ∷ [])
    ∙ ap (λ v. jobs_taken old ++ jobs_in (v ∷ [])) is

took_asked : (old new : Worker) (v : WorkItem) → Took old v new → map asked_by (jobs_taken new) ≡ map asked_by (jobs_taken old) ++ map asked_by (jobs_in (v ∷ []))
took_asked old new v it = ap (map asked_by) (took_jobs old new v it) ∙ map-append asked_by (jobs_taken old) (jobs_in (v ∷ []))

-- what was done is what the job asks for
done_asked : (job : Job) (done : Done) → IsDoneOf job done
    → asked_by job ≡ record { port = done.port; number = done.number; code = done.code; input = done.input }
done_asked job done is = sym (λ i. record { port = is.port i; number = is.number i; code = is.code i; input = is.input i })

turn_answers : (old new : Worker) (turn : Worked) → Turned old new turn
    → map asked_by (jobs_taken new) ≡ map asked_by (jobs_taken old) ++ answered_by turn
turn_answers old new (worked.Did done) (job, it, is) =
    took_asked old new (Work job) it ∙ ap (λ (a : AskedJob). map asked_by (jobs_taken old) ++ a ∷ []) (done_asked job done is)
turn_answers old new worked.Empty (same, empty, whole) = ap (λ t. map asked_by (jobs_taken t)) same ∙ sym (append-nil (map asked_by (jobs_taken old)))
turn_answers old new worked.Finished it = took_asked old new Finish it
turn_answers old new (worked.NoMemory job) it = took_asked old new (Work job) it

pub answered_as_taken : AnsweredAsTaken
answered_as_taken old new [] same =
    ap (λ (t : Worker). map asked_by (jobs_taken t)) same ∙ sym (append-nil (map asked_by (jobs_taken old)))
answered_as_taken old new (turn ∷ turns) (start, next, same, one, rest) =
    answered_as_taken next new turns rest
    ∙ ap (λ l. l ++ flat_map answered_by turns) (turn_answers start next turn one)
    ∙ append_assoc (map asked_by (jobs_taken start)) (answered_by turn) (flat_map answered_by turns)
    ∙ ap (λ (t : Worker). map asked_by (jobs_taken t) ++ flat_map answered_by (turn ∷ turns)) same

-- a part of a list is a part of a longer one
part_of_more : {X : Type 0} (xs : List X) (y : X) (ys : List X) → IsPartOf xs ys → IsPartOf xs (y ∷ ys)
part_of_more [] y ys part = tt
part_of_more (x ∷ xs) y ys part = inr part

part_of_with : (b : Bool) (job : Job) (mine all : List Job) → IsPartOf (map asked_by mine) (map asked_by all)
    → IsPartOf (map asked_by (cond b (job ∷ mine) mine)) (map asked_by (job ∷ all))
part_of_with true job mine all part = inl (refl, part)
part_of_with false job mine all part = part_of_more (map asked_by mine) (asked_by job) (map asked_by all) part

part_of_items : (key : ℕ) (b : Bool) (v : WorkItem) (mine all : List WorkItem) → IsPartOf (map asked_by (jobs_of key mine)) (map asked_by (jobs_in all))
    → IsPartOf (map asked_by (jobs_of key (cond b (v ∷ mine) mine))) (map asked_by (jobs_in (v ∷ all)))
part_of_items key true (Work job) mine all part = part_of_with (eqb job.key key) job (jobs_of key mine) (jobs_in all) part
part_of_items key false (Work job) mine all part = part_of_more (map asked_by (jobs_of key mine)) (asked_by job) (map asked_by (jobs_in all)) part
part_of_items key true Finish mine all part = part
part_of_items key false Finish mine all part = part

value_of-cond : (b : Bool) (x : Item WorkItem) (xs : List (Item WorkItem))
    → cond b (x.value ∷ map (λ (x : Item WorkItem). x.value) xs) (map (λ (x : Item WorkItem). x.value) xs) ≡ map (λ (x : Item WorkItem). x.value) (cond b (x ∷ xs) xs)
value_of-cond true x xs = refl
value_of-cond false x xs = refl

part_of_taken : (number key : ℕ) (items : List (Item WorkItem))
    → IsPartOf (map asked_by (jobs_of key (of number items))) (map asked_by (jobs_in (map (λ (x : Item WorkItem). x.value) items)))
part_of_taken number key [] = tt
part_of_taken number key (x ∷ xs) =
    let all = map (λ (x : Item WorkItem). x.value) (x ∷ xs) in
    subst (λ l. IsPartOf (map asked_by (jobs_of key l)) (map asked_by (jobs_in all))) (value_of-cond (eqb x.sender number) x (items_of number xs))
    (part_of_items key (eqb x.sender number) x.value (of number xs) (map (λ (x : Item WorkItem). x.value) xs) (part_of_taken number key xs))

pub answered_by_key : AnsweredByKey
answered_by_key first new turns fresh all number key =
    subst (IsPartOf (map asked_by (jobs_of key (of number new.taken))))
    (answered_as_taken first new turns all ∙ ap (λ l. map asked_by (jobs_in (map (λ (x : Item WorkItem). x.value) l)) ++ flat_map answered_by turns) fresh)
    (part_of_taken number key new.taken)

pub all_answered_by_key : AllAnsweredByKey
all_answered_by_key old new jobs all n key e first last turns fresh turned among whole =
    subst (λ l. IsPartOf (map asked_by l) (flat_map answered_by turns)) (all_taken_by_key old new jobs all n key e last among whole)
    (answered_by_key first last turns fresh turned (get_or new n e).number key)
