use Rattle.std.proofs.Common.{◌≡◌, ℕ, ◌+◌, ◌<◌, Option, Some, None, IfSome, IsSomeAnd, List, [], ◌∷◌, length, get_or, vec_len, Vec, Global, ap, ◌∙◌, sym, subst, arith}
use Rattle.task_queue.specs.Items.{of}
use Rattle.lane_tests.specs.declared.lanes.PutJob.{PutJob}
use Rattle.lane_tests.specs.declared.lanes.LaneNumber.{LaneNumber}
use Rattle.lane_tests.proofs.lanes.fan_in.Goals as goal

-- some element of a list that has one
any_of : {X : Type 0} (xs : List X) (n : ℕ) → n < length xs → X
any_of [] n below = absurd (omega arith)
any_of (x ∷ xs) n below = x

weaker : {X : Type 0} (P Q : X → Type 0) → ((x : X) → P x → Q x) → (o : Option X) → IfSome o P → IfSome o Q
weaker P Q more (Some x) it = more x it
weaker P Q more None it = tt

-- what is there has both properties
joined : {X : Type 0} (P Q : X → Type 0) (R : Type 0) → ((x : X) → P x → Q x → R) → (o : Option X) → IfSome o P → IsSomeAnd o Q → R
joined P Q R both (Some x) p q = both x p q
joined P Q R both None p q = absurd q

pub finish_all-requires : goal.finish_all-requires
finish_all-requires g c n e below =
    let jobs : List PutJob = c.in-Some.jobs.items in
    let count : vec_len c.in-Some-Some.ends ≡ vec_len c.in-Some.jobs =
    subst (λ r. IfSome r (λ ends. vec_len ends ≡ vec_len c.in-Some.jobs)) c.in-Some-Some.is-0 c.exchange_all-ends.ensures.len in
    let low : n < vec_len c.in-Some.jobs = omega arith in
    let few : n < length jobs = omega arith in
    let j : PutJob = any_of jobs n few in
    let all = rw c.in-Some-Some.is-0 at c.exchange_all-ends.ensures.sent in
    let same = rw c.in-Some-Some.is-1 at c.exchange_all-ends.ensures.same in
    let lists = c.in-Some.ensures.len in
    let job = c.in-Some.ensures.ends n j (omega arith) in
    weaker _ (λ s. s.lane ≡ c.in-Some-Some.gathered.end.lane)
    (λ s its. ap (λ t. t.lane) its ∙ ap (λ t. t.lane) job ∙ ap (λ t. t.lane) c.in-Ok.ensures.sender ∙ ap (λ t. t.lane) (sym same)) (get_or c.in-Some-Some.ends.items n e) (all n e j low)

pub returns : goal.returns
returns g c =
    let jobs : List PutJob = c.in-Some.jobs.items in
    let count : vec_len c.in-Some-Some.ends ≡ vec_len c.in-Some.jobs =
    subst (λ r. IfSome r (λ ends. vec_len ends ≡ vec_len c.in-Some.jobs)) c.in-Some-Some.is-0 c.exchange_all-ends.ensures.len in
    let all = rw c.in-Some-Some.is-0 at c.exchange_all-ends.ensures.sent in
    let lists = c.in-Some.ensures.len in
    weaker _ (λ items. (n : ℕ) (v : Vec LaneNumber Global) → n < vec_len c.args.lists → of (n + 1) items.items ≡ (get_or c.args.lists.items n v).items)
    (λ items told n v below.
    let low : n < vec_len c.in-Some.jobs = omega arith in
    let few : n < length jobs = omega arith in
    let j : PutJob = any_of jobs n few in
    let ends : n < length c.in-Some-Some.ends.items = omega arith in
    let e = any_of c.in-Some-Some.ends.items n ends in
    let job = c.in-Some.ensures.ends n j below in
    let values = c.in-Some.ensures.values n j v below in
    joined _ (λ s. of s.number items.items ≡ s.sent) (of (n + 1) items.items ≡ (get_or c.args.lists.items n v).items)
    (λ s its whole.
    ap (λ m. of m items.items) (sym (ap (λ t. t.number) its ∙ ap (λ t. t.number) job)) ∙ whole ∙ ap (λ t. t.sent) its ∙ ap (λ l. l.items) values)
    (get_or c.in-Some-Some.ends.items n e) (all n e j low) (told n e (omega arith)))
    c.finish_all.result c.finish_all.ensures
