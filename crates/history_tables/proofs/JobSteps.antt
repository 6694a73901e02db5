-- Jobs that stand by their numbers: which of a key is the last that is done.
use Rattle.std.proofs.Common.{◌≡◌, ◌==◌, ℕ, zero, suc, ◌+◌, ◌-◌, ◌<◌, ◌≤◌, Bool, true, false, ◌||◌, ◌&&◌, not, eqb, ltb, leb, cond, List, [], ◌∷◌, ◌++◌, length, get_or, refl, sym, ap, ◌∙◌, arith, subst, inl, inr}
use Rattle.std.specs.Prelude.{Option, Some, None, Result, Ok, Err, OnOk, nat_lt, if◌then◌else◌}
use Rattle.std.specs.List.{list_all}
use Rattle.std.specs.Ordering.{nat_cmp}
use Rattle.std.specs.BTreeMap.{BTreeMap, get, is_at}
use Rattle.std.specs.BTreeSet.{BTreeSet, contains}
use Rattle.std.proofs.lemmas.Bool.Decides.{nat_tests}
use Rattle.std.proofs.lemmas.Bool.{eqb-true, eq-eqb, ne_eqb, lt-ltb, not-true, and_parts, true≢false, cases_eq}
use Rattle.port_model.specs.declared.effect.Effect.{Effect}
use Rattle.port_model.specs.declared.effect.Effect.TheVariants as effect
use Rattle.port_history.specs.Jobs.{Submitted, is_done, is_submitted, each_of, is_next_of_key, submitted_by}
use Rattle.history_tables.specs.declared.jobs.KeptJob.{KeptJob}
use Rattle.history_tables.specs.declared.jobs.JobTable.{JobTable}
use Rattle.history_tables.specs.JobsKept.{Keeps, job_of, numbered, no_later, first_of, done_at, latest_of, are_next}
use Rattle.history_tables.proofs.Keys.{numbers}

-- which numbers there are

pub submitted-of : (number first : ℕ) (items : List KeptJob) → is_submitted number (numbered first items) ≡ (not (nat_lt number first) && nat_lt number (first + length items))
submitted-of number first [] = grind (arith, nat_tests)
submitted-of number first (job ∷ items) = ap (λ b. (first == number) || b) (submitted-of number (first + 1) items) ∙ grind (arith, nat_tests)

each-above : (number first : ℕ) (items : List KeptJob) (test : Submitted → Bool) → number < first → each_of number test (numbered first items) ≡ true
each-above number first [] test below = refl
each-above number first (job ∷ items) test below =
    rw (ne_eqb first number (λ e. omega arith)) (each-above number (first + 1) items test (omega arith))

-- a test of the one job of a number
each-at : (number first k : ℕ) (items : List KeptJob) (test : Submitted → Bool) (d : KeptJob) → number ≡ first + k → k < length items
    → each_of number test (numbered first items) ≡ test (job_of number (get_or items k d))
each-at number first k [] test d is within = absurd (omega arith)
each-at number first zero (job ∷ items) test d is within =
    let same : first ≡ number = omega arith in
    rw (eq-eqb first number same)
    (ap (λ b. test (job_of first job) && b) (each-above number (first + 1) items test (omega arith)) ∙ (and-true (test (job_of first job)) ∙ ap (λ n. test (job_of n job)) same)) where
      and-true : (b : Bool) → (b && true) ≡ b
      and-true true = refl
      and-true false = refl
each-at number first (suc k) (job ∷ items) test d is within =
    rw (ne_eqb first number (λ e. omega arith)) (each-at number (first + 1) k items test d (omega arith) (omega arith))

pub each-kept : (number : ℕ) (items : List KeptJob) (test : Submitted → Bool) (d : KeptJob) → number < length items
    → each_of number test (numbered 0 items) ≡ test (job_of number (get_or items number d))
each-kept number items test d within = each-at number 0 number items test d (omega arith) within

each-past : (number first : ℕ) (items : List KeptJob) (test : Submitted → Bool) → first + length items ≤ number → each_of number test (numbered first items) ≡ true
each-past number first [] test past = refl
each-past number first (job ∷ items) test past =
    rw (ne_eqb first number (λ e. omega arith)) (each-past number (first + 1) items test (omega arith))

pub each-missing : (number : ℕ) (items : List KeptJob) (test : Submitted → Bool) → length items ≤ number → each_of number test (numbered 0 items) ≡ true
each-missing number items test past = each-past number 0 items test (omega arith)

-- the last of a key that is done

latest-above : (key : ℕ) (done : List ℕ) (first m : ℕ) (items : List KeptJob) → latest_of key done (numbered first items) ≡ Some m → first ≤ m
latest-above key done first m [] is = absurd cc
latest-above key done first m (job ∷ items) is = by-rest (latest_of key done (numbered (first + 1) items)) refl (job.key == key && is_done first done) is (λ n e. latest-above key done (first + 1) n items e) where
  by-rest : (l : Option ℕ) → latest_of key done (numbered (first + 1) items) ≡ l → (b : Bool) → first_of l (if b then Some first else None) ≡ Some m
      → ((n : ℕ) → latest_of key done (numbered (first + 1) items) ≡ Some n → first + 1 ≤ n) → first ≤ m
  by-rest (Some n) e b same more = let h : first + 1 ≤ n = more n e in let k : n ≡ m = cc in omega arith
  by-rest None e true same more = let k : first ≡ m = cc in omega arith
  by-rest None e false same more = absurd cc

abbrev pub is_latest : Option ℕ → ℕ → Bool
is_latest None number = true
is_latest (Some latest) number = not (nat_lt number latest)

pub latest-tells : (key number : ℕ) (done : List ℕ) (first : ℕ) (items : List KeptJob)
    → list_all (λ other. no_later key number done other) (numbered first items) ≡ is_latest (latest_of key done (numbered first items)) number
latest-tells key number done first [] = refl
latest-tells key number done first (job ∷ items) =
    ap (λ b. no_later key number done (job_of first job) && b) (latest-tells key number done (first + 1) items)
    ∙ by-rest (latest_of key done (numbered (first + 1) items)) (λ m e. latest-above key done (first + 1) m items e) (job.key == key) (is_done first done) where
      by-rest : (l : Option ℕ) → ((m : ℕ) → l ≡ Some m → first + 1 ≤ m) → (k d : Bool)
          → (not (k && nat_lt number first && d) && is_latest l number) ≡ is_latest (first_of l (if k && d then Some first else None)) number
      by-rest (Some m) above true true = let h : first + 1 ≤ m = above m refl in grind (arith, nat_tests)
      by-rest (Some m) above true false = let h : first + 1 ≤ m = above m refl in grind (arith, nat_tests)
      by-rest (Some m) above false d = refl
      by-rest None above true true = grind (arith, nat_tests)
      by-rest None above true false = grind (arith, nat_tests)
      by-rest None above false d = refl

-- a number that none of the jobs has changes nothing
latest-other : (key number : ℕ) (done : List ℕ) (first : ℕ) (items : List KeptJob) → ((m : ℕ) → first ≤ m → m < first + length items → eqb number m ≡ false)
    → latest_of key (number ∷ done) (numbered first items) ≡ latest_of key done (numbered first items)
latest-other key number done first [] apart = refl
latest-other key number done first (job ∷ items) apart =
    ap (λ l. first_of l (done_at key (number ∷ done) (job_of first job))) (latest-other key number done (first + 1) items (λ m low high. apart m (omega arith) (omega arith)))
    ∙ ap (λ b. first_of (latest_of key done (numbered (first + 1) items)) (if job.key == key && (b || is_done first done) then Some first else None)) (apart first (omega arith) (omega arith))

pub latest-missing : (key number : ℕ) (done : List ℕ) (items : List KeptJob) → length items ≤ number → latest_of key (number ∷ done) (numbered 0 items) ≡ latest_of key done (numbered 0 items)
latest-missing key number done items past = latest-other key number done 0 items (λ m low high. ne_eqb number m (λ e. omega arith))

is-below : (a b : ℕ) → a < b → not (nat_lt a b) ≡ true → ⊥
is-below a b less t = let e : nat_lt a b ≡ true = lt-ltb a b less in let n : nat_lt a b ≡ false = not-true (nat_lt a b) t in true≢false (sym e ∙ n)

none-later : (key number : ℕ) (done : List ℕ) (first : ℕ) (items : List KeptJob) → number < first → list_all (λ other. no_later key number done other) (numbered first items) ≡ true
    → latest_of key done (numbered first items) ≡ None
none-later key number done first items below none =
    by-latest (latest_of key done (numbered first items)) refl (λ m e. latest-above key done first m items e) (sym (latest-tells key number done first items) ∙ none) where
      by-latest : (l : Option ℕ) → latest_of key done (numbered first items) ≡ l → ((m : ℕ) → latest_of key done (numbered first items) ≡ Some m → first ≤ m)
          → is_latest (latest_of key done (numbered first items)) number ≡ true → latest_of key done (numbered first items) ≡ None
      by-latest None e above tells = e
      by-latest (Some m) e above tells =
          let h : first ≤ m = above m e in
          let t : not (nat_lt number m) ≡ true = ap (λ l. is_latest l number) (sym e) ∙ tells in
          absurd (is-below number m (omega arith) t)

latest-at : (key number first k : ℕ) (done : List ℕ) (items : List KeptJob) (d : KeptJob) → number ≡ first + k → k < length items
    → list_all (λ other. no_later (get_or items k d).key number done other) (numbered first items) ≡ true
    → latest_of key (number ∷ done) (numbered first items) ≡ cond (eqb (get_or items k d).key key) (Some number) (latest_of key done (numbered first items))
latest-at key number first k done [] d is within none = absurd (omega arith)
latest-at key number first zero done (job ∷ items) d is within none =
    let same : number ≡ first = omega arith in
    let rest = (and_parts (no_later job.key number done (job_of first job)) (list_all (λ other. no_later job.key number done other) (numbered (first + 1) items)) none).1 in
    ap (λ l. first_of l (done_at key (number ∷ done) (job_of first job))) (latest-other key number done (first + 1) items (λ m low high. ne_eqb number m (λ e. omega arith)))
    ∙ (ap (λ b. first_of (latest_of key done (numbered (first + 1) items)) (if job.key == key && (b || is_done first done) then Some first else None)) (eq-eqb number first same)
    ∙ by-key (eqb job.key key) refl (λ e. subst (λ m. latest_of m done (numbered (first + 1) items) ≡ None) (eqb-true job.key key e) (none-later job.key number done (first + 1) items (omega arith) rest))
    (ap (λ n. Some n) (sym same))) where
      by-key : (b : Bool) → eqb job.key key ≡ b → (eqb job.key key ≡ true → latest_of key done (numbered (first + 1) items) ≡ None) → Some first ≡ Some number
          → first_of (latest_of key done (numbered (first + 1) items)) (if b && true then Some first else None)
          ≡ cond b (Some number) (first_of (latest_of key done (numbered (first + 1) items)) (if b && is_done first done then Some first else None))
      by-key true e empty same = ap (λ l. first_of l (Some first)) (empty e) ∙ same
      by-key false e empty same = refl
latest-at key number first (suc k) done (job ∷ items) d is within none =
    let rest = (and_parts (no_later (get_or items k d).key number done (job_of first job)) (list_all (λ other. no_later (get_or items k d).key number done other) (numbered (first + 1) items)) none).1 in
    ap (λ l. first_of l (done_at key (number ∷ done) (job_of first job))) (latest-at key number (first + 1) k done items d (omega arith) (omega arith) rest)
    ∙ (ap (λ b. first_of (cond (eqb (get_or items k d).key key) (Some number) (latest_of key done (numbered (first + 1) items))) (if job.key == key && (b || is_done first done) then Some first else None)) (ne_eqb number first (λ e. omega arith))
    ∙ by-key (eqb (get_or items k d).key key)) where
      by-key : (b : Bool) → first_of (cond b (Some number) (latest_of key done (numbered (first + 1) items))) (done_at key done (job_of first job))
          ≡ cond b (Some number) (first_of (latest_of key done (numbered (first + 1) items)) (done_at key done (job_of first job)))
      by-key true = refl
      by-key false = refl

pub latest-kept : (key number : ℕ) (done : List ℕ) (items : List KeptJob) (d : KeptJob) → number < length items
    → list_all (λ other. no_later (get_or items number d).key number done other) (numbered 0 items) ≡ true
    → latest_of key (number ∷ done) (numbered 0 items) ≡ cond (eqb (get_or items number d).key key) (Some number) (latest_of key done (numbered 0 items))
latest-kept key number done items d within none = latest-at key number 0 number done items d (omega arith) within none

-- one more job

pub length-numbered : (first : ℕ) (items : List KeptJob) → length (numbered first items) ≡ length items
length-numbered first [] = refl
length-numbered first (job ∷ items) = omega (arith, length-numbered (first + 1) items)

push-at : (first last : ℕ) (items : List KeptJob) (job : KeptJob) → first + length items ≡ last → numbered first (items ++ job ∷ []) ≡ numbered first items ++ job_of last job ∷ []
push-at first last [] job is = ap (λ n. job_of n job ∷ []) (omega (arith, is))
push-at first last (x ∷ items) job is = ap (λ js. job_of first x ∷ js) (push-at (first + 1) last items job (omega arith))

pub numbered-push : (items : List KeptJob) (job : KeptJob) → numbered 0 (items ++ job ∷ []) ≡ numbered 0 items ++ job_of (length items) job ∷ []
numbered-push items job = push-at 0 (length items) items job (omega arith)

first-assoc : (a b c : Option ℕ) → first_of (first_of a b) c ≡ first_of a (first_of b c)
first-assoc None b c = refl
first-assoc (Some n) b c = refl

first-none : (a : Option ℕ) → a ≡ first_of a None
first-none None = refl
first-none (Some n) = refl

pub latest-push : (key : ℕ) (done : List ℕ) (jobs : List Submitted) (job : Submitted) → latest_of key done (jobs ++ job ∷ []) ≡ first_of (done_at key done job) (latest_of key done jobs)
latest-push key done [] job = first-none (done_at key done job)
latest-push key done (x ∷ jobs) job =
    ap (λ l. first_of l (done_at key done x)) (latest-push key done jobs job) ∙ first-assoc (done_at key done job) (latest_of key done jobs) (done_at key done x)

-- whether all are done

all-from : (done : List ℕ) (first : ℕ) (items : List KeptJob) → ((m : ℕ) → first ≤ m → m < first + length items → is_done m done ≡ true)
    → list_all (λ (job : Submitted). is_done job.number done) (numbered first items) ≡ true
all-from done first [] each = refl
all-from done first (job ∷ items) each =
    ap (λ b. b && list_all (λ (j : Submitted). is_done j.number done) (numbered (first + 1) items)) (each first (omega arith) (omega arith))
    ∙ all-from done (first + 1) items (λ m low high. each m (omega arith) (omega arith))

pub all-done : (table : JobTable) (jobs : List Submitted) (done : List ℕ) → Keeps table jobs done → ((m : ℕ) → m < length table.jobs.items → contains nat_cmp table.told m ≡ true)
    → true ≡ list_all (λ (job : Submitted). is_done job.number done) jobs
all-done table jobs done is each =
    sym (ap (list_all (λ (job : Submitted). is_done job.number done)) is.submitted ∙ all-from done 0 table.jobs.items (λ m low high. sym (is.done_are m) ∙ each m (omega arith)))

next-of : (a b : ℕ) → a ≤ b → (a ≡ b → ⊥) → a + 1 ≤ b
next-of a b le ne = elim (cases_eq a b) [ inl e ↦ absurd (ne e) | inr differ ↦ omega (arith, differ) ]

not-all : (done : List ℕ) (k first : ℕ) (items : List KeptJob) → first ≤ k → k < first + length items → is_done k done ≡ false
    → list_all (λ (job : Submitted). is_done job.number done) (numbered first items) ≡ false
not-all done k first [] low high none = absurd (omega arith)
not-all done k first (job ∷ items) low high none =
    by-number (is_done first done) refl (λ differ. not-all done k (first + 1) items differ (omega arith) none) where
      by-number : (b : Bool) → is_done first done ≡ b → (first + 1 ≤ k → list_all (λ (j : Submitted). is_done j.number done) (numbered (first + 1) items) ≡ false)
          → (b && list_all (λ (j : Submitted). is_done j.number done) (numbered (first + 1) items)) ≡ false
      by-number false e more = refl
      by-number true e more = more (next-of first k low (λ same. true≢false (sym (ap (λ n. is_done n done) (sym same) ∙ e) ∙ none)))

pub some-undone : (table : JobTable) (jobs : List Submitted) (done : List ℕ) (k : ℕ) → Keeps table jobs done → k < length table.jobs.items → contains nat_cmp table.told k ≡ false
    → false ≡ list_all (λ (job : Submitted). is_done job.number done) jobs
some-undone table jobs done k is within none =
    sym (ap (list_all (λ (job : Submitted). is_done job.number done)) is.submitted ∙ not-all done k 0 table.jobs.items (omega arith) (omega arith) (sym (is.done_are k) ∙ none))

-- what a table becomes

or-cond : (b x : Bool) → cond b true x ≡ (b || x)
or-cond true x = refl
or-cond false x = refl

pub told-more : (number : ℕ) (old new : BTreeSet ℕ) (done : List ℕ) → ((q : ℕ) → contains nat_cmp new q ≡ cond (is_at (nat_cmp number) q) true (contains nat_cmp old q))
    → ((q : ℕ) → contains nat_cmp old q ≡ is_done q done) → (q : ℕ) → contains nat_cmp new q ≡ is_done q (number ∷ done)
told-more number old new done updates is q =
    updates q ∙ (ap (λ b. cond b true (contains nat_cmp old q)) (numbers number q) ∙ (ap (λ b. cond (eqb number q) true b) (is q) ∙ or-cond (eqb number q) (is_done q done)))

pub latest-more : (key number : ℕ) (old new : BTreeMap ℕ ℕ) (q : ℕ) → ((p : ℕ) → get nat_cmp new p ≡ cond (is_at (nat_cmp key) p) (Some number) (get nat_cmp old p))
    → get nat_cmp new q ≡ cond (eqb key q) (Some number) (get nat_cmp old q)
latest-more key number old new q updates = updates q ∙ ap (λ b. cond b (Some number) (get nat_cmp old q)) (numbers key q)

pub pushed-latest : (key number q : ℕ) (done : List ℕ) (l : Option ℕ) (told : Bool) → is_done number done ≡ told
    → (if told then cond (eqb key q) (Some number) l else l) ≡ first_of (if (key == q) && is_done number done then Some number else None) l
pushed-latest key number q done l told is = rw is (by-both (eqb key q) told) where
  by-both : (b t : Bool) → (if t then cond b (Some number) l else l) ≡ first_of (if b && t then Some number else None) l
  by-both true true = refl
  by-both true false = refl
  by-both false true = refl
  by-both false false = refl

-- what the last of a key tells
pub latest-says : (table : JobTable) (jobs : List Submitted) (done : List ℕ) (key number : ℕ) → Keeps table jobs done
    → list_all (λ (other : Submitted). no_later key number done other) jobs ≡ is_latest (get nat_cmp table.latest key) number
latest-says table jobs done key number is =
    ap (list_all (λ (other : Submitted). no_later key number done other)) is.submitted
    ∙ (latest-tells key number done 0 table.jobs.items ∙ ap (λ l. is_latest l number) (ap (latest_of key done) (sym is.submitted) ∙ sym (is.latest_are key)))

pub at-most : (latest number : ℕ) → leb latest number ≡ not (nat_lt number latest)
at-most latest number = grind (arith, nat_tests)

pub below-len : (number len n : ℕ) → len ≡ n → nat_lt number len ≡ (not (nat_lt number 0) && nat_lt number (0 + n))
below-len number len n e = grind (arith, nat_tests)

-- a job that was submitted is told done, or one that wasn't
pub tells-kept : (old new : JobTable) (jobs : List Submitted) (done : List ℕ) (number : ℕ) (job : KeptJob) → Keeps old jobs done → number < length old.jobs.items
    → job ≡ get_or old.jobs.items number job → each_of number (is_next_of_key jobs done) jobs ≡ true → new.jobs ≡ old.jobs
    → ((q : ℕ) → contains nat_cmp new.told q ≡ cond (is_at (nat_cmp number) q) true (contains nat_cmp old.told q))
    → ((p : ℕ) → get nat_cmp new.latest p ≡ cond (is_at (nat_cmp job.key) p) (Some number) (get nat_cmp old.latest p)) → Keeps new jobs (number ∷ done)
tells-kept old new jobs done number job is within here next same told latest =
    let items = old.jobs.items in
    let none : list_all (λ (other : Submitted). no_later (get_or items number job).key number done other) (numbered 0 items) ≡ true =
    subst (λ js. list_all (λ (other : Submitted). no_later (get_or items number job).key number done other) js ≡ true) is.submitted
    (sym (each-kept number items (is_next_of_key jobs done) job within) ∙ (ap (each_of number (is_next_of_key jobs done)) (sym is.submitted) ∙ next)) in
    record {
      submitted = is.submitted ∙ ap (λ js. numbered 0 js.items) (sym same);
      done_are = told-more number old.told new.told done told is.done_are;
      latest_are = λ key.
          latest-more job.key number old.latest new.latest key latest
          ∙ (ap (λ l. cond (eqb job.key key) (Some number) l) (is.latest_are key ∙ ap (latest_of key done) is.submitted)
          ∙ (ap (λ (j : KeptJob). cond (eqb j.key key) (Some number) (latest_of key done (numbered 0 items))) here
          ∙ (sym (latest-kept key number done items job within none) ∙ ap (latest_of key (number ∷ done)) (sym is.submitted))));
    }

pub tells-missing : (old new : JobTable) (jobs : List Submitted) (done : List ℕ) (number : ℕ) → Keeps old jobs done → length old.jobs.items ≤ number → new.jobs ≡ old.jobs → new.latest ≡ old.latest
    → ((q : ℕ) → contains nat_cmp new.told q ≡ cond (is_at (nat_cmp number) q) true (contains nat_cmp old.told q)) → Keeps new jobs (number ∷ done)
tells-missing old new jobs done number is past same latest told = record {
  submitted = is.submitted ∙ ap (λ js. numbered 0 js.items) (sym same);
  done_are = told-more number old.told new.told done told is.done_are;
  latest_are = λ key.
      ap (λ m. get nat_cmp m key) latest ∙ (is.latest_are key ∙ (ap (latest_of key done) is.submitted
      ∙ (sym (latest-missing key number done old.jobs.items past) ∙ ap (latest_of key (number ∷ done)) (sym is.submitted))));
}

-- one more job was submitted, which was told done before or wasn't
pub submits-one : (old new : JobTable) (jobs : List Submitted) (done : List ℕ) (key code : ℕ) (input shared : List ℕ) (number : ℕ) (told : Bool) → Keeps old jobs done
    → number ≡ length old.jobs.items → shared ≡ input → new.jobs.items ≡ old.jobs.items ++ record { key = key; code = code; input = shared } ∷ [] → new.told ≡ old.told
    → contains nat_cmp old.told number ≡ told
    → ((q : ℕ) → get nat_cmp new.latest q ≡ (if told then cond (eqb key q) (Some number) (get nat_cmp old.latest q) else get nat_cmp old.latest q))
    → Keeps new (jobs ++ record { number = length jobs; key = key; code = code; input = input } ∷ []) done
submits-one old new jobs done key code input shared number told is last copied items same has latest =
    let count : length jobs ≡ length old.jobs.items = ap length is.submitted ∙ length-numbered 0 old.jobs.items in
    let at : number ≡ length jobs = omega (arith, last, count) in
    record {
      submitted =
          ap (λ js. js ++ record { number = length jobs; key = key; code = code; input = input } ∷ []) is.submitted
          ∙ (ap (λ n. numbered 0 old.jobs.items ++ record { number = n; key = key; code = code; input = input } ∷ []) count
          ∙ (ap (λ i. numbered 0 old.jobs.items ++ record { number = length old.jobs.items; key = key; code = code; input = i } ∷ []) (sym copied)
          ∙ (sym (numbered-push old.jobs.items (record { key = key; code = code; input = shared })) ∙ ap (numbered 0) (sym items))));
      done_are = λ q. ap (λ s. contains nat_cmp s q) same ∙ is.done_are q;
      latest_are = λ q.
          latest q ∙ (ap (λ l. if told then cond (eqb key q) (Some number) l else l) (is.latest_are q)
          ∙ (pushed-latest key number q done (latest_of q done jobs) told (sym (is.done_are number) ∙ has)
          ∙ (ap (λ n. first_of (if (key == q) && is_done n done then Some n else None) (latest_of q done jobs)) at
          ∙ sym (latest-push q done jobs (record { number = length jobs; key = key; code = code; input = input })))));
    }

pub submits-next : {F : Type 0} (r : Result (Unit {0}) F) (old new : JobTable) (number key code : ℕ) (input : List ℕ)
    → OnOk r ((jobs : List Submitted) (done : List ℕ) → Keeps old jobs done → Keeps new (jobs ++ record { number = length jobs; key = key; code = code; input = input } ∷ []) done)
    → OnOk r ((jobs : List Submitted) (done : List ℕ) → Keeps old jobs done → ((number == length jobs) && true) ≡ true
    → Keeps new (jobs ++ record { number = number; key = key; code = code; input = input } ∷ []) done)
submits-next (Ok value) old new number key code input submits = λ jobs done is next.
    subst (λ n. Keeps new (jobs ++ record { number = n; key = key; code = code; input = input } ∷ []) done)
    (sym (eqb-true number (length jobs) (and_parts (number == length jobs) true next).0)) (submits jobs done is)
submits-next (Err fault) old new number key code input submits = submits

-- effects, one after another

pub submitted-cons : (e : Effect) (effects : List Effect) → submitted_by (e ∷ effects) ≡ submitted_by (e ∷ []) ++ submitted_by effects
submitted-cons (effect.Message flag bytes) effects = refl
submitted-cons effect.Eof effects = refl
submitted-cons (effect.Status status) effects = refl
submitted-cons (effect.Busy busy) effects = refl
submitted-cons (effect.Select event dir on) effects = refl
submitted-cons (effect.Unuse event) effects = refl
submitted-cons (effect.Async number key code input) effects = refl
submitted-cons (effect.Watch process) effects = refl
submitted-cons (effect.Reply bytes) effects = refl
submitted-cons effect.ReplyBadarg effects = refl
submitted-cons (effect.Fail reason) effects = refl

and-true : (a b : Bool) → (a && b) ≡ ((a && true) && b)
and-true true b = refl
and-true false b = refl

none-next : (next : ℕ) (effects : List Effect) → are_next next effects ≡ are_next (next + 0) effects
none-next next effects = ap (λ n. are_next n effects) (omega arith)

pub next-cons : (next : ℕ) (e : Effect) (effects : List Effect) → are_next next (e ∷ effects) ≡ (are_next next (e ∷ []) && are_next (next + length (submitted_by (e ∷ []))) effects)
next-cons next (effect.Message flag bytes) effects = none-next next effects
next-cons next effect.Eof effects = none-next next effects
next-cons next (effect.Status status) effects = none-next next effects
next-cons next (effect.Busy busy) effects = none-next next effects
next-cons next (effect.Select event dir on) effects = none-next next effects
next-cons next (effect.Unuse event) effects = none-next next effects
next-cons next (effect.Async number key code input) effects = and-true (number == next) (are_next (next + 1) effects)
next-cons next (effect.Watch process) effects = none-next next effects
next-cons next (effect.Reply bytes) effects = none-next next effects
next-cons next effect.ReplyBadarg effects = none-next next effects
next-cons next (effect.Fail reason) effects = none-next next effects
