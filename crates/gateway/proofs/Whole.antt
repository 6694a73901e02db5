-- Completeness: a valid run has no other cause than its end, or want of memory.
use Rattle.std.proofs.Common.{inl, inr, ◌≡◌, ℕ, suc, ◌+◌, ◌<◌, ◌⊎◌, List, [], ◌∷◌, ◌++◌, length, map, true, false, Option, Some, None, Result, Ok, Err, refl, sym, ap, subst, ◌∙◌, append-nil, append_assoc, length-append, arith}
use Rattle.std.specs.Prelude.{IfSome, IsSomeAnd, slice_index, slice_index_or}
use Rattle.std.specs.Option.{option_map_or}
use Rattle.std.specs.Str.{bytes_eq}
use Rattle.std.proofs.lemmas.List.{append_cancel_left}
use Rattle.std.proofs.lemmas.List.Sums.{sum_by-append}
use Rattle.std.proofs.lemmas.Slice.Eq.{bytes_eq-Decides}
use Rattle.outside.specs.Causes.{Told, Rose}
use Rattle.outside.specs.Log.{NamedBytes, noted}
use Rattle.port_config.specs.Config.{plain}
use Rattle.driver_model.specs.Calls.{Kind, Own}
use Rattle.driver_model.specs.Drivers.{kind_name, refusal_of}
use Rattle.driver_model.specs.Programs.{ToldProgram}
use Rattle.port_driver.specs.declared.life.Life.{Life}
use Rattle.port_driver.specs.declared.life.StartRefusal.{StartRefusal}
use Rattle.port_driver.specs.declared.life.StartRefusal.TheVariants.{General, Errno, Badarg, StartFault, NoMemory as NoMemoryToStart}
use Rattle.port_driver.specs.Starting as driver
use Rattle.driver_hosts.specs.declared.hosted.Hosted.{Hosted}
use Rattle.driver_hosts.specs.Finding.{HasDrivers}
use Rattle.driver_hosts.specs.Hosts.{is_named}
use Rattle.gateway_script.specs.Script.{script}
use Rattle.run_laws.specs.run_output.run_opening.Faults.{IsOfDriver, LacksAt, RefusedAt}
use Rattle.run_report.specs.declared.cause.Cause.{Cause}
use Rattle.run_report.specs.declared.cause.Cause.TheVariants.{Done, Usage, Script, ReadFault, WriteFault, NoDriver, StartRefused, PollFault, NoMemory, Illegal, Limit, JournalText}
use Rattle.script_input.specs.Contents.{file_of, file_names, named, total, StopsAt}
use Rattle.script_input.specs.Files.{FilesView, HasRead, IsUnread}
use Rattle.script_input.specs.Script.{ScriptRead}
use Rattle.script_input.proofs.Contents.{all-done}
use Rattle.script_input.specs.Words.{AskedRun, Source, FromFile, FromLoad}
use Rattle.script_plan.specs.declared.decl.PortDecl.{PortDecl}
use Rattle.script_plan.specs.declared.fault.ScriptFault.{ScriptFault}
use Rattle.script_plan.specs.declared.step.Step.{Step}
use Rattle.script_plan.specs.Plan.{Plan}
use Rattle.gateway.specs.Run.{Run, AskFor, SaysPlan, PlanRead, PlanFound, Loaded}
use Rattle.gateway.specs.Causes.{IsNoScript, ScriptUnread, ScriptOver, StepUnread, StepOver, CauseComes, AreThere, AllStart, FilesThere, ScriptThere, NoStartFailed, IsValid}
use Rattle.gateway.proofs.Asked.{ok≢err, ok-same, same-source}
use Rattle.gateway.proofs.Loads.{names-split, load-starts}

-- ---- plain facts

some≢none : {A : Type 0} (x : A) → Some x ≡ None → ⊥
some≢none x e = absurd cc

some-same : {A : Type 0} (o : Option A) (a b : A) → o ≡ Some a → o ≡ Some b → a ≡ b
some-same (Some x) a b e f = cc
some-same None a b e f = absurd cc

abbrev first-bytes : List NamedBytes → List ℕ
first-bytes [] = []
first-bytes (x ∷ xs) = x.bytes

abbrev rest-of : {A : Type 0} → List A → List A
rest-of [] = []
rest-of (x ∷ xs) = xs

abbrev first-or : {A : Type 0} → A → List A → A
first-or d [] = d
first-or d (x ∷ xs) = x

-- ---- what reads answered

-- two logs that go on so hold the same bytes
noted-bytes : (log more more' : List NamedBytes) (name name' bytes bytes' : List ℕ) → noted log name bytes ++ more ≡ noted log name' bytes' ++ more' → bytes ≡ bytes'
noted-bytes log more more' name name' bytes bytes' e =
    let here = record { name = name; bytes = bytes } ∷ [] in
    let there = record { name = name'; bytes = bytes' } ∷ [] in
    ap first-bytes (append_cancel_left log (here ++ more) (there ++ more') (sym (append_assoc log here more) ∙ e ∙ append_assoc log there more'))

-- no read answered, though one did
unanswered : (log after more : List NamedBytes) (name bytes : List ℕ) → after ≡ log → after ≡ noted log name bytes ++ more → ⊥
unanswered log after more name bytes e f =
    omega (arith, ap (λ (l : List NamedBytes). length l) (sym e ∙ f), length-append (noted log name bytes) more, length-append log (record { name = name; bytes = bytes } ∷ []))

named-many : (names contents : List (List ℕ)) → length contents ≡ length names → length (named names contents) ≡ length names
named-many [] [] e = refl
named-many [] (c ∷ contents) e = absurd (omega arith)
named-many (n ∷ names) [] e = absurd (omega arith)
named-many (n ∷ names) (c ∷ contents) e = ap suc (named-many names contents (omega arith))

-- ---- the script of a valid run

-- the files of a valid run tell its script, or a read answered it
told-bytes : (told : Told) (name bytes read : List ℕ) (names contents : List (List ℕ)) → IsSomeAnd told (λ files. (files name ≡ Some bytes) × (map files names ≡ map Some contents))
    → IfSome told (λ files. files name ≡ Some read) → read ≡ bytes
told-bytes None name bytes read names contents s h = absurd s
told-bytes (Some files) name bytes read names contents s h = some-same (files name) read bytes h s.0

read-bytes : (before mid after : FilesView) (name bytes read : List ℕ) (names contents : List (List ℕ)) (more : List NamedBytes) → AreThere before after name bytes names contents
    → HasRead 1048576 before mid name read → after.answered ≡ mid.answered ++ more → read ≡ bytes
read-bytes before mid after name bytes read names contents more (inl told) r e = told-bytes before.told name bytes read names contents told r.held
read-bytes before mid after name bytes read names contents more (inr answered) r e =
    noted-bytes before.answered more (named names contents) name name read bytes (ap (λ (l : List NamedBytes). l ++ more) (sym r.answered) ∙ sym e ∙ answered)

told-missing : (told : Told) (name bytes : List ℕ) (names contents : List (List ℕ)) → IsSomeAnd told (λ files. (files name ≡ Some bytes) × (map files names ≡ map Some contents))
    → IsSomeAnd told (λ files. files name ≡ None) → ⊥
told-missing None name bytes names contents s m = s
told-missing (Some files) name bytes names contents s m = some≢none bytes (sym s.0 ∙ m)

told-above : (told : Told) (name bytes : List ℕ) (names contents : List (List ℕ)) → IsSomeAnd told (λ files. (files name ≡ Some bytes) × (map files names ≡ map Some contents))
    → IfSome told (λ files. IsSomeAnd (files name) (λ bytes. 1048576 < length bytes)) → 1048576 < length bytes
told-above None name bytes names contents s a = absurd s
told-above (Some files) name bytes names contents s a = above (files name) s.0 a
  where
    above : (held : Option (List ℕ)) → held ≡ Some bytes → IsSomeAnd held (λ bytes. 1048576 < length bytes) → 1048576 < length bytes
    above held e a = rw e at a

-- ---- the files of a valid run

-- a name among those that are held is held
held-there : (files : List ℕ → Option (List ℕ)) (front : List (List ℕ)) (name : List ℕ) (rest contents : List (List ℕ)) → map files (front ++ name ∷ rest) ≡ map Some contents → files name ≡ None → ⊥
held-there files [] name rest [] e none = absurd cc
held-there files [] name rest (c ∷ contents) e none = some≢none c (sym (ap (first-or None) e) ∙ none)
held-there files (f ∷ front) name rest [] e none = absurd cc
held-there files (f ∷ front) name rest (c ∷ contents) e none = held-there files front name rest contents (ap rest-of e) none

total-cons : (c : List ℕ) (contents : List (List ℕ)) → total (c ∷ contents) ≡ length c + total contents
total-cons c contents = omega (arith, sum_by-append (λ (c : List ℕ). length c) (c ∷ []) contents)

more-than : (limit other n : ℕ) (held : Option (List ℕ)) → n ≡ other → IsSomeAnd held (λ bytes. limit < n + length bytes) → IsSomeAnd held (λ bytes. limit < other + length bytes)
more-than limit other n None e h = absurd h
more-than limit other n (Some b) e h = omega (arith, e)

-- the contents of the first of them, and one more, are no more than all have together
held-total : (files : List ℕ → Option (List ℕ)) (front : List (List ℕ)) (name : List ℕ) (rest contents first : List (List ℕ)) (limit other : ℕ) → map files (front ++ name ∷ rest) ≡ map Some contents
    → map files front ≡ map Some first → IsSomeAnd (files name) (λ bytes. limit < other + total first + length bytes) → limit < other + total contents
held-total files [] name rest [] first limit other e h over = absurd cc
held-total files [] name rest (c ∷ contents) [] limit other e h over =
    let here : limit < other + 0 + length c = subst (λ held. IsSomeAnd held (λ bytes. limit < other + 0 + length bytes)) (ap (first-or None) e) over in
    omega (arith, here, total-cons c contents)
held-total files [] name rest (c ∷ contents) (f ∷ first) limit other e h over = absurd cc
held-total files (f ∷ front) name rest [] first limit other e h over = absurd cc
held-total files (f ∷ front) name rest (c ∷ contents) [] limit other e h over = absurd cc
held-total files (f ∷ front) name rest (c ∷ contents) (c' ∷ first) limit other e h over =
    let same : c' ≡ c = some-same (files f) c' c (ap (first-or None) h) (ap (first-or None) e) in
    let sum : other + total (c' ∷ first) ≡ other + length c + total first = omega (arith, total-cons c' first, ap (λ (b : List ℕ). length b) same) in
    let more = held-total files front name rest contents first limit (other + length c) (ap rest-of e) (ap rest-of h)
    (more-than limit (other + length c + total first) (other + total (c' ∷ first)) (files name) sum over) in
    omega (arith, more, total-cons c contents)

-- the reads answered the files of some of the steps alone, though they answered all
short : (before mid after : FilesView) (name bytes : List ℕ) (steps : List Step) (contents : List (List ℕ)) (line : ℕ) (file : List ℕ) (some : List (List ℕ))
    → length contents ≡ length (file_names steps) → after.answered ≡ noted before.answered name bytes ++ named (file_names steps) contents → (read : List ℕ) → mid.answered ≡ noted before.answered name read
    → StopsAt steps line file some mid after → ⊥
short before mid after name bytes steps contents line file some many all read e s =
    let names = ap (λ (l : List (List ℕ)). length l) (names-split steps s.done s.rest s.step file s.split s.names) in
    let parts = length-append (file_names s.done) (file ∷ file_names s.rest) in
    let left = ap (λ (l : List NamedBytes). length l) (sym all ∙ s.read.answered ∙ ap (λ (l : List NamedBytes). l ++ named (file_names s.done) some) e) in
    let first = length-append (noted before.answered name bytes) (named (file_names steps) contents) in
    let second = length-append (noted before.answered name read) (named (file_names s.done) some) in
    let third = length-append before.answered (record { name = name; bytes = bytes } ∷ []) in
    let fourth = length-append before.answered (record { name = name; bytes = read } ∷ []) in
    omega (arith, names, parts, left, first, second, third, fourth, named-many (file_names steps) contents many, named-many (file_names s.done) some s.read.many)

told-step : (told : Told) (name bytes : List ℕ) (steps done rest : List Step) (step : Step) (file : List ℕ) (contents : List (List ℕ)) → steps ≡ done ++ step ∷ rest → file_of step.act ≡ Some file
    → IsSomeAnd told (λ files. (files name ≡ Some bytes) × (map files (file_names steps) ≡ map Some contents)) → IsSomeAnd told (λ files. files file ≡ None) → ⊥
told-step None name bytes steps done rest step file contents e f s none = s
told-step (Some files) name bytes steps done rest step file contents e f s none =
    held-there files (file_names done) file (file_names rest) contents (ap (map files) (sym (names-split steps done rest step file e f)) ∙ s.1) none

told-over : (told : Told) (name bytes : List ℕ) (steps done rest : List Step) (step : Step) (file : List ℕ) (contents first : List (List ℕ)) → steps ≡ done ++ step ∷ rest → file_of step.act ≡ Some file
    → IsSomeAnd told (λ files. (files name ≡ Some bytes) × (map files (file_names steps) ≡ map Some contents)) → IfSome told (λ files. map files (file_names done) ≡ map Some first)
    → IfSome told (λ files. IsSomeAnd (files file) (λ bytes. 33554432 < total first + length bytes)) → 33554432 < total contents
told-over None name bytes steps done rest step file contents first e f s h over = absurd s
told-over (Some files) name bytes steps done rest step file contents first e f s h over =
    let all = held-total files (file_names done) file (file_names rest) contents first 33554432 0 (ap (map files) (sym (names-split steps done rest step file e f)) ∙ s.1) h
    (more-than 33554432 (0 + total first) (total first) (files file) (omega arith) over) in
    omega (arith, all)

-- ---- drivers

no-decl : PortDecl
no-decl = record { line = 0; name = []; owner = 0; driver = []; config = plain }

-- a driver of a kind that starts doesn't refuse where its outside didn't fail
starts-not : (kind : Kind) (config : _) (before after : ℕ) (refusal : StartRefusal) → IsOfDriver refusal → driver.Refuses kind config before after refusal → refusal_of kind config ≡ None
    → (driver.Rose before after → ⊥) → ⊥
starts-not kind config before after General d r n calm = some≢none _ (sym r ∙ n)
starts-not kind config before after Errno d r n calm = some≢none _ (sym r ∙ n)
starts-not kind config before after Badarg d r n calm = some≢none _ (sym r ∙ n)
starts-not kind config before after StartFault d r n calm = calm r
starts-not kind config before after NoMemoryToStart d r n calm = d

module _ {D : Type 0} where
  no-host : Hosted D
  no-host = record { port = None; driver = None }

  no-lack : (kind : D → Kind) (stage : D → Life) (faults : D → ℕ) (hosts : List (Hosted D)) (ports : List PortDecl) (line handed : ℕ) → HasDrivers kind hosts ports
      → LacksAt kind stage faults ports hosts line handed → ⊥
  no-lack kind stage faults hosts ports line handed has l =
      let a = has l.at l.lacks.within no-decl in
      let b = l.lacks.counted no-decl in
      let c = l.lacks.taken no-decl in
      less a (rw b at c)
    where
      less : {m n : ℕ} → m < n → n ≡ m → ⊥
      less a c = omega arith

  -- the driver that was found for a port has its name
  named-kind : (kind : D → Kind) (name : List ℕ) (host : Hosted D) (driver : D) → host.driver ≡ Some driver → is_named kind name host ≡ true → kind_name (kind driver) ≡ name
  named-kind kind name host driver has is =
      let n : bytes_eq (kind_name (kind driver)) name ≡ true = ap (λ d. option_map_or (λ d. bytes_eq (kind_name (kind d)) name) d false) (sym has) ∙ is in
      (bytes_eq-Decides (kind_name (kind driver)) name).0 n

  no-refusal : (kind : D → Kind) (stage : D → Life) (faults : D → ℕ) (plan : Plan) (hosts after : List (Hosted D)) (line : ℕ) (refusal : StartRefusal) → AllStart plan
      → NoStartFailed faults hosts after → RefusedAt kind stage faults plan.ports hosts after line refusal → ⊥
  no-refusal kind stage faults plan hosts after line refusal starts calm r =
      let within = r.refused.within in
      let place : r.at < length r.places = rw r.found.len within in
      let spot = slice_index r.places r.at in
      let host = slice_index_or hosts spot no-host in
      let u = r.served.unstarted no-decl no-host in
      let is : host.driver ≡ Some u.before = ap (λ (h : Hosted D). h.driver) u.back.handed in
      let named : is_named kind (slice_index_or plan.ports r.at no-decl).driver host ≡ true = r.found.named r.at no-decl no-host place in
      starts-not (kind u.before) (slice_index_or plan.ports r.at no-decl).config (faults u.before) (faults u.after) refusal r.own u.refuses
      (starts r.at no-decl (kind u.before) within (named-kind kind (slice_index_or plan.ports r.at no-decl).driver host u.before is named))
      (calm spot no-host u.before u.after (r.found.within r.at 0 place) is u.back.returned)

  -- ---- a valid run

  module _ (kind : D → Kind) (stage : D → Life) (faults : D → ℕ) (own : D → Own) (program : D → Option ToldProgram) (run : Run D) where
    -- the files of a valid run of the script of a file
    files-there : (name : List ℕ) (v : IsValid kind faults run) → AskFor run.words (FromFile name) → FilesThere run.files run.files_after name v.plan
    files-there name v asks = subst (λ (s : Source). ScriptThere s run.files run.files_after v.plan) (same-source run.words v.asked (FromFile name) v.named asks) v.there

    -- what was read as the script is the script
    bytes-same : (name : List ℕ) (mid : FilesView) (plan : Plan) (said : Result Plan ScriptFault) (more : List NamedBytes) (t : FilesThere run.files run.files_after name plan)
        → ScriptRead run.files mid name said → run.files_after.answered ≡ mid.answered ++ more → script t.bytes ≡ said
    bytes-same name mid plan said more t r log =
        ap script (sym (read-bytes run.files mid run.files_after name t.bytes r.bytes (file_names plan.steps) t.contents more t.there r.read log)) ∙ r.says

    says-same : (source : Source) (mid : FilesView) (plan valid : Plan) (more : List NamedBytes) → SaysPlan source run.files mid plan → ScriptThere source run.files run.files_after valid
        → run.files_after.answered ≡ mid.answered ++ more → plan ≡ valid
    says-same (FromFile name) mid plan valid more r t log = ok-same (script t.bytes) plan valid (bytes-same name mid valid (Ok plan) more t r log) t.says
    says-same (FromLoad number) mid plan valid more r t log = r.1 ∙ sym t

    plan-same : (mid : FilesView) (plan : Plan) (more : List NamedBytes) (v : IsValid kind faults run) → PlanRead run.words run.files mid plan → run.files_after.answered ≡ mid.answered ++ more
        → plan ≡ v.plan
    plan-same mid plan more v r log =
        let same : v.asked.source ≡ r.asked.source = ap (λ (a : AskedRun). a.source) (ok-same run.words v.asked r.asked v.named r.named) in
        says-same r.asked.source mid plan v.plan more r.read (subst (λ (s : Source). ScriptThere s run.files run.files_after v.plan) same v.there) log

    found-same : (plan : Plan) (v : IsValid kind faults run) → PlanFound run.words run.files run.files_after plan → plan ≡ v.plan
    found-same plan v f = plan-same f.mid plan _ v f.script f.files.read.answer.answered

    loaded-same : (plan : Plan) (contents : List (List ℕ)) (v : IsValid kind faults run) → Loaded run.words run.files run.files_after plan contents → plan ≡ v.plan
    loaded-same plan contents v l =
        found-same plan v (record { mid = l.mid; script = l.script; files = all-done plan.steps plan.steps l.mid run.files_after contents l.files refl })

    -- no driver refuses to start with the options of its ports
    starts : (source : Source) (plan : Plan) → ScriptThere source run.files run.files_after plan → AllStart plan
    starts (FromFile name) plan t = t.starts
    starts (FromLoad number) plan t = subst AllStart (sym t) (load-starts number)

    no-script-fault : (fault : ScriptFault) (v : IsValid kind faults run) → IsNoScript run.words run.files run.files_after fault → ⊥
    no-script-fault fault v n =
        let t = files-there n.name v n.named in
        ok≢err (script t.bytes) v.plan fault t.says (bytes-same n.name run.files_after v.plan (Err fault) [] t n.read (sym (append-nil run.files_after.answered)))

    script-there : (v : IsValid kind faults run) → ScriptUnread run.words run.files run.files_after → ⊥
    script-there v u = unread u.unread t.there
      where
        t : FilesThere run.files run.files_after u.name v.plan
        t = files-there u.name v u.named

        unread : IsUnread run.files run.files_after u.name → AreThere run.files run.files_after u.name t.bytes (file_names v.plan.steps) t.contents → ⊥
        unread (inl rose) there = v.reads rose
        unread (inr missing) (inl told) = told-missing run.files.told u.name t.bytes _ _ told missing.1
        unread (inr missing) (inr all) = unanswered run.files.answered run.files_after.answered _ u.name t.bytes u.answered all

    script-fits : (v : IsValid kind faults run) → ScriptOver run.words run.files run.files_after → ⊥
    script-fits v u = over t.there
      where
        t : FilesThere run.files run.files_after u.name v.plan
        t = files-there u.name v u.named

        over : AreThere run.files run.files_after u.name t.bytes (file_names v.plan.steps) t.contents → ⊥
        over (inl told) =
            let long = told-above run.files.told u.name t.bytes _ _ told u.over in
            absurd (omega (arith, long, t.fits))
        over (inr all) = unanswered run.files.answered run.files_after.answered _ u.name t.bytes u.nothing.answered all

    -- the script of a step was read
    step-script : (name : List ℕ) (mid : FilesView) (plan : Plan) → AskFor run.words (FromFile name) → PlanRead run.words run.files mid plan → ScriptRead run.files mid name (Ok plan)
    step-script name mid plan asks r = subst (λ (s : Source). SaysPlan s run.files mid plan) (same-source run.words r.asked (FromFile name) r.named asks) r.read

    step-there : (line : ℕ) (v : IsValid kind faults run) → StepUnread kind run.hosts run.words run.files run.files_after line → ⊥
    step-there line v u = unread u.file.unread t.there
      where
        t : FilesThere run.files run.files_after u.name v.plan
        t = files-there u.name v u.named

        read : ScriptRead run.files u.mid u.name (Ok u.plan)
        read = step-script u.name u.mid u.plan u.named u.script

        same : u.plan ≡ v.plan
        same = plan-same u.mid u.plan _ v u.script u.file.stops.read.answered

        stops : StopsAt v.plan.steps line u.file.name u.file.contents u.mid run.files_after
        stops = subst (λ (p : Plan). StopsAt p.steps line u.file.name u.file.contents u.mid run.files_after) same u.file.stops

        unread : IsUnread u.mid run.files_after u.file.name → AreThere run.files run.files_after u.name t.bytes (file_names v.plan.steps) t.contents → ⊥
        unread (inl rose) there = v.reads (subst (λ n. Rose n run.files_after.reads) read.read.reads rose)
        unread (inr missing) (inl told) = told-step run.files.told u.name t.bytes v.plan.steps stops.done stops.rest stops.step u.file.name t.contents stops.split stops.names told
            (subst (λ t. IsSomeAnd t (λ files. files u.file.name ≡ None)) u.script.told missing.1)
        unread (inr missing) (inr all) =
            short run.files u.mid run.files_after u.name t.bytes v.plan.steps t.contents line u.file.name u.file.contents t.many all read.bytes read.read.answered stops

    files-fit : (line : ℕ) (v : IsValid kind faults run) → StepOver kind run.hosts run.words run.files run.files_after line → ⊥
    files-fit line v u = over t.there
      where
        t : FilesThere run.files run.files_after u.name v.plan
        t = files-there u.name v u.named

        read : ScriptRead run.files u.mid u.name (Ok u.plan)
        read = step-script u.name u.mid u.plan u.named u.script

        same : u.plan ≡ v.plan
        same = plan-same u.mid u.plan _ v u.script u.files.stops.read.answered

        stops : StopsAt v.plan.steps line u.files.name u.files.contents u.mid run.files_after
        stops = subst (λ (p : Plan). StopsAt p.steps line u.files.name u.files.contents u.mid run.files_after) same u.files.stops

        over : AreThere run.files run.files_after u.name t.bytes (file_names v.plan.steps) t.contents → ⊥
        over (inl told) =
            let long = told-over run.files.told u.name t.bytes v.plan.steps stops.done stops.rest stops.step u.files.name t.contents u.files.contents stops.split stops.names told
            (subst (λ t. IfSome t (λ files. map files (file_names stops.done) ≡ map Some u.files.contents)) u.script.told stops.read.held)
            (subst (λ t. IfSome t (λ files. IsSomeAnd (files u.files.name) (λ bytes. 33554432 < total u.files.contents + length bytes))) u.script.told u.files.over) in
            absurd (omega (arith, long, t.files_fit))
        over (inr all) =
            short run.files u.mid run.files_after u.name t.bytes v.plan.steps t.contents line u.files.name u.files.contents t.many all read.bytes read.read.answered stops

    no-wait-failed : (waits : Option ℕ) → IsSomeAnd waits (λ w. Rose run.waits w) → IfSome waits (λ w. Rose run.waits w → ⊥) → ⊥
    no-wait-failed None r v = r
    no-wait-failed (Some w) r v = v r

    pub completes : (cause : Cause) → CauseComes kind stage faults own program run cause → IsValid kind faults run → (cause ≡ Done) ⊎ (cause ≡ NoMemory)
    completes Done c v = inl refl
    completes (Usage at) c v = absurd (ok≢err run.words v.asked at v.named c.0)
    completes (Script fault) c v = absurd (no-script-fault fault v c.0)
    completes (ReadFault line) c v = absurd (elim c.0 [ inl main ↦ script-there v main.1 | inr file ↦ step-there line v file ])
    completes WriteFault c v = absurd (elim c [ inl file ↦ v.writes file | inr put ↦ v.puts put ])
    completes (NoDriver line handed) c v =
        let same = found-same c.0.plan v c.0.found in
        absurd (no-lack kind stage faults run.hosts v.plan.ports line handed v.drivers (subst (λ (p : Plan). LacksAt kind stage faults p.ports run.hosts line handed) same c.0.lacks))
    completes (StartRefused line refusal) c v =
        let same = loaded-same c.0.plan c.0.contents v c.0.loaded in
        absurd (no-refusal kind stage faults v.plan run.hosts run.hosts_after line refusal (starts v.asked.source v.plan v.there) v.starts
        (subst (λ (p : Plan). RefusedAt kind stage faults p.ports run.hosts run.hosts_after line refusal) same c.0.refused))
    completes PollFault c v = absurd (no-wait-failed run.waits_after c.0.rose v.waits)
    completes NoMemory c v = inr refl
    completes (Illegal port row law) c v = absurd c
    completes (Limit line) c v = absurd (elim c.0 [ inl main ↦ script-fits v main.1 | inr files ↦ files-fit line v files ])
    completes (JournalText at) c v = absurd c
