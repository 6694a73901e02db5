-- The callbacks of a driver with a program, by the answers of its program.
use Rattle.std.proofs.Common.{◌≡◌, ◌≤◌, ◌-◌, ◌^◌, ℕ, min, List, [], ◌∷◌, length, take, true, false, Option, None, Some, IfSome, Result, Ok, Err, refl, ◌∙◌, ap, arith}
use Rattle.std.specs.Prelude.{IsSome, OnOk}
use Rattle.std.specs.Result.{is_err}
use Rattle.std.proofs.lemmas.List.{take-take, length-take}
use Rattle.std.proofs.lemmas.List.Elements.{All-nil, All-cons}
use Rattle.port_signal.specs.declared.outside.Outside.TheVariants.{Failed, Status}
use Rattle.driver_model.specs.Calls.{Callback, ReadyInput, ReadyOutput, Program, Running, Spawn}
use Rattle.outside.specs.declared.child.StatusGot.{StatusGot}
use Rattle.outside.specs.declared.child.StatusGot.TheVariants as got
use Rattle.outside.specs.Children.{ChildView, Stand, Shows, Took, HasStatus}
use Rattle.outside.specs.Causes as outside
use Rattle.port_driver.specs.declared.life.Life.{Life}
use Rattle.port_driver.specs.declared.life.Life.TheVariants.{Fresh, Started, Stopped}
use Rattle.port_driver.specs.Context.{Context}
use Rattle.port_driver.specs.Driven.{Did, Ended}
use Rattle.port_driver.specs.Starting.{Rose}
use Rattle.spawn_driver.specs.Serving.{Serving, SpawnView, HasProgram, own_of, program_of, all_faults, told, status_of}
use Rattle.spawn_driver.specs.Steps.{Takes, Ends, answers_to}
use Rattle.spawn_driver.proofs.Histories.{status-stays}
use Rattle.spawn_driver.proofs.Quiet.{Ended-stop}
use Rattle.spawn_driver.proofs.Offers.{Did-took}
use Rattle.spawn_driver.proofs.Endings.{Did-ended, status-told, status-failed, tells-asked, exact-status}
use Rattle.spawn_driver.proofs.Starts.{Rose-starts}

-- what a driver with this program did, from what it did with the program
pub Did-program : (callback : Callback) (p : Option Serving) (s : Serving) (child : ChildView) (new : Program) (before after : Context) → p ≡ Some s
    → Did Spawn callback (Running s.kept) (Running new) (told s.child) (told child) before after []
    → Did Spawn callback (own_of p) (Running new) (program_of p) (told child) before after []
Did-program callback p s child new before after is did = rw is did

-- the front of the queue was offered
pub Did-offered : (event count b a : ℕ) (bytes : List ℕ) (s : Serving) (child : ChildView) (new : Program) (before after : Context)
    → bytes ≡ take (min (length before.queue) 65536) before.queue → Took b a s.child child bytes count → Takes count s.kept new before after
    → Did Spawn (ReadyOutput event) (Running s.kept) (Running new) (told s.child) (told child) before after []
Did-offered event count b a bytes s child new before after front took takes =
    let most = min (length before.queue) 65536 in
    let took' = rw front at took in
    let within : count ≤ most = omega (arith, took'.within, length-take most before.queue) in
    let shows = rw (take-take count most before.queue within) at took'.shows in
    Did-took event count s.child child s.kept new before after within shows takes

-- the output ended, and the status was asked for
pub Did-asked : (event : ℕ) (status : StatusGot) (b a : ℕ) (s : Serving) (ended child : ChildView) (new : Program) (before after : Context) → s.kept.config.exit_status ≡ true
    → IfSome s.child.stand (λ (stand : Stand). (stand.gives ≡ []) × IsSome stand.ended) → Shows (record s.child { at_end = true }) ended → HasStatus b a ended child status
    → Ends (answers_to (Some status)) s.kept new before after
    → Did Spawn (ReadyInput event) (Running s.kept) (Running new) (told s.child) (told child) before after []
Did-asked event (got.Ended status) b a s ended child new before after asks over first has ends =
    Did-ended event (Status status ∷ []) s.child child s.kept new before after (status-told s.kept.config.exit_status status asks)
    (λ config earlier effects before'.
    tells-asked config earlier event before.caller (Status status ∷ []) effects s.child ended child over first.stand has.shows.stand
    (ap (λ (v : ChildView). v.command) has.shows.shown ∙ ap (λ (v : ChildView). v.command) first.shown)
    (ap (λ (v : ChildView). v.given) has.shows.shown ∙ ap (λ (v : ChildView). v.given) first.shown)
    (ap (λ (v : ChildView). v.fetched) has.shows.shown ∙ ap (λ (v : ChildView). v.fetched) first.shown)
    (ap (λ (v : ChildView). v.at_end) has.shows.shown ∙ ap (λ (v : ChildView). v.at_end) first.shown) refl refl
    (λ st_e st' is on none.
    let is' = rw is at has.status in
    All-cons (λ answer. status_of st' ≡ Some answer) status [] (status-stays st_e st' status on (exact-status st_e status none is')) (All-nil _)) before')
    ends
Did-asked event got.Failed b a s ended child new before after asks over first has ends =
    Did-ended event (Failed ∷ []) s.child child s.kept new before after (status-failed s.kept.config.exit_status asks)
    (λ config earlier effects before'.
    tells-asked config earlier event before.caller (Failed ∷ []) effects s.child ended child over first.stand has.shows.stand
    (ap (λ (v : ChildView). v.command) has.shows.shown ∙ ap (λ (v : ChildView). v.command) first.shown)
    (ap (λ (v : ChildView). v.given) has.shows.shown ∙ ap (λ (v : ChildView). v.given) first.shown)
    (ap (λ (v : ChildView). v.fetched) has.shows.shown ∙ ap (λ (v : ChildView). v.fetched) first.shown)
    (ap (λ (v : ChildView). v.at_end) has.shows.shown ∙ ap (λ (v : ChildView). v.at_end) first.shown) refl refl
    (λ st_e st' is on none. All-nil _) before')
    ends

-- what `stop` of a driver with a program left
pub Ended-program : (p p' : Option Serving) (s s' : Serving) → p ≡ Some s → p' ≡ Some s' → s'.kept ≡ s.kept → Shows (record s.child { stopped = true }) s'.child
    → Ended Spawn (own_of p) (own_of p') (program_of p) (program_of p')
Ended-program p p' s s' is is' same shows = rw (is, is', same) (Ended-stop s.kept s.child s'.child shows)

-- a started driver has a program
pub started-has : (life : Life) (p : Option Serving) → HasProgram life p → life ≡ Started → p ≡ None → ⊥
started-has life p has started none = let bad = rw (started, none) at has in absurd (cc)

-- a fresh driver whose spawner failed has a greater count of faults
pub Rose-refused : (d old : SpawnView) (starts : ℕ) → d ≡ old → HasProgram d.life d.program → old.life ≡ Fresh → outside.Rose d.starts starts
    → Rose (all_faults old) (all_faults (record d { life = Stopped; starts = starts }))
Rose-refused d old starts same has fresh rose =
    let fresh' : d.life ≡ Fresh = ap (λ (v : SpawnView). v.life) same ∙ fresh in
    let none = rw fresh' at has in
    rw (← same, none) (Rose-starts d.starts starts (2 ^ 64 - 1) refl rose)

-- a result that is no error
pub at-ok : {T E P : Type 0} → (r : Result T E) → false ≡ is_err r → OnOk r P → P
at-ok (Ok value) e p = p
at-ok (Err error) e p = absurd (cc)
