-- What the driver of a program keeps and tells, one call after another.
use Rattle.std.proofs.Common.{◌≡◌, ◌≤◌, ℕ, List, [], ◌∷◌, ◌++◌, length, take, Bool, true, false, ◌||◌, Option, None, Some, IfSome, refl, sym, ◌∙◌, ap, arith}
use Rattle.std.specs.Prelude.{ℤ, IsSome, IsSomeAnd, nat_lt, if◌then◌else◌}
use Rattle.std.specs.Option.{option_map}
use Rattle.std.specs.Prelude.{All}
use Rattle.std.proofs.lemmas.List.{append-nil}
use Rattle.std.proofs.lemmas.List.Elements.{All-append, All-nil}
use Rattle.packet_framing.specs.Messages.{rest_of}
use Rattle.port_config.specs.declared.config.Config.{Config}
use Rattle.port_signal.specs.declared.outside.Outside.{Outside}
use Rattle.port_model.specs.declared.effect.Effect.{Effect}
use Rattle.outside.specs.Children.{ChildView, Stand, GoesOn, StandGoesOn}
use Rattle.driver_model.specs.Calls.{DriverCall, Program, Running, Spawn, is_empty}
use Rattle.driver_model.specs.Spawn.{asked, given, got_by, has_failed, has_end, taken_bytes, unended_bytes, program_failed, spawn_queue, holds_busy, read_after, write_after, read_event, write_event, is_oversize, is_refused, program, most_taken, spawn_effects, spawn_answered}
use Rattle.driver_model.specs.Drivers.{holds}
use Rattle.driver_model.specs.Programs.{ToldProgram, Tells, output_ended, statuses, statuses_in}
use Rattle.port_driver.specs.Driven.{held_of}
use Rattle.port_driver.proofs.Driven.{Goes}
use Rattle.spawn_driver.specs.Serving.{status_of, told_of}
use Rattle.spawn_driver.proofs.Oversize.{oversize-nil}

-- what is kept and queued is what the calls led to
pub kept-is : (config : Config) (calls : List DriverCall) (kept : Program) (queue : List ℕ) → held_of (Running kept) queue ≡ holds Spawn config calls
    → (kept ≡ program config calls) × (queue ≡ spawn_queue config calls)
kept-is config calls kept queue e =
    let own : Running kept ≡ Running (program config calls) = ap (λ h. h.own) e in
    let same : kept ≡ program config calls = cc in
    (same, ap (λ h. h.queue) e)

pub holds-is : (config : Config) (calls : List DriverCall) (kept : Program) (queue : List ℕ) → kept ≡ program config calls → queue ≡ spawn_queue config calls
    → held_of (Running kept) queue ≡ holds Spawn config calls
holds-is config calls kept queue same queued = rw (same, queued) refl

-- a call that leaves what the calls say
pub goes : (config : Config) (earlier : List DriverCall) (call : DriverCall) (kept : Program) (queue : List ℕ) (tells : Option ToldProgram) (recorded : List Effect)
    → kept ≡ program config (call ∷ earlier) → queue ≡ spawn_queue config (call ∷ earlier) → recorded ≡ spawn_effects config earlier call
    → spawn_answered config earlier call.outside call.callback ≡ true → IfSome tells (Tells config (call ∷ earlier))
    → Goes Spawn config earlier call (Running kept) tells queue recorded
goes config earlier call kept queue tells recorded same queued effects answered told' =
    record { holds = holds-is config (call ∷ earlier) kept queue same queued; effects = effects; answered = answered; told = told' }

pub given-within : (config : Config) (calls : List DriverCall) → given config calls ≤ length (asked config calls)
given-within config [] = omega arith
given-within config (call ∷ earlier) = omega arith

or-false : (r a b : Bool) → (r || (a || b)) ≡ false → (a ≡ false) × (b ≡ false)
or-false true a b e = absurd (cc)
or-false false true b e = absurd (cc)
or-false false false true e = absurd (cc)
or-false false false false e = (refl, refl)

pub or-stays : (r a b : Bool) → (r ≡ false → a ≡ false) → (r ≡ false → b ≡ false) → (r || (a || b)) ≡ r
or-stays true a b fa fb = refl
or-stays false a b fa fb = rw (fa refl, fb refl) refl

-- as long as messages are found, few bytes were taken, and none header told too many
pub not-refused : (config : Config) (calls : List DriverCall) → is_refused config calls ≡ false
    → (nat_lt most_taken (length (taken_bytes calls)) ≡ false) × (is_oversize config.mode (rest_of config.mode (unended_bytes calls)) ≡ false)
not-refused config [] none = (refl, oversize-nil config.mode)
not-refused config (call ∷ earlier) none = or-false _ _ _ none

-- two records of what is kept are one where their parts are
pub same-program : (a b : Program) → a.config ≡ b.config → a.read ≡ b.read → a.write ≡ b.write → a.rest ≡ b.rest → a.refused ≡ b.refused → a.taken ≡ b.taken
    → a.busy ≡ b.busy → a.failed ≡ b.failed → a ≡ b
same-program a b c r w l f t y d =
    ap (λ x. record a { config = x }) c ∙ (ap (λ x. record a { config = b.config; read = x }) r
    ∙ (ap (λ x. record a { config = b.config; read = b.read; write = x }) w
    ∙ (ap (λ x. record a { config = b.config; read = b.read; write = b.write; rest = x }) l
    ∙ (ap (λ x. record a { config = b.config; read = b.read; write = b.write; rest = b.rest; refused = x }) f
    ∙ (ap (λ x. record a { config = b.config; read = b.read; write = b.write; rest = b.rest; refused = b.refused; taken = x }) t
    ∙ (ap (λ x. record a { config = b.config; read = b.read; write = b.write; rest = b.rest; refused = b.refused; taken = b.taken; busy = x }) y
    ∙ ap (λ x. record a { config = b.config; read = b.read; write = b.write; rest = b.rest; refused = b.refused; taken = b.taken; busy = b.busy; failed = x }) d))))))

-- a call without bytes and without an end leaves what was taken and the rest
pub unread-refused : (config : Config) (earlier : List DriverCall) (call : DriverCall) → got_by call.outside ≡ [] → has_end call.outside ≡ false
    → is_refused config (call ∷ earlier) ≡ is_refused config earlier
unread-refused config earlier call nothing no_end =
    let taken : taken_bytes (call ∷ earlier) ≡ taken_bytes earlier = ap (λ xs. taken_bytes earlier ++ xs) nothing ∙ append-nil (taken_bytes earlier) in
    let unended : unended_bytes (call ∷ earlier) ≡ unended_bytes earlier = rw (no_end, nothing) (append-nil (unended_bytes earlier)) in
    or-stays (is_refused config earlier) _ _
    (λ none. ap (λ xs. nat_lt most_taken (length xs)) taken ∙ (not-refused config earlier none).0)
    (λ none. ap (λ xs. is_oversize config.mode (rest_of config.mode xs)) unended ∙ (not-refused config earlier none).1)

-- what is kept then
pub unread-program : (config : Config) (earlier : List DriverCall) (call : DriverCall) (busy failed : Bool) → got_by call.outside ≡ [] → has_end call.outside ≡ false
    → read_after call.callback (read_event earlier) ≡ read_event earlier → write_after call.callback (write_event earlier) ≡ write_event earlier
    → busy ≡ holds_busy config (call ∷ earlier) → failed ≡ (has_failed call.outside || program_failed earlier)
    → record (program config earlier) { busy = busy; failed = failed } ≡ program config (call ∷ earlier)
unread-program config earlier call busy failed nothing no_end read write b f =
    let refused = unread-refused config earlier call nothing no_end in
    let taken : taken_bytes (call ∷ earlier) ≡ taken_bytes earlier = ap (λ xs. taken_bytes earlier ++ xs) nothing ∙ append-nil (taken_bytes earlier) in
    let unended : unended_bytes (call ∷ earlier) ≡ unended_bytes earlier = rw (no_end, nothing) (append-nil (unended_bytes earlier)) in
    same-program (record (program config earlier) { busy = busy; failed = failed }) (program config (call ∷ earlier)) refl (sym read) (sym write)
    (ap (λ xs. if is_refused config earlier then [] else rest_of config.mode xs) (sym unended) ∙ ap (λ r. if r then [] else rest_of config.mode (unended_bytes (call ∷ earlier))) (sym refused))
    (sym refused) (ap length (sym taken)) b f

-- a program that went on tells what it told
pub status-stays : (old new : Stand) (status : ℤ) → GoesOn old new → status_of old ≡ Some status → status_of new ≡ Some status
status-stays old new status on told' =
    elim (old.gives) as (λ (g : List ℕ). old.gives ≡ g → status_of new ≡ Some status) [
      | [] ↦ λ none.
          let ended : old.ended ≡ Some status = sym (ap (λ g. if is_empty g then old.ended else None) none) ∙ told' in
          let after = rw ended at on.ended in
          rw (after.0, none) after.1
      | (byte ∷ bytes) ↦ λ some. let none : None ≡ Some status = sym (ap (λ g. if is_empty g then old.ended else None) some) ∙ told' in absurd (cc)
    ] refl

pub stays-told : (old new : Stand) → GoesOn old new → IsSome (status_of old) → IsSome (status_of new)
stays-told old new on some =
    elim (status_of old) as (λ (s : Option ℤ). status_of old ≡ s → IsSome (status_of new)) [
      | None ↦ λ e. let bad = rw e at some in absurd (cc)
      | (Some status) ↦ λ e. let n = status-stays old new status on e in rw n refl
    ] refl

-- what a program tells as its status goes on over these answers
pub record StatusGoesOn (old new : Option ℤ) (answers : List Outside) : Type 0 where
  pub keeps : (status : ℤ) → old ≡ Some status → new ≡ Some status
  pub ended : has_end answers ≡ true → IsSome new
  pub told : All (λ status. new ≡ Some status) (statuses_in answers)

-- and whether it tells its status stays
abbrev pub StatusesGoOn : Option (Option ℤ) → Option (Option ℤ) → List Outside → Type 0
StatusesGoOn None new answers = new ≡ None
StatusesGoOn (Some old) new answers = IsSomeAnd new (λ status. StatusGoesOn old status answers)

-- answers that tell no end and no status
pub status-goes-on : (old new : Stand) (answers : List Outside) → GoesOn old new → has_end answers ≡ false → statuses_in answers ≡ []
    → StatusGoesOn (status_of old) (status_of new) answers
status-goes-on old new answers on no_end none = record {
  keeps = λ status e. status-stays old new status on e;
  ended = λ e. let bad = sym e ∙ no_end in absurd (cc);
  told = rw none (All-nil _);
}

pub statuses-stay : (told' : Option (Option ℤ)) → StatusesGoOn told' told' []
statuses-stay None = refl
statuses-stay (Some status) = record { keeps = λ own e. e; ended = λ e. absurd (cc); told = All-nil _ }

-- the statuses of a program that went on from `h` of how it stood
pub statuses-go-on : (s s' : Option Stand) (h : Stand → Stand) (answers : List Outside) → StandGoesOn (option_map h s) s'
    → ((st st' : Stand) → GoesOn (h st) st' → s ≡ Some st → StatusGoesOn (status_of st) (status_of st') answers)
    → StatusesGoOn (option_map status_of s) (option_map status_of s') answers
statuses-go-on None s' h answers on f = rw on refl
statuses-go-on (Some st) None h answers on f = absurd on
statuses-go-on (Some st) (Some st') h answers on f = f st st' on refl

pub statuses-go-on-same : (s s' : Option Stand) (answers : List Outside) → StandGoesOn s s'
    → ((st st' : Stand) → GoesOn st st' → s ≡ Some st → StatusGoesOn (status_of st) (status_of st') answers)
    → StatusesGoOn (option_map status_of s) (option_map status_of s') answers
statuses-go-on-same None s' answers on f = rw on refl
statuses-go-on-same (Some st) None answers on f = absurd on
statuses-go-on-same (Some st) (Some st') answers on f = f st st' on refl

-- what is told after a call, from its parts
pub tells-call : (config : Config) (earlier : List DriverCall) (call : DriverCall) (old new : ToldProgram) → new.command ≡ old.command
    → new.given ≡ take (given config (call ∷ earlier)) (asked config (call ∷ earlier)) → new.taken ≡ old.taken ++ got_by call.outside
    → new.at_end ≡ (has_end call.outside || old.at_end) → StatusesGoOn old.status new.status call.outside → Tells config earlier old → Tells config (call ∷ earlier) new
tells-call config earlier call old new command given' taken over on before = record {
  command = command ∙ before.command;
  given = given';
  taken = taken ∙ ap (λ xs. xs ++ got_by call.outside) before.taken;
  at_end = over ∙ ap (λ b. has_end call.outside || b) before.at_end;
  ended = λ e. ended-on old.status new.status (output_ended earlier) on before.ended e;
  status = statuses-on old.status new.status (statuses earlier) on before.status;
}
  where
    ended : {P : Type 0} (a b : Bool) → (a ≡ true → P) → (b ≡ true → P) → (a || b) ≡ true → P
    ended true b f g e = f refl
    ended false b f g e = g e

    some-stays : (old new : Option ℤ) → ((status : ℤ) → old ≡ Some status → new ≡ Some status) → IsSome old → IsSome new
    some-stays None new keeps some = let bad = some in absurd (cc)
    some-stays (Some status) new keeps some = rw (keeps status refl) refl

    ended-on : (o n : Option (Option ℤ)) (over : Bool) → StatusesGoOn o n call.outside → (over ≡ true → IfSome o (λ (own : Option ℤ). IsSome own))
        → (has_end call.outside || over) ≡ true → IfSome n (λ (own : Option ℤ). IsSome own)
    ended-on None n over on' told' e = rw on' tt
    ended-on (Some o) None over on' told' e = absurd on'
    ended-on (Some o) (Some n) over on' told' e = ended (has_end call.outside) over on'.ended (λ e'. some-stays o n on'.keeps (told' e')) e

    statuses-on : (o n : Option (Option ℤ)) (more : List ℤ) → StatusesGoOn o n call.outside → IfSome o (λ (own : Option ℤ). All (λ (status : ℤ). own ≡ Some status) more)
        → IfSome n (λ (own : Option ℤ). All (λ (status : ℤ). own ≡ Some status) (statuses_in call.outside ++ more))
    statuses-on None n more on' told' = rw on' tt
    statuses-on (Some o) None more on' told' = absurd on'
    statuses-on (Some o) (Some n) more on' told' =
        All-append (λ (status : ℤ). n ≡ Some status) (statuses_in call.outside) more on'.told (λ k d there. on'.keeps _ (told' k d there))

-- what is told of a child that goes on
pub tells-same : (config : Config) (earlier : List DriverCall) (call : DriverCall) (old new : ChildView) → new.command ≡ old.command
    → new.given ≡ take (given config (call ∷ earlier)) (asked config (call ∷ earlier)) → new.fetched ≡ old.fetched ++ got_by call.outside → new.at_end ≡ old.at_end
    → StandGoesOn old.stand new.stand → has_end call.outside ≡ false → statuses_in call.outside ≡ [] → Tells config earlier (told_of old old.stand)
    → Tells config (call ∷ earlier) (told_of new new.stand)
tells-same config earlier call old new command given' taken over on no_end none before =
    tells-call config earlier call (told_of old old.stand) (told_of new new.stand) command given' taken
    (over ∙ ap (λ b. b || old.at_end) (sym no_end))
    (statuses-go-on-same old.stand new.stand call.outside on (λ st st' on' is. status-goes-on st st' call.outside on' no_end none)) before
