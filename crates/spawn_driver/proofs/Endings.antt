-- The end of the program's output.
use Rattle.std.proofs.Common.{◌≡◌, ℕ, List, [], ◌∷◌, ◌++◌, length, Bool, true, false, ◌||◌, Option, None, Some, IfSome, refl, sym, ◌∙◌, ap, All, append_assoc}
use Rattle.std.specs.Prelude.{IsSome, ℤ, map, codes, nat_lt, if◌then◌else◌}
use Rattle.std.specs.Option.{option_map}
use Rattle.std.proofs.lemmas.List.{append-nil}
use Rattle.std.proofs.lemmas.List.Elements.{All-nil}
use Rattle.packet_framing.specs.declared.mode.Mode.{Mode}
use Rattle.packet_framing.specs.Messages.{last_message, rest_of}
use Rattle.port_config.specs.declared.config.Config.{Config}
use Rattle.port_signal.specs.declared.outside.Outside.{Outside}
use Rattle.port_signal.specs.declared.outside.Outside.TheVariants.{End, Failed, Status}
use Rattle.port_model.specs.declared.event.Dir.TheVariants.{Read}
use Rattle.port_model.specs.declared.effect.Effect.{Effect}
use Rattle.port_model.specs.declared.effect.Effect.TheVariants.{Eof, Select, Fail}
use Rattle.driver_model.specs.Calls.{ReadyInput, DriverCall, call_of, Program, Running, Spawn}
use Rattle.driver_model.specs.Spawn.{asked, given, took_by, got_by, has_failed, program_failed, spawn_queue, taken_bytes, is_refused, rest, program, most_taken, sent, status_effects, answers_fetch, read_event}
use Rattle.driver_model.specs.Programs.{ToldProgram, Tells, statuses_in}
use Rattle.outside.specs.Children.{ChildView, Stand, StandGoesOn, GoesOn, Shows}
use Rattle.port_driver.specs.Context.{Context}
use Rattle.port_driver.specs.Driven.{Did}
use Rattle.port_driver.proofs.Driven.{Goes}
use Rattle.spawn_driver.specs.Serving.{told, told_of, status_of}
use Rattle.spawn_driver.specs.Steps.{Ends, closing_effects, queue_kept}
use Rattle.spawn_driver.proofs.Lists.{left-quiet, front-quiet}
use Rattle.spawn_driver.proofs.Rests.{rest_of-nil}
use Rattle.spawn_driver.proofs.Oversize.{oversize-nil}
use Rattle.spawn_driver.proofs.Plain.{IsPlain, plain-messages, plain-if-eof, Did-plain}
use Rattle.spawn_driver.proofs.Histories.{kept-is, goes, given-within, not-refused, or-stays, same-program, StatusesGoOn, tells-call, statuses-go-on-same, status-stays, stays-told}

-- what was answered to a question for the status, where it is asked or not
pub record IsStatus (asks : Bool) (answers : List Outside) : Type 0 where
  pub took : took_by answers ≡ 0
  pub got : got_by answers ≡ []
  pub answered : answers_fetch asks (End ∷ answers) ≡ true
  pub effects : (if asks then status_effects answers else []) ≡ status_effects answers
  pub plain : (more : List Effect) → IsPlain more → IsPlain (status_effects answers ++ more)

pub status-unasked : (asks : Bool) → asks ≡ false → IsStatus asks []
status-unasked asks e = rw e (record { took = refl; got = refl; answered = refl; effects = refl; plain = λ more p. p })

pub status-told : (asks : Bool) (status : ℤ) → asks ≡ true → IsStatus asks (Status status ∷ [])
status-told asks status e = rw e (record { took = refl; got = refl; answered = refl; effects = refl; plain = λ more p. record { jobs = p.jobs; none = p.none } })

pub status-failed : (asks : Bool) → asks ≡ true → IsStatus asks (Failed ∷ [])
status-failed asks e = rw e (record { took = refl; got = refl; answered = refl; effects = refl; plain = λ more p. record { jobs = p.jobs; none = p.none } })

-- the call in which the output ended
abbrev pub end_call : ℕ → ℕ → List Outside → List Effect → DriverCall
end_call event caller answers effects = call_of (ReadyInput event) caller (End ∷ answers) effects

abbrev pub end_effects : Program → List Outside → List Effect
end_effects kept answers = map sent (last_message kept.config.mode kept.rest) ++ closing_effects kept answers

end-refused : (config : Config) (earlier : List DriverCall) (event caller : ℕ) (answers : List Outside) (effects : List Effect) → got_by answers ≡ []
    → is_refused config (end_call event caller answers effects ∷ earlier) ≡ is_refused config earlier
end-refused config earlier event caller answers effects nothing =
    let taken : taken_bytes earlier ++ got_by answers ≡ taken_bytes earlier = ap (λ xs. taken_bytes earlier ++ xs) nothing ∙ append-nil (taken_bytes earlier) in
    or-stays (is_refused config earlier) _ _ (λ e. ap (λ xs. nat_lt most_taken (length xs)) taken ∙ (not-refused config earlier e).0) (λ e. oversize-nil config.mode)

end-rest : (mode : Mode) (refused : Bool) → [] ≡ (if refused then [] else rest_of mode [])
end-rest mode true = refl
end-rest mode false = sym (rest_of-nil mode)

end-queue : (config : Config) (earlier : List DriverCall) (event caller : ℕ) (answers : List Outside) (effects : List Effect) → took_by answers ≡ 0
    → queue_kept answers (spawn_queue config earlier) ≡ spawn_queue config (end_call event caller answers effects ∷ earlier)
end-queue config earlier event caller answers effects none =
    elim (has_failed answers) as (λ (f : Bool). has_failed answers ≡ f → queue_kept answers (spawn_queue config earlier) ≡ spawn_queue config (end_call event caller answers effects ∷ earlier)) [
      | true ↦ λ e. rw e refl
      | false ↦ λ e. rw (e, none) (sym (left-quiet (program_failed earlier) (given config earlier) (asked config earlier) (given-within config earlier)))
    ] refl

four-parts : (m a b : List Effect) (e : Effect) (c : List Effect) → (((m ++ a) ++ b) ++ (e ∷ [])) ++ c ≡ m ++ (a ++ (b ++ (e ∷ c)))
four-parts m a b e c = append_assoc ((m ++ a) ++ b) (e ∷ []) c ∙ (append_assoc (m ++ a) b (e ∷ c) ∙ append_assoc m a (b ++ (e ∷ c)))

pub end-goes : (config : Config) (earlier : List DriverCall) (event caller : ℕ) (answers : List Outside) (tells : Option ToldProgram) → IsStatus config.exit_status answers
    → IfSome tells (Tells config (end_call event caller answers (end_effects (program config earlier) answers) ∷ earlier))
    → Goes Spawn config earlier (end_call event caller answers (end_effects (program config earlier) answers))
    (Running (record (program config earlier) { rest = []; failed = has_failed answers || program_failed earlier })) tells (queue_kept answers (spawn_queue config earlier))
    (end_effects (program config earlier) answers)
end-goes config earlier event caller answers tells status told' =
    let effects = end_effects (program config earlier) answers in
    let call : DriverCall = end_call event caller answers effects in
    let refused = end-refused config earlier event caller answers effects status.got in
    goes config earlier call (record (program config earlier) { rest = []; failed = has_failed answers || program_failed earlier }) (queue_kept answers (spawn_queue config earlier)) tells effects
    (same-program (record (program config earlier) { rest = []; failed = has_failed answers || program_failed earlier }) (program config (call ∷ earlier)) refl refl refl
    (end-rest config.mode (is_refused config (call ∷ earlier))) (sym refused)
    (ap length (sym (append-nil (taken_bytes earlier))) ∙ ap (λ xs. length (taken_bytes earlier ++ xs)) (sym status.got)) refl refl)
    (end-queue config earlier event caller answers effects status.took)
    (ap (λ es. map sent (last_message config.mode (rest config earlier)) ++ ((if config.eof then Eof ∷ [] else [])
    ++ (es ++ (Select (read_event earlier) Read false ∷ (if config.eof || has_failed answers then [] else Fail (codes "normal") ∷ []))))) (sym status.effects)
    ∙ sym (four-parts (map sent (last_message config.mode (rest config earlier))) (if config.eof then Eof ∷ [] else []) (if config.exit_status then status_effects answers else [])
    (Select (read_event earlier) Read false) (if config.eof || has_failed answers then [] else Fail (codes "normal") ∷ [])))
    status.answered told'

plain-end : (kept : Program) (answers : List Outside) → IsStatus kept.config.exit_status answers → IsPlain (end_effects kept answers)
plain-end kept answers status =
    plain-messages (last_message kept.config.mode kept.rest) _ (plain-if-eof kept.config.eof _ (status.plain _ (last-plain (kept.config.eof || has_failed answers))))
  where
    last-plain : (b : Bool) → IsPlain (Select kept.read Read false ∷ (if b then [] else Fail (codes "normal") ∷ []))
    last-plain true = record { jobs = refl; none = refl }
    last-plain false = record { jobs = refl; none = refl }

pub Did-ended : (event : ℕ) (answers : List Outside) (old_child new_child : ChildView) (old new : Program) (before after : Context) → IsStatus old.config.exit_status answers
    → ((config : Config) (earlier : List DriverCall) (effects : List Effect) → Tells config earlier (told_of old_child old_child.stand)
    → Tells config (end_call event before.caller answers effects ∷ earlier) (told_of new_child new_child.stand))
    → Ends answers old new before after
    → Did Spawn (ReadyInput event) (Running old) (Running new) (told old_child) (told new_child) before after []
Did-ended event answers old_child new_child old new before after status tells ends =
    Did-plain (ReadyInput event) (Running old) (Running new) (told old_child) (told new_child) before after (queue_kept answers before.queue) (before.outside ++ End ∷ answers)
    (End ∷ answers) (end_effects old answers) ends.context refl (plain-end old answers status)
    (λ config earlier stands.
    let e = kept-is config earlier old before.queue stands.holds in
    let status' = rw e.0 at status in
    rw (ends.program, e.0, e.1) (end-goes config earlier event before.caller answers (told new_child) status'
    (tells config earlier (end_effects (program config earlier) answers) stands.told)))

-- a program that has ended has a status
pub ended-status : (s : Stand) → (s.gives ≡ []) × IsSome s.ended → IsSome (status_of s)
ended-status s over = rw over.0 over.1

pub exact-status : (s : Stand) (status : ℤ) → s.gives ≡ [] → s.ended ≡ Some status → status_of s ≡ Some status
exact-status s status none e = rw none e

-- what is told where the status isn't asked for
pub tells-unasked : (config : Config) (earlier : List DriverCall) (event caller : ℕ) (effects : List Effect) (old ended : ChildView)
    → IfSome old.stand (λ (s : Stand). (s.gives ≡ []) × IsSome s.ended) → Shows (record old { at_end = true }) ended
    → Tells config earlier (told_of old old.stand) → Tells config (end_call event caller [] effects ∷ earlier) (told_of ended ended.stand)
tells-unasked config earlier event caller effects old ended over shows before =
    tells-call config earlier (end_call event caller [] effects) (told_of old old.stand) (told_of ended ended.stand) (ap (λ c. c.command) shows.shown)
    (ap (λ c. c.given) shows.shown ∙ (before.given ∙ sym (front-quiet (given config earlier) (asked config earlier) [] (given-within config earlier))))
    (ap (λ c. c.fetched) shows.shown ∙ sym (append-nil old.fetched)) (ap (λ c. c.at_end) shows.shown)
    (statuses-go-on-same old.stand ended.stand (End ∷ []) shows.stand
    (λ st st' on is.
    let over' = rw is at over in
    record { keeps = λ status e. status-stays st st' status on e; ended = λ e. stays-told st st' on (ended-status st over'); told = All-nil _ }))
    before

-- and where it is, and these answers came
pub tells-asked : (config : Config) (earlier : List DriverCall) (event caller : ℕ) (answers : List Outside) (effects : List Effect) (old ended new : ChildView)
    → IfSome old.stand (λ (s : Stand). (s.gives ≡ []) × IsSome s.ended) → StandGoesOn old.stand ended.stand → StandGoesOn ended.stand new.stand
    → new.command ≡ old.command → new.given ≡ old.given → new.fetched ≡ old.fetched → new.at_end ≡ true → took_by answers ≡ 0 → got_by answers ≡ []
    → ((st_e st' : Stand) → ended.stand ≡ Some st_e → GoesOn st_e st' → st_e.gives ≡ [] → All (λ status. status_of st' ≡ Some status) (statuses_in answers))
    → Tells config earlier (told_of old old.stand) → Tells config (end_call event caller answers effects ∷ earlier) (told_of new new.stand)
tells-asked config earlier event caller answers effects old ended new over first second command given' fetched at_end took got all before =
    tells-call config earlier (end_call event caller answers effects) (told_of old old.stand) (told_of new new.stand) command
    (given' ∙ (before.given ∙ rw took (sym (front-quiet (given config earlier) (asked config earlier) [] (given-within config earlier)))))
    (fetched ∙ (sym (append-nil old.fetched) ∙ ap (λ xs. old.fetched ++ xs) (sym got))) at_end
    (asked-statuses old.stand ended.stand new.stand over first second all) before
  where
    gives-none : (st st_e : Stand) → GoesOn st st_e → st.gives ≡ [] → IsSome st.ended → st_e.gives ≡ []
    gives-none st st_e on none some =
        elim (st.ended) as (λ (o : Option ℤ). st.ended ≡ o → st_e.gives ≡ []) [
          | None ↦ λ e. let bad = rw e at some in absurd (cc)
          | (Some status) ↦ λ e. let after = rw e at on.ended in after.0 ∙ none
        ] refl

    asked-statuses : (s s_e s' : Option Stand) → IfSome s (λ (s : Stand). (s.gives ≡ []) × IsSome s.ended) → StandGoesOn s s_e → StandGoesOn s_e s'
        → ((st_e st' : Stand) → s_e ≡ Some st_e → GoesOn st_e st' → st_e.gives ≡ [] → All (λ status. status_of st' ≡ Some status) (statuses_in answers))
        → StatusesGoOn (option_map status_of s) (option_map status_of s') (End ∷ answers)
    asked-statuses None s_e s' over' first' second' all' = let e = rw first' at second' in rw e refl
    asked-statuses (Some st) None s' over' first' second' all' = absurd first'
    asked-statuses (Some st) (Some st_e) None over' first' second' all' = absurd second'
    asked-statuses (Some st) (Some st_e) (Some st') over' first' second' all' =
        let has : IsSome (status_of st_e) = stays-told st st_e first' (ended-status st over') in
        let none : st_e.gives ≡ [] = gives-none st st_e first' over'.0 over'.1 in
        record {
          keeps = λ status e. status-stays st_e st' status second' (status-stays st st_e status first' e);
          ended = λ e. stays-told st_e st' second' has;
          told = all' st_e st' refl second' none;
        }
