-- The events that a driver holds, whatever their order.
use Rattle.std.proofs.Common.{◌≡◌, ℕ, ◌==◌, Bool, true, false, ◌||◌, List, [], ◌∷◌, ◌++◌, length-append, refl, sym, ap, ◌∙◌, arith}
use Rattle.std.proofs.lemmas.List.Folds.{list_any-append}
use Rattle.driver_model.specs.port_model.declared.effect.Effect.{Effect}
use Rattle.driver_model.specs.port_model.declared.effect.Effect.TheVariants.{Message, Eof, Status, Busy, Select, Unuse, Async, Watch, Reply, ReplyBadarg, Fail}
use Rattle.driver_model.specs.Drivers.{is_held, with_event, held_by}
use Rattle.port_driver.specs.Context.{SameEvents}

-- no event is given up
abbrev pub gives_up_none : List Effect → Bool
gives_up_none [] = true
gives_up_none (Unuse event ∷ effects) = false
gives_up_none (effect ∷ effects) = gives_up_none effects

is_held-append : (event : ℕ) (held more : List ℕ) → is_held event (held ++ more) ≡ (is_held event held || is_held event more)
is_held-append event held more = list_any-append (λ other. other == event) held more

SameEvents-append : (held events more : List ℕ) → SameEvents held events → SameEvents (held ++ more) (events ++ more)
SameEvents-append held events more same = record {
  each = λ event. is_held-append event held more ∙ (ap (λ b. b || is_held event more) (same.each event) ∙ sym (is_held-append event events more));
  count = let n = same.count in omega (arith, length-append held more, length-append events more);
}

-- the same events stay the same with one that is used
pub SameEvents-with_event : (event : ℕ) (held events : List ℕ) → SameEvents held events → SameEvents (with_event event held) (with_event event events)
SameEvents-with_event event held events same =
    elim (is_held event held) as (λ b. is_held event held ≡ b → SameEvents (with_event event held) (with_event event events)) [
      | true ↦ λ yes. let there : is_held event events ≡ true = sym (same.each event) ∙ yes in rw (yes, there) same
      | false ↦ λ no. let there : is_held event events ≡ false = sym (same.each event) ∙ no in rw (no, there) (SameEvents-append held events (event ∷ []) same)
    ] refl

-- the same events stay the same by effects that give none up
pub SameEvents-held_by : (effects : List Effect) (held events : List ℕ) → gives_up_none effects ≡ true → SameEvents held events → SameEvents (held_by effects held) (held_by effects events)
SameEvents-held_by [] held events none same = same
SameEvents-held_by (Message flag bytes ∷ effects) held events none same = SameEvents-held_by effects held events none same
SameEvents-held_by (Eof ∷ effects) held events none same = SameEvents-held_by effects held events none same
SameEvents-held_by (Status status ∷ effects) held events none same = SameEvents-held_by effects held events none same
SameEvents-held_by (Busy busy ∷ effects) held events none same = SameEvents-held_by effects held events none same
SameEvents-held_by (Select event dir on ∷ effects) held events none same =
    SameEvents-held_by effects (with_event event held) (with_event event events) none (SameEvents-with_event event held events same)
SameEvents-held_by (Unuse event ∷ effects) held events none same = absurd (cc)
SameEvents-held_by (Async number key code input ∷ effects) held events none same = SameEvents-held_by effects held events none same
SameEvents-held_by (Watch process ∷ effects) held events none same = SameEvents-held_by effects held events none same
SameEvents-held_by (Reply bytes ∷ effects) held events none same = SameEvents-held_by effects held events none same
SameEvents-held_by (ReplyBadarg ∷ effects) held events none same = SameEvents-held_by effects held events none same
SameEvents-held_by (Fail reason ∷ effects) held events none same = SameEvents-held_by effects held events none same
