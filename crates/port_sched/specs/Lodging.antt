-- A body beside its port's seat of OVER.
use Rattle.std.specs.Prelude.{◌≡◌, ◌⊎◌, ℕ, Bool, true, false, nat_lt, []}
use Rattle.std.specs.Prelude.{List, ◌∷◌}
use Rattle.port_words.specs.declared.over.view.OverPlace.{OverPlace}
use Rattle.port_words.specs.declared.over.view.OverView.{OverView}
use Rattle.port_words.specs.over.Over.{OverKnown, over_known, finished_view}

-- whether the seat's own place, which is the first of its view, is a counted one
abbrev pub is_counted_place : ℕ → List OverPlace → Bool
is_counted_place counted [] = false
is_counted_place counted (p ∷ ps) = nat_lt p.number counted

abbrev pub is_counted : OverView → Bool
is_counted v = is_counted_place v.size.counted v.places

-- whether the own place has finished
abbrev pub has_finished_place : List OverPlace → Bool
has_finished_place [] = false
has_finished_place (p ∷ ps) = p.finished

abbrev pub has_finished : OverView → Bool
has_finished v = has_finished_place v.places

-- the seat said now that it has finished, and it had not before; or nothing was said
pub record ToldNow (told told' : Bool) (over over' : OverKnown) : Type 0 where
  pub before : told ≡ false
  pub after : told' ≡ true
  pub found : ℕ
  pub said : over' ≡ over_known over.word (finished_view over.known found)

pub record ToldNothing (told told' : Bool) (over over' : OverKnown) : Type 0 where
  pub same_told : told' ≡ told
  pub same_seat : over' ≡ over

abbrev pub Told : Bool → Bool → OverKnown → OverKnown → Type 0
Told told told' over over' = ToldNow told told' over over' ⊎ ToldNothing told told' over over'
