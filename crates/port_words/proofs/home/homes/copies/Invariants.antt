use Rattle.std.proofs.Common.{◌≡◌, vec_len}
use Rattle.std.specs.List.{All}
use Rattle.std.specs.Arc.{arc_value}
use Rattle.port_words.proofs.home.homes.copies.Given as goal

abbrev pub invariant-copies : goal.invariant-copies
invariant-copies g l = (vec_len l.all ≡ l.counter) × All (λ h. arc_value h ≡ arc_value l.words) l.all.items
