use Rattle.std.proofs.Common.{◌≡◌, [], ◌++◌, None, false, is_some, drop, refl, rules, arith}
use Rattle.std.proofs.lemmas.Grind.{common_steps}
use Rattle.outside.specs.Programs.{ready, ended, upcoming, count_of}
use Rattle.outside.proofs.Programs.{ready-nothing, goes-on-same, none-of}
use Rattle.outside.proofs.mem_child.MemChild.find_end.Goals as goal

pub invariant_of-self : goal.invariant_of-self
invariant_of-self c = (
  c.self.invariant.0,
  c.self.invariant.1,
  λ e. record {
    current = rw (← c.self.view_is) at c.requires.current;
    nothing = ready-nothing _ c.self.inside.chunks.items (rw (← c.self.view_is) at c.requires.upcoming);
    ends = search rules;
  },
)

pub returns-then-not-has_ended-clause-fetch : goal.returns-then-not-has_ended-clause-fetch
returns-then-not-has_ended-clause-fetch c =
    let begun : drop c.self.inside.used c.self.inside.current.items ≡ [] = rw (← c.self.view_is) at c.requires.current in
    let none : ready (count_of c.self.inside.given) c.self.inside.chunks.items ≡ [] = ready-nothing _ c.self.inside.chunks.items (rw (← c.self.view_is) at c.requires.upcoming) in
    let going : ended (count_of c.self.inside.given) c.self.inside.chunks.items c.self.inside.ending ≡ None = none-of _ (search rules) in
    (c.requires.open, rw (← c.self.view_is) (record { faults = refl; nothing = (rw (begun, none) refl, going); shows = record { shown = refl; stand = goes-on-same _ } }))

pub returns-clause-fetch : goal.returns-clause-fetch
returns-clause-fetch c =
    let begun : drop c.self.inside.used c.self.inside.current.items ≡ [] = rw (← c.self.view_is) at c.requires.current in
    let none : ready (count_of c.self.inside.given) c.self.inside.chunks.items ≡ [] = ready-nothing _ c.self.inside.chunks.items (rw (← c.self.view_is) at c.requires.upcoming) in
    rw (← c.self.view_is) (record { faults = refl; nothing = (rw (begun, none) refl, search rules); shows = record { shown = refl; stand = goes-on-same _ } })
