use Rattle.std.proofs.Common.{◌≤◌, inl, inr, refl, length, vec_len, arith, false}
use Rattle.std.proofs.lemmas.Bool.{cases_lt, false≢true}
use Rattle.port_links.proofs.Flags.{without-flag, without-none, flag-kept}
use Rattle.port_links.proofs.Views.{same-table}
use Rattle.port_links.proofs.links.Links.unlink.Goals as goal
use Rattle.port_links.proofs.links.Links.unlink.Goals.{in-Some, in_default}

pub invariant_of-self : goal.invariant_of-self
invariant_of-self c = elim c.match-get_mut.branch [
  | in-Some w ↦ rw w.self-inside-is (flag-kept _ _ _ _ c.args.process false c.self.invariant)
  | in_default w ↦ rw w.self-inside-is c.self.invariant
]

pub returns : goal.returns
returns c = elim c.match-get_mut.branch [
  | in-Some w ↦ rw (w.self-inside-is, ← c.self.view_is) (same-table _ _ _ _ _ _ _ _ _ (without-flag c.args.process c.self.inside.linked.items) refl refl refl)
  | in_default w ↦
      let past : length c.self.inside.linked.items ≤ c.args.process =
      elim (cases_lt c.args.process (vec_len c.self.inside.linked)) [
        | inl within ↦ absurd (false≢true (w.in_default.ensures.variant.1 within))
        | inr past ↦ omega (arith, past, c.self.inside.linked.ok.0)
      ] in
      rw (w.self-inside-is, ← c.self.view_is) (same-table _ _ _ _ _ _ _ _ _ (without-none c.args.process c.self.inside.linked.items past) refl refl refl)
]
