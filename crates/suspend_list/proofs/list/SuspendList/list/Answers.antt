use Rattle.std.proofs.Common.{◌≡◌, ◌<◌, sym, subst, false}
use Rattle.suspend_list.specs.Entries.{is_listed}
use Rattle.suspend_list.proofs.Once.{has_room, kept_more}
use Rattle.suspend_list.proofs.list.SuspendList.list.Goals as goal

pub put_behind-requires : goal.put_behind-requires
put_behind-requires c =
    has_room c.self.inside.entries.capacity c.self.inside.entries.items c.args.entry c.self.invariant.0 c.self.invariant.1
    (subst (λ v. is_listed c.args.entry.process v.entries ≡ false) (sym c.self.view_is) c.requires.once)
    (subst (λ v. c.args.entry.process < v.places) (sym c.self.view_is) c.requires.place)

pub invariant_of-self : goal.invariant_of-self
invariant_of-self c =
    kept_more c.self.inside.entries c.put_behind.new.entries c.args.entry c.put_behind.ensures c.self.invariant
    (subst (λ v. is_listed c.args.entry.process v.entries ≡ false) (sym c.self.view_is) c.requires.once)
    (subst (λ v. c.args.entry.process < v.places) (sym c.self.view_is) c.requires.place)
