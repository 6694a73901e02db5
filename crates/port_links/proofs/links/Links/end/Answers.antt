use Rattle.std.proofs.Common.{◌<◌, ◌∙◌, ◌++◌, All, map, length, refl, subst, ap, vec_len}
use Rattle.port_links.specs.Flags.{set_flags}
use Rattle.port_links.specs.Posts.{exit_of, down_of}
use Rattle.port_links.proofs.Flags.{flags-below, no-flags}
use Rattle.port_links.proofs.Receivers.{posts-below}
use Rattle.port_links.proofs.Views.{same-table}
use Rattle.port_links.proofs.links.Links.end.Goals as goal

pub returns-clause-below : goal.returns-clause-below
returns-clause-below c =
    let linked = c.self.inside.linked.items in
    let reason = c.told-told.result in
    rw (← c.self.view_is)
    (posts-below c.args.port (length c.self.inside.ended.items) reason (set_flags 0 linked) c.self.inside.monitors c.tell.new.posts.items
    (c.in_ok-tell.ensures
    ∙ ap (λ sent. sent ++ map (down_of c.args.port reason) c.self.inside.monitors)
    (c.in_ok-posts.ensures ∙ ap (λ flags. map (exit_of c.args.port reason) (set_flags 0 flags)) c.deref.ensures.value))
    (subst (λ n. All (λ p. p < n) (set_flags 0 linked)) c.self.invariant.long (flags-below linked))
    c.self.invariant.known)

pub returns-clause-ok : goal.returns-clause-ok
returns-clause-ok c =
    rw (← c.self.view_is)
    (same-table _ _ _ _ _ _ _ _ _ (ap (set_flags 0) (c.fill.ensures.items (λ y e. e)) ∙ no-flags (vec_len c.self.inside.linked)) c.clear.ensures refl refl)
