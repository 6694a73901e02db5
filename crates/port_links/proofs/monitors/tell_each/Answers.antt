use Rattle.std.proofs.Common.{◌++◌, ◌∙◌, ap, sym, map, subst, append-nil, rules}
use Rattle.std.specs.Map.{keys_of}
use Rattle.port_links.specs.Posts.{sent_of, down_of}
use Rattle.port_links.proofs.Telling.{Lie, first-lies, later-lie, told-more, all-lie}
use Rattle.port_links.proofs.monitors.tell_each.Goals as goal

pub loop-key-init : goal.loop-key-init
loop-key-init c =
    let entries = c.into_iter-key-iterator.ensures.into_iter_gives ∙ c.iter-key-items.ensures.rest in
    record {
      told = ap (λ es. map sent_of c.args.posts.now.items ++ map (down_of c.args.port c.args.reason.now) (keys_of es)) entries;
      lies = subst (Lie c.args.slab.now) (sym entries) (all-lie c.args.slab.now c.args.index.now c.requires c.iter-key-items.ensures.found);
    }

pub index-requires : goal.index-requires
index-requires c =
    rw (first-lies c.args.slab.now c.in-Some.field-0-0.now c.in-Some.key.now c.loop-key.key-iterator c.next.new.self c.in-Some.ensures.steps c.loop-key.invariant.lies) (search rules)

pub loop-key-preserved : goal.loop-key-preserved
loop-key-preserved c =
    let lies = first-lies c.args.slab.now c.in-Some.field-0-0.now c.in-Some.key.now c.loop-key.key-iterator c.next.new.self c.in-Some.ensures.steps c.loop-key.invariant.lies in
    record {
      told =
          told-more c.args.port c.args.reason.now c.in-Some.field-0-0.now c.index.result.now c.in-Some.key.now c.loop-key.key-iterator c.next.new.self
          c.loop-key.posts.items c.push.new.self.items c.down_post.result _ c.in-Some.ensures.steps c.in_ok-push.ensures.items c.down_post.ensures (sym c.index.ensures ∙ lies)
          c.loop-key.invariant.told;
      lies = later-lie c.args.slab.now c.in-Some.field-0-0.now c.in-Some.key.now c.loop-key.key-iterator c.next.new.self c.in-Some.ensures.steps c.loop-key.invariant.lies;
    }

pub returns : goal.returns
returns c =
    sym (append-nil (map sent_of c.loop-key.posts.items))
    ∙ (ap (λ es. map sent_of c.loop-key.posts.items ++ map (down_of c.args.port c.args.reason.now) (keys_of es)) (sym c.in-None.ensures.steps.0) ∙ c.loop-key.invariant.told)
