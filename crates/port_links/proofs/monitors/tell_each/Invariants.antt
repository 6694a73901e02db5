use Rattle.std.proofs.Common.{◌≡◌, ◌++◌, map, All, Some}
use Rattle.std.specs.Map.{keys_of}
use Rattle.std.specs.BTreeMap.{keys}
use Rattle.slab.specs.Slab.{get as monitor_at}
use Rattle.port_links.specs.Posts.{sent_of, down_of}
use Rattle.port_links.proofs.monitors.tell_each.Given as goal

abbrev pub invariant-loop-key : goal.invariant-loop-key
invariant-loop-key l = record {
  told : map sent_of l.posts.items ++ map (down_of l.port l.reason) (keys_of l.key-iterator) ≡ map sent_of l.initial.posts.items ++ map (down_of l.port l.reason) (keys l.index);
  lies : All (λ e. monitor_at l.slab e.1 ≡ Some e.0) l.key-iterator;
}
