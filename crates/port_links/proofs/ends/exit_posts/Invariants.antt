use Rattle.std.proofs.Common.{◌≡◌, map, take}
use Rattle.port_links.specs.Flags.{set_flags}
use Rattle.port_links.specs.Posts.{sent_of, exit_of}
use Rattle.port_links.proofs.ends.exit_posts.Given as goal

abbrev pub invariant-loop-process : goal.invariant-loop-process
invariant-loop-process l = map sent_of l.posts.items ≡ map (exit_of l.port l.reason) (set_flags 0 (take l.process l.linked))
