use Rattle.std.proofs.Common.{◌≡◌, length, map}
use Rattle.port_links.specs.Posts.{sent_of}
use Rattle.port_mail.proofs.Posting.{Midway}
use Rattle.port_mail.proofs.mailboxes.Mailboxes.post_all.Given as goal

-- the posts so far were put
abbrev pub invariant-loop-to : goal.invariant-loop-to
invariant-loop-to g l = record {
  count : l.to-iterator.rest.len ≡ length l.to-iterator.rest.items;
  midway : Midway l.links.ties.ended l.initial.self l.self (map sent_of l.to-iterator.rest.items) (map sent_of l.fn.posts.items);
}
