use Rattle.std.proofs.Common.{◌++◌, ◌∷◌, [], ◌∙◌, map, ap, sym}
use Rattle.std.proofs.lemmas.List.{map-append}
use Rattle.port_links.specs.Posts.{sent_of, exit_of}
use Rattle.port_links.proofs.Flags.{map-more_set, map-more_unset}
use Rattle.port_links.proofs.ends.exit_posts.Goals as goal
use Rattle.port_links.proofs.ends.exit_posts.Goals.{then-is_linked+in_ok-push, else-is_linked}

pub loop-process-preserved : goal.loop-process-preserved
loop-process-preserved c =
    elim c.if-is_linked.branch [
      | then-is_linked+in_ok-push w ↦
          ap (λ posts. map sent_of posts.items) w.posts-is
          ∙ (ap (map sent_of) w.in_ok-push.ensures.items
          ∙ (map-append sent_of c.loop-process.posts.items (w.exit_post.result ∷ [])
          ∙ (ap (λ sent. map sent_of c.loop-process.posts.items ++ sent ∷ []) w.exit_post.ensures
          ∙ (ap (λ sent. sent ++ exit_of c.args.port c.args.reason.now c.loop-process.process ∷ []) c.loop-process.invariant
          ∙ sym (map-more_set (exit_of c.args.port c.args.reason.now) c.loop-process.process c.args.linked.now c.loop-process-test.true w.if-is_linked.true)))))
      | else-is_linked w ↦
          ap (λ posts. map sent_of posts.items) w.posts-is
          ∙ (c.loop-process.invariant
          ∙ sym (map-more_unset (exit_of c.args.port c.args.reason.now) c.loop-process.process c.args.linked.now c.loop-process-test.true w.if-is_linked.false))
    ]
