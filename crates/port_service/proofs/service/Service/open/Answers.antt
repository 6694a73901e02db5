use Rattle.std.proofs.Common.{◌≡◌, ◌<◌, ℕ, [], length, false, replicate, refl, ap, ◌∙◌, subst}
use Rattle.std.proofs.lemmas.List.{get_or-replicate, length-replicate}
use Rattle.port_service.proofs.Begun.{Starts-by}
use Rattle.port_service.proofs.service.Service.open.Goals as goal

pub returns-clause-opened : goal.returns-clause-opened
returns-clause-opened g c =
    let began = c.in-Ok-begin.ensures.began in
    let n : ℕ = c.args.processes in
    let items : c.in-Ok.watched.items ≡ replicate n false = c.in-Ok.ensures.items_if_clones_equal (λ y e. e) in
    let count : length c.in-Ok.watched.items ≡ n = ap length items ∙ length-replicate n false in
    let watches = c.note_watches.ensures.watches [] (λ process within. rw items (get_or-replicate n process false false (subst (λ k. process < k) count within))) in
    record {
      kind_is = c.begin.ensures.kind;
      started = c.in-Ok-begin.ensures.started;
      faults_rise = c.begin.ensures.faults;
      flags = c.note_watches.ensures.len ∙ count;
      starts = λ port opening. Starts-by _ _ _ _ _ _ _ port _ _ refl refl began.1 opening refl refl c.finish-queue.ensures.queue c.next_job-next_job.ensures c.finish-queue.ensures.effects c.finish-queue.ensures.held
          (rw c.as_slice.ensures.items at watches);
    }
