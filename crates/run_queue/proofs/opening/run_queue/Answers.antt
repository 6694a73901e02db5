use Rattle.std.proofs.Common.{◌≡◌, ◌-◌, [], length, slice_get, sym, ap, ◌∙◌, subst}
use Rattle.run_queue.specs.Account.{hand, all_parts}
use Rattle.run_queue.specs.Ends.{owner_ids}
use Rattle.run_queue.specs.Seats.{RunKnown, EntryKnown, AreFresh, entry_known, joined_entry}
use Rattle.run_queue.proofs.OpeningLemmas.{rest_given, ids_count, length_changed}
use Rattle.run_queue.proofs.opening.run_queue.Goals as goal

pub returns : goal.returns
returns c =
    let ids = owner_ids c.rows.new.owners.items in
    let injector = c.in_ok-first.first.injector in
    let others = c.in_ok-others.ensures.first in
    let first : c.seats.new.first ≡ entry_known injector (hand (all_parts - c.args.entries - c.args.schedulers) [] []) =
    c.in_ok-all.ensures.first ∙ ap (λ (e : EntryKnown). entry_known e.injector (hand (e.hand.parts - c.args.schedulers) [] [])) others in
    let fresh = subst (λ web. AreFresh ids web c.in_ok-all.all.items) (ap (λ (e : EntryKnown). e.injector) others) c.in_ok-all.ensures.seats.1 in
    let changed = c.give_rest.ensures in
    record {
      deques = ids;
      injector = injector;
      deques_count = ap length c.in_ok-rows.ensures.owners.1 ∙ ids_count c.in_ok-owners.owners.items ∙ c.in_ok-owners.ensures.0;
      seats_count = ap length changed ∙ length_changed (λ (k : RunKnown). record k { entry = joined_entry k.entry c.seats.new.first }) c.in_ok-all.all.items 0 ∙ c.in_ok-all.ensures.seats.0;
      each = λ n s e. rest_given c.args.schedulers c.args.entries ids injector c.in_ok-all.all.items c.seats.new.first fresh first n s (ap (λ all. slice_get all n) (sym changed) ∙ e);
      ends = c.in_ok-others.ensures.ends;
    }
