use Rattle.std.proofs.Common.{◌∙◌, ◌++◌, ◌==◌, ap, sym, subst, not, map, filter}
use Rattle.std.specs.List.{list_any, IsDistinct}
use Rattle.std.specs.List.Sorted.{IsStrictlySortedBy, IsStrictlyIncreasing}
use Rattle.outside.specs.Sublist.{IsSublist}
use Rattle.ready_select.specs.Sets.{has}
use Rattle.ready_select.specs.Order.{armed_cmp}
use Rattle.ready_select.specs.Polling.{arm_ask}
use Rattle.ready_select.proofs.Sorted.{sorted-filter}
use Rattle.ready_select.proofs.Sets.{rising-sublist, rising-distinct}
use Rattle.ready_select.proofs.rounds.wait_once.Goals as goal

pub hand_over-requires-clause-events : goal.hand_over-requires-clause-events
hand_over-requires-clause-events g c =
    let part = subst (λ xs. IsSublist c.in_ok-events.events.items xs) c.as_slice-2.ensures.value c.in_ok-events.ensures.wait.1 in
    subst IsStrictlyIncreasing (sym c.as_slice-3.ensures.value) (rising-sublist _ _ part c.in_ok-armed.ensures.rising)

pub returns-clause-waited : goal.returns-clause-waited
returns-clause-waited g c = record {
  events = c.in_ok-events.events.items;
  armed = c.in_ok-armed.armed.items;
  each = λ event. c.in_ok-armed.ensures.each event ∙ ap (list_any (λ a. a.event == event)) c.as_slice.ensures.value;
  rising = c.in_ok-armed.ensures.rising;
  wait = let w = c.in_ok-events.ensures.wait in (w.0, subst (λ xs. IsSublist c.in_ok-events.events.items xs) c.as_slice-2.ensures.value w.1, w.2, w.3);
  left = c.hand_over.ensures.left ∙ ap (λ xs. filter (λ a. not (has a.event xs)) c.args.entries.now.items) c.as_slice-3.ensures.value;
  found_lem = c.hand_over.ensures.found ∙ ap (λ xs. c.reserve.new.self.items ++ map arm_ask (filter (λ a. has a.event xs) c.args.entries.now.items)) c.as_slice-3.ensures.value
      ∙ ap (λ ys. ys ++ map arm_ask (filter (λ a. has a.event c.in_ok-events.events.items) c.args.entries.now.items)) c.reserve.ensures.items;
}

pub returns-clause-rising : goal.returns-clause-rising
returns-clause-rising g c = subst (IsStrictlySortedBy armed_cmp) (sym c.hand_over.ensures.left) (sorted-filter armed_cmp (λ a. not (has a.event c.as_slice-3.result.now)) c.args.entries.now.items c.requires)

pub wait-requires : goal.wait-requires
wait-requires g c = subst (IsDistinct (λ a b. a == b)) (sym c.as_slice-2.ensures.value) (rising-distinct _ c.in_ok-armed.ensures.rising)
