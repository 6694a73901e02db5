use Rattle.std.proofs.Common.{◌≡◌, List, length}
use Rattle.std.specs.List.Sorted.{IsStrictlySortedBy}
use Rattle.task_queue.specs.declared.item.Item.{Item}
use Rattle.ready_select.specs.declared.ask.PollAsk.{PollAsk}
use Rattle.ready_select.specs.Order.{armed_cmp}
use Rattle.ready_select.specs.Polling.{TookAsks, HasNoFinish}
use Rattle.ready_select.proofs.take_asks.take_asks.Given as goal

abbrev pub invariant-loop-taken : goal.invariant-loop-taken
invariant-loop-taken g l = record {
  items : List (Item PollAsk);
  took : TookAsks items l.fn.asks l.asks l.fn.entries.items l.entries.items l.fn.found.items l.found.items;
  count : length items ≡ l.taken;
  none : HasNoFinish items;
  rising : IsStrictlySortedBy armed_cmp l.entries.items;
}
