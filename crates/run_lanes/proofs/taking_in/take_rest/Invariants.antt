use Rattle.std.proofs.Common.{◌≡◌, List, ◌++◌}
use Rattle.task_queue.specs.declared.item.Item.{Item}
use Rattle.run_lanes.proofs.taking_in.take_rest.Given as goal

abbrev pub invariant-takes : goal.invariant-takes
invariant-takes g l = (more : List (Item g.row.T.Denot)) × (l.lane ≡ record l.fn.lane { taken = l.fn.lane.taken ++ more })
