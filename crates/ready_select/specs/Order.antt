-- The order of a poller's entries.
use Rattle.std.specs.declared.cmp.Ordering.{Ordering}
use Rattle.ready_select.specs.declared.armed.Armed.{Armed}
use Rattle.ready_select.specs.contracts.armed.ArmedOrd.TheImpl as ord

-- how the program compares entries: by event, then by port, then by direction
abbrev pub armed_cmp : Armed → Armed → Ordering
armed_cmp = ord.ghosts.cmp
