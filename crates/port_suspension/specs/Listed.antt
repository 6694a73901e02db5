-- When the list of the suspended processes is what a history tells.
use Rattle.std.specs.Prelude.{◌≡◌, List, map}
use Rattle.suspend_list.specs.declared.list.Entry.{Entry as ListEntry}
use Rattle.suspend_list.specs.Entries.{Suspended}
use Rattle.port_history.specs.port_model.declared.signal.Sender.TheVariants.{Process}
use Rattle.port_history.specs.Suspension.{Entry, entry}

-- an entry of the list as a history has it
abbrev pub listed_as : ListEntry → Entry
listed_as e = entry (Process e.process) e.seq

-- the entries of the list are the tasks that are listed and not resumed, in order
abbrev pub AgreesListed : Suspended → List Entry → Type 0
AgreesListed list listed = map listed_as list.entries ≡ listed
