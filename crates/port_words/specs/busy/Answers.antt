-- What `add_command` answers.
use Rattle.std.specs.Prelude.{ℕ}
use Rattle.port_words.specs.declared.busy.view.AddHow.{AddHow}
use Rattle.port_words.specs.declared.busy.send.Added.{Added}
use Rattle.port_words.specs.declared.busy.send.Added.TheVariants as a
use Rattle.port_words.specs.busy.Known.{SendKnown, AddsTo, FindsBusy}

-- the add was made, or it was refused by a busy queue
abbrev pub AddsCommand : SendKnown → SendKnown → AddHow → ℕ → Added → Type 0
AddsCommand old new how size (a.Added msgq weight) = AddsTo old new how size msgq weight
AddsCommand old new how size (a.Busy msgq) = FindsBusy old new how msgq
