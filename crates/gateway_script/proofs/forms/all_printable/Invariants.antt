use Rattle.std.proofs.Common.{◌≡◌, take}
use Rattle.std.specs.List.{list_all}
use Rattle.gateway_script.specs.Forms.{is_printable}
use Rattle.gateway_script.proofs.forms.all_printable.Given as goal

abbrev pub invariant-loop-byte : goal.invariant-loop-byte
invariant-loop-byte l = record { so_far : l.printable ≡ list_all is_printable (take l.byte-index l.line) }
