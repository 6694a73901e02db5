use Rattle.std.proofs.Common.{map, take}
use Rattle.script_input.specs.Files.{files_view}
use Rattle.run_output.specs.Ends.{WroteAll}
use Rattle.run_output.specs.Writes.{save_write}
use Rattle.run_output.proofs.writing.write_saves.Given as goal

-- the saves so far are written
abbrev pub invariant-loop-save : goal.invariant-loop-save
invariant-loop-save g l = WroteAll (map (save_write l.report) (take l.save-index l.saves))
    (files_view g.F.Files.told g.F.Files.answered g.F.Files.wrote g.F.Files.reads g.F.Files.writes l.fn.files)
    (files_view g.F.Files.told g.F.Files.answered g.F.Files.wrote g.F.Files.reads g.F.Files.writes l.files)
