use Rattle.std.proofs.Common.{◌≡◌, ◌+◌, take}
use Rattle.program_io.specs.Files.{files_view, NothingWritten}
use Rattle.script_input.specs.Contents.{total, HaveRead}
use Rattle.script_input.proofs.reading.read_contents.Given as goal

-- the files of the steps so far were read
abbrev pub invariant-loop-step : goal.invariant-loop-step
invariant-loop-step g l =
    let view = files_view g.F.Files.told g.F.Files.answered g.F.Files.wrote g.F.Files.reads g.F.Files.writes in
    record {
      read : HaveRead (view l.initial.files) (view l.files) (take l.step-index l.steps) l.contents.items;
      left : l.left + total l.contents.items ≡ 33554432;
      written : NothingWritten (view l.initial.files) (view l.files);
    }
