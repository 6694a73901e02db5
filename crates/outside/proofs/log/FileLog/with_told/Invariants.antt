use Rattle.outside.specs.Log.{noted}
use Rattle.outside.proofs.log.FileLog.with_told.Given as goal

-- the log that is kept, with the answer behind it
abbrev pub ghost-named : goal.ghost-named
ghost-named a = noted a.from.now.log.now a.from.now.name.now a.from.now.bytes.now
