use Rattle.std.proofs.Common.{◌++◌}
use Rattle.outside.proofs.log.ByteLog.with.Given as goal

-- the log that is kept, with the bytes behind it
abbrev pub ghost-named : goal.ghost-named
ghost-named a = a.from.now.log.now ++ a.from.now.bytes.now
