use Rattle.std.proofs.Common.{ℕ, List, ◌++◌, take}
use Rattle.std.specs.List.{flat_map}
use Rattle.run_report.specs.Data.{mail_bytes}
use Rattle.run_report.proofs.data.PortData.hash.Given as goal

abbrev pub invariant-loop-mail : goal.invariant-loop-mail
invariant-loop-mail g l =
    (bytes : List ℕ) → g.D.Digest.holds l.fn.hasher bytes → g.D.Digest.holds l.hasher (bytes ++ flat_map (λ mail. mail_bytes mail.now) (take l.mail-index l.mail-items))
