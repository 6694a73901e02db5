use Rattle.std.proofs.Common.{◌+◌, cond, ap, ◌∙◌}
use Rattle.driver_model.specs.Digest.{is_job}
use Rattle.sample_drivers.proofs.Jobs.{digest_commanded}
use Rattle.sample_drivers.proofs.digest.DigestDriver.outputv.Goals as goal

pub returns-clause-did : goal.returns-clause-did
returns-clause-did c =
    let jobs = ap (λ d. d.jobs) c.self.view_is in
    digest_commanded _ _ _ _ _ _ c.in_ok-data.ensures c.in_ok-self-inside.ensures.did (c.in_ok-self-inside.ensures.jobs ∙ ap (λ n. cond (is_job c.in_ok-data.data) (n + 1) n) jobs)
