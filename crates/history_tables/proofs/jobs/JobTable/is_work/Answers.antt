use Rattle.std.proofs.Common.{◌≡◌, List, ℕ, Bool, sym, ap, ◌∙◌, arith}
use Rattle.std.specs.Prelude.{Result, Ok, Err, IfOk}
use Rattle.driver_model.specs.Same.{same_bytes}
use Rattle.async_jobs.specs.Work.{work_of}
use Rattle.port_history.specs.Jobs.{Submitted, each_of}
use Rattle.port_history.specs.Laws.{is_work}
use Rattle.history_tables.specs.declared.jobs.KeptJob.{KeptJob}
use Rattle.history_tables.specs.declared.jobs.JobTable.{JobTable}
use Rattle.history_tables.specs.JobsKept.{Keeps}
use Rattle.history_tables.proofs.JobSteps.{each-kept, each-missing}
use Rattle.history_tables.proofs.jobs.JobTable.is_work.Goals as goal

abbrev Tells : JobTable → ℕ → List ℕ → Bool → Type 0
Tells table number output is = (jobs : List Submitted) (done : List ℕ) → Keeps table jobs done → is ≡ each_of number (is_work output) jobs

tells : {F : Type 0} (r : Result Bool F) (table : JobTable) (number : ℕ) (output : List ℕ) (b : Bool) → IfOk r (λ is. is ≡ b) → Tells table number output b → IfOk r (Tells table number output)
tells (Ok value) table number output b is told = λ jobs done keeps. is ∙ told jobs done keeps
tells (Err fault) table number output b is told = tt

pub returns-then-place-len : goal.returns-then-place-len
returns-then-place-len c = λ jobs done is.
    sym (ap (each_of c.args.number (is_work c.args.output.now)) is.submitted
    ∙ each-missing c.args.number c.args.self.now.jobs.items (is_work c.args.output.now) (omega (arith, c.args.self.now.jobs.ok.0)))

pub returns : goal.returns
returns c =
    tells c.is_work_of.result c.args.self.now c.args.number c.args.output.now _ c.is_work_of.ensures (λ jobs done is.
    ap (λ bytes. same_bytes bytes (work_of c.index-job.result.now.code c.as_slice.result.now)) c.as_slice-2.ensures
    ∙ (ap (λ bytes. same_bytes c.args.output.now (work_of c.index-job.result.now.code bytes)) c.as_slice.ensures
    ∙ (ap (λ (j : KeptJob). same_bytes c.args.output.now (work_of j.code j.input)) c.index-job.ensures
    ∙ sym (ap (each_of c.args.number (is_work c.args.output.now)) is.submitted
    ∙ each-kept c.args.number c.args.self.now.jobs.items (is_work c.args.output.now) c.index-job.result.now (omega (arith, c.args.self.now.jobs.ok.0))))))
