use Rattle.std.proofs.Common.{length, sym, ap, ◌∙◌, subst}
use Rattle.process_end.specs.Views.{ProcView}
use Rattle.process_job.specs.Jobs.{AreAmong, AreWithin}
use Rattle.process_job.proofs.job.ProcessJob.new.Goals as goal

pub returns-clause-can : goal.returns-clause-can
returns-clause-can g c =
    let e = c.new.ensures.process in
    record {
      seats = c.requires.seats;
      work = record {
        fresh = record {
          asked = c.new.ensures.asked;
          receipts = ap (λ (p : ProcView). p.receipts) e;
          undone = ap (λ (p : ProcView). p.undone) e;
          told = ap (λ (p : ProcView). p.told) e;
          untaken = ap (λ (p : ProcView). p.mailbox.taken) e ∙ c.requires.parts.untaken;
        };
        many = ap (λ (p : ProcView). length p.lanes) e ∙ c.requires.many;
        processes = c.requires.within.0;
        among = subst (λ (p : ProcView). AreAmong c.requires.within.0 p.lanes) (sym e) c.requires.within.1;
        within = subst (λ n. AreWithin c.requires.within.0 n c.args.steps.items) c.requires.many c.requires.within.2;
      };
    }
