use Rattle.std.proofs.Common.{rules, ◌∙◌, sym, subst, refl}
use Rattle.std.proofs.lemmas.List.{length-map}
use Rattle.run_opening.specs.Opened.{AreRunLanes, limits_of}
use Rattle.run_opening.proofs.Opens.{ranges_in, some_owner}
use Rattle.run_opening.proofs.opening.lanes_of.Goals as goal

pub open_lanes-requires-clause-owner : goal.open_lanes-requires-clause-owner
open_lanes-requires-clause-owner c h =
    let all = c.as_slice.ensures.value ∙ c.in_ok-limits.ensures in
    some_owner c.args.size.processes c.args.ports.now c.requires.owners (rw (sym (length-map c.args.ports.now (λ p. limits_of p.config)), sym all) h)

pub open_lanes-requires-clause-limits : goal.open_lanes-requires-clause-limits
open_lanes-requires-clause-limits c k d below =
    let all = c.as_slice.ensures.value ∙ c.in_ok-limits.ensures in
    ranges_in c.args.ports.now c.as_slice.result.now c.requires.configs all k d below

pub returns : goal.returns
returns c =
    let run = c.in_ok-ports.field-0 in
    let all = c.as_slice.ensures.value ∙ c.in_ok-limits.ensures in
    record {
      run = run;
      are = subst (λ limits. AreRunLanes c.args.size limits run) all (record {
        counts = c.in_ok-ports.ensures.counts;
        ports = c.in_ok-ports.ensures.ports;
        processes = c.in_ok-ports.ensures.processes;
        workers = c.in_ok-ports.ensures.workers;
        poller = c.in_ok-ports.ensures.poller;
        finish = c.in_ok-ports.ensures.finish;
        can_open = c.in_ok-ports.ensures.can_open;
        can_begin = c.in_ok-ports.ensures.can_begin;
      });
      rooms_are = search rules;
      lanes_are = record { processes = refl; workers = refl; poller = refl; finish = refl };
    }
