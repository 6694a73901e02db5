use Rattle.std.proofs.Common.{map, subst}
use Rattle.std.specs.Prelude.{IfOk}
use Rattle.port_body.specs.Body.{name_of}
use Rattle.script_run.proofs.Back.{back-at-once}
use Rattle.script_run.specs.Left.{IsLeft}
use Rattle.script_run.specs.Parted.{ran_processes}
use Rattle.script_run.proofs.Given.{job-parts}
use Rattle.script_run.proofs.closing.close_run.Goals as goal

pub returns-in_default-clause-returned : goal.returns-in_default-clause-returned
returns-in_default-clause-returned g c = back-at-once g.D.Driver.kind g.D.Driver.stage g.D.Driver.faults g.D.Driver.own g.D.Driver.program c.args.bodies.items c.args.places.now
    c.args.hosts.now.items c.take_back.new.hosts.items c.take_back.ensures.returned

pub close_parts-ran-requires-clause-ended : goal.close_parts-ran-requires-clause-ended
close_parts-ran-requires-clause-ended g c =
    let r = c.requires.ended in
    (r.0, ran_processes r.1 c.args.jobs.processes.items, job-parts g.S.PollSet.faults g.S.PollSet.answered r.0 r.1 r.2 (map name_of c.args.bodies.items) c.args.jobs r.3 _ _ _ c.in-Ok.ensures)

pub returns-clause-left : goal.returns-clause-left
returns-clause-left g c s plans poll has =
    let ran = ran_processes plans c.args.jobs.processes.items in
    let names = map name_of c.args.bodies.items in
    subst (λ ends. IfOk c.close_parts-ran.result (IsLeft g.D.Driver.kind g.D.Driver.faults g.D.Driver.own g.D.Driver.program s ran ends names c.args.places.now c.close_parts-ran.new.hosts.items)) c.in-Ok.ensures.poller_is
    (c.close_parts-ran.ensures.left s ran (job-parts g.S.PollSet.faults g.S.PollSet.answered s plans poll names c.args.jobs has _ _ _ c.in-Ok.ensures))
