use Rattle.std.proofs.Common.{sym, ◌∙◌}
use Rattle.std.proofs.lemmas.Bool.{false≢true}
use Rattle.port_sched.proofs.Looks.{looked_none, looked_then}
use Rattle.process_job.specs.Going.{ProcessState, state, Waits}
use Rattle.process_job.proofs.Goings.{waits_none, waits_then, waits_looked}
use Rattle.process_job.proofs.Resuming.{closed_waits, inside_waits, look_closed}
use Rattle.process_job.proofs.waiting.wait_for_data.Goals as goal

pub mail-init : goal.mail-init
mail-init g c = record { looked = looked_none c.args.over.now; waits = waits_none (state c.args.proc.now c.args.log.now); inside = c.requires.port; closed = λ e. absurd (false≢true e) }

pub mail-preserved-then-not-matches : goal.mail-preserved-then-not-matches
mail-preserved-then-not-matches g c =
    let i = c.mail.invariant in
    let w = c.in_ok-take_next.ensures.waits in
    let mid : ProcessState = state c.mail.proc c.mail.log in
    let new : ProcessState = state c.take_next.new.proc c.take_next.new.log in
    record { looked = i.looked; waits = waits_then _ _ _ i.waits w; inside = inside_waits c.args.port mid new w i.inside; closed = λ e. closed_waits c.args.port mid new w (i.closed e) }

pub returns-then-closed-clause-waits : goal.returns-then-closed-clause-waits
returns-then-closed-clause-waits g c = waits_then _ _ _ c.mail.invariant.waits c.in_ok-take_next.ensures.waits

pub mail-preserved-in_ok-pause : goal.mail-preserved-in_ok-pause
mail-preserved-in_ok-pause g c =
    let i = c.mail.invariant in
    let w = c.in_ok-take_next.ensures.waits in
    let old : ProcessState = state c.mail.proc c.mail.log in
    let mid : ProcessState = state c.take_next.new.proc c.take_next.new.log in
    let new : ProcessState = state c.look.new.self c.take_next.new.log in
    let l = waits_looked c.args.port c.take_next.new.proc c.look.new.self c.look.result c.take_next.new.log c.look.ensures in
    let both : Waits old new = waits_then old mid new w l in
    record {
      looked = looked_then _ _ _ i.looked c.in_ok-pause.ensures;
      waits = waits_then _ old new i.waits both;
      inside = inside_waits c.args.port old new both i.inside;
      closed = λ e. look_closed c.args.port c.take_next.new.proc c.look.new.self c.look.result c.look.ensures (sym c.stat_closed-closed.ensures ∙ e);
    }

pub mail-preserved : goal.mail-preserved
mail-preserved g c =
    let i = c.mail.invariant in
    let w = c.in_ok-take_next.ensures.waits in
    let old : ProcessState = state c.mail.proc c.mail.log in
    let mid : ProcessState = state c.take_next.new.proc c.take_next.new.log in
    let new : ProcessState = state c.look.new.self c.take_next.new.log in
    let l = waits_looked c.args.port c.take_next.new.proc c.look.new.self c.look.result c.take_next.new.log c.look.ensures in
    let both : Waits old new = waits_then old mid new w l in
    record {
      looked = i.looked;
      waits = waits_then _ old new i.waits both;
      inside = inside_waits c.args.port old new both i.inside;
      closed = λ e. look_closed c.args.port c.take_next.new.proc c.look.new.self c.look.result c.look.ensures (sym c.stat_closed-closed.ensures ∙ e);
    }
