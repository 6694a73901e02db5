use Rattle.std.proofs.Common.{◌≡◌, List, [], length, sym, subst, ◌∙◌, arith}
use Rattle.port_model.specs.declared.mail.Mail.{Mail}
use Rattle.process_end.specs.Views.{ProcView}
use Rattle.process_job.specs.declared.halt.Halt.TheVariants as halt
use Rattle.process_job.specs.Going.{state}
use Rattle.process_job.specs.Steps.{HasMadeSteps, HasRunToEnd, HasTakenNone}
use Rattle.process_job.proofs.Endings.{run_to_end}
use Rattle.process_job.proofs.Seating.{finished_then, halted_then, no_memory, ran_halt, seats_none, woken_then}
use Rattle.process_job.proofs.job.run_process.Goals as goal

pub returns-in_err-log : goal.returns-in_err-log
returns-in_err-log g c = ran_halt c.args.work c.from_residual.result halt.NoMemory c.args.seats.now c.args.seats.now c.from_residual.ensures.1
    (no_memory [] c.args.seats.now c.args.seats.now (omega arith) (seats_none c.args.seats.now c.requires.seats.homes))

pub returns-in_err-proc : goal.returns-in_err-proc
returns-in_err-proc g c = ran_halt c.args.work c.from_residual-in_err-proc.result c.in_err-proc.field-0.0 c.args.seats.now c.make_steps.new.seats c.from_residual-in_err-proc.ensures.1 c.in_err-proc.ensures.seats

pub returns-in_err-proc-2 : goal.returns-in_err-proc-2
returns-in_err-proc-2 g c =
    let r = c.from_residual-in_err-proc-2 in
    ran_halt c.args.work r.result c.in_err-proc-2.field-0.0 c.args.seats.now c.end_process.new.seats r.ensures.1
    (halted_then c.in_err-proc-2.field-0.0 c.args.seats.now c.make_steps.new.seats c.end_process.new.seats c.in_ok-proc.ensures.seats c.in_err-proc-2.ensures.seats)

pub returns : goal.returns
returns g c =
    let work = c.args.work in
    let go = c.in_ok-proc.ensures.seats in
    let e = c.in_ok-proc-2.ensures in
    let log : List Mail = c.make_steps.new.log in
    let none : c.make_room.new.log ≡ [] = c.make_room.ensures.log ∙ c.in_ok-log.ensures in
    let made : HasMadeSteps work.steps.items work.files.items (state work.proc []) (state c.in_ok-proc.proc log) c.in_ok-proc.reason =
    subst (λ (p : ProcView). HasMadeSteps work.steps.items work.files.items (state p []) (state c.in_ok-proc.proc log) c.in_ok-proc.reason) c.make_room.ensures.proc
    (subst (λ (l : List Mail). HasMadeSteps work.steps.items work.files.items (state c.make_room.new.proc l) (state c.in_ok-proc.proc log) c.in_ok-proc.reason) none
    c.in_ok-proc.ensures.made) in
    let silent : length work.proc.lanes ≡ 0 → HasTakenNone work.proc.mailbox [] c.in_ok-proc.proc.mailbox log =
    subst (λ (p : ProcView). length p.lanes ≡ 0 → HasTakenNone p.mailbox [] c.in_ok-proc.proc.mailbox log) c.make_room.ensures.proc
    (subst (λ (l : List Mail). length c.make_room.new.proc.lanes ≡ 0 → HasTakenNone c.make_room.new.proc.mailbox l c.in_ok-proc.proc.mailbox log) none c.in_ok-proc.ensures.silent) in
    let run : HasRunToEnd work.steps.items work.files.items work.proc c.in_ok-proc-2.proc log =
    run_to_end work.steps.items work.files.items work.proc c.in_ok-proc.proc c.in_ok-proc.reason c.in_ok-proc-2.proc log c.requires.work.fresh made silent e.ended in (
      subst (HasRunToEnd work.steps.items work.files.items work.proc c.in_ok-proc-2.proc) (sym c.into_mails.ensures) run,
      woken_then [] c.args.seats.now.ports c.make_steps.new.seats.ports c.end_process.new.seats.ports go.woke e.seats.0,
      finished_then c.args.seats.now.over c.make_steps.new.seats.over c.end_process.new.seats.over go.looked e.seats.1,
    )
