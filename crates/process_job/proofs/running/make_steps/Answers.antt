use Rattle.std.proofs.Common.{◌≡◌, ℕ, List, [], ◌∷◌, length, Ok, Err, refl, sym, ◌∙◌, subst, arith}
use Rattle.std.specs.List.{All}
use Rattle.std.proofs.lemmas.List.Elements.{All-head, All-tail}
use Rattle.script_plan.specs.declared.step.Step.{Step}
use Rattle.script_plan.specs.Plan.{IsWithin}
use Rattle.process_job.specs.Asks.{asks_of, next_content, files_after}
use Rattle.process_job.specs.Actions.{action_of}
use Rattle.process_job.specs.Going.{ProcessState, state}
use Rattle.process_job.specs.Jobs.{AreWithin}
use Rattle.process_job.specs.Steps.{HasComeTo, MakesCallsOf}
use Rattle.process_job.proofs.Ports.{among_kept}
use Rattle.process_job.proofs.Seating.{after_halt, halted_then, ports_kept, seats_none, seats_then}
use Rattle.process_job.proofs.Stepping.{IsActionOf, empty_list, come_all, come_end, come_more, come_none, ends_with, is_action, no_action}
use Rattle.process_job.proofs.running.make_steps.Goals as goal

pub steps-init : goal.steps-init
steps-init g c = record {
  seats = seats_none c.args.seats.now c.requires.ports.homes;
  ports = c.requires.ports;
  within = c.requires.within;
  silent = λ none. (refl, refl);
  come = come_none c.args.own_steps.steps.items c.args.own_steps.files.items (state c.args.proc c.args.log.now);
}

pub act-requires-clause-within : goal.act-requires-clause-within
act-requires-clause-within g c =
    let w = c.steps.invariant.within in
    let step : Step = c.in-Some.step in
    let files : List (List ℕ) = c.steps.files.items in
    let a : IsActionOf step.line step.act (next_content files) c.in-Ok.action =
    is_action step.line step.act (next_content files) c.in-Ok.action (c.in-Ok.ensures ∙ c.content_for-content.ensures.content step.line) in
    let all : All (λ (s : Step). IsWithin w.0 (length c.steps.sender.lanes) s.act) (step ∷ c.pop_front.new.self.items) =
    subst (AreWithin w.0 (length c.steps.sender.lanes)) c.in-Some.ensures.items w.2 in
    (w.0, w.1, a.within w.0 (length c.steps.sender.lanes) (All-head (λ (s : Step). IsWithin w.0 (length c.steps.sender.lanes) s.act) step c.pop_front.new.self.items all))

pub returns-in_err-sender-in-Ok-clause-seats : goal.returns-in_err-sender-in-Ok-clause-seats
returns-in_err-sender-in-Ok-clause-seats g c =
    let e = c.in_err-sender-in-Ok in
    after_halt c.from_residual.result e.field-0.0 c.args.seats.now c.act.new.seats c.from_residual.ensures.1
    (halted_then e.field-0.0 c.args.seats.now c.steps.seats c.act.new.seats c.steps.invariant.seats e.ensures.seats)

pub steps-preserved : goal.steps-preserved
steps-preserved g c =
    let i = c.steps.invariant in
    let m = c.in_ok-sender-in-Ok.ensures in
    let w = i.within in
    let step : Step = c.in-Some.step in
    let rest : List Step = c.pop_front.new.self.items in
    let files : List (List ℕ) = c.steps.files.items in
    let all_steps : List Step = c.args.own_steps.steps.items in
    let all_files : List (List ℕ) = c.args.own_steps.files.items in
    let one : ProcessState = state c.args.proc c.args.log.now in
    let two : ProcessState = state c.steps.sender c.steps.log in
    let three : ProcessState = state c.in_ok-sender-in-Ok.sender c.act.new.log in
    let a : IsActionOf step.line step.act (next_content files) c.in-Ok.action =
    is_action step.line step.act (next_content files) c.in-Ok.action (c.in-Ok.ensures ∙ c.content_for-content.ensures.content step.line) in
    let calls : MakesCallsOf (asks_of step.line step.act (next_content files)) two three = subst (λ l. MakesCallsOf l two three) a.asks m.calls in
    let ports = calls.makes.goes.ports in
    let all : All (λ (s : Step). IsWithin w.0 (length c.steps.sender.lanes) s.act) (step ∷ rest) = subst (AreWithin w.0 (length c.steps.sender.lanes)) c.in-Some.ensures.items w.2 in
    let come : HasComeTo all_steps all_files one rest (files_after step.act files) three =
    come_more all_steps rest all_files files step one two three (subst (λ l. HasComeTo all_steps all_files one l files two) c.in-Some.ensures.items i.come) a.alive calls
    (a.waited three.mails three.proc.seats m.waited) in
    record {
      seats = seats_then [] c.args.seats.now c.steps.seats c.act.new.seats i.seats m.seats;
      ports = ports_kept [] c.steps.seats c.act.new.seats c.steps.sender c.in_ok-sender-in-Ok.sender m.seats i.ports ports.lanes_many;
      within = (
        w.0,
        among_kept w.0 c.steps.sender.lanes three.proc.lanes c.steps.sender.seats three.proc.seats ports w.1,
        subst (λ n. AreWithin w.0 n rest) (sym ports.lanes_many) (All-tail (λ (s : Step). IsWithin w.0 (length c.steps.sender.lanes) s.act) step rest all),
      );
      silent = λ none. absurd (no_action w.0 (length c.steps.sender.lanes) c.in-Ok.action
          (a.within w.0 (length c.steps.sender.lanes) (All-head (λ (s : Step). IsWithin w.0 (length c.steps.sender.lanes) s.act) step rest all))
          (i.come.makes.goes.ports.lanes_many ∙ none));
      come = subst (λ l. HasComeTo all_steps all_files one rest l three) (sym c.content_for-content.ensures.rest) come;
    }

pub returns-in-Err-clause-made : goal.returns-in-Err-clause-made
returns-in-Err-clause-made g c =
    let step : Step = c.in-Some.step in
    let rest : List Step = c.pop_front.new.self.items in
    let files : List (List ℕ) = c.steps.files.items in
    let all_steps : List Step = c.args.own_steps.steps.items in
    let all_files : List (List ℕ) = c.args.own_steps.files.items in
    let one : ProcessState = state c.args.proc c.args.log.now in
    let two : ProcessState = state c.steps.sender c.steps.log in
    let e = ends_with step.line step.act (next_content files) c.in-Err.reason c.action_of.result c.in-Err.is (c.action_of.ensures ∙ c.content_for-content.ensures.content step.line) in
    come_end all_steps rest all_files files step c.in-Err.reason one two (subst (λ l. HasComeTo all_steps all_files one l files two) c.in-Some.ensures.items c.steps.invariant.come) e.0 e.1

pub returns-clause-made : goal.returns-clause-made
returns-clause-made g c =
    let files : List (List ℕ) = c.steps.files.items in
    let all_steps : List Step = c.args.own_steps.steps.items in
    let all_files : List (List ℕ) = c.args.own_steps.files.items in
    let one : ProcessState = state c.args.proc c.args.log.now in
    let two : ProcessState = state c.steps.sender c.steps.log in
    let none : length c.steps.steps.items ≡ 0 = omega (arith, c.in_default.ensures.cases.0, c.steps.steps.ok.0) in
    come_all all_steps all_files files c.normal.result one two (subst (λ l. HasComeTo all_steps all_files one l files two) (empty_list c.steps.steps.items none) c.steps.invariant.come) c.normal.ensures

pub returns-in-Err-clause-silent : goal.returns-in-Err-clause-silent
returns-in-Err-clause-silent g c = c.steps.invariant.silent

pub returns-clause-silent : goal.returns-clause-silent
returns-clause-silent g c = c.steps.invariant.silent
