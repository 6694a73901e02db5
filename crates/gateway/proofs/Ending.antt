-- How a run ends at each of its stages.
use Rattle.std.proofs.Common.{inl, inr, ◌≡◌, ℕ, ◌⊎◌, List, Option, Some, None, Result, Ok, Err, refl, sym, ap, subst, ◌∙◌}
use Rattle.std.specs.Prelude.{All, IsSomeAnd}
use Rattle.outside.specs.Causes.{Rose}
use Rattle.driver_model.specs.Calls.{Kind, Own}
use Rattle.driver_model.specs.Programs.{ToldProgram}
use Rattle.port_driver.specs.declared.life.Life.{Life}
use Rattle.driver_hosts.specs.declared.hosted.Hosted.{Hosted}
use Rattle.driver_hosts.specs.Back.{AllCameBack}
use Rattle.driver_hosts.specs.Hosts.{IsUnused}
use Rattle.run_laws.specs.run_output.run_opening.Faults.{LacksAt, RefusedAt}
use Rattle.run_laws.specs.run_output.declared.writing.OutputFault.{OutputFault}
use Rattle.run_laws.specs.run_output.declared.writing.OutputFault.TheVariants as output
use Rattle.run_laws.specs.run_output.Ends.{SinkView}
use Rattle.run_laws.specs.run_output.Reported.{report_of}
use Rattle.run_report.specs.declared.cause.Cause.{Cause}
use Rattle.run_report.specs.declared.cause.Cause.TheVariants.{Done, Usage, Script, ReadFault, WriteFault, NoDriver, StartRefused, PollFault, NoMemory, Illegal, Limit, JournalText}
use Rattle.run_report.specs.declared.report.Report.{Report}
use Rattle.script_input.specs.declared.input.RunInput.{RunInput}
use Rattle.script_input.specs.declared.input.RunWrites.{RunWrites}
use Rattle.script_input.specs.Files.{FilesView, NothingRead, NothingWritten}
use Rattle.script_input.proofs.Contents.{all-done}
use Rattle.script_input.specs.Words.{AskedRun, Source, FromFile, FromLoad}
use Rattle.script_plan.specs.declared.decl.PortDecl.{PortDecl}
use Rattle.script_plan.specs.Plan.{Plan}
use Rattle.run_laws.specs.run_output.script_run.declared.running.RunFault.{RunFault}
use Rattle.run_laws.specs.run_output.script_run.declared.running.RunFault.TheVariants as ran
use Rattle.run_laws.specs.run_output.script_run.declared.running.ScriptRan.{ScriptRan}
use Rattle.run_laws.specs.run_output.script_run.Ends.{HaveAllServed, IsNotRun}
use Rattle.run_laws.specs.run_output.script_run.Ran.{HasRun}
use Rattle.run_laws.specs.Counted.{CommandsAreCounted}
use Rattle.run_laws.specs.Journals.{IsReplayed}
use Rattle.run_laws.specs.Served.{ProgramsServed}
use Rattle.gateway.specs.Fixed.{AnswersAreFixed, IsSummaryOf}
use Rattle.gateway.specs.Run.{Run, AskFor, PlanFound, HasInput}
use Rattle.gateway.specs.Ran.{PutOut, Ran}
use Rattle.gateway.specs.Causes.{CauseComes, IsReported, Ends}
use Rattle.gateway.specs.Stages.{run_cause, InputEnds, WriteEnds}
use Rattle.gateway.proofs.Asked.{same-source}
use Rattle.gateway.proofs.Reading.{says-reads}
use Rattle.gateway.proofs.Untouched.{none-touched}
use Rattle.gateway.proofs.Whole.{completes}

-- the script of a run for which all was read
found-of : (words : Result AskedRun ℕ) (before after : FilesView) (plan : Plan) (i : RunInput) → HasInput words before after plan i → PlanFound words before after plan
found-of words before after plan i h = record {
  mid = h.loaded.mid;
  script = h.loaded.script;
  files = all-done plan.steps plan.steps h.loaded.mid after h.contents h.loaded.files refl;
}

reads-same : (words : Result AskedRun ℕ) (before after : FilesView) (plan : Plan) (i : RunInput) → HasInput words before after plan i → after.reads ≡ before.reads
reads-same words before after plan i h = h.loaded.files.reads ∙ says-reads h.loaded.script.asked.source before h.loaded.mid plan h.loaded.script.read

-- what a load leaves of the files
Untouched : {D : Type 0} → Run D → Type 0
Untouched run = (number : ℕ) → AskFor run.words (FromLoad number) → run.files_after ≡ run.files

-- files of which nothing was read and in which nothing was written are as they were
same-view : (before after : FilesView) → NothingRead before after → NothingWritten before after → after ≡ before
same-view before after r w =
    ap (λ t. record { told = t; answered = after.answered; wrote = after.wrote; reads = after.reads; writes = after.writes }) w.told
    ∙ ap (λ l. record { told = before.told; answered = l; wrote = after.wrote; reads = after.reads; writes = after.writes }) r.answered
    ∙ ap (λ l. record { told = before.told; answered = before.answered; wrote = l; reads = after.reads; writes = after.writes }) w.wrote
    ∙ ap (λ n. record { told = before.told; answered = before.answered; wrote = before.wrote; reads = n; writes = after.writes }) r.reads
    ∙ ap (λ n. record { told = before.told; answered = before.answered; wrote = before.wrote; reads = before.reads; writes = n }) w.writes

-- ---- what is put out

-- all of it: no count rose
put-all : (source : Source) (writes : RunWrites) (report : Report) (files files' : FilesView) (sink sink' : SinkView) → PutOut source writes report files files' sink sink' (Ok tt)
    → (files'.reads ≡ files.reads) × (files'.writes ≡ files.writes) × (sink'.faults ≡ sink.faults)
put-all (FromFile name) writes report files files' sink sink' o = (o.0.touches.reads, o.0.faults, o.1.faults)
put-all (FromLoad number) writes report files files' sink sink' o = (ap (λ (f : FilesView). f.reads) o.0, ap (λ (f : FilesView). f.writes) o.0, o.1.faults)

-- a write or the put failed
put-fails : (source : Source) (writes : RunWrites) (report : Report) (files files' : FilesView) (sink sink' : SinkView) → PutOut source writes report files files' sink sink' (Err output.WriteFault)
    → Rose files.writes files'.writes ⊎ Rose sink.faults sink'.faults
put-fails (FromFile name) writes report files files' sink sink' o =
    elim o [ inl file ↦ inl (subst (λ n. Rose n files'.writes) file.0.wrote.faults file.0.fails.rose) | inr put ↦ inr put.1.rose ]
put-fails (FromLoad number) writes report files files' sink sink' o = inr o.1.rose

-- memory was wanting: no read failed
put-short : (source : Source) (writes : RunWrites) (report : Report) (files files' : FilesView) (sink sink' : SinkView) → PutOut source writes report files files' sink sink' (Err output.NoMemory)
    → files'.reads ≡ files.reads
put-short (FromFile name) writes report files files' sink sink' o = o.0.wrote.touches.reads
put-short (FromLoad number) writes report files files' sink sink' o = ap (λ (f : FilesView). f.reads) o.0

-- of a load no file is touched
put-apart : (number : ℕ) (writes : RunWrites) (report : Report) (files files' : FilesView) (sink sink' : SinkView) (cause : Cause) (told : Option Report)
    → WriteEnds (FromLoad number) writes report files files' sink sink' cause told → files' ≡ files
put-apart number writes report files files' sink sink' Done told w = w.1.0
put-apart number writes report files files' sink sink' (Usage at) told w = absurd w
put-apart number writes report files files' sink sink' (Script fault) told w = absurd w
put-apart number writes report files files' sink sink' (ReadFault line) told w = absurd w
put-apart number writes report files files' sink sink' WriteFault told w = w.1.0
put-apart number writes report files files' sink sink' (NoDriver line handed) told w = absurd w
put-apart number writes report files files' sink sink' (StartRefused line refusal) told w = absurd w
put-apart number writes report files files' sink sink' PollFault told w = absurd w
put-apart number writes report files files' sink sink' NoMemory told w = elim w.1 [ inl none ↦ none.0 | inr some ↦ some.0 ]
put-apart number writes report files files' sink sink' (Illegal port row law) told w = absurd w
put-apart number writes report files files' sink sink' (Limit line) told w = absurd w
put-apart number writes report files files' sink sink' (JournalText at) told w = absurd w

module _ {D : Type 0} (kind : D → Kind) (stage : D → Life) (faults : D → ℕ) (own : D → Own) (program : D → Option ToldProgram) where
  ends-so : (run : Run D) (cause : Cause) (report : Option Report) → CauseComes kind stage faults own program run cause → IsReported kind stage faults own program run cause report
      → AllCameBack kind stage faults run.hosts run.hosts_after → Untouched run → Ends kind stage faults own program run cause report
  unfolding Untouched
  ends-so run cause report comes reported back untouched =
      record { comes = comes; reported = reported; back = back; load = untouched; complete = completes kind stage faults own program run cause comes }

  unread-comes : (run : Run D) (cause : Cause) → InputEnds kind stage faults run.words run.hosts run.files run.files_after cause → NothingWritten run.files run.files_after
      → run.sink_after ≡ run.sink → run.hosts_after ≡ run.hosts → CauseComes kind stage faults own program run cause
  unread-comes run Done l w s h = absurd l
  unread-comes run (Usage at) l w s h = (l.0, l.1, h, (w, s))
  unread-comes run (Script fault) l w s h = (l, h, (w, s))
  unread-comes run (ReadFault line) l w s h = (l, h, (w, s))
  unread-comes run WriteFault l w s h = absurd l
  unread-comes run (NoDriver line handed) l w s h = (record { plan = l.0; found = l.1; lacks = l.2 }, h, (w, s))
  unread-comes run (StartRefused line refusal) l w s h = absurd l
  unread-comes run PollFault l w s h = absurd l
  unread-comes run NoMemory l w s h = (l, inl (w, s))
  unread-comes run (Illegal port row law) l w s h = absurd l
  unread-comes run (Limit line) l w s h = (l, h, (w, s))
  unread-comes run (JournalText at) l w s h = absurd l

  unread-reported : (run : Run D) (words : Result AskedRun ℕ) (hosts : List (Hosted D)) (before after : FilesView) (cause : Cause) → InputEnds kind stage faults words hosts before after cause
      → IsReported kind stage faults own program run cause None
  unread-reported run words hosts before after Done l = absurd l
  unread-reported run words hosts before after (Usage at) l = refl
  unread-reported run words hosts before after (Script fault) l = refl
  unread-reported run words hosts before after (ReadFault line) l = refl
  unread-reported run words hosts before after WriteFault l = absurd l
  unread-reported run words hosts before after (NoDriver line handed) l = refl
  unread-reported run words hosts before after (StartRefused line refusal) l = refl
  unread-reported run words hosts before after PollFault l = refl
  unread-reported run words hosts before after NoMemory l = refl
  unread-reported run words hosts before after (Illegal port row law) l = refl
  unread-reported run words hosts before after (Limit line) l = refl
  unread-reported run words hosts before after (JournalText at) l = refl

  -- not all was read
  pub ends_unread : (run : Run D) (cause : Cause) → InputEnds kind stage faults run.words run.hosts run.files run.files_after cause → NothingWritten run.files run.files_after
      → ((number : ℕ) → AskFor run.words (FromLoad number) → NothingRead run.files run.files_after)
      → run.sink_after ≡ run.sink → run.hosts_after ≡ run.hosts → All (IsUnused stage) run.hosts → Ends kind stage faults own program run cause None
  unfolding Untouched
  ends_unread run cause l w quiet s h unused =
      ends-so run cause None (unread-comes run cause l w s h) (unread-reported run run.words run.hosts run.files run.files_after cause l) (rw h (none-touched kind stage faults run.hosts unused))
      (λ number asks. same-view run.files run.files_after (quiet number asks) w)

  unmade-comes : (run : Run D) (plan : Plan) (i : RunInput) (fault : RunFault) → HasInput run.words run.files run.files_after plan i
      → IsNotRun kind stage faults i.script.ports.items run.hosts run.hosts_after fault → (fault ≡ ran.PollFault → IsSomeAnd run.waits_after (λ waits. Rose run.waits waits))
      → NothingWritten run.files run.files_after → run.sink_after ≡ run.sink → CauseComes kind stage faults own program run (run_cause fault)
  unmade-comes run plan i (ran.NoDriver line handed) h n p w s = (
    record {
      plan = plan;
      found = found-of run.words run.files run.files_after plan i h;
      lacks = subst (λ (ports : List PortDecl). LacksAt kind stage faults ports run.hosts line handed) h.run.ports n.0;
    },
    n.1,
    (w, s),
  )
  unmade-comes run plan i (ran.StartRefused line refusal) h n p w s = (
    record {
      plan = plan;
      contents = h.contents;
      loaded = h.loaded;
      refused = subst (λ (ports : List PortDecl). RefusedAt kind stage faults ports run.hosts run.hosts_after line refusal) h.run.ports n;
    },
    (w, s),
  )
  unmade-comes run plan i ran.PollFault h n p w s = (
    record {
      plan = plan;
      contents = h.contents;
      loaded = h.loaded;
      served = subst (λ (ports : List PortDecl). HaveAllServed kind stage faults ports run.hosts run.hosts_after) h.run.ports n;
      rose = p refl;
    },
    (w, s),
  )
  unmade-comes run plan i ran.NoMemory h n p w s = (reads-same run.words run.files run.files_after plan i h, inl (w, s))

  unmade-reported : (run : Run D) (fault : RunFault) → IsReported kind stage faults own program run (run_cause fault) None
  unmade-reported run (ran.NoDriver line handed) = refl
  unmade-reported run (ran.StartRefused line refusal) = refl
  unmade-reported run ran.PollFault = refl
  unmade-reported run ran.NoMemory = refl

  -- the run wasn't made
  pub ends_unmade : (run : Run D) (plan : Plan) (i : RunInput) (fault : RunFault) → HasInput run.words run.files run.files_after plan i
      → IsNotRun kind stage faults i.script.ports.items run.hosts run.hosts_after fault → (fault ≡ ran.PollFault → IsSomeAnd run.waits_after (λ waits. Rose run.waits waits))
      → NothingWritten run.files run.files_after → ((number : ℕ) → AskFor run.words (FromLoad number) → NothingRead run.files run.files_after) → run.sink_after ≡ run.sink
      → AllCameBack kind stage faults run.hosts run.hosts_after → Ends kind stage faults own program run (run_cause fault) None
  unfolding Untouched
  ends_unmade run plan i fault h n p w quiet s back =
      ends-so run (run_cause fault) None (unmade-comes run plan i fault h n p w s) (unmade-reported run fault) back (λ number asks. same-view run.files run.files_after (quiet number asks) w)

  -- what is known of a run that was made, before its output was written
  record Made (run : Run D) (plan : Plan) (i : RunInput) (read : FilesView) (left : ScriptRan) : Type 0 where
    unwritten : NothingWritten run.files read
    input : HasInput run.words run.files read plan i
    has_run : HasRun kind stage faults own program i.script run.hosts run.hosts_after run.answered run.answered_after left
    fixed : AnswersAreFixed i.script left
    programs : ProgramsServed kind program i.script has_run.places run.hosts_after left
    summary : IsSummaryOf input.loaded.script.asked.source (report_of i.names left)
    counted : CommandsAreCounted i.script left (report_of i.names left)
    journal : IsReplayed (report_of i.names left)

  -- where its script comes from
  abbrev source-of : {run : Run D} {plan : Plan} {i : RunInput} {read : FilesView} {left : ScriptRan} → Made run plan i read left → Source
  source-of m = m.input.loaded.script.asked.source

  ran-so : (run : Run D) (plan : Plan) (i : RunInput) (read : FilesView) (left : ScriptRan) (ended : Result (Unit {0}) OutputFault) (m : Made run plan i read left)
      → PutOut (source-of m) i.writes (report_of i.names left) read run.files_after run.sink run.sink_after ended
      → Ran kind stage faults own program run ended (report_of i.names left)
  ran-so run plan i read left ended m o = record {
    plan = plan;
    input = i;
    read = read;
    unwritten = m.unwritten;
    has_input = m.input;
    left = left;
    has_run = m.has_run;
    fixed = m.fixed;
    programs = m.programs;
    report_is = refl;
    summary = m.summary;
    counted = m.counted;
    journal = m.journal;
    written = o;
  }

  made-comes : (run : Run D) (plan : Plan) (i : RunInput) (read : FilesView) (left : ScriptRan) (cause : Cause) (told : Option Report) (m : Made run plan i read left) → run.waits_after ≡ Some run.waits
      → WriteEnds (source-of m) i.writes (report_of i.names left) read run.files_after run.sink run.sink_after cause told → CauseComes kind stage faults own program run cause
  made-comes run plan i read left Done told m p w =
      let same = put-all (source-of m) i.writes (report_of i.names left) read run.files_after run.sink run.sink_after w.1 in
      record {
        reads = same.0 ∙ reads-same run.words run.files read plan i m.input;
        writes = same.1 ∙ m.unwritten.writes;
        puts = same.2;
        waits = p;
      }
  made-comes run plan i read left (Usage at) told m p w = absurd w
  made-comes run plan i read left (Script fault) told m p w = absurd w
  made-comes run plan i read left (ReadFault line) told m p w = absurd w
  made-comes run plan i read left WriteFault told m p w = elim (put-fails (source-of m) i.writes (report_of i.names left) read run.files_after run.sink run.sink_after w.1) [
    | inl file ↦ inl (subst (λ n. Rose n run.files_after.writes) m.unwritten.writes file)
    | inr put ↦ inr put
  ]
  made-comes run plan i read left (NoDriver line handed) told m p w = absurd w
  made-comes run plan i read left (StartRefused line refusal) told m p w = absurd w
  made-comes run plan i read left PollFault told m p w = absurd w
  made-comes run plan i read left NoMemory told m p w = elim w.1 [
    | inl none ↦ (
      ap (λ (f : FilesView). f.reads) none.0 ∙ reads-same run.words run.files read plan i m.input,
      inl (subst (λ (f : FilesView). NothingWritten run.files f) (sym none.0) m.unwritten, none.1),
    )
    | inr some ↦ (
      put-short (source-of m) i.writes (report_of i.names left) read run.files_after run.sink run.sink_after some ∙ reads-same run.words run.files read plan i m.input,
      inr (report_of i.names left, ran-so run plan i read left (Err output.NoMemory) m some),
    )
  ]
  made-comes run plan i read left (Illegal port row law) told m p w = absurd w
  made-comes run plan i read left (Limit line) told m p w = absurd w
  made-comes run plan i read left (JournalText at) told m p w = absurd w

  made-reported : (run : Run D) (plan : Plan) (i : RunInput) (read : FilesView) (left : ScriptRan) (cause : Cause) (told : Option Report) (m : Made run plan i read left)
      → WriteEnds (source-of m) i.writes (report_of i.names left) read run.files_after run.sink run.sink_after cause told → IsReported kind stage faults own program run cause told
  made-reported run plan i read left Done told m w = rw w.0 (ran-so run plan i read left (Ok tt) m w.1)
  made-reported run plan i read left (Usage at) told m w = absurd w
  made-reported run plan i read left (Script fault) told m w = absurd w
  made-reported run plan i read left (ReadFault line) told m w = absurd w
  made-reported run plan i read left WriteFault told m w = rw w.0 (ran-so run plan i read left (Err output.WriteFault) m w.1)
  made-reported run plan i read left (NoDriver line handed) told m w = absurd w
  made-reported run plan i read left (StartRefused line refusal) told m w = absurd w
  made-reported run plan i read left PollFault told m w = absurd w
  made-reported run plan i read left NoMemory told m w = w.0
  made-reported run plan i read left (Illegal port row law) told m w = absurd w
  made-reported run plan i read left (Limit line) told m w = absurd w
  made-reported run plan i read left (JournalText at) told m w = absurd w

  -- the run was made
  pub ends_made : (run : Run D) (plan : Plan) (i : RunInput) (source : Source) (read : FilesView) (left : ScriptRan) (cause : Cause) (told : Option Report) → NothingWritten run.files read
      → (h : HasInput run.words run.files read plan i) → AskFor run.words source → ((number : ℕ) → AskFor run.words (FromLoad number) → NothingRead run.files read)
      → (r : HasRun kind stage faults own program i.script run.hosts run.hosts_after run.answered run.answered_after left) → AnswersAreFixed i.script left
      → ProgramsServed kind program i.script r.places run.hosts_after left → IsSummaryOf h.loaded.script.asked.source (report_of i.names left)
      → CommandsAreCounted i.script left (report_of i.names left) → IsReplayed (report_of i.names left) → run.waits_after ≡ Some run.waits
      → WriteEnds source i.writes (report_of i.names left) read run.files_after run.sink run.sink_after cause told → AllCameBack kind stage faults run.hosts run.hosts_after
      → Ends kind stage faults own program run cause told
  unfolding Untouched
  ends_made run plan i source read left cause told n h asks quiet r fixed programs summary counted journal p w back =
      let m : Made run plan i read left = record { unwritten = n; input = h; has_run = r; fixed = fixed; programs = programs; summary = summary; counted = counted; journal = journal } in
      let asked = h.loaded.script.asked in
      let so = λ (s : Source). WriteEnds s i.writes (report_of i.names left) read run.files_after run.sink run.sink_after cause told in
      let w' : WriteEnds asked.source i.writes (report_of i.names left) read run.files_after run.sink run.sink_after cause told =
      subst so (sym (same-source run.words asked source h.loaded.script.named asks)) w in
      ends-so run cause told (made-comes run plan i read left cause told m p w') (made-reported run plan i read left cause told m w') back
      (λ number load.
      put-apart number i.writes (report_of i.names left) read run.files_after run.sink run.sink_after cause told
      (subst so (same-source run.words asked (FromLoad number) h.loaded.script.named load) w') ∙ same-view run.files read (quiet number load) n)
