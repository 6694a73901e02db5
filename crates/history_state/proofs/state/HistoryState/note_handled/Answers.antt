use Rattle.std.proofs.Common.{◌++◌, refl, sym, ap, ◌∙◌, subst}
use Rattle.std.specs.Prelude.{if◌then◌else◌}
use Rattle.port_history.specs.Events.{events_after}
use Rattle.port_history.specs.Jobs.{done_by}
use Rattle.port_history.specs.Marks.{is_busy, busy_after, busy_marks}
use Rattle.port_history.specs.Service.{first_reason}
use Rattle.port_history.specs.Ties.{tied, untied}
use Rattle.history_tables.specs.EventsKept.{Holds}
use Rattle.history_tables.specs.Marked.{Marked, closed_mark}
use Rattle.history_tables.specs.Tied.{Tied}
use Rattle.history_state.proofs.Steps.{handled-state}
use Rattle.history_state.proofs.state.HistoryState.note_handled.Goals as goal

pub returns : goal.returns
returns c = λ port s t so is.
    let tied_now = tied port s.ties c.args.from c.args.signal.now in
    handled-state port s t c.args.from c.args.signal.now c.args.effects.now c.args.closing.reason c.args.closing.stops c.args.self.now _ so is refl
    (subst (λ b. Tied c.note_ties.new.ties (if b then untied tied_now else tied_now)) c.is_some-closes.ensures (c.in_ok-note_ties.ensures port s.ties (sym is.processes_are) is.tied))
    (c.in_ok-note.ensures s.watched is.watches)
    (c.first_reason-self.ensures ∙ ap (λ r. first_reason r c.args.closing.reason) c.take.ensures.value)
    refl
    (subst (λ b. Holds c.note_handled.new.self (events_after c.args.signal.now c.args.effects.now b c.args.closing.stops s.events)) c.is_some-closed.ensures (c.in_ok-note_handled.ensures s.events is.holds))
    (c.in_ok-submit.ensures s.jobs (done_by c.args.signal.now s.done) (c.in_ok-note_done.ensures s.jobs s.done is.keeps so.next_job) so.next_jobs)
    (c.in_ok-note-2.ensures s.senders is.counts_are)
    is.lists
    (subst (λ b. Marked c.note-3.new.self s.marks (busy_marks (is_busy s.marks) (busy_after (is_busy s.marks) c.args.effects.now) ++ closed_mark b)) c.is_some-closes.ensures (c.note-3.ensures s.marks s.due is.marked))
