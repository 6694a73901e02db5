use Rattle.std.proofs.Common.{[], map, refl, sym, subst}
use Rattle.port_history.specs.Events.{arm, selected_by}
use Rattle.port_history.specs.Jobs.{submitted_by}
use Rattle.port_history.specs.Ties.{opened, watched_by}
use Rattle.history_tables.specs.EventsKept.{Holds}
use Rattle.history_tables.specs.JobsKept.{Keeps}
use Rattle.history_tables.specs.Tied.{Tied, Watches}
use Rattle.history_state.proofs.state.HistoryState.new.Goals as goal

pub returns : goal.returns
returns c = λ port processes owner effects. record {
  processes_are = sym processes;
  tied = subst (λ o. Tied c.in_ok-ties.ties (opened o)) (sym owner) c.in_ok-ties.ensures;
  watches = subst (λ es. Watches c.note.new.self (watched_by es [])) effects (c.in_ok-note.ensures [] c.new-watched.ensures);
  reason_is = refl;
  stopped_is = refl;
  holds = subst (λ es. Holds c.note_start.new.self (map arm (selected_by es []))) effects (c.in_ok-note_start.ensures [] c.new-events.ensures);
  keeps = subst (λ es. Keeps c.submit.new.self (submitted_by es) []) effects (c.in_ok-submit.ensures [] [] c.new-jobs.ensures c.requires);
  counts_are = c.new-counts.ensures;
  lists = c.new-listed.ensures;
  marked = c.new-marks.ensures;
}
