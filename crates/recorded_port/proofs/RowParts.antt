-- What a row adds to each part of what a port did.
use Rattle.std.proofs.Common.{◌≡◌, ℕ, ◌<◌, map, Bool, true, false, List, [], ◌∷◌, ◌++◌, length, drop, Option, Some, None, refl, sym, ap, ◌∙◌, subst}
use Rattle.std.specs.Prelude.{reverse, slice_index_or, if◌then◌else◌}
use Rattle.std.proofs.lemmas.List.{append-nil, map-append, reverse-append}
use Rattle.std.proofs.lemmas.List.Elements.{All-append}
use Rattle.served_port.specs.async_jobs.declared.job.Job.{Job}
use Rattle.served_port.specs.async_jobs.Pool.{Lanes}
use Rattle.served_port.specs.async_jobs.Order.{AllSubmitted}
use Rattle.port_model.specs.port_signal.Links.{has}
use Rattle.port_model.specs.port_signal.declared.mark.MarkKind.{MarkKind}
use Rattle.port_model.specs.port_signal.declared.mark.MarkKind.TheVariants.{Busy, Free, Closed}
use Rattle.port_words.specs.busy.Stat.{marked_busy, busy_after}
use Rattle.port_words.specs.declared.busy.view.StatMark.{StatMark}
use Rattle.port_words.specs.declared.busy.view.StatMark.TheVariants as stat
use Rattle.port_model.specs.declared.effect.Effect.{Effect}
use Rattle.port_model.specs.declared.mail.Mail.{Mail}
use Rattle.port_model.specs.declared.row.Row.{Row}
use Rattle.port_lanes.specs.port_history.Jobs.{submitted_by}
use Rattle.port_lanes.specs.port_history.Mail.{mails, mail_for, row_mail}
use Rattle.port_lanes.specs.port_history.Marks.{is_busy, busy_marks, closed_marks}
use Rattle.port_lanes.specs.port_history.Opening.{Opening}
use Rattle.port_lanes.specs.port_history.State.{state}
use Rattle.served_port.specs.port_jobs.Jobs.{submitted_as}
use Rattle.port_mail.specs.Ends.{MailEnd, mail_got, Posts}
use Rattle.served_port.specs.port_state.View.{due_marks}
use Rattle.served_port.specs.Outcomes.{SubmitsJobs}
use Rattle.recorded_port.specs.Asks.{GaveJobs}
use Rattle.recorded_port.specs.View.{IsChange, stat_mark, stat_marks}

-- Mail

abbrev pub HasMail : Opening → List Row → List MailEnd → Type 0
HasMail port rows ends = (process : ℕ) (e : MailEnd) → process < length ends → (slice_index_or ends process e).sent ≡ mails port process rows

got : (gone : Bool) (before sent : List Mail) → before ++ (if gone then [] else sent) ≡ (if gone then before else before ++ sent)
got true before sent = append-nil before
got false before sent = refl

pub mail-sent : (port : Opening) (rows : List Row) (row : Row) (old new : List MailEnd) (ended : List ℕ) → HasMail port rows old
    → ended ≡ (state port (row ∷ rows)).ties.ended → Posts ended old new (row_mail port (state port rows) row) → HasMail port (row ∷ rows) new
mail-sent port rows row old new ended before gone posts process e within =
    let there : process < length old = subst (λ n. process < n) posts.processes within in
    ap (λ (x : MailEnd). x.sent) (posts.ends process e there)
    ∙ (ap (λ x. x ++ mail_got ended process (row_mail port (state port rows) row)) (before process e there)
    ∙ (got (has process ended) (mails port process rows) (mail_for process (row_mail port (state port rows) row))
    ∙ ap (λ x. if has process x then mails port process rows else mails port process rows ++ mail_for process (row_mail port (state port rows) row)) gone))

silent : (gone : Bool) (before : List Mail) → before ≡ (if gone then before else before ++ [])
silent true before = refl
silent false before = sym (append-nil before)

pub mail-silent : (port : Opening) (rows : List Row) (row : Row) (ends : List MailEnd) → row_mail port (state port rows) row ≡ [] → HasMail port rows ends → HasMail port (row ∷ rows) ends
mail-silent port rows row ends none before process e within =
    before process e within
    ∙ (silent (has process (state port (row ∷ rows)).ties.ended) (mails port process rows)
    ∙ ap (λ x. if has process (state port (row ∷ rows)).ties.ended then mails port process rows else mails port process rows ++ mail_for process x) (sym none))

-- Jobs

submitted-more : (old mid new : Lanes) (jobs more : List Job) → AllSubmitted old jobs mid → AllSubmitted mid more new → AllSubmitted old (jobs ++ more) new
submitted-more old mid new [] more before after = subst (λ x. AllSubmitted x more new) before after
submitted-more old mid new (job ∷ jobs) more before after = (before.0, before.1, submitted-more before.0 mid new jobs more before.2 after)

pub jobs-given : (port : Opening) (rows : List Row) (row : Row) (effects : List Effect) (old new : Lanes) → GaveJobs port rows old → SubmitsJobs port.number effects old new
    → (state port (row ∷ rows)).jobs ≡ (state port rows).jobs ++ submitted_by effects → GaveJobs port (row ∷ rows) new
jobs-given port rows row effects old new before more jobs = record {
  start = before.start;
  jobs = before.jobs ++ more.jobs;
  fresh = before.fresh;
  own = All-append (λ (job : Job). job.port ≡ port.number) before.jobs more.jobs before.own more.are.own;
  same = map-append submitted_as before.jobs more.jobs
      ∙ (ap (λ x. x ++ map submitted_as more.jobs) before.same ∙ (ap (λ x. (state port rows).jobs ++ x) more.are.same ∙ sym jobs));
  submitted = submitted-more before.start old new before.jobs more.jobs before.submitted more.submitted;
}

pub jobs-kept : (port : Opening) (rows : List Row) (row : Row) (old new : Lanes) → GaveJobs port rows old → new ≡ old → (state port (row ∷ rows)).jobs ≡ (state port rows).jobs
    → GaveJobs port (row ∷ rows) new
jobs-kept port rows row old new before same jobs = record {
  start = before.start;
  jobs = before.jobs;
  fresh = before.fresh;
  own = before.own;
  same = before.same ∙ sym jobs;
  submitted = subst (λ x. AllSubmitted before.start before.jobs x) (sym same) before.submitted;
}

-- Marks

pub change-of-row : (before after : Bool) (reason : Option (List ℕ)) → IsChange before (busy_marks before after ++ closed_marks reason)
change-of-row true true None = tt
change-of-row true true (Some r) = tt
change-of-row true false reason = refl
change-of-row false true reason = refl
change-of-row false false None = tt
change-of-row false false (Some r) = tt

pub change-of-mark : (change : Option Bool) (closes busy : Bool) → IsChange busy (drop 1 (due_marks change closes))
change-of-mark None true busy = tt
change-of-mark None false busy = tt
change-of-mark (Some true) true busy = tt
change-of-mark (Some true) false busy = tt
change-of-mark (Some false) true busy = tt
change-of-mark (Some false) false busy = tt

pub two-marks : (change : Option Bool) (closes : Bool) → drop 1 (drop 1 (due_marks change closes)) ≡ []
two-marks None true = refl
two-marks None false = refl
two-marks (Some true) true = refl
two-marks (Some true) false = refl
two-marks (Some false) true = refl
two-marks (Some false) false = refl

pub stat-marks-more : (kind : MarkKind) (marks : List MarkKind) → stat_marks (kind ∷ marks) ≡ stat_marks marks ++ stat_mark kind ∷ []
stat-marks-more kind marks = ap (map stat_mark) (reverse-append (kind ∷ []) marks) ∙ map-append stat_mark (reverse marks) (kind ∷ [])

busy-more : (before : Bool) (marks more : List StatMark) → busy_after before (marks ++ more) ≡ busy_after (busy_after before marks) more
busy-more before [] more = refl
busy-more before (stat.Busy ∷ marks) more = busy-more true marks more
busy-more before (stat.Free ∷ marks) more = busy-more false marks more
busy-more before (stat.Closed ∷ marks) more = busy-more before marks more

pub stat-busy : (marks : List MarkKind) → marked_busy (stat_marks marks) ≡ is_busy marks
stat-busy [] = refl
stat-busy (Busy ∷ marks) = ap marked_busy (stat-marks-more Busy marks) ∙ busy-more false (stat_marks marks) (stat.Busy ∷ [])
stat-busy (Free ∷ marks) = ap marked_busy (stat-marks-more Free marks) ∙ busy-more false (stat_marks marks) (stat.Free ∷ [])
stat-busy (Closed ∷ marks) = ap marked_busy (stat-marks-more Closed marks) ∙ (busy-more false (stat_marks marks) (stat.Closed ∷ []) ∙ stat-busy marks)
