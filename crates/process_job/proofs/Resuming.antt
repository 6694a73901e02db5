-- What a suspended process that tries to go on leaves of it.
use Rattle.std.proofs.Common.{◌≡◌, ℕ, ◌<◌, List, [], ◌∷◌, ◌++◌, length, true, false, ◌||◌, Ok, Some, refl, sym, ap, ◌∙◌, subst}
use Rattle.std.specs.Prelude.{slice_index_or, map}
use Rattle.std.specs.List.{list_any}
use Rattle.std.proofs.lemmas.List.{append-nil}
use Rattle.std.proofs.lemmas.List.Folds.{list_any-append}
use Rattle.port_model.specs.declared.mail.Mail.{Mail}
use Rattle.port_model.specs.declared.mail.Mail.TheVariants as mail
use Rattle.port_words.specs.busy.Known.{SendKnown}
use Rattle.port_words.specs.busy.Stat.{tells_closed}
use Rattle.process_end.specs.suspend_list.declared.note.StopNote.{StopNote}
use Rattle.process_end.specs.process_receipts.Asks.{Asked}
use Rattle.process_end.specs.process_receipts.Ledgers.{saw_closed}
use Rattle.process_end.specs.declared.answers.NotYet.{NotYet}
use Rattle.process_end.specs.declared.answers.NotYet.TheVariants as notyet
use Rattle.process_end.specs.Views.{ProcView, StoppedView}
use Rattle.process_end.specs.Calls.{HasAsked}
use Rattle.process_end.specs.Looked.{HasLookedAt}
use Rattle.process_end.specs.Mailbox.{Mailbox}
use Rattle.process_end.specs.Resumed.{is_resume, with_mailbox, GotResume, HasTried, HasWaited}
use Rattle.process_end.proofs.Adds.{split, or-one}
use Rattle.process_job.specs.Mails.{Came, came_from, readable}
use Rattle.process_job.specs.Waits.{FoundClosed}
use Rattle.process_job.specs.Waiting.{handed_over}
use Rattle.process_job.specs.Going.{ProcessState, state, AreSamePorts, HasHeard, Waits}
use Rattle.process_job.proofs.Mailing.{heard_none, heard_took}
use Rattle.process_job.proofs.Ports.{ports_found}
use Rattle.process_job.proofs.Goings.{waits_took, waits_quiet}

-- what was found closed stays so, and the ports are as many
pub closed_waits : (port : ℕ) (one two : ProcessState) → Waits one two → FoundClosed port one.proc.seats → FoundClosed port two.proc.seats
closed_waits port one two w f = λ d. (w.1.ports.same_seats port d).closed (f d)

pub inside_waits : (port : ℕ) (one two : ProcessState) → Waits one two → port < length one.proc.lanes → port < length two.proc.lanes
inside_waits port one two w inside = subst (λ n. port < n) (sym w.1.ports.lanes_many) inside

pub look_closed : (port : ℕ) (old new : ProcView) (stat : ℕ) → HasLookedAt port old new stat → tells_closed stat ≡ true → FoundClosed port new.seats
look_closed port old new stat h e = λ d.
    ap (λ (s : SendKnown). saw_closed s.sender.stats) (h.seat d)
    ∙ list_any-append tells_closed (slice_index_or old.seats port d).sender.stats (stat ∷ [])
    ∙ ap (λ b. list_any tells_closed (slice_index_or old.seats port d).sender.stats || (b || false)) e
    ∙ or-one (list_any tells_closed (slice_index_or old.seats port d).sender.stats) false

resume_unread : (note : StopNote) (m : Mail) → is_resume note m ≡ true → readable (m ∷ []) ≡ []
resume_unread note (mail.Resume port seq word closed) e = refl
resume_unread note other e = absurd cc

abbrev map_from : ℕ → List Mail → List Came
map_from port mails = map (came_from (Some port)) mails

heard_resume : (s : StoppedView) (mailbox : Mailbox) → GotResume s mailbox → HasHeard [] s.proc.mailbox mailbox
heard_resume s mailbox g = split s.resumed
    (λ e. subst (HasHeard [] s.proc.mailbox) (sym (g.before e)) (heard_none s.proc.mailbox))
    (λ e. let t = g.taken e in
    let unread = resume_unread s.note t.0 t.2 in
    subst (λ l. HasHeard (map_from t.1.port l) s.proc.mailbox mailbox) unread (heard_took s.proc.mailbox mailbox t.0 t.1))

waits_found : (old new : ProcView) (mails new_mails : List Mail) → new ≡ record (with_mailbox old new.mailbox) { seats = new.seats } → HasHeard [] old.mailbox new.mailbox
    → ((asks : List Asked) → HasAsked asks old → HasAsked asks new) → AreSamePorts old.lanes new.lanes old.seats new.seats → new_mails ≡ mails ++ [] → Waits (state old mails) (state new new_mails)
waits_found old new mails new_mails e heard asked ports are = (
  [],
  record {
    number = ap (λ (p : ProcView). p.number) e;
    soft = ap (λ (p : ProcView). p.soft) e;
    undone = ap (λ (p : ProcView). p.undone) e;
    told = ap (λ (p : ProcView). p.told) e;
    ports = ports;
    many = refl;
    receipts_are = ap (λ (p : ProcView). p.receipts) e;
    closed = λ k found. tt;
    asked = asked;
    heard = heard;
    own = refl;
    mails_are = are;
  },
)

pub waits_resumed : (s : StoppedView) (new : ProcView) (mails : List Mail) → HasTried s (Ok new) → ((asks : List Asked) → HasAsked asks s.proc → HasAsked asks new)
    → Waits (state s.proc mails) (state new mails)
waits_resumed s new mails h asked =
    waits_found s.proc new mails mails h.1.found.rest (heard_resume s new.mailbox h.0) asked
    (ports_found s.note.port (with_mailbox s.proc new.mailbox) new h.1.msgq h.1.stat h.1.found) (sym (append-nil mails))

pub waits_waited : (old new : StoppedView) (why : NotYet) (mails new_mails : List Mail) → HasWaited old new why → ((asks : List Asked) → HasAsked asks old.proc → HasAsked asks new.proc)
    → new_mails ≡ mails ++ readable (handed_over why) → Waits (state old.proc mails) (state new.proc new_mails)
waits_waited old new notyet.Empty mails new_mails h asked are =
    subst (λ (s : StoppedView). Waits (state old.proc mails) (state s.proc new_mails)) (sym h.1)
    (waits_quiet old.proc old.proc mails new_mails refl (λ asks a. a) refl (are ∙ append-nil mails))
waits_waited old new (notyet.Other m) mails new_mails h asked are =
    waits_took old.proc new.proc mails new_mails m (ap (λ (s : StoppedView). s.proc) h.1) asked h.2 are
waits_waited old new (notyet.SamePeriod word) mails new_mails h asked are =
    waits_found old.proc new.proc mails new_mails h.1.found.rest (heard_resume old new.proc.mailbox h.0) asked
    (ports_found old.note.port (with_mailbox old.proc new.proc.mailbox) new.proc word h.1.stat h.1.found) are
