-- What a process does, one step after another.
use Rattle.std.proofs.Common.{◌≡◌, ℕ, ◌+◌, List, [], ◌∷◌, ◌++◌, length, cond, Some, None, refl, sym, ap, ◌∙◌, subst, append_assoc, arith}
use Rattle.std.specs.Prelude.{map}
use Rattle.std.proofs.lemmas.List.{append-nil, map-append, length-append}
use Rattle.port_model.specs.declared.mail.Mail.{Mail}
use Rattle.process_end.specs.process_receipts.declared.receipt.Receipt.{Receipt}
use Rattle.process_end.specs.process_receipts.Asks.{Asked}
use Rattle.process_end.specs.Views.{ProcView}
use Rattle.process_end.specs.Calls.{HasAsked, HasMade}
use Rattle.process_end.specs.Looked.{HasLookedAt}
use Rattle.process_end.specs.Mailbox.{TookMail}
use Rattle.process_job.specs.Mails.{Came, came_from, mail_from, own_mails, is_closed, noproc_mail, readable, AreReplied}
use Rattle.process_job.specs.Going.{ProcessState, state, AreSamePorts, HasHeard, Goes, MakesCalls, Waits}
use Rattle.process_job.proofs.Mailing.{mail_from-append, mails_came, own_came, none_own, own_mails-append, replied_more, replied_append, heard_none, heard_then, heard_own, heard_took}
use Rattle.process_job.specs.Waits.{AgreesClosed}
use Rattle.process_job.proofs.Ports.{same_ports, ports_then, ports_made, ports_looked}
use Rattle.process_job.proofs.Shut.{agrees_closed, all_append}

pub goes_none : (s : ProcessState) → Goes [] [] [] s s
goes_none s = record {
  number = refl;
  soft = refl;
  undone = refl;
  told = refl;
  ports = same_ports s.proc.lanes s.proc.seats;
  many = refl;
  receipts_are = refl;
  closed = λ k found. tt;
  asked = λ before h. h;
  heard = heard_none s.proc.mailbox;
  own = refl;
  mails_are = sym (append-nil s.mails);
}

pub goes_then : (xs ys : List Asked) (rs ss : List Receipt) (came more : List Came) (one two three : ProcessState)
    → Goes xs rs came one two → Goes ys ss more two three → Goes (ys ++ xs) (ss ++ rs) (came ++ more) one three
goes_then xs ys rs ss came more one two three f g = record {
  number = g.number ∙ f.number;
  soft = g.soft ∙ f.soft;
  undone = g.undone ∙ f.undone;
  told = g.told ∙ f.told;
  ports = ports_then _ _ _ _ _ _ f.ports g.ports;
  many = let a = f.many in let b = g.many in omega (arith, length-append ys xs, length-append ss rs);
  receipts_are = g.receipts_are ∙ ap (λ l. ss ++ l) f.receipts_are ∙ sym (append_assoc ss rs one.proc.receipts);
  closed = λ k found. all_append (AgreesClosed k) ss rs (g.closed k (λ d. (f.ports.same_seats k d).closed (found d))) (f.closed k found);
  asked = λ before h. subst (λ l. HasAsked l three.proc) (sym (append_assoc ys xs before)) (g.asked (xs ++ before) (f.asked before h));
  heard = heard_then came more one.proc.mailbox two.proc.mailbox three.proc.mailbox f.heard g.heard;
  own = mail_from-append None came more
      ∙ ap (λ l. l ++ mail_from None more) f.own
      ∙ ap (λ l. own_mails xs rs ++ l) g.own
      ∙ sym (own_mails-append ys xs ss rs g.many);
  mails_are = g.mails_are
      ∙ ap (λ l. l ++ map (λ (c : Came). c.mail) more) f.mails_are
      ∙ append_assoc one.mails (map (λ (c : Came). c.mail) came) (map (λ (c : Came). c.mail) more)
      ∙ ap (λ l. one.mails ++ l) (sym (map-append (λ (c : Came). c.mail) came more));
}

pub makes_then : (xs ys : List Asked) (rs ss : List Receipt) (came more : List Came) (one two three : ProcessState)
    → MakesCalls xs rs came one two → MakesCalls ys ss more two three → MakesCalls (ys ++ xs) (ss ++ rs) (came ++ more) one three
makes_then xs ys rs ss came more one two three f g = record {
  goes = goes_then xs ys rs ss came more one two three f.goes g.goes;
  replied = replied_append ys xs ss rs three.mails g.goes.many g.replied
      (subst (AreReplied xs rs) (sym g.goes.mails_are) (replied_more xs rs two.mails (map (λ (c : Came). c.mail) more) f.replied));
}

pub waits_none : (s : ProcessState) → Waits s s
waits_none s = ([], goes_none s)

pub waits_then : (one two three : ProcessState) → Waits one two → Waits two three → Waits one three
waits_then one two three f g = (f.0 ++ g.0, goes_then [] [] [] [] f.0 g.0 one two three f.1 g.1)

-- no call was made, and the mailbox alone changed, of which this came
pub goes_mailed : (old new : ProcView) (mails new_mails : List Mail) (came : List Came) → new ≡ record old { mailbox = new.mailbox }
    → ((asks : List Asked) → HasAsked asks old → HasAsked asks new) → HasHeard came old.mailbox new.mailbox → mail_from None came ≡ []
    → new_mails ≡ mails ++ map (λ c. c.mail) came → Goes [] [] came (state old mails) (state new new_mails)
goes_mailed old new mails new_mails came e asked heard none are = record {
  number = ap (λ (p : ProcView). p.number) e;
  soft = ap (λ (p : ProcView). p.soft) e;
  undone = ap (λ (p : ProcView). p.undone) e;
  told = ap (λ (p : ProcView). p.told) e;
  ports = subst (λ (p : ProcView). AreSamePorts old.lanes p.lanes old.seats p.seats) (sym e) (same_ports old.lanes old.seats);
  many = refl;
  receipts_are = ap (λ (p : ProcView). p.receipts) e;
  closed = λ k found. tt;
  asked = asked;
  heard = heard;
  own = none;
  mails_are = are;
}

pub waits_took : (old new : ProcView) (mails new_mails : List Mail) (m : Mail) → new ≡ record old { mailbox = new.mailbox }
    → ((asks : List Asked) → HasAsked asks old → HasAsked asks new) → TookMail old.mailbox new.mailbox m → new_mails ≡ mails ++ readable (m ∷ [])
    → Waits (state old mails) (state new new_mails)
waits_took old new mails new_mails m e asked t are = (
  map (came_from (Some t.port)) (readable (m ∷ [])),
  goes_mailed old new mails new_mails (map (came_from (Some t.port)) (readable (m ∷ []))) e asked (heard_took old.mailbox new.mailbox m t) (none_own t.port (readable (m ∷ [])))
      (are ∙ ap (λ l. mails ++ l) (sym (mails_came (Some t.port) (readable (m ∷ []))))),
)

pub waits_quiet : (old new : ProcView) (mails new_mails : List Mail) → new ≡ record old { mailbox = new.mailbox }
    → ((asks : List Asked) → HasAsked asks old → HasAsked asks new) → new.mailbox ≡ old.mailbox → new_mails ≡ mails → Waits (state old mails) (state new new_mails)
waits_quiet old new mails new_mails e asked same are =
    ([], goes_mailed old new mails new_mails [] e asked (subst (HasHeard [] old.mailbox) (sym same) (heard_none old.mailbox)) refl (are ∙ sym (append-nil mails)))

-- a look at a port, with the seats of the same ports
pub waits_seats : (old new : ProcView) (mails : List Mail) → new ≡ record old { seats = new.seats }
    → ((asks : List Asked) → HasAsked asks old → HasAsked asks new) → AreSamePorts old.lanes new.lanes old.seats new.seats → Waits (state old mails) (state new mails)
waits_seats old new mails e asked ports = (
  [],
  record {
    number = ap (λ (p : ProcView). p.number) e;
    soft = ap (λ (p : ProcView). p.soft) e;
    undone = ap (λ (p : ProcView). p.undone) e;
    told = ap (λ (p : ProcView). p.told) e;
    ports = ports;
    many = refl;
    receipts_are = ap (λ (p : ProcView). p.receipts) e;
    closed = λ k found. tt;
    asked = asked;
    heard = subst (λ (p : ProcView). HasHeard [] old.mailbox p.mailbox) (sym e) (heard_none old.mailbox);
    own = refl;
    mails_are = sym (append-nil mails);
  },
)

pub waits_looked : (port : ℕ) (old new : ProcView) (stat : ℕ) (mails : List Mail) → HasLookedAt port old new stat → Waits (state old mails) (state new mails)
waits_looked port old new stat mails h = waits_seats old new mails h.rest h.asked (ports_looked port old new stat h)

-- a call, and what the process adds to its mail where the port is closed
pub goes_made : (ask : Asked) (receipt : Receipt) (old new : ProcView) (mails new_mails own : List Mail) → HasMade old ask new receipt
    → cond (is_closed receipt.outcome) (noproc_mail ask.port ask.signal) [] ≡ own → new_mails ≡ mails ++ own
    → Goes (ask ∷ []) (receipt ∷ []) (map (came_from None) own) (state old mails) (state new new_mails)
goes_made ask receipt old new mails new_mails own h is are = record {
  number = ap (λ (p : ProcView). p.number) h.rest;
  soft = ap (λ (p : ProcView). p.soft) h.rest;
  undone = ap (λ (p : ProcView). p.undone) h.rest;
  told = ap (λ (p : ProcView). p.told) h.rest;
  ports = ports_made ask receipt old new h;
  many = refl;
  receipts_are = ap (λ (p : ProcView). p.receipts) h.rest;
  closed = λ k found. (agrees_closed k ask receipt old new h found, tt);
  asked = h.asked;
  heard = subst (λ (p : ProcView). HasHeard (map (came_from None) own) old.mailbox p.mailbox) (sym h.rest) (heard_own own old.mailbox);
  own = own_came own ∙ sym is;
  mails_are = are ∙ ap (λ l. mails ++ l) (sym (mails_came None own));
}
