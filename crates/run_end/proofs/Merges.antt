-- The mail of a process is a merge.
use Rattle.std.proofs.Common.{◌≡◌, ℕ, ◌+◌, ◌≤◌, ◌<◌, List, [], ◌∷◌, ◌++◌, length, Bool, true, false, cond, Option, Some, None, get_or, refl, sym, ap, ◌∙◌, subst, arith, length-append, ⊎_elim}
use Rattle.std.specs.Prelude.{map, reverse}
use Rattle.std.specs.List.{All}
use Rattle.std.proofs.lemmas.Bool.{cases_lt, eq-eqb, false≢true}
use Rattle.std.proofs.lemmas.List.{append-nil, map-append, length-map, get_or-append-add, get_or-map, reverse-reverse}
use Rattle.std.proofs.lemmas.List.Elements.{All-nil, All-cons}
use Rattle.task_queue.specs.declared.item.Item.{Item}
use Rattle.task_queue.specs.declared.protocol.Ended.{Ended}
use Rattle.task_queue.specs.Items.{of}
use Rattle.task_queue.specs.Ends.{ended_of}
use Rattle.run_lanes.specs.port_mail.Ends.{MailEnd}
use Rattle.port_model.specs.declared.mail.Mail.{Mail}
use Rattle.process_end.specs.Mailbox.{Mailbox}
use Rattle.process_job.specs.Mails.{Came, mail_from, is_source, own_mails, readable}
use Rattle.process_job.proofs.Mailing.{mail_from-append, readable-append, of-append}
use Rattle.process_job.proofs.Stepping.{empty_list}
use Rattle.run_lanes.specs.Ends.{taken_in}
use Rattle.run_end.specs.Rest.{came_in, TookRest}
use Rattle.run_end.specs.Ran.{RanProcess, calls_made}
use Rattle.run_end.specs.Merge.{AreMailEnds, IsFromPort, MailIsMerge}
use Rattle.run_end.proofs.Rests.{mails_in, came_of, came_own, none_of}

pub first_of : {X : Type 0} (xs : List X) (k : ℕ) → k < length xs → X
first_of [] k below = absurd (omega arith)
first_of (x ∷ xs) k below = x

-- nothing came from a source that has no mail
cons-none : (b : Bool) (c : Came) (cs : List Came) → map (λ (x : Came). x.mail) (cond b (c ∷ cs) cs) ≡ [] → (b ≡ false) × (map (λ (x : Came). x.mail) cs ≡ [])
cons-none true c cs e = absurd cc
cons-none false c cs e = (refl, e)

from_port : (n : ℕ) (from : Option ℕ) → ((q : ℕ) → n ≤ q → is_source (Some q) from ≡ false) → IsFromPort n from
from_port n None none = tt
from_port n (Some port) none = ⊎_elim
    (λ (lt : port < n). lt)
    (λ (le : n ≤ port). absurd (false≢true (sym (none port le) ∙ eq-eqb port port refl)))
    (cases_lt port n)

none_past : (n : ℕ) (came : List Came) → ((q : ℕ) → n ≤ q → mail_from (Some q) came ≡ []) → All (λ c. IsFromPort n c.from) came
none_past n [] none = All-nil (λ (c : Came). IsFromPort n c.from)
none_past n (c ∷ came) none =
    let each : (q : ℕ) → n ≤ q → (is_source (Some q) c.from ≡ false) × (mail_from (Some q) came ≡ []) = λ q le. cons-none (is_source (Some q) c.from) c _ (none q le) in
    All-cons (λ (x : Came). IsFromPort n x.from) c came (from_port n c.from (λ q le. (each q le).0)) (none_past n came (λ q le. (each q le).1))

-- what holds of all ended senders holds of these ends
of_ends : (P : Ended Mail → Type 0) (old new : Mailbox) (ends : List MailEnd) → new.ended ≡ (taken_in old ends).ended → All P new.ended → (q : ℕ) (d : MailEnd) → q < length ends → P (ended_of (get_or ends q d))
of_ends P old new ends is all q d below =
    let at = length old.ended + q in
    let front = length-append old.ended (map ended_of ends) in
    let many = length-map ends ended_of in
    let long = ap length is in
    let here : get_or new.ended at (ended_of d) ≡ ended_of (get_or ends q d) =
    ap (λ l. get_or l at (ended_of d)) is ∙ get_or-append-add old.ended (map ended_of ends) q (ended_of d) ∙ get_or-map ended_of ends q d (ended_of d) below in
    subst P here (all at (ended_of d) (omega arith))

-- all that a port sent was taken
all_sent : (p : RanProcess) (ends : List MailEnd) (mailbox : Mailbox) (all : List Mail) → AreMailEnds ends → TookRest ends p.end.mailbox mailbox p.mails all
    → (q : ℕ) (d : MailEnd) → q < length ends → of q mailbox.taken ≡ (get_or ends q d).sent
all_sent p ends mailbox all are rest q d below =
    let end = get_or ends q d in
    sym (ap (λ n. of n mailbox.taken) (are q d below).0)
    ∙ of_ends (λ e. of e.number mailbox.taken ≡ e.sent) p.end.mailbox mailbox ends (ap (λ (m : Mailbox). m.ended) rest.more.taken) (rest.taken (omega (arith, below))).all q d below

-- and nothing from another
all_below : (p : RanProcess) (ends : List MailEnd) (mailbox : Mailbox) (all : List Mail) → AreMailEnds ends → TookRest ends p.end.mailbox mailbox p.mails all → 0 < length ends
    → All (λ x. x.sender < length ends) mailbox.taken
all_below p ends mailbox all are rest some =
    let d = first_of ends 0 some in
    let first = of_ends (λ e. e.number ≡ 0 → All (λ x. x.sender < e.made) mailbox.taken × All (λ o. o.number < e.made) mailbox.ended) p.end.mailbox mailbox ends
    (ap (λ (m : Mailbox). m.ended) rest.more.taken) (rest.taken some).order.counted 0 d some in
    subst (λ n. All (λ (x : Item Mail). x.sender < n) mailbox.taken) (are 0 d some).1 (first (are 0 d some).0).0

-- where there is no mail nothing came
none_came : (n : ℕ) (came : List Came) → map (λ (c : Came). c.mail) came ≡ [] → All (λ c. IsFromPort n c.from) came
none_came n [] none = All-nil (λ (c : Came). IsFromPort n c.from)
none_came n (c ∷ came) none = absurd cc

pub is_merge : MailIsMerge
is_merge p ends mailbox all whole many are rest =
    let ran = whole.ran in
    let items = rest.more.items in
    let came : List Came = ran.came ++ came_in items in
    let taken : mailbox.taken ≡ ran.last.mailbox.taken ++ items = ap (λ (m : Mailbox). m.taken) rest.more.taken ∙ ap (λ (m : Mailbox). m.taken ++ items) ran.mailbox_is in
    let before : (q : ℕ) → readable (of q ran.last.mailbox.taken) ≡ mail_from (Some q) ran.came =
    λ q. ran.heard.ports q ∙ ap (λ l. readable (of q l) ++ mail_from (Some q) ran.came) whole.fresh.untaken in
    let ports : (q : ℕ) → readable (of q mailbox.taken) ≡ mail_from (Some q) came =
    λ q. ap (λ l. readable (of q l)) taken ∙ ap readable (of-append q ran.last.mailbox.taken items) ∙ readable-append (of q ran.last.mailbox.taken) (of q items)
    ∙ ap (λ l. l ++ readable (of q items)) (before q) ∙ ap (λ l. mail_from (Some q) ran.came ++ l) (came_of q items) ∙ sym (mail_from-append (Some q) ran.came (came_in items)) in
    let asks : reverse ran.asks ≡ (calls_made p).asks = ap reverse ran.asks_are in
    let receipts : ran.last.receipts ≡ (calls_made p).receipts = sym (reverse-reverse ran.last.receipts) ∙ ap reverse (sym ran.receipts_are) in
    let mails_are : all ≡ map (λ c. c.mail) came =
    rest.more.mails_are ∙ ap (λ l. l ++ mails_in items) ran.mails_are ∙ sym (map-append (λ (c : Came). c.mail) ran.came (came_in items)) in
    record {
      came = came;
      mails_are = mails_are;
      ports = λ q d below. sym (ports q) ∙ ap readable (all_sent p ends mailbox all are rest q d below);
      own_is = mail_from-append None ran.came (came_in items)
          ∙ ap (λ l. mail_from None ran.came ++ l) (came_own items)
          ∙ append-nil (mail_from None ran.came)
          ∙ ran.own
          ∙ ap (λ l. own_mails l ran.last.receipts) asks
          ∙ ap (own_mails (calls_made p).asks) receipts;
      among = ⊎_elim
          (λ (some : 0 < length ends). none_past (length ends) came
          (λ q le. sym (ports q) ∙ ap readable (none_of q (length ends) mailbox.taken (all_below p ends mailbox all are rest some) le)))
          (λ (few : length ends ≤ 0).
          let none : length ends ≡ 0 = omega (arith, few) in
          none_came (length ends) came (sym mails_are ∙ (rest.none (empty_list ends none)).1 ∙ (ran.silent (many ∙ none)).1))
          (cases_lt 0 (length ends));
    }
