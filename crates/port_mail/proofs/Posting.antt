-- Mail that is posted in parts, one after another.
use Rattle.std.proofs.Common.{◌≡◌, ℕ, ◌<◌, ◌≤◌, List, [], ◌∷◌, ◌++◌, length, Bool, true, false, cond, eqb, refl, sym, ap, ◌∙◌, subst, append_assoc, get_or, inl, inr, arith}
use Rattle.std.specs.Prelude.{map, filter, Result, Ok, Err, IsErr}
use Rattle.std.proofs.lemmas.List.{append-nil, map-append}
use Rattle.std.proofs.lemmas.List.Elements.{filter-append}
use Rattle.std.proofs.lemmas.Bool.{cases_eq, eq-eqb, ne_eqb}
use Rattle.port_model.specs.port_signal.Links.{has}
use Rattle.port_model.specs.declared.mail.Mail.{Mail}
use Rattle.port_model.specs.declared.row.Row.{Row}
use Rattle.port_links.specs.port_history.Opening.{Opening}
use Rattle.port_links.specs.port_history.State.{state}
use Rattle.port_links.specs.port_history.Mail.{Sent, send, mail_for, mails, row_mail}
use Rattle.port_mail.specs.Ends.{MailEnd, end_after, mail_got, Posts, Grows, Puts, SendsAt}

mail_for-append : (process : ℕ) (xs ys : List Sent) → mail_for process (xs ++ ys) ≡ mail_for process xs ++ mail_for process ys
mail_for-append process xs ys =
    ap (map (λ (m : Sent). m.mail)) (filter-append (λ m. eqb m.to process) xs ys)
    ∙ map-append (λ m. m.mail) (filter (λ m. eqb m.to process) xs) (filter (λ m. eqb m.to process) ys)

unless-append : (gone : Bool) (process : ℕ) (xs ys : List Sent)
    → cond gone [] (mail_for process xs) ++ cond gone [] (mail_for process ys) ≡ cond gone [] (mail_for process (xs ++ ys))
unless-append true process xs ys = refl
unless-append false process xs ys = sym (mail_for-append process xs ys)

pub got-append : (ended : List ℕ) (process : ℕ) (xs ys : List Sent) → mail_got ended process xs ++ mail_got ended process ys ≡ mail_got ended process (xs ++ ys)
got-append ended process xs ys = unless-append (has process ended) process xs ys

nothing : (gone : Bool) → cond {A = List Mail} gone [] [] ≡ []
nothing true = refl
nothing false = refl

abbrev with_sent : MailEnd → List Mail → MailEnd
with_sent end sent = record end { sent = sent }

after-none : (end : MailEnd) → end_after end [] ≡ end
after-none end = ap (with_sent end) (append-nil end.sent)

after-after : (end : MailEnd) (xs ys : List Mail) → end_after (end_after end xs) ys ≡ end_after end (xs ++ ys)
after-after end xs ys = ap (with_sent end) (append_assoc end.sent xs ys)

-- where no process gets any of these, the ends stay
Posts-same : (ended : List ℕ) (old : List MailEnd) (sent : List Sent) → ((process : ℕ) → process < length old → mail_got ended process sent ≡ []) → Posts ended old old sent
Posts-same ended old sent none = record {
  processes = refl;
  ends = λ process e h. sym (ap (end_after (get_or old process e)) (none process h) ∙ after-none (get_or old process e));
}

pub Posts-none : (ended : List ℕ) (old : List MailEnd) → Posts ended old old []
Posts-none ended old = Posts-same ended old [] (λ process h. nothing (has process ended))

pub Posts-then : (ended : List ℕ) (old mid new : List MailEnd) (xs ys : List Sent) → Posts ended old mid xs → Posts ended mid new ys → Posts ended old new (xs ++ ys)
Posts-then ended old mid new xs ys a b = record {
  processes = b.processes ∙ a.processes;
  ends = λ process e h.
      b.ends process e (rw a.processes h)
      ∙ (ap (λ (end : MailEnd). end_after end (mail_got ended process ys)) (a.ends process e h)
      ∙ (after-after (get_or old process e) (mail_got ended process xs) (mail_got ended process ys)
      ∙ ap (end_after (get_or old process e)) (got-append ended process xs ys)));
}

-- one mail
for-own : (to : ℕ) (mail : Mail) → mail_for to (send to mail ∷ []) ≡ mail ∷ []
for-own to mail = rw (eq-eqb to to refl) refl

for-other : (process to : ℕ) (mail : Mail) → (process ≡ to → ⊥) → mail_for process (send to mail ∷ []) ≡ []
for-other process to mail differ = rw (ne_eqb to process (λ e. differ (sym e))) refl

got-own : (ended : List ℕ) (to : ℕ) (mail : Mail) → has to ended ≡ false → mail_got ended to (send to mail ∷ []) ≡ mail ∷ []
got-own ended to mail alive = rw alive (for-own to mail)

got-other : (ended : List ℕ) (process to : ℕ) (mail : Mail) → (process ≡ to → ⊥) → mail_got ended process (send to mail ∷ []) ≡ []
got-other ended process to mail differ = ap (cond (has process ended) []) (for-other process to mail differ) ∙ nothing (has process ended)

got-ended : (ended : List ℕ) (process to : ℕ) (mail : Mail) → has to ended ≡ true → mail_got ended process (send to mail ∷ []) ≡ []
got-ended ended process to mail gone =
    elim (cases_eq process to) [
      | inl same ↦ rw (ap (λ n. has n ended) same ∙ gone) refl
      | inr differ ↦ got-other ended process to mail differ
    ]

pub Posts-ended : (ended : List ℕ) (old : List MailEnd) (to : ℕ) (mail : Mail) → has to ended ≡ true → Posts ended old old (send to mail ∷ [])
Posts-ended ended old to mail gone = Posts-same ended old (send to mail ∷ []) (λ process h. got-ended ended process to mail gone)

pub Posts-outside : (ended : List ℕ) (old : List MailEnd) (to : ℕ) (mail : Mail) → length old ≤ to → Posts ended old old (send to mail ∷ [])
Posts-outside ended old to mail outside =
    Posts-same ended old (send to mail ∷ []) (λ process h. got-other ended process to mail (λ e. omega arith))

pub Posts-one : (ended : List ℕ) (old new : List MailEnd) (to : ℕ) (mail : Mail) → has to ended ≡ false → SendsAt old to mail new → Posts ended old new (send to mail ∷ [])
Posts-one ended old new to mail alive sends = record {
  processes = sends.processes;
  ends = λ process e h.
      elim (cases_eq process to) [
        | inl same ↦
            subst (λ n. get_or new n e ≡ end_after (get_or old n e) (mail_got ended n (send to mail ∷ []))) (sym same)
            (sends.own e ∙ ap (end_after (get_or old to e)) (sym (got-own ended to mail alive)))
        | inr differ ↦
            sends.others process e differ
            ∙ sym (ap (end_after (get_or old process e)) (got-other ended process to mail differ) ∙ after-none (get_or old process e))
      ];
}

-- memory was wanting before anything was posted
pub Grows-none : (ended : List ℕ) (old new : List MailEnd) (sent : List Sent) → new ≡ old → Grows ended old new sent
Grows-none ended old new sent e = record { first = []; left = sent; all = refl; posted = subst (λ ends. Posts ended old ends []) (sym e) (Posts-none ended old) }

-- before what follows these
pub Grows-more : (ended : List ℕ) (old new : List MailEnd) (xs ys : List Sent) → Grows ended old new xs → Grows ended old new (xs ++ ys)
Grows-more ended old new xs ys g = record {
  first = g.first;
  left = g.left ++ ys;
  all = sym (append_assoc g.first g.left ys) ∙ ap (λ zs. zs ++ ys) g.all;
  posted = g.posted;
}

-- behind these
pub Grows-then : (ended : List ℕ) (old mid new : List MailEnd) (xs ys : List Sent) → Posts ended old mid xs → Grows ended mid new ys → Grows ended old new (xs ++ ys)
Grows-then ended old mid new xs ys p g = record {
  first = xs ++ g.first;
  left = g.left;
  all = append_assoc xs g.first g.left ∙ ap (λ zs. xs ++ zs) g.all;
  posted = Posts-then ended old mid new xs g.first p g.posted;
}

pub Puts-then : {T E : Type 0} (r : Result T E) (ended : List ℕ) (old mid new : List MailEnd) (xs ys : List Sent)
    → Posts ended old mid xs → Puts r ended mid new ys → Puts r ended old new (xs ++ ys)
Puts-then (Ok value) ended old mid new xs ys p q = Posts-then ended old mid new xs ys p q
Puts-then (Err error) ended old mid new xs ys p q = Grows-then ended old mid new xs ys p q

pub Puts-failed : {T E : Type 0} (r : Result T E) (ended : List ℕ) (old new : List MailEnd) (sent : List Sent) → IsErr r → Grows ended old new sent → Puts r ended old new sent
Puts-failed (Ok value) ended old new sent failed g = absurd cc
Puts-failed (Err error) ended old new sent failed g = g

pub Puts-as : {T E : Type 0} (r : Result T E) (ended : List ℕ) (old new : List MailEnd) (xs ys : List Sent) → xs ≡ ys → Puts r ended old new xs → Puts r ended old new ys
Puts-as r ended old new xs ys e p = subst (Puts r ended old new) e p

-- In the midst of posting all of these: some are left, and those before them were posted
pub record Midway (ended : List ℕ) (old now : List MailEnd) (left all : List Sent) : Type 0 where
  pub first : List Sent
  pub whole : first ++ left ≡ all
  pub posted : Posts ended old now first

pub Midway-start : (ended : List ℕ) (old : List MailEnd) (all : List Sent) → Midway ended old old all all
Midway-start ended old all = record { first = []; whole = refl; posted = Posts-none ended old }

pub Midway-next : (ended : List ℕ) (old now next : List MailEnd) (xs left all : List Sent)
    → Midway ended old now (xs ++ left) all → Posts ended now next xs → Midway ended old next left all
Midway-next ended old now next xs left all m p = record {
  first = m.first ++ xs;
  whole = append_assoc m.first xs left ∙ m.whole;
  posted = Posts-then ended old now next m.first xs m.posted p;
}

pub Midway-fails : (ended : List ℕ) (old now next : List MailEnd) (xs left all : List Sent)
    → Midway ended old now (xs ++ left) all → Grows ended now next xs → Grows ended old next all
Midway-fails ended old now next xs left all m g =
    subst (Grows ended old next) m.whole
    (Grows-then ended old now next m.first (xs ++ left) m.posted (Grows-more ended now next xs left g))

pub Midway-end : (ended : List ℕ) (old now : List MailEnd) (all : List Sent) → Midway ended old now [] all → Posts ended old now all
Midway-end ended old now all m = subst (Posts ended old now) (sym (append-nil m.first) ∙ m.whole) m.posted

-- Where memory was wanting, each end has sent what it had and then a front of what its process would have got
pub grown : (ended : List ℕ) (old new : List MailEnd) (sent : List Sent) → Grows ended old new sent → (process : ℕ) (e : MailEnd) → process < length old
    → (front : List Mail) × (rest : List Mail) × (get_or new process e ≡ end_after (get_or old process e) front) × (front ++ rest ≡ mail_got ended process sent)
grown ended old new sent g process e h = (
  mail_got ended process g.first,
  mail_got ended process g.left,
  g.posted.ends process e h,
  got-append ended process g.first g.left ∙ ap (mail_got ended process) g.all,
)

spread : (gone : Bool) (xs ys : List Mail) → xs ++ cond gone [] ys ≡ cond gone xs (xs ++ ys)
spread true xs ys = append-nil xs
spread false xs ys = refl

-- What an end has sent is all mail of the history for its process, and stays so with each row whose mail was posted
pub mails-more : (opening : Opening) (row : Row) (older : List Row) (old new : List MailEnd)
    → Posts (state opening (row ∷ older)).ties.ended old new (row_mail opening (state opening older) row)
    → (process : ℕ) (e : MailEnd) → process < length old → (get_or old process e).sent ≡ mails opening process older
    → (get_or new process e).sent ≡ mails opening process (row ∷ older)
mails-more opening row older old new p process e h before =
    let got = mail_got (state opening (row ∷ older)).ties.ended process (row_mail opening (state opening older) row) in
    ap (λ (end : MailEnd). end.sent) (p.ends process e h)
    ∙ (ap (λ sent. sent ++ got) before
    ∙ spread (has process (state opening (row ∷ older)).ties.ended) (mails opening process older) (mail_for process (row_mail opening (state opening older) row)))
