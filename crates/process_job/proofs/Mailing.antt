-- Mail that came, and mail that a process adds, one after another.
use Rattle.std.proofs.Common.{◌≡◌, ℕ, ◌+◌, List, [], ◌∷◌, ◌++◌, length, cond, eqb, Option, Some, None, refl, sym, ap, ◌∙◌, append_assoc, arith, suc}
use Rattle.std.specs.Prelude.{map, filter, not, Contains}
use Rattle.std.proofs.lemmas.List.{append-nil, map-append}
use Rattle.std.proofs.lemmas.List.Elements.{filter-append, Contains-append_left}
use Rattle.process_end.specs.task_queue.declared.item.Item.{Item}
use Rattle.process_end.specs.task_queue.Items.{of}
use Rattle.port_model.specs.declared.mail.Mail.{Mail}
use Rattle.process_end.specs.process_receipts.declared.receipt.Receipt.{Receipt}
use Rattle.process_end.specs.process_receipts.Asks.{Asked}
use Rattle.process_end.specs.Mailbox.{Mailbox, TookMail}
use Rattle.process_end.proofs.Adds.{split}
use Rattle.process_job.specs.Mails.{Came, came_from, mail_from, is_source, readable, resumes, own_mails, is_closed, noproc_mail, HasReply, AreReplied}
use Rattle.process_job.specs.Going.{HasHeard}

pub mail_from-append : (source : Option ℕ) (xs ys : List Came) → mail_from source (xs ++ ys) ≡ mail_from source xs ++ mail_from source ys
mail_from-append source xs ys = ap (map (λ c. c.mail)) (filter-append (λ (c : Came). is_source source c.from) xs ys) ∙ map-append _ _ _

pub readable-append : (xs ys : List Mail) → readable (xs ++ ys) ≡ readable xs ++ readable ys
readable-append xs ys = filter-append (λ m. not (resumes m)) xs ys

pub of-append : (n : ℕ) (xs ys : List (Item Mail)) → of n (xs ++ ys) ≡ of n xs ++ of n ys
of-append n xs ys = ap (map (λ (x : Item Mail). x.value)) (filter-append (λ (x : Item Mail). eqb x.sender n) xs ys) ∙ map-append _ _ _

-- mail of one source, xs it came
pub mails_came : (from : Option ℕ) (ms : List Mail) → map (λ c. c.mail) (map (came_from from) ms) ≡ ms
mails_came from [] = refl
mails_came from (m ∷ ms) = ap (λ l. m ∷ l) (mails_came from ms)

pub own_came : (ms : List Mail) → mail_from None (map (came_from None) ms) ≡ ms
own_came [] = refl
own_came (m ∷ ms) = ap (λ l. m ∷ l) (own_came ms)

pub none_of_port : (port : ℕ) (ms : List Mail) → mail_from (Some port) (map (came_from None) ms) ≡ []
none_of_port port [] = refl
none_of_port port (m ∷ ms) = none_of_port port ms

pub none_own : (port : ℕ) (ms : List Mail) → mail_from None (map (came_from (Some port)) ms) ≡ []
none_own port [] = refl
none_own port (m ∷ ms) = none_own port ms

-- what is added by calls after other calls
pub own_mails-append : (ys xs : List Asked) (ss rs : List Receipt) → length ys ≡ length ss → own_mails (ys ++ xs) (ss ++ rs) ≡ own_mails xs rs ++ own_mails ys ss
own_mails-append [] xs [] rs many = sym (append-nil (own_mails xs rs))
own_mails-append [] xs (s ∷ ss) rs many = absurd (omega arith)
own_mails-append (b ∷ ys) xs [] rs many = absurd (omega arith)
own_mails-append (b ∷ ys) xs (s ∷ ss) rs many =
    let more : List Mail = cond (is_closed s.outcome) (noproc_mail b.port b.signal) [] in
    ap (λ l. l ++ more) (own_mails-append ys xs ss rs (let m : suc (length ys) ≡ suc (length ss) = many in omega arith)) ∙ append_assoc (own_mails xs rs) (own_mails ys ss) more

reply_more : (port : ℕ) (seq : Option ℕ) (mails more : List Mail) → HasReply port seq mails → HasReply port seq (mails ++ more)
reply_more port None mails more h = h
reply_more port (Some seq) mails more h = (h.0, Contains-append_left mails more _ h.1)

pub replied_more : (xs : List Asked) (rs : List Receipt) (mails more : List Mail) → AreReplied xs rs mails → AreReplied xs rs (mails ++ more)
replied_more [] rs mails more h = tt
replied_more (a ∷ xs) [] mails more h = tt
replied_more (a ∷ xs) (r ∷ rs) mails more h = (λ e. reply_more a.port r.seq mails more (h.0 e), replied_more xs rs mails more h.1)

pub replied_append : (ys xs : List Asked) (ss rs : List Receipt) (mails : List Mail) → length ys ≡ length ss → AreReplied ys ss mails → AreReplied xs rs mails → AreReplied (ys ++ xs) (ss ++ rs) mails
replied_append [] xs [] rs mails many h k = k
replied_append [] xs (s ∷ ss) rs mails many h k = absurd (omega arith)
replied_append (b ∷ ys) xs [] rs mails many h k = absurd (omega arith)
replied_append (b ∷ ys) xs (s ∷ ss) rs mails many h k = (h.0, replied_append ys xs ss rs mails (let m : suc (length ys) ≡ suc (length ss) = many in omega arith) h.1 k)

-- mailboxes
pub heard_none : (m : Mailbox) → HasHeard [] m m
heard_none m = record { same = refl; ports = λ port. sym (append-nil (readable (of port m.taken))) }

pub heard_then : (came more : List Came) (one two three : Mailbox) → HasHeard came one two → HasHeard more two three → HasHeard (came ++ more) one three
heard_then came more one two three f g = record {
  same = g.same ∙ ap (λ (m : Mailbox). record m { taken = three.taken }) f.same;
  ports = λ port. g.ports port
      ∙ ap (λ l. l ++ mail_from (Some port) more) (f.ports port)
      ∙ append_assoc (readable (of port one.taken)) (mail_from (Some port) came) (mail_from (Some port) more)
      ∙ ap (λ l. readable (of port one.taken) ++ l) (sym (mail_from-append (Some port) came more));
}

-- own mail comes from no port
pub heard_own : (ms : List Mail) (m : Mailbox) → HasHeard (map (came_from None) ms) m m
heard_own ms m = record { same = refl; ports = λ port. sym (ap (λ l. readable (of port m.taken) ++ l) (none_of_port port ms) ∙ append-nil (readable (of port m.taken))) }

taken_one : (port other seq : ℕ) (m : Mail)
    → readable (of port (record { sender = other; seq = seq; value = m } ∷ [])) ≡ mail_from (Some port) (map (came_from (Some other)) (readable (m ∷ [])))
taken_one port other seq m = split (eqb other port)
    (λ is. split (resumes m) (λ r. rw (is, r) refl) (λ r. rw (is, r) (rw is refl)))
    (λ is. split (resumes m) (λ r. rw (is, r) refl) (λ r. rw (is, r) (rw is refl)))

pub heard_took : (old new : Mailbox) (m : Mail) (t : TookMail old new m) → HasHeard (map (came_from (Some t.port)) (readable (m ∷ []))) old new
heard_took old new m t = record {
  same = t.taken ∙ ap (λ l. record old { taken = l }) (sym (ap (λ (b : Mailbox). b.taken) t.taken));
  ports = λ port.
      ap (λ (b : Mailbox). readable (of port b.taken)) t.taken
      ∙ ap readable (of-append port old.taken (t.item ∷ []))
      ∙ readable-append (of port old.taken) (of port (t.item ∷ []))
      ∙ ap (λ (x : Item Mail). readable (of port old.taken) ++ readable (of port (x ∷ []))) t.is
      ∙ ap (λ l. readable (of port old.taken) ++ l) (taken_one port t.port (length (of t.port old.taken)) m);
}
