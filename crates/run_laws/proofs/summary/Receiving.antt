-- The messages of a port among the mail of a process: all of them came from that port.
use Rattle.std.proofs.Common.{◌≡◌, ◌≢◌, ℕ, zero, suc, ◌+◌, ◌<◌, ◌≤◌, List, [], ◌∷◌, ◌++◌, length, map, Bool, true, false, cond, eqb, not, Option, Some, None, refl, sym, ap, ◌∙◌, arith, length-append, ⊎_elim}
use Rattle.std.specs.Prelude.{filter}
use Rattle.std.specs.List.{All}
use Rattle.std.proofs.lemmas.Bool.{cases_eq, eq-eqb, ne_eqb}
use Rattle.std.proofs.lemmas.List.Elements.{All-head, All-tail, filter-append, filter_agree}
use Rattle.port_model.specs.declared.mail.Mail.{Mail}
use Rattle.port_model.specs.declared.mail.Mail.TheVariants as mail
use Rattle.port_model.specs.declared.signal.Signal.{Signal}
use Rattle.port_model.specs.declared.signal.Signal.TheVariants as signal
use Rattle.run_output.specs.script_input.run_opening.run_end.process_receipts.declared.receipt.Receipt.{Receipt}
use Rattle.run_output.specs.script_input.run_opening.run_end.process_receipts.Asks.{Asked}
use Rattle.run_output.specs.script_input.run_opening.run_end.process_job.Mails.{Came, is_closed, is_data_of, is_source, mail_from, messages_of, noproc_mail, own_mails, readable, resumes}
use Rattle.run_output.specs.script_input.run_opening.run_end.Merge.{IsFromPort}
use Rattle.command_counts.specs.Rows.{is_message_of, messages_of as messages_in}
use Rattle.run_laws.proofs.summary.Sums.{over, over-add, over-none, over-one, over-same}

abbrev mails_of : List Came → List Mail
mails_of came = map (λ (c : Came). c.mail) came

one-more : (port : ℕ) (m : Mail) (mails : List Mail) → messages_of port (m ∷ mails) ≡ cond (is_data_of port m) 1 0 + messages_of port mails
one-more port m mails = go (is_data_of port m)
  where
    go : (b : Bool) → length (cond b (m ∷ filter (is_data_of port) mails) (filter (is_data_of port) mails)) ≡ cond b 1 0 + messages_of port mails
    go true = omega arith
    go false = omega arith

messages-append : (port : ℕ) (xs ys : List Mail) → messages_of port (xs ++ ys) ≡ messages_of port xs + messages_of port ys
messages-append port xs ys = ap length (filter-append (is_data_of port) xs ys) ∙ length-append (filter (is_data_of port) xs) (filter (is_data_of port) ys)

-- one mail more, by where it came from
from-more : (port : ℕ) (source : Option ℕ) (c : Came) (came : List Came)
    → messages_of port (mail_from source (c ∷ came)) ≡ cond (is_source source c.from) (cond (is_data_of port c.mail) 1 0) 0 + messages_of port (mail_from source came)
from-more port source c came = go (is_source source c.from)
  where
    go : (b : Bool) → messages_of port (mails_of (cond b (c ∷ filter (λ (x : Came). is_source source x.from) came) (filter (λ (x : Came). is_source source x.from) came)))
        ≡ cond b (cond (is_data_of port c.mail) 1 0) 0 + messages_of port (mail_from source came)
    go true = one-more port c.mail (mail_from source came)
    go false = omega arith

source-sum : (ports v : ℕ) (from : Option ℕ) → IsFromPort ports from → cond (is_source None from) v 0 + over ports (λ q. cond (is_source (Some q) from) v 0) ≡ v
source-sum ports v None is = let none = over-none ports (λ q. 0) (λ q below. refl) in omega (arith, none)
source-sum ports v (Some p) is =
    let one = over-one ports p v (λ q. cond (eqb p q) v 0) is (ap (λ b. cond b v 0) (eq-eqb p p refl)) (λ q apart. ap (λ b. cond b v 0) (ne_eqb p q (λ e. apart (sym e)))) in
    omega (arith, one)

-- the messages by where they came from
by-source : (port ports : ℕ) (came : List Came) → All (λ (c : Came). IsFromPort ports c.from) came
    → messages_of port (mails_of came) ≡ messages_of port (mail_from None came) + over ports (λ q. messages_of port (mail_from (Some q) came))
by-source port ports [] among = let none = over-none ports (λ q. 0) (λ q below. refl) in omega (arith, none)
by-source port ports (c ∷ came) among =
    let v = cond (is_data_of port c.mail) 1 0 in
    let rest = by-source port ports came (All-tail (λ (x : Came). IsFromPort ports x.from) c came among) in
    let here = source-sum ports v c.from (All-head (λ (x : Came). IsFromPort ports x.from) c came among) in
    let all = one-more port c.mail (mails_of came) in
    let own = from-more port None c came in
    let others = over-same ports _ _ (λ q below. from-more port (Some q) c came) ∙ over-add ports (λ q. cond (is_source (Some q) c.from) v 0) (λ q. messages_of port (mail_from (Some q) came)) in
    omega (arith, rest, here, all, own, others)

-- what a process adds itself is no data
noproc-none : (port from : ℕ) (s : Signal) → messages_of port (noproc_mail from s) ≡ 0
noproc-none port from signal.Link = refl
noproc-none port from (signal.Monitor number) = refl
noproc-none port from s = refl

own-none : (port : ℕ) (asks : List Asked) (receipts : List Receipt) → messages_of port (own_mails asks receipts) ≡ 0
own-none port [] receipts = refl
own-none port (ask ∷ asks) [] = refl
own-none port (ask ∷ asks) (receipt ∷ receipts) =
    let rest = own-none port asks receipts in
    let more = cond (is_closed receipt.outcome) (noproc_mail ask.port ask.signal) [] in
    let parts = messages-append port (own_mails asks receipts) more in
    let none = last (is_closed receipt.outcome) in
    omega (arith, rest, parts, none)
  where
    last : (b : Bool) → messages_of port (cond b (noproc_mail ask.port ask.signal) []) ≡ 0
    last true = noproc-none port ask.port ask.signal
    last false = refl

-- what is read is no more than what was sent
readable-few : (port : ℕ) (mails : List Mail) → messages_of port (readable mails) ≤ messages_of port mails
readable-few port [] = omega arith
readable-few port (m ∷ mails) = go (not (resumes m)) (readable-few port mails)
  where
    go : (b : Bool) → messages_of port (readable mails) ≤ messages_of port mails
        → messages_of port (cond b (m ∷ filter (λ x. not (resumes x)) mails) (filter (λ x. not (resumes x)) mails)) ≤ messages_of port (m ∷ mails)
    go true few = let some = one-more port m (readable mails) in let all = one-more port m mails in omega (arith, few, some, all)
    go false few = let all = one-more port m mails in omega (arith, few, all)

-- the same count, as the laws of commands have it
same-test : (port : ℕ) (m : Mail) → is_data_of port m ≡ is_message_of port m
same-test port (mail.Message from flag bytes) = refl
same-test port m = refl

same-count : (port : ℕ) (mails : List Mail) → messages_of port mails ≡ messages_in port mails
same-count port mails = ap length (filter_agree (is_data_of port) (is_message_of port) (same-test port) mails)

-- what each port sent a process: of its own messages at most so many, and none of another port
pub record PortSent (port most q : ℕ) (came : List Came) : Type 0 where
  pub sent : List Mail
  pub came_is : mail_from (Some q) came ≡ readable sent
  pub own : q ≡ port → messages_in port sent ≤ most
  pub other : q ≢ port → messages_in port sent ≡ 0

over-few : (n place most : ℕ) (g : ℕ → ℕ) → place < n → g place ≤ most → ((s : ℕ) → s < n → s ≢ place → g s ≡ 0) → over n g ≤ most
over-few zero place most g below here others = absurd (omega (arith, below))
over-few (suc n) place most g below here others = ⊎_elim
    (λ (last : n ≡ place).
    let rest = over-none n g (λ s less. others s (omega (arith, less)) (λ e. absurd (omega (arith, e, last, less)))) in
    let mine : g n ≡ g place = ap g last in
    omega (arith, rest, mine, here))
    (λ (apart : n ≡ place → ⊥).
    let rest = over-few n place most g (omega (arith, below, apart)) here (λ s less. others s (omega (arith, less))) in
    let none = others n (omega arith) apart in
    omega (arith, rest, none))
    (cases_eq n place)

-- so the process has at most so many
pub messages-few : (port ports most : ℕ) (came : List Came) (mails : List Mail) (asks : List Asked) (receipts : List Receipt) → port < ports → mails ≡ mails_of came → All (λ (c : Came). IsFromPort ports c.from) came
    → mail_from None came ≡ own_mails asks receipts → ((q : ℕ) → q < ports → PortSent port most q came) → messages_of port mails ≤ most
messages-few port ports most came mails asks receipts below are among own each =
    let parts = by-source port ports came among in
    let none : messages_of port (mail_from None came) ≡ 0 = ap (messages_of port) own ∙ own-none port asks receipts in
    let few = over-few ports port most (λ q. messages_of port (mail_from (Some q) came)) below
    (let s = each port below in let read = readable-few port s.sent in let same = same-count port s.sent in let most-own = s.own refl in let is = ap (messages_of port) s.came_is in omega (arith, read, same, most-own, is))
    (λ q less apart. let s = each q less in let read = readable-few port s.sent in let same = same-count port s.sent in let none-other = s.other apart in let is = ap (messages_of port) s.came_is in omega (arith, read, same, none-other, is)) in
    let all = ap (messages_of port) are in
    omega (arith, parts, none, few, all)
