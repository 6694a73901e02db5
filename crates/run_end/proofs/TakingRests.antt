-- Mailboxes of which the rest is taken, one after another.
use Rattle.std.proofs.Common.{◌≡◌, ◌≢◌, ◌<◌, ◌≤◌, ◌+◌, ℕ, List, [], length, get_or, set, sym, refl, ap, ◌∙◌, subst, arith, length-set, get_or-set_same, get_or-set_other, ⊎_elim}
use Rattle.std.proofs.lemmas.Bool.{cases_lt}
use Rattle.std.proofs.lemmas.List.{get_or-map, length-map}
use Rattle.run_lanes.specs.port_mail.Ends.{MailEnd}
use Rattle.port_model.specs.declared.mail.Mail.{Mail}
use Rattle.process_end.specs.Mailbox.{Mailbox}
use Rattle.run_lanes.specs.Ends.{made_by}
use Rattle.run_lanes.specs.Rows.{AreRows, AreColumns}
use Rattle.run_end.specs.Ran.{RanProcess}
use Rattle.run_end.specs.Rest.{TookRest}
use Rattle.run_end.specs.Merge.{AreMailEnds}
use Rattle.run_end.specs.Mailboxes.{AreMailRows, AreMailColumns, TakesRestAt, TakesEachRest, HaveTakenRows, AllMailIsMerge}
use Rattle.run_end.proofs.Merges.{first_of, is_merge}

took_same : (ends : List MailEnd) (o o' n n' : Mailbox) (a a' b b' : List Mail) → o ≡ o' → n ≡ n' → a ≡ a' → b ≡ b' → TookRest ends o n a b → TookRest ends o' n' a' b'
took_same ends o o' n n' a a' b b' p q r s t =
    subst (λ x. TookRest ends x n' a' b') p (subst (λ x. TookRest ends o x a' b') q (subst (λ x. TookRest ends o n x b') r (subst (λ x. TookRest ends o n a x) s t)))

-- one mailbox and its mail were set
pub takes_at : (place : ℕ) (ends : List MailEnd) (old new : List Mailbox) (mails all : List (List Mail)) (was now : Mailbox) (had has : List Mail) → place < length old → place < length mails
    → ((m : Mailbox) → was ≡ get_or old place m) → ((a : List Mail) → had ≡ get_or mails place a) → new ≡ set old place now → all ≡ set mails place has → TookRest ends was now had has
    → TakesRestAt place ends old new mails all
takes_at place ends old new mails all was now had has within inside is had_is e f took = record {
  boxes_many = ap length e ∙ length-set old place now;
  mails_many = ap length f ∙ length-set mails place has;
  here = λ m n a b. took_same ends was (get_or old place m) now (get_or new place n) had (get_or mails place a) has (get_or all place b) (is m)
      (sym (ap (λ l. get_or l place n) e ∙ get_or-set_same old place now n within)) (had_is a)
      (sym (ap (λ l. get_or l place b) f ∙ get_or-set_same mails place has b inside)) took;
  boxes = λ k m ne. ap (λ l. get_or l k m) e ∙ get_or-set_other old place k now m ne;
  others = λ k a ne. ap (λ l. get_or l k a) f ∙ get_or-set_other mails place k has a ne;
}

-- the rest of the mailboxes below this place was taken, and the others are as they were
pub record TakesBelow (at : ℕ) (columns : List (List MailEnd)) (old new : List Mailbox) (mails all : List (List Mail)) : Type 0 where
  pub boxes_many : length new ≡ length old
  pub mails_many : length all ≡ length mails
  pub below : (k : ℕ) (m n : Mailbox) (column : List MailEnd) (a b : List Mail) → k < at → TookRest (get_or columns k column) (get_or old k m) (get_or new k n) (get_or mails k a) (get_or all k b)
  pub boxes : (k : ℕ) (m : Mailbox) → at ≤ k → get_or new k m ≡ get_or old k m
  pub others : (k : ℕ) (a : List Mail) → at ≤ k → get_or all k a ≡ get_or mails k a

pub takes_none : (columns : List (List MailEnd)) (boxes : List Mailbox) (mails : List (List Mail)) → TakesBelow 0 columns boxes boxes mails mails
takes_none columns boxes mails = record {
  boxes_many = refl;
  mails_many = refl;
  below = λ k m n column a b under. absurd (omega arith);
  boxes = λ k m over. refl;
  others = λ k a over. refl;
}

pub takes_more : (at : ℕ) (columns : List (List MailEnd)) (ends : List MailEnd) (old new new' : List Mailbox) (mails all all' : List (List Mail)) → ((column : List MailEnd) → ends ≡ get_or columns at column)
    → TakesBelow at columns old new mails all → TakesRestAt at ends new new' all all' → TakesBelow (at + 1) columns old new' mails all'
takes_more at columns ends old new new' mails all all' is before step = record {
  boxes_many = step.boxes_many ∙ before.boxes_many;
  mails_many = step.mails_many ∙ before.mails_many;
  below = λ k m n column a b under. ⊎_elim
      (λ (less : k < at).
      let ne : k ≢ at = omega arith in
      took_same (get_or columns k column) (get_or old k m) (get_or old k m) (get_or new k n) (get_or new' k n) (get_or mails k a) (get_or mails k a) (get_or all k b) (get_or all' k b) refl
      (sym (step.boxes k n ne)) refl (sym (step.others k b ne)) (before.below k m n column a b less))
      (λ (more : at ≤ k).
      let same : at ≡ k = omega arith in
      subst (λ j. TookRest (get_or columns j column) (get_or old j m) (get_or new' j n) (get_or mails j a) (get_or all' j b)) same
      (subst (λ l. TookRest l (get_or old at m) (get_or new' at n) (get_or mails at a) (get_or all' at b)) (is column)
      (took_same ends (get_or new at m) (get_or old at m) (get_or new' at n) (get_or new' at n) (get_or all at a) (get_or mails at a) (get_or all' at b) (get_or all' at b) (before.boxes at m (omega arith)) refl
      (before.others at a (omega arith)) refl (step.here m n a b))))
      (cases_lt k at);
  boxes = λ k m over.
      let ne : k ≢ at = omega arith in
      step.boxes k m ne ∙ before.boxes k m (omega arith);
  others = λ k a over.
      let ne : k ≢ at = omega arith in
      step.others k a ne ∙ before.others k a (omega arith);
}

pub takes_each : (at : ℕ) (columns : List (List MailEnd)) (old new : List Mailbox) (mails all : List (List Mail)) → at ≡ length old → TakesBelow at columns old new mails all
    → TakesEachRest columns old new mails all
takes_each at columns old new mails all whole takes = record { mails_many = takes.mails_many; each = λ k m n column a b within. takes.below k m n column a b (omega arith) }

-- the rows have a place for each mailbox
pub mail_rows : (mailboxes : List Mailbox) (rows : List (List MailEnd)) → AreMailRows mailboxes rows → AreRows (length mailboxes) rows
mail_rows mailboxes rows are = record { long = are.long }

-- their columns are ends of the mailboxes
pub mail_columns : (mailboxes : List Mailbox) (rows columns : List (List MailEnd)) → AreMailRows mailboxes rows → AreColumns (length mailboxes) rows columns → AreMailColumns mailboxes columns
mail_columns mailboxes rows columns are turned = record {
  many = turned.many;
  lanes = λ n m column below q d within.
      let inside : q < length rows = (let l = turned.long n column below in omega arith) in
      ap (λ (e : MailEnd). e.lane) (turned.at n q column [] d d below inside) ∙ (are.each q n [] d m inside below).lane;
}

-- with the numbers of the ports
mail_ends : (mailboxes : List Mailbox) (rows columns : List (List MailEnd)) → AreMailRows mailboxes rows → AreColumns (length mailboxes) rows columns → (n : ℕ) → n < length mailboxes → AreMailEnds (get_or columns n [])
mail_ends mailboxes rows columns are turned n below q d within =
    let long = turned.long n [] below in
    let inside : q < length rows = omega arith in
    let same = turned.at n q [] [] d d below inside in
    let of = are.each q n [] d (first_of mailboxes n below) inside below in
    (ap (λ (e : MailEnd). e.number) same ∙ of.number_is, ap (λ (e : MailEnd). e.made) same ∙ of.made ∙ ap (λ k. made_by k q) (sym long))

pub taken_rows : (mailboxes new : List Mailbox) (rows columns : List (List MailEnd)) (mails all : List (List Mail)) → AreMailRows mailboxes rows → AreColumns (length mailboxes) rows columns
    → TakesEachRest columns mailboxes new mails all → HaveTakenRows mailboxes rows mails all
taken_rows mailboxes new rows columns mails all are turned takes = record {
  many = takes.mails_many;
  each = λ n m a b below. record {
    ends = get_or columns n [];
    column = record { many = turned.long n [] below; at = λ r row x y within. turned.at n r [] row x y below within };
    numbered = mail_ends mailboxes rows columns are turned n below;
    new = get_or new n m;
    took = takes.each n m m [] a b below;
  };
}

pub all_merge : AllMailIsMerge
all_merge ps rows all whole taken n p mails below =
    let q = get_or ps n p in
    let boxes = length-map ps (λ (o : RanProcess). o.end.mailbox) in
    let t = taken.each n q.end.mailbox q.mails mails (omega arith) in
    record {
      ends = t.ends;
      column = t.column;
      merge = is_merge q t.ends t.new (get_or all n mails) (whole.ran n p below) (whole.many n p below ∙ sym t.column.many) t.numbered
          (took_same t.ends _ q.end.mailbox t.new t.new _ q.mails (get_or all n mails) (get_or all n mails) (get_or-map (λ (o : RanProcess). o.end.mailbox) ps n p q.end.mailbox below) refl
          (get_or-map (λ (o : RanProcess). o.mails) ps n p q.mails below) refl t.took);
    }
