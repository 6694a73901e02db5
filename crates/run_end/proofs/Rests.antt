-- Mail that is taken, one after another.
use Rattle.std.proofs.Common.{◌≡◌, ℕ, ◌≤◌, ◌<◌, List, [], ◌∷◌, ◌++◌, eqb, Some, None, refl, sym, ap, ◌∙◌, append_assoc, arith}
use Rattle.std.specs.Prelude.{map, not}
use Rattle.std.specs.List.{All}
use Rattle.std.proofs.lemmas.Bool.{eqb-true}
use Rattle.std.proofs.lemmas.List.{append-nil, map-append}
use Rattle.std.proofs.lemmas.List.Elements.{filter-append, All-head, All-tail}
use Rattle.task_queue.specs.declared.item.Item.{Item}
use Rattle.task_queue.specs.Items.{of}
use Rattle.port_model.specs.declared.mail.Mail.{Mail}
use Rattle.process_end.specs.Mailbox.{Mailbox}
use Rattle.process_end.proofs.Adds.{split}
use Rattle.process_job.specs.Mails.{Came, came_from, mail_from, readable, resumes}
use Rattle.run_end.specs.Rest.{came_in, TookMore}

abbrev pub mails_in : List (Item Mail) → List Mail
mails_in items = map (λ (c : Came). c.mail) (came_in items)

came_in-append : (xs ys : List (Item Mail)) → came_in (xs ++ ys) ≡ came_in xs ++ came_in ys
came_in-append xs ys = ap (map (λ (x : Item Mail). came_from (Some x.sender) x.value)) (filter-append (λ (x : Item Mail). not (resumes x.value)) xs ys) ∙ map-append _ _ _

mails_in-append : (xs ys : List (Item Mail)) → mails_in (xs ++ ys) ≡ mails_in xs ++ mails_in ys
mails_in-append xs ys = ap (map (λ (c : Came). c.mail)) (came_in-append xs ys) ∙ map-append _ _ _

mails_of-one : (x : Item Mail) → readable (x.value ∷ []) ≡ mails_in (x ∷ [])
mails_of-one x = split (resumes x.value) (λ r. rw r refl) (λ r. rw r refl)

pub more_none : (m : Mailbox) (mails : List Mail) → TookMore m m mails mails
more_none m mails = record { items = []; taken = ap (λ l. record m { taken = l }) (sym (append-nil m.taken)); mails_are = sym (append-nil mails) }

pub more_one : (old new : Mailbox) (x : Item Mail) (mails new_mails : List Mail) → new ≡ record old { taken = old.taken ++ x ∷ [] } → new_mails ≡ mails ++ readable (x.value ∷ [])
    → TookMore old new mails new_mails
more_one old new x mails new_mails e are = record { items = x ∷ []; taken = e; mails_are = are ∙ ap (λ l. mails ++ l) (mails_of-one x) }

pub more_then : (one two three : Mailbox) (a b c : List Mail) → TookMore one two a b → TookMore two three b c → TookMore one three a c
more_then one two three a b c f g = record {
  items = f.items ++ g.items;
  taken = g.taken ∙ ap (λ (m : Mailbox). record m { taken = m.taken ++ g.items }) f.taken ∙ ap (λ l. record one { taken = l }) (append_assoc one.taken f.items g.items);
  mails_are = g.mails_are ∙ ap (λ l. l ++ mails_in g.items) f.mails_are ∙ append_assoc a (mails_in f.items) (mails_in g.items) ∙ ap (λ l. a ++ l) (sym (mails_in-append f.items g.items));
}

-- what is read of the items of a port is what came from it
pub came_of : (q : ℕ) (xs : List (Item Mail)) → readable (of q xs) ≡ mail_from (Some q) (came_in xs)
came_of q [] = refl
came_of q (x ∷ xs) =
    let later = came_of q xs in
    split (eqb x.sender q)
    (λ is. split (resumes x.value) (λ r. rw (is, r) later) (λ r. rw (is, r) (rw is (ap (λ l. x.value ∷ l) later))))
    (λ is. split (resumes x.value) (λ r. rw (is, r) later) (λ r. rw (is, r) (rw is later)))

-- it came from ports alone
pub came_own : (xs : List (Item Mail)) → mail_from None (came_in xs) ≡ []
came_own [] = refl
came_own (x ∷ xs) = split (resumes x.value) (λ r. rw r (came_own xs)) (λ r. rw r (came_own xs))

-- nothing comes from a sender that isn't there
pub none_of : (q n : ℕ) (xs : List (Item Mail)) → All (λ x. x.sender < n) xs → n ≤ q → of q xs ≡ []
none_of q n [] all le = refl
none_of q n (x ∷ xs) all le = split (eqb x.sender q)
    (λ t. absurd (let e = eqb-true x.sender q t in let lt = All-head (λ (y : Item Mail). y.sender < n) x xs all in omega arith))
    (λ f. rw f (none_of q n xs (All-tail (λ (y : Item Mail). y.sender < n) x xs all) le))
