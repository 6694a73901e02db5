-- Counts of the data of each port, with one mail more.
use Rattle.std.proofs.Common.{◌≡◌, ℕ, ◌+◌, ◌<◌, ◌≤◌, List, [], ◌∷◌, ◌++◌, length, Bool, true, cond, eqb, refl, ap, ◌∙◌, subst, arith}
use Rattle.std.specs.Prelude.{slice_index_or, slice_set, filter}
use Rattle.std.proofs.lemmas.List.{get_or-set_same, get_or-set_other, length-set, length-append}
use Rattle.std.proofs.lemmas.List.Elements.{filter-append}
use Rattle.std.proofs.lemmas.List.Sums.{sum_by_push}
use Rattle.io_vector.specs.declared.flag.Flag.{Flag}
use Rattle.port_model.specs.declared.mail.Mail.{Mail}
use Rattle.port_model.specs.declared.mail.Mail.TheVariants.{Message}
use Rattle.process_end.proofs.Made.{each-place}
use Rattle.process_end.proofs.Adds.{split}
use Rattle.process_job.specs.declared.log.DataCount.{DataCount}
use Rattle.process_job.specs.Mails.{is_data_of, size_from, messages_of, bytes_of}
use Rattle.process_job.specs.Counts.{AreCounted}

counted_push : {X : Type 0} (p : X → Bool) (xs : List X) (y : X) → length (filter p (xs ++ y ∷ [])) ≡ length (filter p xs) + cond (p y) 1 0
counted_push p xs y = ap length (filter-append p xs (y ∷ [])) ∙ length-append (filter p xs) (filter p (y ∷ [])) ∙ ap (λ n. length (filter p xs) + n) (split (p y) (λ e. rw e refl) (λ e. rw e refl))

same_eq : (n : ℕ) → eqb n n ≡ true
same_eq n = grind arith

-- a mail takes no data away
pub counted_kept : (mails : List Mail) (m : Mail) (counts : List DataCount) → AreCounted mails counts → AreCounted (mails ++ m ∷ []) counts
counted_kept mails m counts h = λ port d within.
    let one = counted_push (is_data_of port) mails m in
    let two = sum_by_push (size_from port) mails m in
    let was = h port d within in
    (omega arith, omega arith)

-- data of the port at this place
pub counted_set : (mails : List Mail) (counts : List DataCount) (at : ℕ) (flag : Flag) (bytes : List ℕ) (old new : DataCount) → at < length counts
    → ((d : DataCount) → slice_index_or counts at d ≡ old) → new.messages ≤ old.messages + 1 → new.bytes ≤ old.bytes + length bytes
    → AreCounted mails counts → AreCounted (mails ++ Message at flag bytes ∷ []) (slice_set counts at new)
counted_set mails counts at flag bytes old new inside is more longer h = λ port d within.
    let here : port < length counts = subst (λ n. port < n) (length-set counts at new) within in
    each-place
    (λ j. j < length counts → ((slice_index_or (slice_set counts at new) j d).messages ≤ messages_of j (mails ++ Message at flag bytes ∷ []))
    × ((slice_index_or (slice_set counts at new) j d).bytes ≤ bytes_of j (mails ++ Message at flag bytes ∷ []))) at
    (λ w.
    let set = get_or-set_same counts at new d inside in
    let was = h at d w in
    let one = counted_push (is_data_of at) mails (Message at flag bytes) in
    let two = sum_by_push (size_from at) mails (Message at flag bytes) in
    let same = same_eq at in
    let m : old.messages ≤ messages_of at mails = subst (λ (o : DataCount). o.messages ≤ messages_of at mails) (is d) was.0 in
    let b : old.bytes ≤ bytes_of at mails = subst (λ (o : DataCount). o.bytes ≤ bytes_of at mails) (is d) was.1 in
    let one' : messages_of at (mails ++ Message at flag bytes ∷ []) ≡ messages_of at mails + 1 = one ∙ ap (λ t. messages_of at mails + cond t 1 0) same in
    let two' : bytes_of at (mails ++ Message at flag bytes ∷ []) ≡ bytes_of at mails + length bytes = two ∙ ap (λ t. bytes_of at mails + cond t (length bytes) 0) same in
    (rw set (omega arith), rw set (omega arith)))
    (λ j apart w. rw (get_or-set_other counts at j new d apart) (counted_kept mails (Message at flag bytes) counts h j d w))
    port here
