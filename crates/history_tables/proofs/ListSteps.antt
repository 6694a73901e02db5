-- One more task is listed, and the first is resumed.
use Rattle.std.proofs.Common.{◌≡◌, ◌==◌, ℕ, Bool, true, false, ◌||◌, ◌&&◌, not, eqb, cond, List, [], ◌∷◌, ◌++◌, drop, map, refl, sym, ap, ◌∙◌, subst}
use Rattle.std.specs.BTreeMap.{is_at}
use Rattle.std.specs.BTreeSet.{BTreeSet, contains}
use Rattle.std.proofs.lemmas.List.{map-append}
use Rattle.std.proofs.lemmas.Bool.{and_parts}
use Rattle.port_model.specs.declared.signal.Sender.{Sender}
use Rattle.port_history.specs.Opening.{same_sender}
use Rattle.port_history.specs.Suspension.{Entry, entry, same_entry, has_entry, has_sender, is_first, without_entry}
use Rattle.history_tables.specs.declared.key.SenderKey.{SenderKey}
use Rattle.history_tables.specs.declared.key.TaskKey.{TaskKey}
use Rattle.history_tables.specs.declared.listed.ListedTasks.{ListedTasks}
use Rattle.history_tables.specs.Keys.{key_of, key_cmp, task_key, task_cmp}
use Rattle.history_tables.specs.Listed.{Lists, AreApart, key_of_entry}
use Rattle.history_tables.proofs.Keys.{same-keys, same-tasks, same-turned, one-sender, turned}

or-cond : (b x : Bool) → cond b true x ≡ (b || x)
or-cond true x = refl
or-cond false x = refl

more-entries : (from f : Sender) (seq n : ℕ) (old new : BTreeSet TaskKey) (key : TaskKey) (entries : List Entry) → key ≡ task_key from seq
    → ((q : TaskKey) → contains task_cmp new q ≡ cond (is_at (task_cmp key) q) true (contains task_cmp old q))
    → contains task_cmp old (task_key f n) ≡ has_entry (entry f n) entries
    → contains task_cmp new (task_key f n) ≡ has_entry (entry f n) (entry from seq ∷ entries)
more-entries from f seq n old new key entries is updates all =
    updates (task_key f n) ∙ (ap (λ k. cond (is_at (task_cmp k) (task_key f n)) true (contains task_cmp old (task_key f n))) is
    ∙ (ap (λ b. cond b true (contains task_cmp old (task_key f n))) (same-tasks from f seq n ∙ (ap (λ b. b && eqb seq n) (same-turned from f) ∙ ap (λ b. same_sender f from && b) (turned seq n)))
    ∙ (ap (λ b. cond (same_sender f from && eqb n seq) true b) all ∙ or-cond (same_sender f from && eqb n seq) (has_entry (entry f n) entries))))

or-end : (a b : Bool) → (a || b) ≡ (b || (a || false))
or-end true true = refl
or-end true false = refl
or-end false true = refl
or-end false false = refl

sender-more : (from f : Sender) (seq : ℕ) (listed : List Entry) → has_sender f (listed ++ entry from seq ∷ []) ≡ (same_sender f from || has_sender f listed)
sender-more from f seq [] = refl
sender-more from f seq (e ∷ listed) = ap (λ b. same_sender f e.from || b) (sender-more from f seq listed) ∙ or-left (same_sender f e.from) (same_sender f from) (has_sender f listed) where
  or-left : (a b c : Bool) → (a || (b || c)) ≡ (b || (a || c))
  or-left true true c = refl
  or-left true false c = refl
  or-left false b c = refl

more-senders : (from f : Sender) (seq : ℕ) (old new : BTreeSet SenderKey) (key : SenderKey) (listed : List Entry) → key ≡ key_of from
    → ((q : SenderKey) → contains key_cmp new q ≡ cond (is_at (key_cmp key) q) true (contains key_cmp old q))
    → contains key_cmp old (key_of f) ≡ has_sender f listed
    → contains key_cmp new (key_of f) ≡ has_sender f (listed ++ entry from seq ∷ [])
more-senders from f seq old new key listed is updates has =
    updates (key_of f) ∙ (ap (λ k. cond (is_at (key_cmp k) (key_of f)) true (contains key_cmp old (key_of f))) is
    ∙ (ap (λ b. cond b true (contains key_cmp old (key_of f))) (same-keys from f ∙ same-turned from f)
    ∙ (ap (λ b. cond (same_sender f from) true b) has ∙ (or-cond (same_sender f from) (has_sender f listed) ∙ sym (sender-more from f seq listed)))))

or-none : (a b : Bool) → (a || b) ≡ false → (a ≡ false) × (b ≡ false)
or-none true b e = absurd cc
or-none false b e = (refl, e)

still-apart : (from : Sender) (seq : ℕ) (listed : List Entry) → has_sender from listed ≡ false → AreApart listed → AreApart (listed ++ entry from seq ∷ [])
still-apart from seq [] free apart = (refl, tt)
still-apart from seq (e ∷ listed) free apart =
    let none = or-none (same_sender from e.from) (has_sender from listed) free in (
      sender-more from e.from seq listed ∙ (ap (λ b. b || has_sender e.from listed) (sym (same-turned from e.from) ∙ none.0) ∙ apart.0),
      still-apart from seq listed none.1 apart.1,
    )

pub lists-more : (from : Sender) (seq : ℕ) (old new : ListedTasks) (task : TaskKey) (sender : SenderKey) (listed entries : List Entry)
    → task ≡ task_key from seq → sender ≡ key_of from
    → ((q : TaskKey) → contains task_cmp new.all q ≡ cond (is_at (task_cmp task) q) true (contains task_cmp old.all q))
    → ((q : SenderKey) → contains key_cmp new.suspended q ≡ cond (is_at (key_cmp sender) q) true (contains key_cmp old.suspended q))
    → new.waiting.items ≡ old.waiting.items ++ task ∷ []
    → Lists old listed entries → has_sender from listed ≡ false → Lists new (listed ++ entry from seq ∷ []) (entry from seq ∷ entries)
lists-more from seq old new task sender listed entries task-is sender-is all suspended waiting is free = record {
  all = λ f n. more-entries from f seq n old.all new.all task entries task-is all (is.all f n);
  suspended = λ f. more-senders from f seq old.suspended new.suspended sender listed sender-is suspended (is.suspended f);
  waiting = waiting ∙ (ap (λ t. old.waiting.items ++ t ∷ []) task-is ∙ (ap (λ xs. xs ++ task_key from seq ∷ []) is.waiting ∙ sym (map-append key_of_entry listed (entry from seq ∷ []))));
  apart = still-apart from seq listed free is.apart;
}

-- no task of the sender is among these, so none is taken out
none-out : (e : Entry) (listed : List Entry) → has_sender e.from listed ≡ false → without_entry e listed ≡ listed
none-out e [] free = refl
none-out e (x ∷ listed) free =
    let none = or-none (same_sender e.from x.from) (has_sender e.from listed) free in
    ap (λ b. cond (not (b && (e.seq == x.seq))) (x ∷ without_entry e listed) (without_entry e listed)) none.0 ∙ ap (λ xs. x ∷ xs) (none-out e listed none.1)

first-out : (e x : Entry) (listed : List Entry) → same_entry e x ≡ true → AreApart (x ∷ listed) → without_entry e (x ∷ listed) ≡ listed
first-out e x listed same apart =
    ap (λ b. cond (not b) (x ∷ without_entry e listed) (without_entry e listed)) same
    ∙ none-out e listed (ap (λ s. has_sender s listed) (one-sender e.from x.from (and_parts (same_sender e.from x.from) (e.seq == x.seq) same).0) ∙ apart.0)

left-of : (from f : Sender) (listed : List Entry) → has_sender from listed ≡ false → cond (same_sender from f) false (same_sender f from || has_sender f listed) ≡ has_sender f listed
left-of from f listed free = by-same (same_sender from f) refl where
  by-same : (b : Bool) → same_sender from f ≡ b → cond b false (same_sender f from || has_sender f listed) ≡ has_sender f listed
  by-same true same = sym (ap (λ s. has_sender s listed) (sym (one-sender from f same)) ∙ free)
  by-same false apart = ap (λ b. b || has_sender f listed) (sym (same-turned from f) ∙ apart)

pub lists-fewer : (from : Sender) (seq : ℕ) (old new : ListedTasks) (sender : SenderKey) (listed entries : List Entry) → sender ≡ key_of from
    → new.all ≡ old.all
    → ((q : SenderKey) → contains key_cmp new.suspended q ≡ cond (is_at (key_cmp sender) q) false (contains key_cmp old.suspended q))
    → new.waiting.items ≡ drop 1 old.waiting.items
    → Lists old listed entries → is_first (entry from seq) listed ≡ true → Lists new (without_entry (entry from seq) listed) entries
lists-fewer from seq old new sender [] entries sender-is all suspended waiting is first = absurd cc
lists-fewer from seq old new sender (x ∷ listed) entries sender-is all suspended waiting is first =
    let e : Entry = entry from seq in
    let own : from ≡ x.from = one-sender from x.from (and_parts (same_sender from x.from) (seq == x.seq) first).0 in
    let free : has_sender from listed ≡ false = ap (λ s. has_sender s listed) own ∙ is.apart.0 in
    subst (λ xs. Lists new xs entries) (sym (first-out e x listed first is.apart)) (record {
      all = λ f n. ap (λ s. contains task_cmp s (task_key f n)) all ∙ is.all f n;
      suspended = λ f.
          suspended (key_of f) ∙ (ap (λ k. cond (is_at (key_cmp k) (key_of f)) false (contains key_cmp old.suspended (key_of f))) sender-is
          ∙ (ap (λ b. cond b false (contains key_cmp old.suspended (key_of f))) (same-keys from f)
          ∙ (ap (λ b. cond (same_sender from f) false b) (is.suspended f)
          ∙ (ap (λ s. cond (same_sender from f) false (same_sender f s || has_sender f listed)) (sym own) ∙ left-of from f listed free))));
      waiting = waiting ∙ ap (drop 1) is.waiting;
      apart = is.apart.1;
    })
