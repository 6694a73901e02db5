-- Tasks.
use Rattle.std.proofs.Common.{inl, inr, ◌≡◌, ℕ, ◌^◌, ◌≤◌, Bool, true, false, List, [], ◌∷◌, ◌++◌, Some, None, refl, ap, subst, ◌∙◌, arith}
use Rattle.std.specs.Prelude.{◌&&◌, not, nat_lt, codes}
use Rattle.std.specs.List.{concat, take_while}
use Rattle.std.specs.Fmt.{decimal}
use Rattle.std.specs.Str.{bytes_eq}
use Rattle.std.proofs.lemmas.Bool.{and_parts, cases_Bool}
use Rattle.port_model.specs.declared.event.Dir.TheVariants.{Read, Write}
use Rattle.port_model.specs.declared.signal.Signal.{Signal}
use Rattle.port_model.specs.declared.signal.Signal.TheVariants.{Command, OwnerCommand, Control, Call, Close, OwnerClose, Connect, OwnerConnect, Link, Unlink, Monitor, Demonitor, Exit, Gone, Ready, Dropped, AsyncDone}
use Rattle.port_model.specs.Signals.{is_command}
use Rattle.port_model.specs.Tasks.{TaskView}
use Rattle.journal_text.specs.declared.how.CommandFlags.{CommandFlags}
use Rattle.journal_text.specs.declared.how.CommandFlags.TheVariants.{Plain, Suspends, Forced}
use Rattle.journal_text.specs.Words.{is_word_byte, bytes_text, are_bytes, is_name}
use Rattle.journal_text.specs.Signals.{how_text, signal_text, is_signal, is_payload, how_of, task_of, task_text, is_task, are_flags}
use Rattle.journal_text.specs.Reading.{behind, made, pair_at, by_word, number_of, number_at, name_of, name_at, bytes_of, bytes_at, how_at, payload_at, event_by, carrying_by, signal_by, task_by, task_at}
use Rattle.journal_text.specs.Reading as R
use Rattle.journal_text.proofs.ReadingLaws.{both, ends, Law, By, Front, field_law, pair_law, pair_text, pair_fits, nothing, tag, bare, part, part_again, word_then, by_word_law, made_found}
use Rattle.journal_text.proofs.NumberLaws.{number_exact, name_exact}
use Rattle.journal_text.proofs.HexLaws.{bytes_exact}
use Rattle.journal_text.proofs.SenderLaws.{word_is, how_exact, payload_law}

-- ---- parts

pub number_law : (limit : ℕ) → limit ≤ 2 ^ 64 → Law decimal (λ n. nat_lt n limit) (number_at limit)
number_law limit le = field_law decimal (λ n. nat_lt n limit) (number_of limit) (number_exact limit le)

pub law_64 : Law decimal (λ n. nat_lt n (2 ^ 64)) (number_at (2 ^ 64))
law_64 = number_law (2 ^ 64) (omega arith)

pub law_32 : Law decimal (λ n. nat_lt n (2 ^ 32)) (number_at (2 ^ 32))
law_32 = number_law (2 ^ 32) (omega arith)

pub name_law : Law (λ name. name) is_name name_at
name_law = field_law (λ name. name) is_name name_of name_exact

pub bytes_law : Law bytes_text are_bytes bytes_at
bytes_law = field_law bytes_text are_bytes bytes_of bytes_exact

how_law : Law how_text (λ how. true) how_at
how_law = field_law how_text (λ how. true) R.how_of how_exact

abbrev payload_text : List (List ℕ) → List ℕ
payload_text payload = bytes_text (concat payload)

numbered : (limit : ℕ) → limit ≤ 2 ^ 64 → Law (pair_text decimal bytes_text) (pair_fits (λ n. nat_lt n limit) are_bytes) (pair_at (number_at limit) bytes_at)
numbered limit le = pair_law decimal (λ n. nat_lt n limit) (number_at limit) bytes_text are_bytes bytes_at (number_law limit le) bytes_law

flagged : Law (pair_text how_text payload_text) (pair_fits (λ how. true) is_payload) (pair_at how_at payload_at)
flagged = pair_law how_text (λ how. true) how_at payload_text is_payload payload_at how_law payload_law

-- ---- signals that are no commands

-- a signal that carries a flag nowhere, and its range
abbrev text : Signal → List ℕ
text signal = signal_text Plain signal

abbrev fits : ℕ → Signal → Bool
fits names signal = not (is_command signal) && is_signal names signal

event_found : (names : ℕ) → By text (fits names) event_by
unfolding event_by
event_found names =
    let n = law_32 in
    let p = numbered (2 ^ 64) (omega arith) in
    record {
      found = (tag text (fits names) (codes "input") _ _ (part text (fits names) (codes "input") decimal (λ n. nat_lt n (2 ^ 32)) (number_at (2 ^ 32)) (λ event. Ready event Read) n refl (λ x. refl) (λ x h. h))
          (tag text (fits names) (codes "output") _ _ (part text (fits names) (codes "output") decimal (λ n. nat_lt n (2 ^ 32)) (number_at (2 ^ 32)) (λ event. Ready event Write) n refl (λ x. refl) (λ x h. h))
          (tag text (fits names) (codes "dropped") _ _ (part text (fits names) (codes "dropped") decimal (λ n. nat_lt n (2 ^ 32)) (number_at (2 ^ 32)) Dropped n refl (λ x. refl) (λ x h. h))
          (tag text (fits names) (codes "done") _ _ (part text (fits names) (codes "done") (pair_text decimal bytes_text) (pair_fits (λ n. nat_lt n (2 ^ 64)) are_bytes) (pair_at (number_at (2 ^ 64)) bytes_at) (λ p. AsyncDone p.0 p.1) p refl (λ x. refl) (λ x h. h))
          (nothing text (fits names)))))).found;
    }

carrying_found : (names : ℕ) → names ≤ 2 ^ 64 → By text (fits names) (carrying_by names)
unfolding carrying_by
carrying_found names le =
    let p = number_law names le in
    let n = law_64 in
    record {
      found = (tag text (fits names) (codes "connect") _ _ (part text (fits names) (codes "connect") decimal (λ n. nat_lt n names) (number_at names) Connect p refl (λ x. refl) (λ x h. h))
          (tag text (fits names) (codes "ownerconnect") _ _ (part text (fits names) (codes "ownerconnect") decimal (λ n. nat_lt n names) (number_at names) OwnerConnect p refl (λ x. refl) (λ x h. h))
          (tag text (fits names) (codes "monitor") _ _ (part text (fits names) (codes "monitor") decimal (λ n. nat_lt n (2 ^ 64)) (number_at (2 ^ 64)) Monitor n refl (λ x. refl) (λ x h. h))
          (tag text (fits names) (codes "demonitor") _ _ (part text (fits names) (codes "demonitor") decimal (λ n. nat_lt n (2 ^ 64)) (number_at (2 ^ 64)) Demonitor n refl (λ x. refl) (λ x h. h))
          (tag text (fits names) (codes "exit") _ _ (part text (fits names) (codes "exit") (λ name. name) is_name name_at Exit name_law refl (λ x. refl) (λ x h. h))
          (tag text (fits names) (codes "gone") _ _ (part text (fits names) (codes "gone") (λ name. name) is_name name_at Gone name_law refl (λ x. refl) (λ x h. h))
          (event_found names))))))).found;
    }

signal_found : (names : ℕ) → names ≤ 2 ^ 64 → By text (fits names) (signal_by names)
unfolding signal_by
signal_found names le =
    let p = numbered (2 ^ 32) (omega arith) in
    record {
      found = (tag text (fits names) (codes "control") _ _ (part text (fits names) (codes "control") (pair_text decimal bytes_text) (pair_fits (λ n. nat_lt n (2 ^ 32)) are_bytes) (pair_at (number_at (2 ^ 32)) bytes_at) (λ p. Control p.0 p.1) p refl (λ x. refl) (λ x h. h))
          (tag text (fits names) (codes "call") _ _ (part text (fits names) (codes "call") (pair_text decimal bytes_text) (pair_fits (λ n. nat_lt n (2 ^ 32)) are_bytes) (pair_at (number_at (2 ^ 32)) bytes_at) (λ p. Call p.0 p.1) p refl (λ x. refl) (λ x h. h))
          (tag text (fits names) (codes "close") _ _ (bare text (fits names) Close refl refl)
          (tag text (fits names) (codes "ownerclose") _ _ (bare text (fits names) OwnerClose refl refl)
          (tag text (fits names) (codes "link") _ _ (bare text (fits names) Link refl refl)
          (tag text (fits names) (codes "unlink") _ _ (bare text (fits names) Unlink refl refl)
          (carrying_found names le))))))).found;
    }

-- what is written of a signal is read again
signal_again : (names : ℕ) → names ≤ 2 ^ 64 → (signal : Signal) (rest : List ℕ) → fits names signal ≡ true → ends rest ≡ true → by_word (signal_by names) (text signal ++ rest) ≡ Some (signal, rest)
unfolding signal_by carrying_by event_by
signal_again names le (Command payload) rest h e = absurd cc
signal_again names le (OwnerCommand payload) rest h e = absurd cc
signal_again names le (Control op bytes) rest h e = word_then (signal_by names) (codes "control") (32 ∷ (pair_text decimal bytes_text (op, bytes) ++ rest)) refl refl ∙ part_again (pair_text decimal bytes_text) (pair_fits (λ n. nat_lt n (2 ^ 32)) are_bytes) (pair_at (number_at (2 ^ 32)) bytes_at) (λ p. Control p.0 p.1) (numbered (2 ^ 32) (omega arith)) (op, bytes) rest h e
signal_again names le (Call op bytes) rest h e = word_then (signal_by names) (codes "call") (32 ∷ (pair_text decimal bytes_text (op, bytes) ++ rest)) refl refl ∙ part_again (pair_text decimal bytes_text) (pair_fits (λ n. nat_lt n (2 ^ 32)) are_bytes) (pair_at (number_at (2 ^ 32)) bytes_at) (λ p. Call p.0 p.1) (numbered (2 ^ 32) (omega arith)) (op, bytes) rest h e
signal_again names le Close rest h e = word_then (signal_by names) (codes "close") rest refl e
signal_again names le OwnerClose rest h e = word_then (signal_by names) (codes "ownerclose") rest refl e
signal_again names le (Connect n) rest h e = word_then (signal_by names) (codes "connect") (32 ∷ (decimal n ++ rest)) refl refl ∙ part_again decimal (λ n. nat_lt n names) (number_at names) Connect (number_law names le) n rest h e
signal_again names le (OwnerConnect n) rest h e = word_then (signal_by names) (codes "ownerconnect") (32 ∷ (decimal n ++ rest)) refl refl ∙ part_again decimal (λ n. nat_lt n names) (number_at names) OwnerConnect (number_law names le) n rest h e
signal_again names le Link rest h e = word_then (signal_by names) (codes "link") rest refl e
signal_again names le Unlink rest h e = word_then (signal_by names) (codes "unlink") rest refl e
signal_again names le (Monitor n) rest h e = word_then (signal_by names) (codes "monitor") (32 ∷ (decimal n ++ rest)) refl refl ∙ part_again decimal (λ n. nat_lt n (2 ^ 64)) (number_at (2 ^ 64)) Monitor law_64 n rest h e
signal_again names le (Demonitor n) rest h e = word_then (signal_by names) (codes "demonitor") (32 ∷ (decimal n ++ rest)) refl refl ∙ part_again decimal (λ n. nat_lt n (2 ^ 64)) (number_at (2 ^ 64)) Demonitor law_64 n rest h e
signal_again names le (Exit name) rest h e = word_then (signal_by names) (codes "exit") (32 ∷ (name ++ rest)) refl refl ∙ part_again (λ name. name) is_name name_at Exit name_law name rest h e
signal_again names le (Gone name) rest h e = word_then (signal_by names) (codes "gone") (32 ∷ (name ++ rest)) refl refl ∙ part_again (λ name. name) is_name name_at Gone name_law name rest h e
signal_again names le (Ready n Read) rest h e = word_then (signal_by names) (codes "input") (32 ∷ (decimal n ++ rest)) refl refl ∙ part_again decimal (λ n. nat_lt n (2 ^ 32)) (number_at (2 ^ 32)) (λ event. Ready event Read) law_32 n rest h e
signal_again names le (Ready n Write) rest h e = word_then (signal_by names) (codes "output") (32 ∷ (decimal n ++ rest)) refl refl ∙ part_again decimal (λ n. nat_lt n (2 ^ 32)) (number_at (2 ^ 32)) (λ event. Ready event Write) law_32 n rest h e
signal_again names le (Dropped n) rest h e = word_then (signal_by names) (codes "dropped") (32 ∷ (decimal n ++ rest)) refl refl ∙ part_again decimal (λ n. nat_lt n (2 ^ 32)) (number_at (2 ^ 32)) Dropped law_32 n rest h e
signal_again names le (AsyncDone n bytes) rest h e = word_then (signal_by names) (codes "done") (32 ∷ (pair_text decimal bytes_text (n, bytes) ++ rest)) refl refl ∙ part_again (pair_text decimal bytes_text) (pair_fits (λ n. nat_lt n (2 ^ 64)) are_bytes) (pair_at (number_at (2 ^ 64)) bytes_at) (λ p. AsyncDone p.0 p.1) (numbered (2 ^ 64) (omega arith)) (n, bytes) rest h e

-- ---- tasks

task_is : (how : CommandFlags) (payload : List (List ℕ)) → task_text (task_of how (Command payload)) ≡ codes "command" ++ 32 ∷ pair_text how_text payload_text (how, payload)
task_is Plain payload = refl
task_is Suspends payload = refl
task_is Forced payload = refl

owner_task_is : (how : CommandFlags) (payload : List (List ℕ)) → task_text (task_of how (OwnerCommand payload)) ≡ codes "send" ++ 32 ∷ pair_text how_text payload_text (how, payload)
owner_task_is Plain payload = refl
owner_task_is Suspends payload = refl
owner_task_is Forced payload = refl

task_within : (names : ℕ) (how : CommandFlags) (payload : List (List ℕ)) → is_payload payload ≡ true → is_task names (task_of how (Command payload)) ≡ true
task_within names Plain payload h = h
task_within names Suspends payload h = h
task_within names Forced payload h = h

owner_task_within : (names : ℕ) (how : CommandFlags) (payload : List (List ℕ)) → is_payload payload ≡ true → is_task names (task_of how (OwnerCommand payload)) ≡ true
owner_task_within names Plain payload h = h
owner_task_within names Suspends payload h = h
owner_task_within names Forced payload h = h

flags_plain : (command : Bool) → are_flags command false false ≡ true
flags_plain true = refl
flags_plain false = refl

-- a signal that is no command, as a task
plain_fits : (names : ℕ) (signal : Signal) → fits names signal ≡ true → is_task names (task_of Plain signal) ≡ true
plain_fits names signal h =
    let p = and_parts (not (is_command signal)) (is_signal names signal) h in
    both (are_flags (is_command signal) false false) (is_signal names signal) (flags_plain (is_command signal)) p.1

plain_found : (names : ℕ) → names ≤ 2 ^ 64 → By task_text (is_task names) (λ word rest. made (task_of Plain) (signal_by names word rest))
plain_found names le = record {
  found = λ word rest task out h.
      let m = made_found (task_of Plain) (signal_by names word rest) task out h in
      let front = (signal_found names le).found word rest m.0 out m.1 in
      let made : Front task_text (is_task names) (task_of Plain m.0) (word ++ rest) out = record { parts = front.parts; within = plain_fits names m.0 front.within; line = front.line } in
      subst (λ (t : TaskView). Front task_text (is_task names) t (word ++ rest) out) m.2 made;
}

task_found : (names : ℕ) → names ≤ 2 ^ 64 → By task_text (is_task names) (task_by names)
unfolding task_by
task_found names le = record {
  found = (tag task_text (is_task names) (codes "command") _ _ (part task_text (is_task names) (codes "command") (pair_text how_text payload_text) (pair_fits (λ how. true) is_payload) (pair_at how_at payload_at) (λ p. task_of p.0 (Command p.1)) flagged refl (λ x. task_is x.0 x.1) (λ x h. task_within names x.0 x.1 h))
      (tag task_text (is_task names) (codes "send") _ _ (part task_text (is_task names) (codes "send") (pair_text how_text payload_text) (pair_fits (λ how. true) is_payload) (pair_at how_at payload_at) (λ p. task_of p.0 (OwnerCommand p.1)) flagged refl (λ x. owner_task_is x.0 x.1) (λ x h. owner_task_within names x.0 x.1 h))
      (plain_found names le))).found;
}

-- the flags of a task that is no command
no_flags : (suspends forced : Bool) → are_flags false suspends forced ≡ true → (suspends ≡ false) × (forced ≡ false)
no_flags true true h = absurd cc
no_flags true false h = absurd cc
no_flags false true h = absurd cc
no_flags false false h = (refl, refl)

-- a command is read again
command_again : (names : ℕ) (how : CommandFlags) (payload : List (List ℕ)) (rest : List ℕ) → is_payload payload ≡ true → ends rest ≡ true
    → task_at names (signal_text how (Command payload) ++ rest) ≡ Some (task_of how (Command payload), rest)
unfolding task_by
command_again names how payload rest h e =
    word_then (task_by names) (codes "command") (32 ∷ (pair_text how_text payload_text (how, payload) ++ rest)) refl refl
    ∙ part_again (pair_text how_text payload_text) (pair_fits (λ how. true) is_payload) (pair_at how_at payload_at) (λ p. task_of p.0 (Command p.1)) flagged (how, payload) rest h e

owner_command_again : (names : ℕ) (how : CommandFlags) (payload : List (List ℕ)) (rest : List ℕ) → is_payload payload ≡ true → ends rest ≡ true
    → task_at names (signal_text how (OwnerCommand payload) ++ rest) ≡ Some (task_of how (OwnerCommand payload), rest)
unfolding task_by
owner_command_again names how payload rest h e =
    word_then (task_by names) (codes "send") (32 ∷ (pair_text how_text payload_text (how, payload) ++ rest)) refl refl
    ∙ part_again (pair_text how_text payload_text) (pair_fits (λ how. true) is_payload) (pair_at how_at payload_at) (λ p. task_of p.0 (OwnerCommand p.1)) flagged (how, payload) rest h e

-- a word that isn't that of a command is read as another signal
other_word : (names : ℕ) (word rest : List ℕ) → bytes_eq word (codes "command") ≡ false → bytes_eq word (codes "send") ≡ false → task_by names word rest ≡ made (task_of Plain) (signal_by names word rest)
unfolding task_by
other_word names word rest a b = rw (a, b) refl

no_signal : (names : ℕ) (rest : List ℕ) → (signal_by names (codes "command") rest ≡ None) × (signal_by names (codes "send") rest ≡ None)
unfolding signal_by carrying_by event_by
no_signal names rest = (refl, refl)

-- the word of a signal that was read isn't that of a command
no_command : (names : ℕ) (word rest keyword : List ℕ) (x : Signal × List ℕ) → signal_by names keyword rest ≡ None → signal_by names word rest ≡ Some x → bytes_eq word keyword ≡ false
no_command names word rest keyword x none some =
    elim (cases_Bool (bytes_eq word keyword)) [
      | inl e ↦ absurd (let is = word_is word keyword e in let h = rw is at some in cc)
      | inr e ↦ e
    ]

plain_again : (names : ℕ) (bytes : List ℕ) (x : Signal × List ℕ) → by_word (signal_by names) bytes ≡ Some x → task_at names bytes ≡ Some (task_of Plain x.0, x.1)
plain_again names bytes x h =
    let word = take_while is_word_byte bytes in
    let rest = behind is_word_byte bytes in
    let none = no_signal names rest in
    other_word names word rest (no_command names word rest (codes "command") x none.0 h) (no_command names word rest (codes "send") x none.1 h) ∙ ap (made (task_of Plain)) h

parts_again : (names : ℕ) → names ≤ 2 ^ 64 → (signal : Signal) (suspends forced : Bool) (rest : List ℕ) → (are_flags (is_command signal) suspends forced && is_signal names signal) ≡ true → ends rest ≡ true
    → task_at names (signal_text (how_of suspends forced) signal ++ rest) ≡ Some (record { signal = signal; suspends = suspends; forced = forced }, rest)
parts_again names le (Command payload) false false rest h e = command_again names Plain payload rest h e
parts_again names le (Command payload) true false rest h e = command_again names Suspends payload rest h e
parts_again names le (Command payload) false true rest h e = command_again names Forced payload rest h e
parts_again names le (Command payload) true true rest h e = absurd cc
parts_again names le (OwnerCommand payload) false false rest h e = owner_command_again names Plain payload rest h e
parts_again names le (OwnerCommand payload) true false rest h e = owner_command_again names Suspends payload rest h e
parts_again names le (OwnerCommand payload) false true rest h e = owner_command_again names Forced payload rest h e
parts_again names le (OwnerCommand payload) true true rest h e = absurd cc
parts_again names le signal suspends forced rest h e =
    let p = and_parts (are_flags false suspends forced) (is_signal names signal) h in
    let none = no_flags suspends forced p.0 in
    rw (none.0, none.1) (plain_again names (text signal ++ rest) (signal, rest) (signal_again names le signal rest p.1 e))

pub task_law : (names : ℕ) → names ≤ 2 ^ 64 → Law task_text (is_task names) (task_at names)
task_law names le = by_word_law task_text (is_task names) (task_by names) (task_found names le) (λ task rest h e. parts_again names le task.signal task.suspends task.forced rest h e)
