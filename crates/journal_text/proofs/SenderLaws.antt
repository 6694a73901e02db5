-- Words that are senders and flags, and vectors.
use Rattle.std.proofs.Common.{◌≡◌, ℕ, ◌^◌, ◌≤◌, true, cond, List, [], ◌∷◌, length, Option, Some, None, refl, sym, ap, ◌∙◌, arith, inl, inr}
use Rattle.std.specs.Prelude.{◌==◌, codes}
use Rattle.std.specs.List.{list_all, concat}
use Rattle.std.specs.Str.{bytes_eq}
use Rattle.std.proofs.lemmas.Bool.{cases_Bool, eqb-true}
use Rattle.std.proofs.lemmas.Option.{option_and_then_some}
use Rattle.std.proofs.lemmas.List.{append-nil, nil_from_length}
use Rattle.std.proofs.lemmas.Slice.Eq.{bytes_eq-Decides}
use Rattle.port_model.specs.declared.signal.Sender.{Sender}
use Rattle.port_model.specs.declared.signal.Sender.TheVariants.{Process, Poller, Worker, Timer}
use Rattle.journal_text.specs.declared.how.CommandFlags.{CommandFlags}
use Rattle.journal_text.specs.declared.how.CommandFlags.TheVariants.{Plain, Suspends, Forced}
use Rattle.journal_text.specs.Words.{is_word_byte, bytes_text, are_bytes}
use Rattle.journal_text.specs.Signals.{sender_text, is_sender, how_text, is_payload}
use Rattle.journal_text.specs.Reading.{◌>>=◌, number_of, sender_of, how_of, bytes_of, bytes_at, payload_of, payload_at}
use Rattle.journal_text.proofs.ReadingLaws.{Exact, Law, field_law, map_law}
use Rattle.journal_text.proofs.NumberLaws.{number_exact}
use Rattle.journal_text.proofs.HexLaws.{bytes_exact}

-- ---- words with one meaning each

-- a word that is one of two
pub word_is : (word keyword : List ℕ) → bytes_eq word keyword ≡ true → word ≡ keyword
word_is word keyword e = (bytes_eq-Decides word keyword).0 e

-- a word that means x where it is the keyword, and is exact otherwise
pub meant : {A : Type 0} (text : A → List ℕ) (word keyword : List ℕ) (x y : A) (others : Option A) → text x ≡ keyword → (others ≡ Some y → word ≡ text y) → cond (bytes_eq word keyword) (Some x) others ≡ Some y → word ≡ text y
meant text word keyword x y others is rest h =
    elim (cases_Bool (bytes_eq word keyword)) [
      | inl e ↦ let same : x ≡ y = (let h1 = rw e at h in cc) in word_is word keyword e ∙ sym is ∙ ap text same
      | inr e ↦ rest (rw e at h)
    ]

pub never : {A : Type 0} (text : A → List ℕ) (word : List ℕ) (y : A) → ◌≡◌ {A = Option A} None (Some y) → word ≡ text y
never text word y h = absurd cc

how_found : (word : List ℕ) (how : CommandFlags) → how_of word ≡ Some how → (word ≡ how_text how) × (true ≡ true)
unfolding how_of
how_found word how h =
    (meant how_text word (codes "-") Plain how _ refl (meant how_text word (codes "s") Suspends how _ refl (meant how_text word (codes "f") Forced how _ refl (never how_text word how))) h, refl)

how_again : (how : CommandFlags) → true ≡ true → how_of (how_text how) ≡ Some how
unfolding how_of
how_again Plain h = refl
how_again Suspends h = refl
how_again Forced h = refl

how_words : (how : CommandFlags) → true ≡ true → list_all is_word_byte (how_text how) ≡ true
how_words Plain h = refl
how_words Suspends h = refl
how_words Forced h = refl

pub how_exact : Exact how_text (λ how. true) how_of
how_exact = record { found = how_found; again = how_again; word = how_words }

-- ---- senders

sender_found : (names : ℕ) → names ≤ 2 ^ 64 → (word : List ℕ) (from : Sender) → sender_of names word ≡ Some from → (word ≡ sender_text from) × (is_sender names from ≡ true)
unfolding sender_of
sender_found names le [] from h = absurd cc
sender_found names le (first ∷ digits) from h =
    elim (cases_Bool (first == 112)) [
      | inl e ↦ option_and_then_some _ (number_of names digits) from (rw e at h) (λ n read made.
          let found = (number_exact names le).found digits n read in
          let is : Process n ≡ from = cc in
          rw (← is, eqb-true first 112 e, found.0) (refl, found.1))
      | inr e1 ↦
          let h1 = rw e1 at h in
          elim (cases_Bool (first == 119)) [
            | inl e ↦ option_and_then_some _ (number_of (2 ^ 32) digits) from (rw e at h1) (λ n read made.
                let found = (number_exact (2 ^ 32) (omega arith)).found digits n read in
                let is : Worker n ≡ from = cc in
                rw (← is, eqb-true first 119 e, found.0) (refl, found.1))
            | inr e2 ↦
                let h2 = rw e2 at h1 in
                elim (cases_Bool (length digits == 0)) [
                  | inl none ↦
                      let empty : digits ≡ [] = nil_from_length digits (eqb-true (length digits) 0 none) in
                      let h3 = rw none at h2 in
                      elim (cases_Bool (first == 101)) [
                        | inl e ↦ let is : Poller ≡ from = (let h4 = rw e at h3 in cc) in rw (← is, eqb-true first 101 e, empty) (refl, refl)
                        | inr e4 ↦
                            let h4 = rw e4 at h3 in
                            elim (cases_Bool (first == 116)) [
                              | inl e ↦ let is : Timer ≡ from = (let h5 = rw e at h4 in cc) in rw (← is, eqb-true first 116 e, empty) (refl, refl)
                              | inr e ↦ absurd (let h5 = rw e at h4 in cc)
                            ]
                      ]
                  | inr some ↦ absurd (let h3 = rw some at h2 in cc)
                ]
          ]
    ]

sender_again : (names : ℕ) → names ≤ 2 ^ 64 → (from : Sender) → is_sender names from ≡ true → sender_of names (sender_text from) ≡ Some from
unfolding sender_of
sender_again names le (Process n) h = ap (λ (o : Option ℕ). o >>= λ m. Some (Process m)) ((number_exact names le).again n h)
sender_again names le Poller h = refl
sender_again names le (Worker n) h = ap (λ (o : Option ℕ). o >>= λ m. Some (Worker m)) ((number_exact (2 ^ 32) (omega arith)).again n h)
sender_again names le Timer h = refl

sender_words : (names : ℕ) → names ≤ 2 ^ 64 → (from : Sender) → is_sender names from ≡ true → list_all is_word_byte (sender_text from) ≡ true
sender_words names le (Process n) h = (number_exact names le).word n h
sender_words names le Poller h = refl
sender_words names le (Worker n) h = (number_exact (2 ^ 32) (omega arith)).word n h
sender_words names le Timer h = refl

pub sender_exact : (names : ℕ) → names ≤ 2 ^ 64 → Exact sender_text (is_sender names) (sender_of names)
sender_exact names le = record { found = sender_found names le; again = sender_again names le; word = sender_words names le }

-- ---- vectors

payload_is : (bytes : List ℕ) → bytes_text (concat (payload_of bytes)) ≡ bytes_text bytes
payload_is [] = refl
payload_is (byte ∷ bytes) = ap bytes_text (append-nil (byte ∷ bytes))

payload_within : (bytes : List ℕ) → are_bytes bytes ≡ true → is_payload (payload_of bytes) ≡ true
payload_within [] h = refl
payload_within (byte ∷ bytes) h = h

payload_from : (payload : List (List ℕ)) → is_payload payload ≡ true → (are_bytes (concat payload) ≡ true) × (payload_of (concat payload) ≡ payload)
payload_from [] h = (refl, refl)
payload_from ([] ∷ []) h = absurd cc
payload_from ([] ∷ segment ∷ segments) h = absurd cc
payload_from ((byte ∷ bytes) ∷ []) h = (ap are_bytes (append-nil (byte ∷ bytes)) ∙ h, ap payload_of (append-nil (byte ∷ bytes)))
payload_from ((byte ∷ bytes) ∷ segment ∷ segments) h = absurd cc

pub payload_law : Law (λ payload. bytes_text (concat payload)) is_payload payload_at
payload_law = map_law bytes_text are_bytes bytes_at (λ payload. bytes_text (concat payload)) is_payload payload_of concat (field_law bytes_text are_bytes bytes_of bytes_exact) payload_is payload_within payload_from
