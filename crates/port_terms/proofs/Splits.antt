-- The parts of an input: how reading splits it, and that it reads again what stands in front.
use Rattle.std.proofs.Common.{◌≡◌, ℕ, ◌+◌, ◌<◌, ◌≤◌, ◌^◌, false, cond, ltb, List, ◌++◌, length, get_or, take, drop, Result, Ok, Err, refl, sym, ap, ◌∙◌, arith, inl, inr, ◌⊎◌}
use Rattle.std.specs.Int.{Width, w16, w32, byte_len, from_be_bytes, to_be_bytes}
use Rattle.std.proofs.lemmas.Bool.{cases_lt, lt-ltb, le-ltb}
use Rattle.std.proofs.lemmas.List.{take_at, drop_at, take-append-drop, length-append, length-take, get_or-drop, get_or-take, get_or_past}
use Rattle.std.proofs.lemmas.Nat.{be_bytes_2, be_bytes_4, from_be_bytes-to_be_bytes_2, from_be_bytes-to_be_bytes_4}
use Rattle.port_terms.specs.declared.values.TheConstants.{MAX_ITEMS}
use Rattle.port_terms.specs.declared.faults.TermFault.{TermFault}
use Rattle.port_terms.specs.declared.faults.TermFault.TheVariants.{Cut, TooBig}
use Rattle.port_terms.specs.Reading.{◌>>=◌, number_at, front_at, count_at}
use Rattle.port_terms.proofs.Names.{IsBytes}

pub IsBytes-drop : (n : ℕ) (bytes : List ℕ) → IsBytes bytes → IsBytes (drop n bytes)
IsBytes-drop n bytes h i = rw get_or-drop (h (n + i))

IsBytes-take : (n : ℕ) (bytes : List ℕ) → IsBytes bytes → (i : ℕ) → get_or (take n bytes) i 0 < 256
IsBytes-take n bytes h i =
    elim (cases_lt i n) [
      | inl lt ↦ rw (get_or-take n bytes i 0 lt) (omega (arith, h i))
      | inr le ↦ rw (get_or_past (take n bytes) i 0 (omega (arith, length-take n bytes))) (omega arith)
    ]

-- a width whose numbers are below a limit
pub record IsWide (w : Width) (limit : ℕ) : Type 0 where
  pub len : (n : ℕ) → length (to_be_bytes w n) ≡ byte_len w
  pub back : (bytes : List ℕ) → length bytes ≡ byte_len w → ((i : ℕ) → get_or bytes i 0 < 256) → to_be_bytes w (from_be_bytes w bytes) ≡ bytes
  pub again : (n : ℕ) → n < limit → from_be_bytes w (to_be_bytes w n) ≡ n
  pub below : (bytes : List ℕ) → ((i : ℕ) → get_or bytes i 0 < 256) → from_be_bytes w bytes < limit

pub wide16 : IsWide w16 (2 ^ 16)
wide16 = record {
  len = λ n. refl;
  back = λ bytes len fits. be_bytes_2 bytes _ len fits refl;
  again = λ n lt. from_be_bytes-to_be_bytes_2 n lt;
  below = λ bytes fits. omega (arith, fits 0, fits 1);
}

pub wide32 : IsWide w32 (2 ^ 32)
wide32 = record {
  len = λ n. refl;
  back = λ bytes len fits. be_bytes_4 bytes _ len fits refl;
  again = λ n lt. from_be_bytes-to_be_bytes_4 n lt;
  below = λ bytes fits. omega (arith, fits 0, fits 1, fits 2, fits 3);
}

-- ---- a number

-- the number in front of the bytes
pub record HasNumber (w : Width) (limit size : ℕ) (bytes : List ℕ) : Type 0 where
  pub n : ℕ
  pub rest : List ℕ
  pub read : number_at w size bytes ≡ Ok (n, rest)
  pub parts : bytes ≡ to_be_bytes w n ++ rest
  pub fits : n < limit
  pub rest_bytes : IsBytes rest

pub number_splits : (w : Width) (limit size : ℕ) (bytes : List ℕ) → IsWide w limit → IsBytes bytes → ((length bytes < byte_len w) × (number_at w size bytes ≡ Err (Cut size))) ⊎ HasNumber w limit size bytes
number_splits w limit size bytes wide h =
    elim (cases_lt (length bytes) (byte_len w)) [
      | inl short ↦ inl (short, rw (lt-ltb (length bytes) (byte_len w) short) refl)
      | inr long ↦
          let front = take (byte_len w) bytes in
          let same : to_be_bytes w (from_be_bytes w front) ≡ front = wide.back front (omega (arith, length-take (byte_len w) bytes)) (IsBytes-take (byte_len w) bytes h) in
          inr (record {
            n = from_be_bytes w front;
            rest = drop (byte_len w) bytes;
            read = rw (le-ltb (length bytes) (byte_len w) long) refl;
            parts = rw same (sym (take-append-drop (byte_len w) bytes));
            fits = wide.below front (IsBytes-take (byte_len w) bytes h);
            rest_bytes = IsBytes-drop (byte_len w) bytes h;
          })
    ]

pub number_again : (w : Width) (limit size n : ℕ) (rest : List ℕ) → IsWide w limit → n < limit → number_at w size (to_be_bytes w n ++ rest) ≡ Ok (n, rest)
number_again w limit size n rest wide lt =
    let len = wide.len n in
    let long : ltb (length (to_be_bytes w n ++ rest)) (byte_len w) ≡ false = le-ltb _ _ (omega (arith, length-append (to_be_bytes w n) rest)) in
    rw (long, take_at (to_be_bytes w n) rest (byte_len w) len, drop_at (to_be_bytes w n) rest (byte_len w) len, wide.again n lt) refl

-- ---- bytes

-- n bytes in front of the bytes
pub record HasFront (n size : ℕ) (bytes : List ℕ) : Type 0 where
  pub text : List ℕ
  pub rest : List ℕ
  pub read : front_at n size bytes ≡ Ok (text, rest)
  pub parts : bytes ≡ text ++ rest
  pub len : length text ≡ n
  pub text_bytes : IsBytes text
  pub rest_bytes : IsBytes rest

pub front_splits : (n size : ℕ) (bytes : List ℕ) → IsBytes bytes → ((length bytes < n) × (front_at n size bytes ≡ Err (Cut size))) ⊎ HasFront n size bytes
front_splits n size bytes h =
    elim (cases_lt (length bytes) n) [
      | inl short ↦ inl (short, rw (lt-ltb (length bytes) n short) refl)
      | inr long ↦ inr (record {
        text = take n bytes;
        rest = drop n bytes;
        read = rw (le-ltb (length bytes) n long) refl;
        parts = sym (take-append-drop n bytes);
        len = omega (arith, length-take n bytes);
        text_bytes = λ i. record { fits = IsBytes-take n bytes h i };
        rest_bytes = IsBytes-drop n bytes h;
      })
    ]

pub front_again : (size : ℕ) (text rest : List ℕ) → front_at (length text) size (text ++ rest) ≡ Ok (text, rest)
front_again size text rest =
    let long : ltb (length (text ++ rest)) (length text) ≡ false = le-ltb _ _ (omega (arith, length-append text rest)) in
    rw (long, take_at text rest (length text) refl, drop_at text rest (length text) refl) refl

pub front_cut : (n size : ℕ) (rest : List ℕ) → length rest < n → front_at n size rest ≡ Err (Cut size)
front_cut n size rest lt = rw (lt-ltb (length rest) n lt) refl

pub number_cut : (w : Width) (size : ℕ) (rest : List ℕ) → length rest < byte_len w → number_at w size rest ≡ Err (Cut size)
number_cut w size rest lt = rw (lt-ltb (length rest) (byte_len w) lt) refl

-- ---- a number of items or bytes

pub count_again : (at size n : ℕ) (rest : List ℕ) → n ≤ MAX_ITEMS → count_at at size (to_be_bytes w32 n ++ rest) ≡ Ok (n, rest)
count_again at size n rest le =
    ap (λ (r : Result (ℕ × List ℕ) TermFault). r >>= λ k. cond (ltb MAX_ITEMS k.0) (Err (TooBig at)) (Ok k)) (number_again w32 (2 ^ 32) size n rest wide32 (omega arith)) ∙ rw (le-ltb MAX_ITEMS n le) refl

pub count_too_many : (at size n : ℕ) (rest : List ℕ) → MAX_ITEMS < n → n < 2 ^ 32 → count_at at size (to_be_bytes w32 n ++ rest) ≡ Err (TooBig at)
count_too_many at size n rest many lt =
    ap (λ (r : Result (ℕ × List ℕ) TermFault). r >>= λ k. cond (ltb MAX_ITEMS k.0) (Err (TooBig at)) (Ok k)) (number_again w32 (2 ^ 32) size n rest wide32 lt) ∙ rw (lt-ltb MAX_ITEMS n many) refl

pub count_cut : (at size : ℕ) (rest : List ℕ) → length rest < 4 → count_at at size rest ≡ Err (Cut size)
count_cut at size rest lt =
    ap (λ (r : Result (ℕ × List ℕ) TermFault). r >>= λ k. cond (ltb MAX_ITEMS k.0) (Err (TooBig at)) (Ok k)) (number_cut w32 size rest lt)
