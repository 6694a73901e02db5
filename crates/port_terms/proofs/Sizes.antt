-- How long what is written is.
use Rattle.std.proofs.Common.{◌≡◌, ℕ, suc, ◌+◌, ◌<◌, ◌≤◌, true, false, List, [], ◌∷◌, ◌++◌, length, refl, ap, arith}
use Rattle.std.proofs.lemmas.List.{length-append}
use Rattle.std.proofs.lemmas.Bool.{lt-ltb, le-ltb}
use Rattle.port_terms.specs.Tree.{Forest, none, more, count}
use Rattle.port_terms.specs.Written.{bytes_of, is_string, written_arity, written_list}

pub length_bytes_of : (ts : Forest) → length (bytes_of ts) ≡ count ts
length_bytes_of none = refl
length_bytes_of (more t ts) = ap suc (length_bytes_of ts)

pub length_small_tuple : (n : ℕ) (items : List ℕ) → n < 256 → length (written_arity n ++ items) ≡ length items + 2
length_small_tuple n items lt = rw (lt-ltb n 256 lt) (omega arith)

pub length_large_tuple : (n : ℕ) (items : List ℕ) → 256 ≤ n → length (written_arity n ++ items) ≡ length items + 5
length_large_tuple n items le = rw (le-ltb n 256 le) (omega arith)

pub length_string : (ts : Forest) (items : List ℕ) → 0 < count ts → is_string ts ≡ true → length (written_list ts items) ≡ 3 + count ts
length_string none items lt e = absurd (omega arith)
length_string (more t ts) items lt e = rw e (omega (arith, length_bytes_of ts))

pub length_list : (ts : Forest) (items : List ℕ) → 0 < count ts → is_string ts ≡ false → length (written_list ts items) ≡ length items + 6
length_list none items lt e = absurd (omega arith)
length_list (more t ts) items lt e = rw e (omega (arith, length-append items (106 ∷ [])))
