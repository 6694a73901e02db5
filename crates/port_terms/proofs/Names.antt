-- The names of atoms: how long they are, and what a text spells.
use Rattle.std.proofs.Common.{◌≡◌, ℕ, suc, ◌+◌, ◌*◌, ◌<◌, ◌≤◌, ◌^◌, true, List, [], ◌∷◌, ◌++◌, length, take, get_or, Fits, w8, Ok, Err, refl, sym, ap, ◌∙◌, arith}
use Rattle.std.specs.Prelude.{encode_utf8, encode_utf8_all}
use Rattle.std.specs.Str.{IsUtf8, is_utf8, all_scalars, chars}
use lib.Utf8.{low_scalar}
use Rattle.std.proofs.lemmas.Bool.{le-leb, lt-leb, and_from, and_left, and_right, false_from_ne_true}
use Rattle.std.proofs.lemmas.List.{length-append, append-nil, take_more, take_all}
use Rattle.std.proofs.lemmas.Str.{length-encode, len_utf8_bounds, encodes-append, chars-encodes, is_utf8-from_IsUtf8, IsUtf8-from_is_utf8}
use Rattle.port_terms.specs.declared.values.TheConstants.{MAX_NAME_CHARS}
use Rattle.port_terms.specs.declared.faults.TermFault.TheVariants.{BadText}
use Rattle.port_terms.specs.Spelling.{IsName}
use Rattle.port_terms.specs.Reading.{utf8_name}

pub length_text : (cs : List ℕ) → length (encode_utf8_all cs) ≤ 4 * length cs
length_text [] = omega arith
length_text (c ∷ cs) = omega (arith, length_text cs, length-append (encode_utf8 c) (encode_utf8_all cs), length-encode c, len_utf8_bounds c)

pub name_fits : (name : List ℕ) → IsName name → length (encode_utf8_all name) < 2 ^ 16
name_fits name h = omega (arith, length_text name, h.1)

-- each element is a byte
abbrev pub IsBytes : List ℕ → Type 0
IsBytes bytes = (i : ℕ) → Fits w8 (get_or bytes i 0)

pub IsBytes-rest : (b : ℕ) (bytes : List ℕ) → IsBytes (b ∷ bytes) → IsBytes bytes
IsBytes-rest b bytes h i = h (suc i)

-- Latin-1: each byte is a character.
pub bytes_are_scalars : (bytes : List ℕ) → IsBytes bytes → all_scalars bytes ≡ true
bytes_are_scalars [] h = refl
bytes_are_scalars (b ∷ bytes) h = and_from _ _ (low_scalar b (omega (arith, h 0))) (bytes_are_scalars bytes (IsBytes-rest b bytes h))

pub text_more : (bytes text : List ℕ) (i : ℕ) → i < length bytes → text ≡ encode_utf8_all (take i bytes) → text ++ encode_utf8 (get_or bytes i 0) ≡ encode_utf8_all (take (i + 1) bytes)
text_more bytes text i lt e =
    let b = get_or bytes i 0 in
    let one : encode_utf8_all (b ∷ []) ≡ encode_utf8 b = append-nil (encode_utf8 b) in
    rw (take_more bytes i 0 lt, e) (ap (λ (x : List ℕ). encode_utf8_all (take i bytes) ++ x) (sym one) ∙ sym (encodes-append (take i bytes) (b ∷ [])))

pub text_done : (bytes text : List ℕ) (i : ℕ) → IsBytes bytes → length bytes ≤ i → text ≡ encode_utf8_all (take i bytes) → chars text ≡ bytes
text_done bytes text i h le e = ap chars (e ∙ ap encode_utf8_all (take_all i bytes le)) ∙ chars-encodes bytes (bytes_are_scalars bytes h)

-- UTF-8: a text that is a name, and one that is none
pub utf8_given : (at : ℕ) (text : List ℕ) → IsUtf8 text → length (chars text) ≤ MAX_NAME_CHARS → utf8_name at text ≡ Ok (chars text)
utf8_given at text u few = rw (and_from _ _ (is_utf8-from_IsUtf8 text u) (le-leb (length (chars text)) MAX_NAME_CHARS few)) refl

pub utf8_long : (at : ℕ) (text : List ℕ) → MAX_NAME_CHARS < length (chars text) → utf8_name at text ≡ Err (BadText at)
utf8_long at text many = rw (and_right (is_utf8 text) _ (lt-leb (length (chars text)) MAX_NAME_CHARS many)) refl

pub utf8_bad : (at : ℕ) (text : List ℕ) → ¬ (IsUtf8 text) → utf8_name at text ≡ Err (BadText at)
utf8_bad at text not_utf8 = rw (and_left (is_utf8 text) _ (false_from_ne_true (is_utf8 text) (λ (e : is_utf8 text ≡ true). not_utf8 (IsUtf8-from_is_utf8 text e)))) refl
