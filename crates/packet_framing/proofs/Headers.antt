-- Headers and frames: which length a header tells, and that a frame is one frame only.
use Rattle.std.proofs.Common.{◌≡◌, ◌+◌, ◌<◌, ◌≤◌, ℕ, zero, suc, List, [], ◌∷◌, ◌++◌, length, take, drop, get_or, refl, sym, ◌∙◌, ap, arith, append_assoc, length-append}
use Rattle.std.specs.Int.{w16, w32, to_be_bytes, from_be_bytes}
use Rattle.std.proofs.lemmas.List.{take_at, drop_at, drop_more}
use Rattle.std.proofs.lemmas.Nat.{from_be_bytes-to_be_bytes_2, from_be_bytes-to_be_bytes_4, be_bytes_4}
use Rattle.packet_framing.specs.declared.mode.Mode.{Mode}
use Rattle.packet_framing.specs.declared.mode.Mode.TheVariants.{Packet1, Packet2, Packet4, Line, Stream}
use Rattle.packet_framing.specs.Frames.{header_len, header_limit, header, frame_of}
use Rattle.packet_framing.specs.Packets.{told_len}

pub length-header : (mode : Mode) (n : ℕ) → length (header mode n) ≡ header_len mode
length-header Packet1 n = refl
length-header Packet2 n = refl
length-header Packet4 n = refl
length-header (Line limit) n = refl
length-header Stream n = refl

pub length-frame_of : (mode : Mode) (m : List ℕ) → length (frame_of mode m) ≡ header_len mode + length m
length-frame_of mode m = omega (arith, length-append (header mode (length m)) m, length-header mode (length m))

pub take-header : (mode : Mode) (n : ℕ) (more : List ℕ) → take (header_len mode) (header mode n ++ more) ≡ header mode n
take-header mode n more = take_at (header mode n) more (header_len mode) (length-header mode n)

pub drop-header : (mode : Mode) (n : ℕ) (more : List ℕ) → drop (header_len mode) (header mode n ++ more) ≡ more
drop-header mode n more = drop_at (header mode n) more (header_len mode) (length-header mode n)

-- what a header tells
pub told_len-header : (mode : Mode) (n : ℕ) (more : List ℕ) → 0 < header_len mode → n < header_limit mode →
    told_len mode (header mode n ++ more) ≡ n
told_len-header Packet1 n more packet below = refl
told_len-header Packet2 n more packet below =
    ap (from_be_bytes w16) (take-header Packet2 n more) ∙ from_be_bytes-to_be_bytes_2 n below
told_len-header Packet4 n more packet below =
    ap (from_be_bytes w32) (take-header Packet4 n more) ∙ from_be_bytes-to_be_bytes_4 n below
told_len-header (Line limit) n more packet below = absurd (omega (arith, packet))
told_len-header Stream n more packet below = absurd (omega (arith, packet))

-- one header tells one length
pub one_len : (mode : Mode) (m n : ℕ) → 0 < header_len mode → m < header_limit mode → n < header_limit mode →
    header mode m ≡ header mode n → m ≡ n
one_len mode m n packet below below' same =
    sym (told_len-header mode m [] packet below) ∙ ap (λ h. told_len mode (h ++ [])) same ∙ told_len-header mode n [] packet below'

-- two lists that begin with one header
pub one_header : (mode : Mode) (m n : ℕ) (xs ys : List ℕ) → 0 < header_len mode → m < header_limit mode → n < header_limit mode →
    header mode m ++ xs ≡ header mode n ++ ys → (m ≡ n) × (xs ≡ ys)
one_header mode m n xs ys packet below below' same = (
  one_len mode m n packet below below' (sym (take-header mode m xs) ∙ ap (take (header_len mode)) same ∙ take-header mode n ys),
  sym (drop-header mode m xs) ∙ ap (drop (header_len mode)) same ∙ drop-header mode n ys,
)

-- two lists that begin with a frame each
pub one_frame : (mode : Mode) (m n xs ys : List ℕ) → 0 < header_len mode → length m < header_limit mode → length n < header_limit mode →
    frame_of mode m ++ xs ≡ frame_of mode n ++ ys → (m ≡ n) × (xs ≡ ys)
one_frame mode m n xs ys packet below below' same =
    let parts = one_header mode (length m) (length n) (m ++ xs) (n ++ ys) packet below below'
    (sym (append_assoc (header mode (length m)) m xs) ∙ same ∙ append_assoc (header mode (length n)) n ys) in
    let content : m ≡ n =
    sym (take_at m xs (length m) refl) ∙ ap (take (length m)) parts.1 ∙ take_at n ys (length m) (sym parts.0) in
    (content, sym (drop_at m xs (length m) refl) ∙ ap (drop (length m)) parts.1 ∙ drop_at n ys (length m) (sym parts.0))

below_four : (a b c d : ℕ) → a < 256 → b < 256 → c < 256 → d < 256 → (i : ℕ) → get_or (a ∷ b ∷ c ∷ d ∷ []) i 0 < 256
below_four a b c d below-a below-b below-c below-d zero = below-a
below_four a b c d below-a below-b below-c below-d (suc zero) = below-b
below_four a b c d below-a below-b below-c below-d (suc (suc zero)) = below-c
below_four a b c d below-a below-b below-c below-d (suc (suc (suc zero))) = below-d
below_four a b c d below-a below-b below-c below-d (suc (suc (suc (suc i)))) = omega arith

take_one : (bytes : List ℕ) (at n : ℕ) → at < length bytes → take (suc n) (drop at bytes) ≡ get_or bytes at 0 ∷ take n (drop (at + 1) bytes)
take_one bytes at n there = ap (take (suc n)) (drop_more bytes at 0 there)

take_four : (bytes : List ℕ) (at : ℕ) → at + 4 ≤ length bytes →
    take 4 (drop at bytes) ≡ get_or bytes at 0 ∷ get_or bytes (at + 1) 0 ∷ get_or bytes (at + 2) 0 ∷ get_or bytes (at + 3) 0 ∷ []
take_four bytes at within =
    let second : at + 1 + 1 ≡ at + 2 = omega arith in
    let third : at + 2 + 1 ≡ at + 3 = omega arith in
    let last = take_one bytes (at + 3) 0 (omega arith) in
    let two : take 2 (drop (at + 2) bytes) ≡ get_or bytes (at + 2) 0 ∷ get_or bytes (at + 3) 0 ∷ [] =
    take_one bytes (at + 2) 1 (omega arith) ∙ ap (λ n. get_or bytes (at + 2) 0 ∷ take 1 (drop n bytes)) third
    ∙ ap (λ xs. get_or bytes (at + 2) 0 ∷ xs) last in
    let three : take 3 (drop (at + 1) bytes) ≡ get_or bytes (at + 1) 0 ∷ get_or bytes (at + 2) 0 ∷ get_or bytes (at + 3) 0 ∷ [] =
    take_one bytes (at + 1) 2 (omega arith) ∙ ap (λ n. get_or bytes (at + 1) 0 ∷ take 2 (drop n bytes)) second
    ∙ ap (λ xs. get_or bytes (at + 1) 0 ∷ xs) two in
    take_one bytes at 3 (omega arith) ∙ ap (λ xs. get_or bytes at 0 ∷ xs) three

-- the header of four bytes at a place
pub header_four : (mode : Mode) (bytes : List ℕ) (at n a b c d : ℕ) → mode ≡ Packet4 → at + 4 ≤ length bytes → a ≡ get_or bytes at 0 →
    b ≡ get_or bytes (at + 1) 0 → c ≡ get_or bytes (at + 2) 0 → d ≡ get_or bytes (at + 3) 0 → a < 256 → b < 256 → c < 256 → d < 256 →
    n ≡ from_be_bytes w32 (a ∷ b ∷ c ∷ d ∷ []) → take (header_len mode) (drop at bytes) ≡ header mode n
header_four mode bytes at n a b c d is within first second third fourth below-a below-b below-c below-d value =
    let front : take 4 (drop at bytes) ≡ a ∷ b ∷ c ∷ d ∷ [] =
    take_four bytes at within ∙ ap (λ x. x ∷ get_or bytes (at + 1) 0 ∷ get_or bytes (at + 2) 0 ∷ get_or bytes (at + 3) 0 ∷ []) (sym first)
    ∙ ap (λ x. a ∷ x ∷ get_or bytes (at + 2) 0 ∷ get_or bytes (at + 3) 0 ∷ []) (sym second)
    ∙ ap (λ x. a ∷ b ∷ x ∷ get_or bytes (at + 3) 0 ∷ []) (sym third) ∙ ap (λ x. a ∷ b ∷ c ∷ x ∷ []) (sym fourth) in
    let written : to_be_bytes w32 n ≡ a ∷ b ∷ c ∷ d ∷ [] =
    be_bytes_4 (a ∷ b ∷ c ∷ d ∷ []) n refl (below_four a b c d below-a below-b below-c below-d) value in
    ap (λ (m : Mode). take (header_len m) (drop at bytes)) is ∙ front ∙ sym written ∙ ap (λ (m : Mode). header m n) (sym is)
