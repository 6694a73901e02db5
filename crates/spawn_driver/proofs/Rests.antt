-- What bytes bring after others, whatever frames these held.
use Rattle.std.proofs.Common.{◌≡◌, ◌+◌, ◌-◌, ◌<◌, ◌≤◌, ℕ, zero, suc, List, [], ◌∷◌, ◌++◌, length, take, drop, refl, sym, ◌∙◌, ap, inl, inr, arith, length-append, length-drop, leb, false, true}
use Rattle.std.specs.Prelude.{slice_range}
use Rattle.std.specs.Int.{w16, w32, from_be_bytes}
use Rattle.std.proofs.lemmas.Bool.{cond-true, cond-false, le-leb, lt-leb, cases_lt}
use Rattle.std.proofs.lemmas.List.{take-append-le, drop-append-le}
use Rattle.packet_framing.specs.declared.mode.Mode.{Mode}
use Rattle.packet_framing.specs.declared.mode.Mode.TheVariants.{Packet1, Packet2, Packet4, Line, Stream}
use Rattle.packet_framing.specs.declared.message.Message.{Message}
use Rattle.packet_framing.specs.Frames.{header_len}
use Rattle.packet_framing.specs.Lines.{message}
use Rattle.io_vector.specs.declared.flag.Flag.TheVariants.{Plain}
use Rattle.packet_framing.specs.Packets.{told_len, frame_end, packets_within, rest_within, packet_messages, packet_rest}
use Rattle.packet_framing.specs.Messages.{IsServed, messages_of, rest_of}
use Rattle.packet_framing.proofs.LineRuns.{line_messages_more, line_rest_more}

-- the messages and the rest that a walk of so many steps finds
abbrev pub Walks : Mode → ℕ → List ℕ → List Message → List ℕ → Type 0
Walks mode most bytes ms rest = (packets_within most mode bytes ≡ ms) × (rest_within most mode bytes ≡ rest)

-- no whole frame begins the bytes
pub walk-short : (mode : Mode) (most : ℕ) (bytes : List ℕ) → length bytes < frame_end mode bytes → Walks mode most bytes [] bytes
walk-short mode zero bytes short = (refl, refl)
walk-short mode (suc most) bytes short =
    let none : leb (frame_end mode bytes) (length bytes) ≡ false = lt-leb (frame_end mode bytes) (length bytes) short in
    (cond-false (leb (frame_end mode bytes) (length bytes)) _ _ none, cond-false (leb (frame_end mode bytes) (length bytes)) _ _ none)

-- a whole frame begins them
walk-frame : (mode : Mode) (most : ℕ) (bytes : List ℕ) → frame_end mode bytes ≤ length bytes
    → Walks mode (suc most) bytes (message Plain (slice_range bytes (header_len mode) (frame_end mode bytes)) ∷ packets_within most mode (drop (frame_end mode bytes) bytes))
    (rest_within most mode (drop (frame_end mode bytes) bytes))
walk-frame mode most bytes within =
    let whole : leb (frame_end mode bytes) (length bytes) ≡ true = le-leb (frame_end mode bytes) (length bytes) within in
    (cond-true (leb (frame_end mode bytes) (length bytes)) _ _ whole, cond-true (leb (frame_end mode bytes) (length bytes)) _ _ whole)

-- more steps than bytes find nothing more
walk-enough : (mode : Mode) (n m : ℕ) (bytes : List ℕ) → 0 < header_len mode → length bytes ≤ n → length bytes ≤ m
    → Walks mode n bytes (packets_within m mode bytes) (rest_within m mode bytes)
walk-enough mode zero m bytes packet enough enough' =
    let w = walk-short mode m bytes (omega arith) in (sym w.0, sym w.1)
walk-enough mode (suc n) zero bytes packet enough enough' = walk-short mode (suc n) bytes (omega arith)
walk-enough mode (suc n) (suc m) bytes packet enough enough' =
    elim (cases_lt (length bytes) (frame_end mode bytes)) [
      | inl short ↦
          let v = walk-short mode (suc n) bytes short in
          let w = walk-short mode (suc m) bytes short in
          (v.0 ∙ sym w.0, v.1 ∙ sym w.1)
      | inr within ↦
          let v = walk-frame mode n bytes within in
          let w = walk-frame mode m bytes within in
          let less = walk-enough mode n m (drop (frame_end mode bytes) bytes) packet (omega (arith, length-drop (frame_end mode bytes) bytes))
          (omega (arith, length-drop (frame_end mode bytes) bytes)) in
          (v.0 ∙ (ap (λ ms. message Plain (slice_range bytes (header_len mode) (frame_end mode bytes)) ∷ ms) less.0 ∙ sym w.0), v.1 ∙ (less.1 ∙ sym w.1))
    ]

-- a header that is there tells the same, whatever follows
pub told_len-append : (mode : Mode) (bytes more : List ℕ) → header_len mode ≤ length bytes → told_len mode (bytes ++ more) ≡ told_len mode bytes
told_len-append Packet1 [] more there = absurd (omega (arith, there))
told_len-append Packet1 (byte ∷ bytes) more there = refl
told_len-append Packet2 bytes more there = ap (from_be_bytes w16) (take-append-le 2 bytes more there)
told_len-append Packet4 bytes more there = ap (from_be_bytes w32) (take-append-le 4 bytes more there)
told_len-append (Line limit) bytes more there = refl
told_len-append Stream bytes more there = refl

-- a range within bytes is the same, whatever follows
range-append : (start end : ℕ) (bytes more : List ℕ) → start ≤ end → end ≤ length bytes → slice_range (bytes ++ more) start end ≡ slice_range bytes start end
range-append start end bytes more ordered within =
    ap (take (end - start)) (drop-append-le start bytes more (omega arith))
    ∙ take-append-le (end - start) (drop start bytes) more (omega (arith, length-drop start bytes))

walk-append-short : (mode : Mode) (n m k : ℕ) (bytes more : List ℕ) → 0 < header_len mode → length bytes + length more ≤ n
    → length (rest_within (suc m) mode bytes) + length more ≤ k → length bytes < frame_end mode bytes
    → Walks mode n (bytes ++ more) (packets_within (suc m) mode bytes ++ packets_within k mode (rest_within (suc m) mode bytes ++ more))
    (rest_within k mode (rest_within (suc m) mode bytes ++ more))
walk-append-short mode n m k bytes more packet enough enough'' short =
    let w = walk-short mode (suc m) bytes short in
    let same : length bytes + length more ≤ k = omega (arith, ap length w.1) in
    let v = walk-enough mode n k (bytes ++ more) packet (omega (arith, length-append bytes more)) (omega (arith, length-append bytes more)) in
    rw (w.0, w.1) v

walk-append-frame : (mode : Mode) (n m k : ℕ) (bytes more : List ℕ) → 0 < header_len mode → frame_end mode bytes ≤ length bytes
    → Walks mode n (drop (frame_end mode bytes) bytes ++ more)
    (packets_within m mode (drop (frame_end mode bytes) bytes) ++ packets_within k mode (rest_within m mode (drop (frame_end mode bytes) bytes) ++ more))
    (rest_within k mode (rest_within m mode (drop (frame_end mode bytes) bytes) ++ more))
    → Walks mode (suc n) (bytes ++ more) (packets_within (suc m) mode bytes ++ packets_within k mode (rest_within (suc m) mode bytes ++ more))
    (rest_within k mode (rest_within (suc m) mode bytes ++ more))
walk-append-frame mode n m k bytes more packet within next =
    let w = walk-frame mode m bytes within in
    let ends : frame_end mode (bytes ++ more) ≡ frame_end mode bytes =
    ap (λ len. header_len mode + len) (told_len-append mode bytes more (omega arith)) in
    let v = walk-frame mode n (bytes ++ more) (omega (arith, ends, length-append bytes more)) in
    let left : drop (frame_end mode (bytes ++ more)) (bytes ++ more) ≡ drop (frame_end mode bytes) bytes ++ more =
    ap (λ at. drop at (bytes ++ more)) ends ∙ drop-append-le (frame_end mode bytes) bytes more within in
    let content : slice_range (bytes ++ more) (header_len mode) (frame_end mode (bytes ++ more)) ≡ slice_range bytes (header_len mode) (frame_end mode bytes) =
    ap (λ at. slice_range (bytes ++ more) (header_len mode) at) ends ∙ range-append (header_len mode) (frame_end mode bytes) bytes more (omega arith) within in
    rw (w.0, w.1) (
      v.0 ∙ (ap (λ xs. message Plain (slice_range (bytes ++ more) (header_len mode) (frame_end mode (bytes ++ more))) ∷ packets_within n mode xs) left
          ∙ (ap (λ c. message Plain c ∷ packets_within n mode (drop (frame_end mode bytes) bytes ++ more)) content
          ∙ ap (λ ms. message Plain (slice_range bytes (header_len mode) (frame_end mode bytes)) ∷ ms) next.0)),
      v.1 ∙ (ap (rest_within n mode) left ∙ next.1),
    )

-- one byte after another: what a walk finds in the bytes, and then in their rest and more
walk-append : (mode : Mode) (n m k : ℕ) (bytes more : List ℕ) → 0 < header_len mode → length bytes + length more ≤ n → length bytes ≤ m
    → length (rest_within m mode bytes) + length more ≤ k
    → Walks mode n (bytes ++ more) (packets_within m mode bytes ++ packets_within k mode (rest_within m mode bytes ++ more)) (rest_within k mode (rest_within m mode bytes ++ more))
walk-append mode n zero k bytes more packet enough enough' enough'' =
    walk-enough mode n k (bytes ++ more) packet (omega (arith, length-append bytes more)) (omega (arith, length-append bytes more))
walk-append mode zero (suc m) k bytes more packet enough enough' enough'' =
    elim (cases_lt (length bytes) (frame_end mode bytes)) [
      | inl short ↦ walk-append-short mode zero m k bytes more packet enough enough'' short
      | inr within ↦ absurd (omega arith)
    ]
walk-append mode (suc n) (suc m) k bytes more packet enough enough' enough'' =
    elim (cases_lt (length bytes) (frame_end mode bytes)) [
      | inl short ↦ walk-append-short mode (suc n) m k bytes more packet enough enough'' short
      | inr within ↦
          let w = walk-frame mode m bytes within in
          walk-append-frame mode n m k bytes more packet within
          (walk-append mode n m k (drop (frame_end mode bytes) bytes) more packet (omega (arith, length-drop (frame_end mode bytes) bytes))
          (omega (arith, length-drop (frame_end mode bytes) bytes)) (omega (arith, ap length w.1)))
    ]

pub packet-append : (mode : Mode) (bytes more : List ℕ) → 0 < header_len mode
    → Walks mode (length (bytes ++ more)) (bytes ++ more) (packet_messages mode bytes ++ packet_messages mode (packet_rest mode bytes ++ more)) (packet_rest mode (packet_rest mode bytes ++ more))
packet-append mode bytes more packet =
    walk-append mode (length (bytes ++ more)) (length bytes) (length (packet_rest mode bytes ++ more)) bytes more packet (omega (arith, length-append bytes more)) (omega arith)
    (omega (arith, length-append (packet_rest mode bytes) more))

-- the rest of bytes that follow others is that of their rest and these
pub rest_of-append : (mode : Mode) → IsServed mode → (bytes more : List ℕ) → rest_of mode (bytes ++ more) ≡ rest_of mode (rest_of mode bytes ++ more)
rest_of-append Packet1 served bytes more = (packet-append Packet1 bytes more (omega arith)).1
rest_of-append Packet2 served bytes more = (packet-append Packet2 bytes more (omega arith)).1
rest_of-append Packet4 served bytes more = (packet-append Packet4 bytes more (omega arith)).1
rest_of-append (Line limit) served bytes more = line_rest_more limit bytes more served.0
rest_of-append Stream served bytes more = refl

-- and so are the messages, behind those before
pub messages_of-append : (mode : Mode) → IsServed mode → (bytes more : List ℕ)
    → messages_of mode (bytes ++ more) ≡ messages_of mode bytes ++ messages_of mode (rest_of mode bytes ++ more)
messages_of-append Packet1 served bytes more = (packet-append Packet1 bytes more (omega arith)).0
messages_of-append Packet2 served bytes more = (packet-append Packet2 bytes more (omega arith)).0
messages_of-append Packet4 served bytes more = (packet-append Packet4 bytes more (omega arith)).0
messages_of-append (Line limit) served bytes more = line_messages_more limit bytes more served.0
messages_of-append Stream served bytes more = refl

pub rest_of-nil : (mode : Mode) → rest_of mode [] ≡ []
rest_of-nil Packet1 = refl
rest_of-nil Packet2 = refl
rest_of-nil Packet4 = refl
rest_of-nil (Line limit) = refl
rest_of-nil Stream = refl

-- no whole frame begins what a walk leaves
walk-rest : (mode : Mode) (most : ℕ) (bytes : List ℕ) → 0 < header_len mode → length bytes ≤ most → length (rest_within most mode bytes) < frame_end mode (rest_within most mode bytes)
walk-rest mode zero bytes packet enough = omega arith
walk-rest mode (suc most) bytes packet enough =
    elim (cases_lt (length bytes) (frame_end mode bytes)) [
      | inl short ↦ let w = walk-short mode (suc most) bytes short in rw w.1 short
      | inr within ↦
          let w = walk-frame mode most bytes within in
          rw w.1 (walk-rest mode most (drop (frame_end mode bytes) bytes) packet (omega (arith, length-drop (frame_end mode bytes) bytes)))
    ]

pub packet_rest-short : (mode : Mode) (bytes : List ℕ) → 0 < header_len mode → length (packet_rest mode bytes) < frame_end mode (packet_rest mode bytes)
packet_rest-short mode bytes packet = walk-rest mode (length bytes) bytes packet (omega arith)
