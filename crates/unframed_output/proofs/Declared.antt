-- The messages of bytes are those of the declared unframing.
use Rattle.std.proofs.Common.{◌≡◌, ◌+◌, ◌-◌, ◌<◌, ◌≤◌, ℕ, zero, suc, List, [], ◌∷◌, ◌++◌, length, take, drop, get_or, All, Bool, true, false, cond, leb, refl, sym, ◌∙◌, ap, inl, inr, arith, append_assoc, length-append, length-drop}
use Rattle.std.specs.Prelude.{slice_range}
use Rattle.std.specs.Int.{w16, w32, from_be_bytes}
use Rattle.std.proofs.lemmas.Bool.{cond-true, cond-false, le-leb, lt-leb, cases_lt}
use Rattle.std.proofs.lemmas.List.{append-nil, take-append-drop, drop-drop, length-take-le}
use Rattle.std.proofs.lemmas.List.Elements.{All-head, All-tail, All-nil, All-cons, All-drop}
use Rattle.std.proofs.lemmas.Nat.{be_bytes_2, be_bytes_4}
use Rattle.driver_model.specs.port_model.io_vector.declared.flag.Flag.TheVariants.{Plain}
use Rattle.packet_framing.specs.declared.mode.Mode.{Mode}
use Rattle.packet_framing.specs.declared.mode.Mode.TheVariants.{Packet1, Packet2, Packet4, Line, Stream}
use Rattle.packet_framing.specs.declared.message.Message.{Message}
use Rattle.packet_framing.specs.Frames.{header_len, header_limit, header, frame_of}
use Rattle.packet_framing.specs.Lines.{message}
use Rattle.packet_framing.specs.Packets.{IsPacket, HasNoFrame, PacketMessages, frames_of, told_len, frame_end, packets_within, rest_within, packet_messages, packet_rest}
use Rattle.packet_framing.proofs.Headers.{length-frame_of, told_len-header}
use Rattle.unframed_output.specs.Laws.{MessagesAreDeclared}
use Rattle.spawn_driver.proofs.Rests.{packet_rest-short}

abbrev AreBytes : List ℕ → Type 0
AreBytes bytes = All (λ byte. byte < 256) bytes

two : (a b : ℕ) → a < 256 → b < 256 → (i : ℕ) → get_or (a ∷ b ∷ []) i 0 < 256
two a b x y zero = x
two a b x y (suc zero) = y
two a b x y (suc (suc i)) = omega arith

four : (a b c d : ℕ) → a < 256 → b < 256 → c < 256 → d < 256 → (i : ℕ) → get_or (a ∷ b ∷ c ∷ d ∷ []) i 0 < 256
four a b c d x y z w zero = x
four a b c d x y z w (suc zero) = y
four a b c d x y z w (suc (suc zero)) = z
four a b c d x y z w (suc (suc (suc zero))) = w
four a b c d x y z w (suc (suc (suc (suc i)))) = omega arith

-- the header that is there is that of the length that it tells
told-header : (mode : Mode) (bytes : List ℕ) → 0 < header_len mode → header_len mode ≤ length bytes → AreBytes bytes
    → (header mode (told_len mode bytes) ≡ take (header_len mode) bytes) × (told_len mode bytes < header_limit mode)
told-header Packet1 [] packet there are = absurd (omega (arith, there))
told-header Packet1 (a ∷ rest) packet there are = (refl, All-head (λ byte. byte < 256) a rest are)
told-header Packet2 [] packet there are = absurd (omega (arith, there))
told-header Packet2 (a ∷ []) packet there are = absurd (omega (arith, there))
told-header Packet2 (a ∷ b ∷ rest) packet there are =
    let x : a < 256 = All-head (λ byte. byte < 256) a (b ∷ rest) are in
    let y : b < 256 = All-head (λ byte. byte < 256) b rest (All-tail (λ byte. byte < 256) a (b ∷ rest) are) in
    (be_bytes_2 (a ∷ b ∷ []) (from_be_bytes w16 (a ∷ b ∷ [])) refl (two a b x y) refl, omega arith)
told-header Packet4 [] packet there are = absurd (omega (arith, there))
told-header Packet4 (a ∷ []) packet there are = absurd (omega (arith, there))
told-header Packet4 (a ∷ b ∷ []) packet there are = absurd (omega (arith, there))
told-header Packet4 (a ∷ b ∷ c ∷ []) packet there are = absurd (omega (arith, there))
told-header Packet4 (a ∷ b ∷ c ∷ d ∷ rest) packet there are =
    let x : a < 256 = All-head (λ byte. byte < 256) a (b ∷ c ∷ d ∷ rest) are in
    let s = All-tail (λ byte. byte < 256) a (b ∷ c ∷ d ∷ rest) are in
    let y : b < 256 = All-head (λ byte. byte < 256) b (c ∷ d ∷ rest) s in
    let t = All-tail (λ byte. byte < 256) b (c ∷ d ∷ rest) s in
    let z : c < 256 = All-head (λ byte. byte < 256) c (d ∷ rest) t in
    let w : d < 256 = All-head (λ byte. byte < 256) d rest (All-tail (λ byte. byte < 256) c (d ∷ rest) t) in
    (be_bytes_4 (a ∷ b ∷ c ∷ d ∷ []) (from_be_bytes w32 (a ∷ b ∷ c ∷ d ∷ [])) refl (four a b c d x y z w) refl, omega arith)
told-header (Line limit) bytes packet there are = absurd (omega (arith, packet))
told-header Stream bytes packet there are = absurd (omega (arith, packet))

-- what a walk finds are whole frames and a rest
record Found (mode : Mode) (bytes : List ℕ) (messages : List Message) (rest : List ℕ) : Type 0 where
  pub whole : bytes ≡ frames_of mode messages ++ rest
  pub each : All (IsPacket mode) messages

found-frame : (mode : Mode) (bytes : List ℕ) (messages : List Message) (rest : List ℕ) → 0 < header_len mode → AreBytes bytes → frame_end mode bytes ≤ length bytes
    → Found mode (drop (frame_end mode bytes) bytes) messages rest → Found mode bytes (message Plain (slice_range bytes (header_len mode) (frame_end mode bytes)) ∷ messages) rest
found-frame mode bytes messages rest packet are within later =
    let h = header_len mode in
    let told = told_len mode bytes in
    let content : List ℕ = slice_range bytes h (frame_end mode bytes) in
    let there : h ≤ length bytes = omega arith in
    let head = told-header mode bytes packet there are in
    let size : frame_end mode bytes - h ≡ told = omega arith in
    let long : length content ≡ told =
    ap (λ n. length (take n (drop h bytes))) size ∙ length-take-le told (drop h bytes) (omega (arith, length-drop h bytes)) in
    let end : drop (frame_end mode bytes - h) (drop h bytes) ≡ drop (frame_end mode bytes) bytes =
    drop-drop (frame_end mode bytes - h) h bytes ∙ ap (λ n. drop n bytes) (let e : h + (frame_end mode bytes - h) ≡ frame_end mode bytes = omega arith in e) in
    record {
      whole = sym (take-append-drop h bytes)
          ∙ (ap (λ xs. xs ++ drop h bytes) (sym head.0 ∙ ap (header mode) (sym long))
          ∙ (ap (λ xs. header mode (length content) ++ xs) (sym (take-append-drop (frame_end mode bytes - h) (drop h bytes)) ∙ ap (λ xs. content ++ xs) (end ∙ later.whole))
          ∙ (sym (append_assoc (header mode (length content)) content (frames_of mode messages ++ rest))
          ∙ sym (append_assoc (frame_of mode content) (frames_of mode messages) rest))));
      each = All-cons (IsPacket mode) (message Plain content) messages (refl, omega (arith, long, head.1)) later.each;
    }

found : (mode : Mode) (most : ℕ) (bytes : List ℕ) → 0 < header_len mode → AreBytes bytes → Found mode bytes (packets_within most mode bytes) (rest_within most mode bytes)
found mode zero bytes packet are = record { whole = refl; each = All-nil (IsPacket mode) }
found mode (suc most) bytes packet are =
    elim (cases_lt (length bytes) (frame_end mode bytes)) [
      | inl short ↦
          let none : leb (frame_end mode bytes) (length bytes) ≡ false = lt-leb (frame_end mode bytes) (length bytes) short in
          rw (
            cond-false (leb (frame_end mode bytes) (length bytes)) (message Plain (slice_range bytes (header_len mode) (frame_end mode bytes)) ∷ packets_within most mode (drop (frame_end mode bytes) bytes)) [] none,
            cond-false (leb (frame_end mode bytes) (length bytes)) (rest_within most mode (drop (frame_end mode bytes) bytes)) bytes none,
          )
          (record { whole = refl; each = All-nil (IsPacket mode) })
      | inr within ↦
          let some : leb (frame_end mode bytes) (length bytes) ≡ true = le-leb (frame_end mode bytes) (length bytes) within in
          rw (
            cond-true (leb (frame_end mode bytes) (length bytes)) (message Plain (slice_range bytes (header_len mode) (frame_end mode bytes)) ∷ packets_within most mode (drop (frame_end mode bytes) bytes)) [] some,
            cond-true (leb (frame_end mode bytes) (length bytes)) (rest_within most mode (drop (frame_end mode bytes) bytes)) bytes some,
          )
          (found-frame mode bytes (packets_within most mode (drop (frame_end mode bytes) bytes)) (rest_within most mode (drop (frame_end mode bytes) bytes)) packet are within
          (found mode most (drop (frame_end mode bytes) bytes) packet (All-drop (λ byte. byte < 256) (frame_end mode bytes) bytes are)))
    ]

-- no whole frame begins a rest that is too short for what it tells
no-frame : (mode : Mode) (rest : List ℕ) → 0 < header_len mode → length rest < frame_end mode rest → HasNoFrame mode rest
no-frame mode rest packet short content more below is =
    let begins : rest ≡ header mode (length content) ++ (content ++ more) = is ∙ append_assoc (header mode (length content)) content more in
    let told : told_len mode rest ≡ length content = ap (told_len mode) begins ∙ told_len-header mode (length content) (content ++ more) packet below in
    omega (arith, short, told, ap length is, length-append (frame_of mode content) more, length-frame_of mode content)

packets-declared : (mode : Mode) (bytes : List ℕ) → 0 < header_len mode → AreBytes bytes → PacketMessages mode bytes (packet_messages mode bytes)
packets-declared mode bytes packet are =
    let f = found mode (length bytes) bytes packet are in
    record { rest = packet_rest mode bytes; whole = f.whole; each = f.each; unframed = no-frame mode (packet_rest mode bytes) packet (packet_rest-short mode bytes packet) }

none-ended : (ended : Bool) (messages : List Message) → messages ++ cond ended [] [] ≡ messages
none-ended true messages = append-nil messages
none-ended false messages = append-nil messages

pub messages-declared : MessagesAreDeclared
messages-declared Packet1 bytes ended messages are is = rw (is ∙ none-ended ended (packet_messages Packet1 bytes)) (packets-declared Packet1 bytes (omega arith) are)
messages-declared Packet2 bytes ended messages are is = rw (is ∙ none-ended ended (packet_messages Packet2 bytes)) (packets-declared Packet2 bytes (omega arith) are)
messages-declared Packet4 bytes ended messages are is = rw (is ∙ none-ended ended (packet_messages Packet4 bytes)) (packets-declared Packet4 bytes (omega arith) are)
messages-declared (Line limit) bytes ended messages are is = is
messages-declared Stream bytes ended messages are is = is
