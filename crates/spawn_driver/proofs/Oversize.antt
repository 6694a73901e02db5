-- Headers that tell too many bytes, at the front of what no message has.
use Rattle.std.proofs.Common.{◌≡◌, ◌+◌, ◌<◌, ◌≤◌, ℕ, List, [], ◌∷◌, ◌++◌, length, drop, All, ◌&&◌, refl, sym, ◌∙◌, ap, inl, inr, arith, append_assoc, length-append, false, true}
use Rattle.std.specs.Prelude.{nat_le, nat_lt}
use Rattle.std.proofs.lemmas.Bool.{cases_lt}
use Rattle.std.proofs.lemmas.Bool.Decides.{nat_tests}
use Rattle.std.proofs.lemmas.List.{take-append-drop, append-nil}
use Rattle.std.proofs.lemmas.List.Elements.{All-head}
use Rattle.packet_framing.specs.declared.mode.Mode.{Mode}
use Rattle.packet_framing.specs.declared.mode.Mode.TheVariants.{Packet1, Packet2, Packet4, Line, Stream}
use Rattle.packet_framing.specs.declared.message.Message.{Message}
use Rattle.packet_framing.specs.Frames.{header_len, header_limit, header, frame_of}
use Rattle.packet_framing.specs.Packets.{frames_of, told_len, frame_end, packet_rest}
use Rattle.packet_framing.specs.Messages.{IsServed, rest_of}
use Rattle.packet_framing.specs.Unframed.{IsServedPacket, IsPart, PacketsSplit, IsOversize, HasOversize, Unframes}
use Rattle.packet_framing.proofs.Headers.{length-header, told_len-header}
use Rattle.packet_framing.proofs.PacketRuns.{packet_messages_is}
use Rattle.driver_model.specs.Spawn.{is_oversize}
use Rattle.spawn_driver.proofs.Rests.{told_len-append, rest_of-append, packet_rest-short, packet-append, walk-short}

-- a header that is there tells too many
large : (mode : Mode) (bytes : List ℕ) → nat_le (header_len mode) (length bytes) && nat_lt 262143 (told_len mode bytes) ≡ true
    → (header_len mode ≤ length bytes) × (262143 < told_len mode bytes)
large mode bytes e = (grind (arith, nat_tests), grind (arith, nat_tests))

not-large : (mode : Mode) (bytes : List ℕ) → (header_len mode ≤ length bytes → told_len mode bytes ≤ 262143)
    → nat_le (header_len mode) (length bytes) && nat_lt 262143 (told_len mode bytes) ≡ false
not-large mode bytes small = grind (arith, nat_tests)

is-large : (mode : Mode) (bytes : List ℕ) → header_len mode ≤ length bytes → 262143 < told_len mode bytes
    → nat_le (header_len mode) (length bytes) && nat_lt 262143 (told_len mode bytes) ≡ true
is-large mode bytes there many = grind (arith, nat_tests)

-- a part of a frame that is served has no such header
part-small : (mode : Mode) (rest : List ℕ) → 0 < header_len mode → IsPart mode rest → header_len mode ≤ length rest → told_len mode rest ≤ 262143
part-small mode rest packet (inl short) there = omega arith
part-small mode rest packet (inr cut) there =
    let begins : rest ≡ header mode cut.len ++ drop (header_len mode) rest =
    sym (take-append-drop (header_len mode) rest) ∙ ap (λ h. h ++ drop (header_len mode) rest) cut.told in
    let told : told_len mode rest ≡ cut.len =
    ap (told_len mode) begins ∙ told_len-header mode cut.len (drop (header_len mode) rest) packet cut.below in
    omega (arith, cut.served)

-- bytes that were told leave no such header
pub told-not-oversize : (mode : Mode) (bytes : List ℕ) (ms : List Message) (rest : List ℕ) → Unframes mode bytes ms rest → is_oversize mode rest ≡ false
told-not-oversize Packet1 bytes ms rest told = not-large Packet1 rest (part-small Packet1 rest (omega arith) told.part)
told-not-oversize Packet2 bytes ms rest told = not-large Packet2 rest (part-small Packet2 rest (omega arith) told.part)
told-not-oversize Packet4 bytes ms rest told = not-large Packet4 rest (part-small Packet4 rest (omega arith) told.part)
told-not-oversize (Line limit) bytes ms rest told = refl
told-not-oversize Stream bytes ms rest told = refl

small : (mode : Mode) (bytes : List ℕ) → nat_le (header_len mode) (length bytes) && nat_lt 262143 (told_len mode bytes) ≡ false
    → header_len mode ≤ length bytes → told_len mode bytes ≤ 262143
small mode bytes e there = grind (arith, nat_tests)

-- whole frames leave what follows them, where no whole frame begins that
frames-rest : (mode : Mode) (ms : List Message) (back : List ℕ) → 0 < header_len mode → All (IsServedPacket mode) ms → length back < frame_end mode back
    → packet_rest mode (frames_of mode ms ++ back) ≡ back
frames-rest mode ms back packet each short =
    let split : PacketsSplit mode (frames_of mode ms) ms [] = record { whole = sym (append-nil (frames_of mode ms)); each = each; part = inl packet } in
    let none = (packet_messages_is mode (frames_of mode ms) ms [] packet split).1 in
    (packet-append mode (frames_of mode ms) back packet).1 ∙ (ap (λ r. packet_rest mode (r ++ back)) none ∙ (walk-short mode (length back) back short).1)

-- the bytes behind the header came with the chunk
behind-header : (mode : Mode) (r chunk : List ℕ) (len : ℕ) (ms : List Message) (rest : List ℕ) → 0 < header_len mode → length r < frame_end mode r
    → (header_len mode ≤ length r → told_len mode r ≤ 262143) → All (IsServedPacket mode) ms → 262143 < len → len < header_limit mode
    → r ++ chunk ≡ frames_of mode ms ++ (header mode len ++ rest) → length rest ≤ length chunk
behind-header mode r chunk len [] rest packet short small-before each many below is =
    elim (cases_lt (length r) (header_len mode)) [
      | inl part ↦ omega (arith, ap length is, length-append r chunk, length-append (header mode len) rest, length-header mode len)
      | inr there ↦
          let told : told_len mode r ≡ len = sym (told_len-append mode r chunk there) ∙ (ap (told_len mode) is ∙ told_len-header mode len rest packet below) in
          absurd (omega (arith, small-before there))
    ]
behind-header mode r chunk len (m ∷ ms) rest packet short small-before each many below is =
    let here = All-head (IsServedPacket mode) m ms each in
    let more : List ℕ = frames_of mode ms ++ (header mode len ++ rest) in
    let begins : r ++ chunk ≡ header mode (length m.bytes) ++ (m.bytes ++ more) =
    is ∙ (append_assoc (frame_of mode m.bytes) (frames_of mode ms) (header mode len ++ rest) ∙ append_assoc (header mode (length m.bytes)) m.bytes more) in
    let sizes : length r + length chunk ≡ header_len mode + length m.bytes + length more =
    omega (arith, ap length begins, length-append r chunk, length-append (header mode (length m.bytes)) (m.bytes ++ more), length-header mode (length m.bytes), length-append m.bytes more) in
    let behind : length rest ≤ length more =
    omega (arith, length-append (frames_of mode ms) (header mode len ++ rest), length-append (header mode len) rest) in
    elim (cases_lt (length r) (header_len mode)) [
      | inl part ↦ omega arith
      | inr there ↦
          let told : told_len mode r ≡ length m.bytes =
          sym (told_len-append mode r chunk there) ∙ (ap (told_len mode) begins ∙ told_len-header mode (length m.bytes) (m.bytes ++ more) packet here.0.1) in
          omega arith
    ]

found-packet : (mode : Mode) (r chunk : List ℕ) (len : ℕ) → 0 < header_len mode → length r < frame_end mode r
    → (header_len mode ≤ length r → told_len mode r ≤ 262143) → length chunk ≤ 65536 → IsOversize mode (r ++ chunk) len
    → nat_le (header_len mode) (length (packet_rest mode (r ++ chunk))) && nat_lt 262143 (told_len mode (packet_rest mode (r ++ chunk))) ≡ true
found-packet mode r chunk len packet short small-before few over =
    let back : List ℕ = header mode len ++ over.rest in
    let whole : r ++ chunk ≡ frames_of mode over.ms ++ back = over.whole ∙ append_assoc (frames_of mode over.ms) (header mode len) over.rest in
    let behind = behind-header mode r chunk len over.ms over.rest packet short small-before over.each over.large over.below whole in
    let told : told_len mode back ≡ len = told_len-header mode len over.rest packet over.below in
    let size : length back ≡ header_len mode + length over.rest = omega (arith, length-append (header mode len) over.rest, length-header mode len) in
    let many : 262143 < len = over.large in
    let cut : length back < frame_end mode back = omega arith in
    let rest : packet_rest mode (r ++ chunk) ≡ back = ap (packet_rest mode) whole ∙ frames-rest mode over.ms back packet over.each cut in
    rw rest (is-large mode back (omega arith) (omega arith))

-- a header that is refused at one more chunk stands in front of the rest then
pub oversize-found : (mode : Mode) (bytes chunk : List ℕ) (len : ℕ) → IsServed mode → is_oversize mode (rest_of mode bytes) ≡ false → length chunk ≤ 65536
    → HasOversize mode (rest_of mode bytes ++ chunk) len → is_oversize mode (rest_of mode (bytes ++ chunk)) ≡ true
oversize-found Packet1 bytes chunk len served none few over =
    rw (rest_of-append Packet1 served bytes chunk)
    (found-packet Packet1 (packet_rest Packet1 bytes) chunk len (omega arith) (packet_rest-short Packet1 bytes (omega arith)) (small Packet1 (packet_rest Packet1 bytes) none) few over)
oversize-found Packet2 bytes chunk len served none few over =
    rw (rest_of-append Packet2 served bytes chunk)
    (found-packet Packet2 (packet_rest Packet2 bytes) chunk len (omega arith) (packet_rest-short Packet2 bytes (omega arith)) (small Packet2 (packet_rest Packet2 bytes) none) few over)
oversize-found Packet4 bytes chunk len served none few over =
    rw (rest_of-append Packet4 served bytes chunk)
    (found-packet Packet4 (packet_rest Packet4 bytes) chunk len (omega arith) (packet_rest-short Packet4 bytes (omega arith)) (small Packet4 (packet_rest Packet4 bytes) none) few over)
oversize-found (Line limit) bytes chunk len served none few over = absurd over
oversize-found Stream bytes chunk len served none few over = absurd over

pub oversize-nil : (mode : Mode) → is_oversize mode (rest_of mode []) ≡ false
oversize-nil Packet1 = refl
oversize-nil Packet2 = refl
oversize-nil Packet4 = refl
oversize-nil (Line limit) = refl
oversize-nil Stream = refl
