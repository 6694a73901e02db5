-- The messages of packets: one more chunk, what the definitions over all bytes say, and that there is one reading only.
use Rattle.std.proofs.Common.{◌≡◌, ◌+◌, ◌-◌, ◌<◌, ◌≤◌, ℕ, zero, suc, List, [], ◌∷◌, ◌++◌, length, take, drop, All, refl, sym, ◌∙◌, ap, inl, inr, arith, append_assoc, length-append, leb, false, true}
use Rattle.std.specs.Prelude.{slice_range}
use Rattle.std.proofs.lemmas.Bool.{cond-true, cond-false, le-leb, lt-leb, cases_lt}
use Rattle.std.proofs.lemmas.List.{take_at, drop_at, take-append-drop}
use Rattle.std.proofs.lemmas.List.Concat.{flat_map-append}
use Rattle.std.proofs.lemmas.List.Elements.{All-head, All-tail, All-append, All-weaker}
use Rattle.io_vector.specs.declared.flag.Flag.{Flag}
use Rattle.io_vector.specs.declared.flag.Flag.TheVariants.{Plain}
use Rattle.packet_framing.specs.declared.mode.Mode.{Mode}
use Rattle.packet_framing.specs.declared.message.Message.{Message}
use Rattle.packet_framing.specs.Frames.{header_len, header_limit, header, frame_of}
use Rattle.packet_framing.specs.Lines.{message}
use Rattle.packet_framing.specs.Packets.{frames_of, IsPacket, HasNoFrame, PacketMessages, told_len, frame_end, packets_within, rest_within, packet_messages, packet_rest}
use Rattle.packet_framing.specs.Unframed.{IsServedPacket, IsPart, PacketsSplit, IsOversize}
use Rattle.packet_framing.proofs.Headers.{length-header, length-frame_of, take-header, drop-header, told_len-header, one_header, one_len, one_frame}

frames_more : (mode : Mode) (bytes r chunk : List ℕ) (ms : List Message) → bytes ≡ frames_of mode ms ++ r →
    bytes ++ chunk ≡ frames_of mode ms ++ (r ++ chunk)
frames_more mode bytes r chunk ms whole = ap (λ xs. xs ++ chunk) whole ∙ append_assoc (frames_of mode ms) r chunk

pub frames_join : (mode : Mode) (bytes rest back : List ℕ) (ms ns : List Message) → bytes ≡ frames_of mode ms ++ rest →
    rest ≡ frames_of mode ns ++ back → bytes ≡ frames_of mode (ms ++ ns) ++ back
frames_join mode bytes rest back ms ns whole next =
    whole ∙ ap (λ xs. frames_of mode ms ++ xs) next ∙ sym (append_assoc (frames_of mode ms) (frames_of mode ns) back)
    ∙ ap (λ xs. xs ++ back) (sym (flat_map-append (λ (m : Message). frame_of mode m.bytes) ms ns))

-- one more chunk, after the rest
pub packets_more : (mode : Mode) (bytes chunk : List ℕ) (ms ns : List Message) (r s : List ℕ) → PacketsSplit mode bytes ms r →
    PacketsSplit mode (r ++ chunk) ns s → PacketsSplit mode (bytes ++ chunk) (ms ++ ns) s
packets_more mode bytes chunk ms ns r s first next =
    record {
      whole = frames_join mode (bytes ++ chunk) (r ++ chunk) s ms ns (frames_more mode bytes r chunk ms first.whole) next.whole;
      each = All-append (IsServedPacket mode) ms ns first.each next.each;
      part = next.part;
    }

pub oversize_more : (mode : Mode) (bytes chunk : List ℕ) (ms : List Message) (r : List ℕ) (len : ℕ) → PacketsSplit mode bytes ms r →
    IsOversize mode (r ++ chunk) len → IsOversize mode (bytes ++ chunk) len
oversize_more mode bytes chunk ms r len first next =
    let back : List ℕ = header mode len ++ next.rest in
    let rest : r ++ chunk ≡ frames_of mode next.ms ++ back =
    next.whole ∙ append_assoc (frames_of mode next.ms) (header mode len) next.rest in
    record {
      ms = ms ++ next.ms;
      rest = next.rest;
      whole = frames_join mode (bytes ++ chunk) (r ++ chunk) back ms next.ms (frames_more mode bytes r chunk ms first.whole) rest
          ∙ sym (append_assoc (frames_of mode (ms ++ next.ms)) (header mode len) next.rest);
      each = All-append (IsServedPacket mode) ms next.ms first.each next.each;
      large = next.large;
      below = next.below;
    }

-- a refusal stays, whatever comes
pub oversize_stays : (mode : Mode) (bytes chunk : List ℕ) (len : ℕ) → IsOversize mode bytes len → IsOversize mode (bytes ++ chunk) len
oversize_stays mode bytes chunk len was =
    record {
      ms = was.ms;
      rest = was.rest ++ chunk;
      whole = ap (λ xs. xs ++ chunk) was.whole ∙ append_assoc (frames_of mode was.ms ++ header mode len) was.rest chunk;
      each = was.each;
      large = was.large;
      below = was.below;
    }

-- what follows the whole frames begins with no whole frame
pub no_frame : (mode : Mode) (rest : List ℕ) → 0 < header_len mode → IsPart mode rest → HasNoFrame mode rest
no_frame mode rest packet (inl short) content more below is =
    omega (arith, ap length is, length-append (frame_of mode content) more, length-frame_of mode content)
no_frame mode rest packet (inr cut) content more below is =
    let same : header mode cut.len ≡ header mode (length content) =
    sym cut.told
    ∙ ap (take (header_len mode)) (is ∙ append_assoc (header mode (length content)) content more)
    ∙ take-header mode (length content) (content ++ more) in
    let len : cut.len ≡ length content = one_len mode cut.len (length content) packet cut.below below same in
    omega (arith, cut.short, ap length is, length-append (frame_of mode content) more, length-frame_of mode content)

-- the definition over all bytes
pub packets_told : (mode : Mode) (bytes : List ℕ) (ms : List Message) (rest : List ℕ) → 0 < header_len mode →
    PacketsSplit mode bytes ms rest → PacketMessages mode bytes ms
packets_told mode bytes ms rest packet split =
    record {
      rest = rest;
      whole = split.whole;
      each = All-weaker (IsServedPacket mode) (IsPacket mode) (λ m served. served.0) ms split.each;
      unframed = no_frame mode rest packet split.part;
    }

-- after frames that were all served no header tells too many
pub no_oversize : (mode : Mode) (bytes : List ℕ) (ms : List Message) (rest : List ℕ) (len : ℕ) → 0 < header_len mode →
    PacketsSplit mode bytes ms rest → IsOversize mode bytes len → ⊥
no_oversize mode bytes ms rest len packet split over =
    apart mode ms over.ms rest over.rest len packet split.each over.each split.part over.large over.below
    (sym split.whole ∙ over.whole ∙ append_assoc (frames_of mode over.ms) (header mode len) over.rest)
  where
    apart : (mode : Mode) (ms ns : List Message) (rest more : List ℕ) (len : ℕ) → 0 < header_len mode → All (IsServedPacket mode) ms →
        All (IsServedPacket mode) ns → IsPart mode rest → 262143 < len → len < header_limit mode →
        frames_of mode ms ++ rest ≡ frames_of mode ns ++ (header mode len ++ more) → ⊥
    apart mode [] [] rest more len packet served served' (inl short) large below is =
        omega (arith, ap length is, length-append (header mode len) more, length-header mode len)
    apart mode [] [] rest more len packet served served' (inr cut) large below is =
        let told : cut.len ≡ len =
        one_len mode cut.len len packet cut.below below (sym cut.told ∙ ap (take (header_len mode)) is ∙ take-header mode len more) in
        omega (arith, cut.served)
    apart mode [] (n ∷ ns) rest more len packet served served' part large below is =
        no_frame mode rest packet part n.bytes (frames_of mode ns ++ (header mode len ++ more)) (All-head (IsServedPacket mode) n ns served').0.1
        (is ∙ append_assoc (frame_of mode n.bytes) (frames_of mode ns) (header mode len ++ more))
    apart mode (m ∷ ms) [] rest more len packet served served' part large below is =
        let here = All-head (IsServedPacket mode) m ms served in
        let same = one_header mode (length m.bytes) len (m.bytes ++ (frames_of mode ms ++ rest)) more packet here.0.1 below
        (sym (append_assoc (header mode (length m.bytes)) m.bytes (frames_of mode ms ++ rest))
        ∙ sym (append_assoc (frame_of mode m.bytes) (frames_of mode ms) rest) ∙ is) in
        omega (arith, here.1, same.0)
    apart mode (m ∷ ms) (n ∷ ns) rest more len packet served served' part large below is =
        let here = All-head (IsServedPacket mode) m ms served in
        let there = All-head (IsServedPacket mode) n ns served' in
        let same = one_frame mode m.bytes n.bytes (frames_of mode ms ++ rest) (frames_of mode ns ++ (header mode len ++ more)) packet here.0.1 there.0.1
        (sym (append_assoc (frame_of mode m.bytes) (frames_of mode ms) rest)
        ∙ is ∙ append_assoc (frame_of mode n.bytes) (frames_of mode ns) (header mode len ++ more)) in
        apart mode ms ns rest more len packet (All-tail (IsServedPacket mode) m ms served) (All-tail (IsServedPacket mode) n ns served') part large
        below same.1

-- The messages and the rest as functions of the bytes.

length-frames : (mode : Mode) (m : Message) (ms : List Message) (rest : List ℕ) →
    length (frames_of mode (m ∷ ms) ++ rest) ≡ header_len mode + length m.bytes + length (frames_of mode ms ++ rest)
length-frames mode m ms rest =
    omega (
      arith,
      ap length (append_assoc (frame_of mode m.bytes) (frames_of mode ms) rest),
      length-append (frame_of mode m.bytes) (frames_of mode ms ++ rest),
      length-frame_of mode m.bytes,
    )

-- the first frame ends where the message's frame does
frame_end-frame : (mode : Mode) (m more : List ℕ) → 0 < header_len mode → length m < header_limit mode →
    frame_end mode (frame_of mode m ++ more) ≡ length (frame_of mode m)
frame_end-frame mode m more packet below =
    ap (λ n. header_len mode + n)
    (ap (told_len mode) (append_assoc (header mode (length m)) m more) ∙ told_len-header mode (length m) (m ++ more) packet below)
    ∙ sym (length-frame_of mode m)

-- no whole frame is read from a part of one
part_short : (mode : Mode) (rest : List ℕ) → 0 < header_len mode → IsPart mode rest → length rest < frame_end mode rest
part_short mode rest packet (inl short) = omega arith
part_short mode rest packet (inr cut) =
    elim (cases_lt (length rest) (header_len mode)) [
      | inl short ↦ omega arith
      | inr there ↦
          let begins : rest ≡ header mode cut.len ++ drop (header_len mode) rest =
          sym (take-append-drop (header_len mode) rest) ∙ ap (λ h. h ++ drop (header_len mode) rest) cut.told in
          let told : told_len mode rest ≡ cut.len =
          ap (told_len mode) begins ∙ told_len-header mode cut.len (drop (header_len mode) rest) packet cut.below in
          omega (arith, cut.short)
    ]

-- what the first frame has after its header
frame_content : (mode : Mode) (m more bytes : List ℕ) → bytes ≡ frame_of mode m ++ more → frame_end mode bytes ≡ length (frame_of mode m) →
    slice_range bytes (header_len mode) (frame_end mode bytes) ≡ m
frame_content mode m more bytes begins ends =
    let count : frame_end mode bytes - header_len mode ≡ length m = omega (arith, length-frame_of mode m) in
    ap (λ n. take n (drop (header_len mode) bytes)) count
    ∙ ap (λ xs. take (length m) (drop (header_len mode) xs)) (begins ∙ append_assoc (header mode (length m)) m more)
    ∙ ap (take (length m)) (drop-header mode (length m) (m ++ more))
    ∙ take_at m more (length m) refl

packets_is : (mode : Mode) (most : ℕ) (ms : List Message) (rest : List ℕ) → 0 < header_len mode → All (IsPacket mode) ms → IsPart mode rest →
    length (frames_of mode ms ++ rest) ≤ most →
    (packets_within most mode (frames_of mode ms ++ rest) ≡ ms) × (rest_within most mode (frames_of mode ms ++ rest) ≡ rest)
packets_is mode zero [] rest packet each part enough = (refl, refl)
packets_is mode (suc most) [] rest packet each part enough =
    let short : leb (frame_end mode rest) (length rest) ≡ false = lt-leb (frame_end mode rest) (length rest) (part_short mode rest packet part) in
    (cond-false (leb (frame_end mode rest) (length rest)) _ _ short, cond-false (leb (frame_end mode rest) (length rest)) _ _ short)
packets_is mode zero (m ∷ ms) rest packet each part enough = absurd (omega (arith, length-frames mode m ms rest))
packets_is mode (suc most) (m ∷ ms) rest packet each part enough =
    let here = All-head (IsPacket mode) m ms each in
    let back : List ℕ = frames_of mode ms ++ rest in
    let bytes : List ℕ = frames_of mode (m ∷ ms) ++ rest in
    let frame : List ℕ = frame_of mode m.bytes in
    let begins : bytes ≡ frame ++ back = append_assoc frame (frames_of mode ms) rest in
    let ends : frame_end mode bytes ≡ length frame =
    ap (frame_end mode) begins ∙ frame_end-frame mode m.bytes back packet here.1 in
    let within : frame_end mode bytes ≤ length bytes = omega (arith, ap length begins, length-append frame back) in
    let whole : leb (frame_end mode bytes) (length bytes) ≡ true = le-leb (frame_end mode bytes) (length bytes) within in
    let next : drop (frame_end mode bytes) bytes ≡ back =
    ap (λ n. drop n bytes) ends ∙ ap (drop (length frame)) begins ∙ drop_at frame back (length frame) refl in
    let content : slice_range bytes (header_len mode) (frame_end mode bytes) ≡ m.bytes =
    frame_content mode m.bytes back bytes begins ends in
    let others = packets_is mode most ms rest packet (All-tail (IsPacket mode) m ms each) part (omega (arith, length-frames mode m ms rest)) in (
      cond-true (leb (frame_end mode bytes) (length bytes)) _ _ whole
          ∙ ap (λ c. message Plain c ∷ packets_within most mode (drop (frame_end mode bytes) bytes)) content
          ∙ ap (λ (f : Flag). message f m.bytes ∷ packets_within most mode (drop (frame_end mode bytes) bytes)) (sym here.0)
          ∙ ap (λ xs. m ∷ packets_within most mode xs) next ∙ ap (λ xs. m ∷ xs) others.0,
      cond-true (leb (frame_end mode bytes) (length bytes)) _ _ whole ∙ ap (rest_within most mode) next ∙ others.1,
    )

pub packet_messages_is : (mode : Mode) (bytes : List ℕ) (ms : List Message) (rest : List ℕ) → 0 < header_len mode →
    PacketsSplit mode bytes ms rest → (packet_messages mode bytes ≡ ms) × (packet_rest mode bytes ≡ rest)
packet_messages_is mode bytes ms rest packet split =
    let is = packets_is mode (length bytes) ms rest packet (All-weaker (IsServedPacket mode) (IsPacket mode) (λ m served. served.0) ms split.each)
    split.part (omega (arith, ap length split.whole)) in
    (ap (packets_within (length bytes) mode) split.whole ∙ is.0, ap (rest_within (length bytes) mode) split.whole ∙ is.1)

-- two readings of the same bytes have the same messages
pub one_packets : (mode : Mode) (bytes : List ℕ) (ms ns : List Message) → 0 < header_len mode →
    PacketMessages mode bytes ms → PacketMessages mode bytes ns → ms ≡ ns
one_packets mode bytes ms ns packet first second =
    same mode ms ns first.rest second.rest packet first.each second.each first.unframed second.unframed (sym first.whole ∙ second.whole)
  where
    same_message : (m n : Message) → m.flag ≡ n.flag → m.bytes ≡ n.bytes → m ≡ n
    same_message m n flags bytes' = ap (λ (f : Flag). message f m.bytes) flags ∙ ap (message n.flag) bytes'

    same : (mode : Mode) (ms ns : List Message) (r s : List ℕ) → 0 < header_len mode → All (IsPacket mode) ms → All (IsPacket mode) ns →
        HasNoFrame mode r → HasNoFrame mode s → frames_of mode ms ++ r ≡ frames_of mode ns ++ s → ms ≡ ns
    same mode [] [] r s packet each each' none none' is = refl
    same mode [] (n ∷ ns) r s packet each each' none none' is =
        absurd (none n.bytes (frames_of mode ns ++ s) (All-head (IsPacket mode) n ns each').1
        (is ∙ append_assoc (frame_of mode n.bytes) (frames_of mode ns) s))
    same mode (m ∷ ms) [] r s packet each each' none none' is =
        absurd (none' m.bytes (frames_of mode ms ++ r) (All-head (IsPacket mode) m ms each).1
        (sym is ∙ append_assoc (frame_of mode m.bytes) (frames_of mode ms) r))
    same mode (m ∷ ms) (n ∷ ns) r s packet each each' none none' is =
        let here = All-head (IsPacket mode) m ms each in
        let there = All-head (IsPacket mode) n ns each' in
        let parts = one_frame mode m.bytes n.bytes (frames_of mode ms ++ r) (frames_of mode ns ++ s) packet here.1 there.1
        (sym (append_assoc (frame_of mode m.bytes) (frames_of mode ms) r) ∙ is ∙ append_assoc (frame_of mode n.bytes) (frames_of mode ns) s) in
        let first : m ≡ n = same_message m n (here.0 ∙ sym there.0) parts.0 in
        let others : ms ≡ ns = same mode ms ns r s packet (All-tail (IsPacket mode) m ms each) (All-tail (IsPacket mode) n ns each') none none' parts.1 in
        cc
