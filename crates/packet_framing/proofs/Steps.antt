-- One byte of a line, or one frame, more.
use Rattle.std.proofs.Common.{◌≡◌, ◌≢◌, ◌+◌, ◌-◌, ◌<◌, ◌≤◌, ℕ, zero, suc, List, [], ◌∷◌, ◌++◌, length, take, drop, get_or, All, refl, sym, ◌∙◌, ap, subst, arith, append_assoc, length-append, length-drop}
use Rattle.std.specs.Prelude.{slice_range, Some, None}
use Rattle.std.proofs.lemmas.Bool.{eq-eqb}
use Rattle.memchr.specs.Find.{IsFirstByte, is_byte}
use Rattle.std.proofs.lemmas.List.{append-nil, take_at, drop_at, take_more, drop_more, drop-drop, get_or-drop, get_or-append_right, take_all, length-take-le, take-append-drop}
use Rattle.std.proofs.lemmas.List.Elements.{All-push}
use Rattle.io_vector.specs.declared.flag.Flag.{Flag}
use Rattle.io_vector.specs.declared.flag.Flag.TheVariants.{Plain, Eol, Noeol}
use Rattle.packet_framing.specs.declared.mode.Mode.{Mode}
use Rattle.packet_framing.specs.declared.message.Message.{Message}
use Rattle.packet_framing.specs.Frames.{header_len, header_limit, header, frame_of}
use Rattle.packet_framing.specs.Lines.{message, line_messages, line_rest}
use Rattle.packet_framing.specs.Packets.{frames_of}
use Rattle.packet_framing.specs.declared.fault.UnframeFault.{UnframeFault}
use Rattle.packet_framing.specs.declared.fault.UnframeFault.TheVariants.{Oversize, NoMemory}
use Rattle.packet_framing.specs.Reading.{FoundPacket, IsLargeHeader, PacketFails, ReadsOversize, ReadsTo, ReadsInLine}
use Rattle.packet_framing.specs.Unframed.{IsServedPacket, IsOpenLine, IsOversize}
use Rattle.packet_framing.proofs.Headers.{length-frame_of}
use Rattle.packet_framing.proofs.LineRuns.{told_after, left_after, told-end, told-on, told-full, left-end, left-on, left-full, line_messages-append, line_rest-append, rest_open, open_messages, open_rest}
use Rattle.packet_framing.proofs.PacketRuns.{frames_join}

message_is : (m : Message) (flag : Flag) (bytes : List ℕ) → m.flag ≡ flag → m.bytes ≡ bytes → m ≡ message flag bytes
message_is m flag bytes flags contents = ap (λ (f : Flag). message f m.bytes) flags ∙ ap (message flag) contents

length-range : (bytes : List ℕ) (from at : ℕ) → from ≤ at → at ≤ length bytes → length (slice_range bytes from at) ≡ at - from
length-range bytes from at ordered within =
    let room : at - from ≤ length (drop from bytes) = omega (arith, length-drop from bytes) in
    length-take-le (at - from) (drop from bytes) room

range_one : (bytes : List ℕ) (at : ℕ) → at < length bytes → slice_range bytes at (at + 1) ≡ get_or bytes at 0 ∷ []
range_one bytes at there =
    let one : at + 1 - at ≡ 1 = omega arith in
    ap (λ n. take n (drop at bytes)) one ∙ ap (take 1) (drop_more bytes at 0 there)

range_more : (bytes : List ℕ) (from at : ℕ) → from ≤ at → at < length bytes →
    slice_range bytes from (at + 1) ≡ slice_range bytes from at ++ get_or bytes at 0 ∷ []
range_more bytes from at ordered there =
    let count : at + 1 - from ≡ (at - from) + 1 = omega arith in
    let inside : at - from < length (drop from bytes) = omega (arith, length-drop from bytes) in
    let place : from + (at - from) ≡ at = omega arith in
    ap (λ n. take n (drop from bytes)) count ∙ take_more (drop from bytes) (at - from) 0 inside
    ∙ ap (λ b. slice_range bytes from at ++ b ∷ []) (get_or-drop from bytes (at - from) 0 ∙ ap (λ n. get_or bytes n 0) place)

range_none : (bytes : List ℕ) (at : ℕ) → slice_range bytes at at ≡ []
range_none bytes at =
    let none : at - at ≡ 0 = omega arith in
    ap (λ n. take n (drop at bytes)) none

-- what one byte more tells and leaves, from the rest
more_told : (limit : ℕ) (bytes : List ℕ) (at : ℕ) → 0 < limit → at < length bytes →
    line_messages limit (take (at + 1) bytes)
    ≡ line_messages limit (take at bytes) ++ told_after limit (line_rest limit (take at bytes)) (get_or bytes at 0 ∷ [])
more_told limit bytes at some there =
    ap (line_messages limit) (take_more bytes at 0 there) ∙ line_messages-append limit (take at bytes) (get_or bytes at 0 ∷ []) some

more_left : (limit : ℕ) (bytes : List ℕ) (at : ℕ) → 0 < limit → at < length bytes →
    line_rest limit (take (at + 1) bytes) ≡ left_after limit (line_rest limit (take at bytes)) (get_or bytes at 0 ∷ [])
more_left limit bytes at some there =
    ap (line_rest limit) (take_more bytes at 0 there) ∙ line_rest-append limit (take at bytes) (get_or bytes at 0 ∷ []) some

-- a line end
pub step_end : (limit : ℕ) (bytes : List ℕ) (at from : ℕ) (ms ns : List Message) (m : Message) → 0 < limit → at < length bytes →
    ReadsTo limit bytes at from ms → get_or bytes at 0 ≡ 10 → m.flag ≡ Eol → m.bytes ≡ slice_range bytes from at → ns ≡ ms ++ m ∷ [] →
    ReadsTo limit bytes (at + 1) (at + 1) ns
step_end limit bytes at from ms ns m some there reads is flag content pushed =
    let rest : List ℕ = line_rest limit (take at bytes) in
    record {
      told = pushed ∙ ap (λ xs. xs ++ m ∷ []) reads.told
          ∙ ap (λ (x : Message). line_messages limit (take at bytes) ++ x ∷ []) (message_is m Eol rest flag (content ∙ reads.left))
          ∙ ap (λ xs. line_messages limit (take at bytes) ++ xs) (sym (told-end limit rest (get_or bytes at 0) [] is))
          ∙ sym (more_told limit bytes at some there);
      left = range_none bytes (at + 1) ∙ sym (left-end limit rest (get_or bytes at 0) [] is) ∙ sym (more_left limit bytes at some there);
      within = omega arith;
    }

-- a byte after a full piece
pub step_full : (limit : ℕ) (bytes : List ℕ) (at from : ℕ) (ms ns : List Message) (m : Message) → 0 < limit → at < length bytes →
    ReadsTo limit bytes at from ms → get_or bytes at 0 ≢ 10 → at - from ≡ limit → m.flag ≡ Noeol → m.bytes ≡ slice_range bytes from at →
    ns ≡ ms ++ m ∷ [] → ReadsTo limit bytes (at + 1) at ns
step_full limit bytes at from ms ns m some there reads not whole flag content pushed =
    let rest : List ℕ = line_rest limit (take at bytes) in
    let full : limit ≤ length rest = omega (arith, ap length reads.left, length-range bytes from at reads.within (omega arith)) in
    record {
      told = pushed ∙ ap (λ xs. xs ++ m ∷ []) reads.told
          ∙ ap (λ (x : Message). line_messages limit (take at bytes) ++ x ∷ []) (message_is m Noeol rest flag (content ∙ reads.left))
          ∙ ap (λ xs. line_messages limit (take at bytes) ++ xs) (sym (told-full limit rest (get_or bytes at 0) [] not full))
          ∙ sym (more_told limit bytes at some there);
      left = range_one bytes at there ∙ sym (left-full limit rest (get_or bytes at 0) [] not full)
          ∙ sym (more_left limit bytes at some there);
      within = omega arith;
    }

-- a byte that goes on in the piece
pub step_on : (limit : ℕ) (bytes : List ℕ) (at from : ℕ) (ms : List Message) → 0 < limit → at < length bytes →
    ReadsTo limit bytes at from ms → get_or bytes at 0 ≢ 10 → at - from ≢ limit → ReadsTo limit bytes (at + 1) from ms
step_on limit bytes at from ms some there reads not part =
    let rest : List ℕ = line_rest limit (take at bytes) in
    let fits : length rest ≤ limit = (rest_open limit (take at bytes) some).short in
    let size : length rest ≡ at - from = sym (ap length reads.left) ∙ length-range bytes from at reads.within (omega arith) in
    let room : length rest < limit = omega (arith, size, fits, part) in
    record {
      told = reads.told ∙ sym (append-nil (line_messages limit (take at bytes)))
          ∙ ap (λ xs. line_messages limit (take at bytes) ++ xs) (sym (told-on limit rest (get_or bytes at 0) [] not room))
          ∙ sym (more_told limit bytes at some there);
      left = range_more bytes from at reads.within there ∙ ap (λ xs. xs ++ get_or bytes at 0 ∷ []) reads.left
          ∙ sym (left-on limit rest (get_or bytes at 0) [] not room) ∙ sym (more_left limit bytes at some there);
      within = omega (arith, reads.within);
    }

-- bytes that go on in the piece
on_run : (limit : ℕ) (bytes : List ℕ) (n at from : ℕ) (ms : List Message) → 0 < limit → at + n ≤ length bytes → ReadsTo limit bytes at from ms →
    ((i : ℕ) → at ≤ i → i < at + n → get_or bytes i 0 ≢ 10) → at + n ≤ from + limit → ReadsTo limit bytes (at + n) from ms
on_run limit bytes zero at from ms some within reads unbroken fits =
    let P : ℕ → Type 0 = λ to. ReadsTo limit bytes to from ms in
    let none : at ≡ at + 0 = omega arith in
    subst P none reads
on_run limit bytes (suc n) at from ms some within reads unbroken fits =
    let next : at + 1 + n ≡ at + suc n = omega arith in
    let part : at - from ≢ limit = λ is. absurd (omega (arith, reads.within)) in
    let one : ReadsTo limit bytes (at + 1) from ms =
    step_on limit bytes at from ms some (omega arith) reads (unbroken at (omega arith) (omega arith)) part in
    let P : ℕ → Type 0 = λ to. ReadsTo limit bytes to from ms in
    subst P next
    (on_run limit bytes n (at + 1) from ms some (omega arith) one (λ i low high. unbroken i (omega arith) (omega arith)) (omega arith))

-- a line is read up to a place where its last piece isn't too long
pub in_line_read : (limit : ℕ) (bytes : List ℕ) (end from to : ℕ) (ms : List Message) → 0 < limit → end ≤ length bytes →
    (line : ReadsInLine limit bytes end from ms) → line.at ≤ to → to ≤ end → to ≤ from + limit → ReadsTo limit bytes to from ms
in_line_read limit bytes end from to ms some within line after before fits =
    let n : ℕ = to - line.at in
    let is : line.at + n ≡ to = omega arith in
    let P : ℕ → Type 0 = λ place. ReadsTo limit bytes place from ms in
    subst P is
    (on_run limit bytes n line.at from ms some (omega arith) line.reads (λ i low high. line.unbroken i low (omega arith)) (omega arith))

-- what was read of a line fits into a piece
pub in_line_fits : (limit : ℕ) (bytes : List ℕ) (end from : ℕ) (ms : List Message) → 0 < limit → end ≤ length bytes →
    (line : ReadsInLine limit bytes end from ms) → line.at ≤ from + limit
in_line_fits limit bytes end from ms some within line =
    let size : length (slice_range bytes from line.at) ≡ line.at - from =
    length-range bytes from line.at line.reads.within (omega (arith, line.before)) in
    let short : length (line_rest limit (take line.at bytes)) ≤ limit = (rest_open limit (take line.at bytes) some).short in
    omega (arith, size, ap length line.reads.left, short, line.reads.within)

-- one full piece of a line more
pub in_line_more : (limit : ℕ) (bytes : List ℕ) (end from cut : ℕ) (ms ns : List Message) (m : Message) → 0 < limit → end ≤ length bytes →
    ReadsInLine limit bytes end from ms → cut ≡ from + limit → cut < end → m.flag ≡ Noeol → m.bytes ≡ slice_range bytes from cut →
    ns ≡ ms ++ m ∷ [] → ReadsInLine limit bytes end cut ns
in_line_more limit bytes end from cut ms ns m some within line is inside flag content pushed =
    let after : line.at ≤ cut = omega (arith, in_line_fits limit bytes end from ms some within line) in
    let full : ReadsTo limit bytes cut from ms = in_line_read limit bytes end from cut ms some within line after (omega arith) (omega arith) in
    record {
      at = cut + 1;
      reads = step_full limit bytes cut from ms ns m some (omega arith) full (line.unbroken cut after inside) (omega arith) flag content pushed;
      before = omega arith;
      unbroken = λ i low high. line.unbroken i (omega arith) high;
    }

pub range_to_end : (bytes : List ℕ) (from : ℕ) → slice_range bytes from (length bytes) ≡ drop from bytes
range_to_end bytes from = take_all (length bytes - from) (drop from bytes) (omega (arith, length-drop from bytes))

-- no line end stands before the first one that was found
pub no_end_before : (bytes : List ℕ) (from at : ℕ) → IsFirstByte (is_byte 10) (drop from bytes) (Some at) →
    (i : ℕ) → from ≤ i → i < from + at → get_or bytes i 0 ≢ 10
no_end_before bytes from at found i low high ends =
    let place : from + (i - from) ≡ i = omega arith in
    found.0.before (i - from) (omega arith) (omega arith)
    (eq-eqb _ 10 (get_or-drop from bytes (i - from) 0 ∙ ap (λ n. get_or bytes n 0) place ∙ ends))

-- nor anywhere where none was found
pub no_end : (bytes : List ℕ) (from : ℕ) → IsFirstByte (is_byte 10) (drop from bytes) None →
    (i : ℕ) → from ≤ i → i < length bytes → get_or bytes i 0 ≢ 10
no_end bytes from found i low high ends =
    let place : from + (i - from) ≡ i = omega arith in
    found (i - from) (omega arith) (omega (arith, length-drop from bytes))
    (eq-eqb _ 10 (get_or-drop from bytes (i - from) 0 ∙ ap (λ n. get_or bytes n 0) place ∙ ends))

-- the bytes of a chunk before its first line end
pub in_line_found : (limit : ℕ) (held chunk : List ℕ) (at to end from : ℕ) (ms : List Message) → ReadsTo limit (held ++ chunk) at from ms →
    length held ≤ at → end ≡ length held + to → at ≤ end → ((i : ℕ) → at - length held ≤ i → i < to → get_or chunk i 0 ≢ 10) →
    ReadsInLine limit (held ++ chunk) end from ms
in_line_found limit held chunk at to end from ms reads past is ordered free =
    record {
      at = at;
      reads = reads;
      before = ordered;
      unbroken = λ i low high ends. free (i - length held) (omega arith) (omega arith)
          (sym (get_or-append_right held chunk (length held) i 0 refl (omega arith)) ∙ ends);
    }

-- before the chunk nothing is told, and what is held is the rest
pub reads_held : (limit : ℕ) (held chunk : List ℕ) → 0 < limit → IsOpenLine limit held → ReadsTo limit (held ++ chunk) (length held) 0 []
reads_held limit held chunk some open' =
    let front : take (length held) (held ++ chunk) ≡ held = take_at held chunk (length held) refl in
    let none : length held - 0 ≡ length held = omega arith in
    record {
      told = sym (ap (line_messages limit) front ∙ open_messages limit held some open');
      left = ap (λ n. take n (held ++ chunk)) none ∙ front ∙ sym (ap (line_rest limit) front ∙ open_rest limit held some open');
      within = omega arith;
    }

-- a whole frame at a place
pub found_packet : (mode : Mode) (bytes : List ℕ) (at start end len : ℕ) (m : Message) → take (header_len mode) (drop at bytes) ≡ header mode len →
    len < header_limit mode → len ≤ 262143 → start ≡ at + header_len mode → end ≡ start + len → end ≤ length bytes →
    m.flag ≡ Plain → m.bytes ≡ slice_range bytes start end → FoundPacket mode (drop at bytes) m
found_packet mode bytes at start end len m told below served starts ends within flag content =
    let room : len ≤ length (drop start bytes) = omega (arith, length-drop start bytes) in
    let count : end - start ≡ len = omega arith in
    let is : m.bytes ≡ take len (drop start bytes) = content ∙ ap (λ n. take n (drop start bytes)) count in
    let size : length m.bytes ≡ len = ap length is ∙ length-take-le len (drop start bytes) room in
    let after : drop (header_len mode) (drop at bytes) ≡ m.bytes ++ drop len (drop start bytes) =
    drop-drop (header_len mode) at bytes ∙ ap (λ n. drop n bytes) (sym starts)
    ∙ sym (take-append-drop len (drop start bytes)) ∙ ap (λ xs. xs ++ drop len (drop start bytes)) (sym is) in
    record {
      more = drop len (drop start bytes);
      whole = sym (take-append-drop (header_len mode) (drop at bytes))
          ∙ ap (λ h. h ++ drop (header_len mode) (drop at bytes)) (told ∙ ap (header mode) (sym size))
          ∙ ap (λ xs. header mode (length m.bytes) ++ xs) after
          ∙ sym (append_assoc (header mode (length m.bytes)) m.bytes (drop len (drop start bytes)));
      served = ((flag, omega (arith, size, below)), omega (arith, size, served));
    }

pub large_header : (mode : Mode) (bytes : List ℕ) (len : ℕ) → take (header_len mode) bytes ≡ header mode len →
    len < header_limit mode → 262143 < len → IsLargeHeader mode bytes len
large_header mode bytes len told below large =
    record {
      more = drop (header_len mode) bytes;
      whole = sym (take-append-drop (header_len mode) bytes) ∙ ap (λ h. h ++ drop (header_len mode) bytes) told;
      large = large;
      below = below;
    }

-- the bytes before a place are the frames of these messages
pub record FramesTo (mode : Mode) (bytes : List ℕ) (at : ℕ) (ms : List Message) : Type 0 where
  pub whole : bytes ≡ frames_of mode ms ++ drop at bytes
  pub each : All (IsServedPacket mode) ms
  pub within : at ≤ length bytes

pub frames_to_more : (mode : Mode) (bytes : List ℕ) (at next : ℕ) (ms ns : List Message) (m : Message) → FramesTo mode bytes at ms →
    FoundPacket mode (drop at bytes) m → next ≡ at + (header_len mode + length m.bytes) → ns ≡ ms ++ m ∷ [] → FramesTo mode bytes next ns
frames_to_more mode bytes at next ms ns m frames found is pushed =
    let frame : List ℕ = frame_of mode m.bytes in
    let size : length frame ≡ header_len mode + length m.bytes = length-frame_of mode m.bytes in
    let place : at + length frame ≡ next = omega arith in
    let more : found.more ≡ drop next bytes =
    sym (drop_at frame found.more (length frame) refl) ∙ ap (drop (length frame)) (sym found.whole)
    ∙ drop-drop (length frame) at bytes ∙ ap (λ n. drop n bytes) place in
    let here : drop at bytes ≡ frames_of mode (m ∷ []) ++ drop next bytes =
    found.whole ∙ ap (λ xs. frame ++ xs) more ∙ ap (λ xs. xs ++ drop next bytes) (sym (append-nil frame)) in
    record {
      whole = frames_join mode bytes (drop at bytes) (drop next bytes) ms (m ∷ []) frames.whole here
          ∙ ap (λ (xs : List Message). frames_of mode xs ++ drop next bytes) (sym pushed);
      each = let P : List Message → Type 0 = All (IsServedPacket mode) in
          subst P (sym pushed) (All-push (IsServedPacket mode) ms m frames.each found.served);
      within = omega (arith, frames.within, ap length found.whole, length-append frame found.more, length-drop at bytes);
    }

pub frames_oversize : (mode : Mode) (bytes : List ℕ) (at len : ℕ) (ms : List Message) → FramesTo mode bytes at ms →
    IsLargeHeader mode (drop at bytes) len → IsOversize mode bytes len
frames_oversize mode bytes at len ms frames large =
    record {
      ms = ms;
      rest = large.more;
      whole = frames.whole ∙ ap (λ xs. frames_of mode ms ++ xs) large.whole ∙ sym (append_assoc (frames_of mode ms) (header mode len) large.more);
      each = frames.each;
      large = large.large;
      below = large.below;
    }

pub read_fails : (mode : Mode) (bytes : List ℕ) (at : ℕ) (ms : List Message) (fault : UnframeFault) → FramesTo mode bytes at ms →
    PacketFails mode (drop at bytes) fault → ReadsOversize mode bytes fault
read_fails mode bytes at ms (Oversize len) frames large = frames_oversize mode bytes at len ms frames large
read_fails mode bytes at ms NoMemory frames large = tt
