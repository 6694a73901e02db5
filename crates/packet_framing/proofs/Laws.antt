-- The laws by which a caller that feeds an unframer chunk after chunk keeps what was told of all bytes so far. Its invariant is
-- `Unframes mode bytes ms held`: bytes are all that were fed, ms all messages that were told, held what the unframer holds.
use Rattle.std.proofs.Common.{◌≡◌, ℕ, Bool, true, false, List, [], ◌++◌, refl, sym, ◌∙◌, ap, inl, arith}
use Rattle.std.specs.List.{flat_map}
use Rattle.std.proofs.lemmas.List.{append-nil}
use Rattle.std.proofs.lemmas.List.Concat.{flat_map-append}
use Rattle.std.proofs.lemmas.List.Elements.{All-append, All-nil}
use Rattle.packet_framing.specs.declared.mode.Mode.{Mode}
use Rattle.packet_framing.specs.declared.mode.Mode.TheVariants.{Packet1, Packet2, Packet4, Line, Stream}
use Rattle.packet_framing.specs.declared.message.Message.{Message}
use Rattle.packet_framing.specs.Lines.{line_messages, line_rest}
use Rattle.packet_framing.specs.Messages.{IsServed, IsFixed, IsStreamed, IsMessages, messages_of, rest_of, last_message}
use Rattle.packet_framing.specs.Unframed.{Unframes, HasOversize, IsHeld}
use Rattle.packet_framing.proofs.LineRuns.{line_messages_more, line_rest_more, rest_open}
use Rattle.packet_framing.proofs.PacketRuns.{packets_more, oversize_more, oversize_stays, packets_told, packet_messages_is, no_oversize, one_packets}

-- no bytes tell nothing
pub none_fed : (mode : Mode) → IsServed mode → Unframes mode [] [] []
none_fed Packet1 served = record { whole = refl; each = All-nil _; part = inl (omega arith) }
none_fed Packet2 served = record { whole = refl; each = All-nil _; part = inl (omega arith) }
none_fed Packet4 served = record { whole = refl; each = All-nil _; part = inl (omega arith) }
none_fed (Line limit) served = (refl, refl)
none_fed Stream served = (record { whole = refl; each = All-nil _ }, refl)

-- one more chunk tells more messages, and leaves another rest
pub one_more : (mode : Mode) → IsServed mode → (bytes chunk : List ℕ) (ms ns : List Message) (r s : List ℕ) →
    Unframes mode bytes ms r → Unframes mode (r ++ chunk) ns s → Unframes mode (bytes ++ chunk) (ms ++ ns) s
one_more Packet1 served bytes chunk ms ns r s first next = packets_more Packet1 bytes chunk ms ns r s first next
one_more Packet2 served bytes chunk ms ns r s first next = packets_more Packet2 bytes chunk ms ns r s first next
one_more Packet4 served bytes chunk ms ns r s first next = packets_more Packet4 bytes chunk ms ns r s first next
one_more (Line limit) served bytes chunk ms ns r s first next = (
  ap (λ xs. xs ++ ns) first.0
      ∙ ap (λ xs. line_messages limit bytes ++ xs) (next.0 ∙ ap (λ xs. line_messages limit (xs ++ chunk)) first.1)
      ∙ sym (line_messages_more limit bytes chunk served.0),
  next.1 ∙ ap (λ xs. line_rest limit (xs ++ chunk)) first.1 ∙ sym (line_rest_more limit bytes chunk served.0),
)
one_more Stream served bytes chunk ms ns r s first next = (
  record {
    whole = ap (λ xs. xs ++ chunk) first.0.whole
        ∙ ap (λ xs. flat_map (λ (m : Message). m.bytes) ms ++ xs) (ap (λ xs. xs ++ chunk) (sym first.1) ∙ next.0.whole)
        ∙ sym (flat_map-append (λ (m : Message). m.bytes) ms ns);
    each = All-append IsStreamed ms ns first.0.each next.0.each;
  },
  next.1,
)

-- a refusal at one more chunk is one over all bytes
pub one_more_refused : (mode : Mode) → (bytes chunk : List ℕ) (ms : List Message) (r : List ℕ) (len : ℕ) →
    Unframes mode bytes ms r → HasOversize mode (r ++ chunk) len → HasOversize mode (bytes ++ chunk) len
one_more_refused Packet1 bytes chunk ms r len first next = oversize_more Packet1 bytes chunk ms r len first next
one_more_refused Packet2 bytes chunk ms r len first next = oversize_more Packet2 bytes chunk ms r len first next
one_more_refused Packet4 bytes chunk ms r len first next = oversize_more Packet4 bytes chunk ms r len first next
one_more_refused (Line limit) bytes chunk ms r len first next = next
one_more_refused Stream bytes chunk ms r len first next = next

-- a refusal stays one, whatever comes
pub stays_refused : (mode : Mode) → (bytes chunk : List ℕ) (len : ℕ) → HasOversize mode bytes len → HasOversize mode (bytes ++ chunk) len
stays_refused Packet1 bytes chunk len was = oversize_stays Packet1 bytes chunk len was
stays_refused Packet2 bytes chunk len was = oversize_stays Packet2 bytes chunk len was
stays_refused Packet4 bytes chunk len was = oversize_stays Packet4 bytes chunk len was
stays_refused (Line limit) bytes chunk len was = was
stays_refused Stream bytes chunk len was = was

-- bytes that were told aren't refused
pub told_not_refused : (mode : Mode) → (bytes : List ℕ) (ms : List Message) (rest : List ℕ) (len : ℕ) →
    Unframes mode bytes ms rest → HasOversize mode bytes len → ⊥
told_not_refused Packet1 bytes ms rest len told refused = no_oversize Packet1 bytes ms rest len (omega arith) told refused
told_not_refused Packet2 bytes ms rest len told refused = no_oversize Packet2 bytes ms rest len (omega arith) told refused
told_not_refused Packet4 bytes ms rest len told refused = no_oversize Packet4 bytes ms rest len (omega arith) told refused
told_not_refused (Line limit) bytes ms rest len told refused = refused
told_not_refused Stream bytes ms rest len told refused = refused

-- the messages so far are those of all bytes so far
pub told_so_far : (mode : Mode) → (bytes : List ℕ) (ms : List Message) (rest : List ℕ) →
    Unframes mode bytes ms rest → IsMessages mode bytes false ms
told_so_far Packet1 bytes ms rest told = packets_told Packet1 bytes ms rest (omega arith) told
told_so_far Packet2 bytes ms rest told = packets_told Packet2 bytes ms rest (omega arith) told
told_so_far Packet4 bytes ms rest told = packets_told Packet4 bytes ms rest (omega arith) told
told_so_far (Line limit) bytes ms rest told = told.0 ∙ sym (append-nil (line_messages limit bytes))
told_so_far Stream bytes ms rest told = told.0

-- with the last message they are those of bytes that have ended
pub told_at_end : (mode : Mode) → (bytes : List ℕ) (ms : List Message) (rest : List ℕ) →
    Unframes mode bytes ms rest → IsMessages mode bytes true (ms ++ last_message mode rest)
told_at_end Packet1 bytes ms rest told = rw (append-nil ms) (packets_told Packet1 bytes ms rest (omega arith) told)
told_at_end Packet2 bytes ms rest told = rw (append-nil ms) (packets_told Packet2 bytes ms rest (omega arith) told)
told_at_end Packet4 bytes ms rest told = rw (append-nil ms) (packets_told Packet4 bytes ms rest (omega arith) told)
told_at_end (Line limit) bytes ms rest told =
    ap (λ xs. xs ++ last_message (Line limit) rest) told.0 ∙ ap (λ xs. line_messages limit bytes ++ last_message (Line limit) xs) told.1
told_at_end Stream bytes ms rest told = rw (append-nil ms) told.0

-- the rest is a function of all bytes
pub rest_is : (mode : Mode) → (bytes : List ℕ) (ms : List Message) (rest : List ℕ) → Unframes mode bytes ms rest → rest ≡ rest_of mode bytes
rest_is Packet1 bytes ms rest told = sym (packet_messages_is Packet1 bytes ms rest (omega arith) told).1
rest_is Packet2 bytes ms rest told = sym (packet_messages_is Packet2 bytes ms rest (omega arith) told).1
rest_is Packet4 bytes ms rest told = sym (packet_messages_is Packet4 bytes ms rest (omega arith) told).1
rest_is (Line limit) bytes ms rest told = told.1
rest_is Stream bytes ms rest told = told.1

-- so are the messages, but in stream mode
pub messages_are : (mode : Mode) → IsFixed mode → (bytes : List ℕ) (ms : List Message) (rest : List ℕ) →
    Unframes mode bytes ms rest → ms ≡ messages_of mode bytes
messages_are Packet1 fixed bytes ms rest told = sym (packet_messages_is Packet1 bytes ms rest (omega arith) told).0
messages_are Packet2 fixed bytes ms rest told = sym (packet_messages_is Packet2 bytes ms rest (omega arith) told).0
messages_are Packet4 fixed bytes ms rest told = sym (packet_messages_is Packet4 bytes ms rest (omega arith) told).0
messages_are (Line limit) fixed bytes ms rest told = told.0
messages_are Stream fixed bytes ms rest told = absurd fixed

-- and the definition of messages has one answer for the same bytes, but in stream mode
pub one_answer : (mode : Mode) → IsFixed mode → (bytes : List ℕ) (ended : Bool) (ms ns : List Message) →
    IsMessages mode bytes ended ms → IsMessages mode bytes ended ns → ms ≡ ns
one_answer Packet1 fixed bytes ended ms ns first second = one_packets Packet1 bytes ms ns (omega arith) first second
one_answer Packet2 fixed bytes ended ms ns first second = one_packets Packet2 bytes ms ns (omega arith) first second
one_answer Packet4 fixed bytes ended ms ns first second = one_packets Packet4 bytes ms ns (omega arith) first second
one_answer (Line limit) fixed bytes ended ms ns first second = first ∙ sym second
one_answer Stream fixed bytes ended ms ns first second = absurd fixed

-- what an unframer holds is what it may hold
pub rest_held : (mode : Mode) → IsServed mode → (bytes : List ℕ) (ms : List Message) (rest : List ℕ) → Unframes mode bytes ms rest → IsHeld mode rest
rest_held Packet1 served bytes ms rest told = tt
rest_held Packet2 served bytes ms rest told = tt
rest_held Packet4 served bytes ms rest told = tt
rest_held (Line limit) served bytes ms rest told = rw told.1 (rest_open limit bytes served.0)
rest_held Stream served bytes ms rest told = told.1
