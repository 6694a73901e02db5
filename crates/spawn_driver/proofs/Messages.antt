-- The messages that a chunk brings, as the model cuts them.
use Rattle.std.proofs.Common.{◌≡◌, ◌+◌, ◌-◌, ℕ, List, [], ◌∷◌, ◌++◌, length, take, drop, All, true, refl, sym, ◌∙◌, ap, arith, length-append}
use Rattle.std.specs.Prelude.{map}
use Rattle.std.specs.List.{flat_map}
use Rattle.std.proofs.lemmas.Bool.{le-leb}
use Rattle.std.proofs.lemmas.List.{take_at, drop_at}
use Rattle.std.proofs.lemmas.List.Elements.{All-head, All-tail}
use Rattle.io_vector.specs.declared.flag.Flag.{Flag}
use Rattle.packet_framing.specs.declared.mode.Mode.{Mode}
use Rattle.packet_framing.specs.declared.mode.Mode.TheVariants.{Packet1, Packet2, Packet4, Line, Stream}
use Rattle.packet_framing.specs.declared.message.Message.{Message as Unframed}
use Rattle.packet_framing.specs.Messages.{IsServed, IsStreamed, messages_of, rest_of}
use Rattle.packet_framing.specs.Unframed.{Unframes}
use Rattle.packet_framing.proofs.Laws.{messages_are}
use Rattle.port_model.specs.declared.effect.Effect.TheVariants.{Message}
use Rattle.driver_model.specs.Calls.{cut_of}
use Rattle.driver_model.specs.Spawn.{is_cut, pieces, sent, plain_message, brought}
use Rattle.spawn_driver.proofs.Rests.{messages_of-append}

-- the lengths of a stream's messages cut the bytes into these
pieces-are : (ms : List Unframed) (bytes : List ℕ) → bytes ≡ flat_map (λ (m : Unframed). m.bytes) ms → All IsStreamed ms
    → (is_cut (cut_of (map sent ms)) (length bytes) ≡ true) × (map plain_message (pieces (cut_of (map sent ms)) bytes) ≡ map sent ms)
pieces-are [] bytes whole each = (rw whole refl, refl)
pieces-are (m ∷ ms) bytes whole each =
    let more : List ℕ = flat_map (λ (n : Unframed). n.bytes) ms in
    let here = All-head IsStreamed m ms each in
    let size : length bytes ≡ length m.bytes + length more = omega (arith, ap length whole, length-append m.bytes more) in
    let rest : length bytes - length m.bytes ≡ length more = omega arith in
    let others = pieces-are ms more refl (All-tail IsStreamed m ms each) in
    let front : take (length m.bytes) bytes ≡ m.bytes = ap (take (length m.bytes)) whole ∙ take_at m.bytes more (length m.bytes) refl in
    let back : drop (length m.bytes) bytes ≡ more = ap (drop (length m.bytes)) whole ∙ drop_at m.bytes more (length m.bytes) refl in (
      rw (le-leb 1 (length m.bytes) here.1, le-leb (length m.bytes) (length bytes) (omega arith), rest) others.0,
      ap (λ xs. plain_message xs ∷ map plain_message (pieces (cut_of (map sent ms)) (drop (length m.bytes) bytes))) front
          ∙ (ap (λ xs. plain_message m.bytes ∷ map plain_message (pieces (cut_of (map sent ms)) xs)) back
          ∙ (ap (λ xs. plain_message m.bytes ∷ xs) others.1 ∙ ap (λ (f : Flag). Message f m.bytes ∷ map sent ms) (sym here.0))),
    )

fixed-brought : (mode : Mode) → IsServed mode → (before bytes : List ℕ) (ms : List Unframed) → ms ≡ messages_of mode (rest_of mode before ++ bytes)
    → map sent ms ≡ map sent (drop (length (messages_of mode before)) (messages_of mode (before ++ bytes)))
fixed-brought mode served before bytes ms told =
    ap (map sent) (told ∙ sym (ap (drop (length (messages_of mode before))) (messages_of-append mode served before bytes)
    ∙ drop_at (messages_of mode before) (messages_of mode (rest_of mode before ++ bytes)) (length (messages_of mode before)) refl))

-- the messages that an unframer tells of a chunk are those that the chunk brings
pub brought-are : (mode : Mode) → IsServed mode → (before bytes : List ℕ) (ms : List Unframed) (rest : List ℕ) → Unframes mode (rest_of mode before ++ bytes) ms rest
    → map sent ms ≡ brought mode (cut_of (map sent ms)) before bytes
brought-are Packet1 served before bytes ms rest told = fixed-brought Packet1 served before bytes ms (messages_are Packet1 tt (rest_of Packet1 before ++ bytes) ms rest told)
brought-are Packet2 served before bytes ms rest told = fixed-brought Packet2 served before bytes ms (messages_are Packet2 tt (rest_of Packet2 before ++ bytes) ms rest told)
brought-are Packet4 served before bytes ms rest told = fixed-brought Packet4 served before bytes ms (messages_are Packet4 tt (rest_of Packet4 before ++ bytes) ms rest told)
brought-are (Line limit) served before bytes ms rest told =
    fixed-brought (Line limit) served before bytes ms (messages_are (Line limit) tt (rest_of (Line limit) before ++ bytes) ms rest told)
brought-are Stream served before bytes ms rest told =
    let p = pieces-are ms bytes told.0.whole told.0.each in
    rw p.0 (sym p.1)
