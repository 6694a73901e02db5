-- The messages of bytes that come in chunks.
use Rattle.std.proofs.Common.{◌≡◌, ◌-◌, ◌<◌, ◌≤◌, ℕ, List, [], ◌∷◌, ◌++◌, length, take, drop, map, true, false, ◌&&◌, cond, refl, sym, ◌∙◌, ap, arith, length-drop}
use Rattle.std.specs.Prelude.{nat_le, nat_lt}
use Rattle.std.specs.List.{flat_map}
use Rattle.std.proofs.lemmas.Bool.{and_parts, leb-true, ltb-true, eqb-true}
use Rattle.std.proofs.lemmas.List.{append-nil, take-append-drop, drop_at, length-take-le}
use Rattle.std.proofs.lemmas.List.Concat.{flat_map-append}
use Rattle.std.proofs.lemmas.List.Elements.{All-append, All-nil, All-cons}
use Rattle.driver_model.specs.port_model.io_vector.declared.flag.Flag.TheVariants.{Plain}
use Rattle.packet_framing.specs.declared.mode.Mode.{Mode}
use Rattle.packet_framing.specs.declared.mode.Mode.TheVariants.{Packet1, Packet2, Packet4, Line, Stream}
use Rattle.packet_framing.specs.declared.message.Message.{Message}
use Rattle.packet_framing.specs.Lines.{message}
use Rattle.packet_framing.specs.Messages.{IsServed, IsStreamed, StreamMessages, messages_of, rest_of, last_message}
use Rattle.driver_model.specs.port_config.Config.{is_served}
use Rattle.driver_model.specs.port_model.declared.effect.Effect.{Effect}
use Rattle.driver_model.specs.port_model.declared.effect.Effect.TheVariants.{Message as Data}
use Rattle.driver_model.specs.Spawn.{is_cut, pieces, cut_into, sent, plain_message, brought}
use Rattle.unframed_output.specs.Output.{messages_in, unframed}
use Rattle.unframed_output.specs.Laws.{AreMessages}
use Rattle.spawn_driver.proofs.Rests.{messages_of-append}

pub messages_in-append : (effects more : List Effect) → messages_in (effects ++ more) ≡ messages_in effects ++ messages_in more
messages_in-append [] more = refl
messages_in-append (Data flag bytes ∷ effects) more = ap (λ ms. message flag bytes ∷ ms) (messages_in-append effects more)
messages_in-append (effect ∷ effects) more = messages_in-append effects more

pub messages_in-sent : (messages : List Message) → messages_in (map sent messages) ≡ messages
messages_in-sent [] = refl
messages_in-sent (m ∷ messages) = ap (λ ms. m ∷ ms) (messages_in-sent messages)

messages_in-plain : (ps : List (List ℕ)) → messages_in (map plain_message ps) ≡ map (message Plain) ps
messages_in-plain [] = refl
messages_in-plain (p ∷ ps) = ap (λ ms. message Plain p ∷ ms) (messages_in-plain ps)

-- a mode that passes the test can be served
pub is-served : (mode : Mode) → is_served mode ≡ true → IsServed mode
is-served Packet1 e = tt
is-served Packet2 e = tt
is-served Packet4 e = tt
is-served (Line limit) e =
    let parts = and_parts (nat_le 1 limit) (nat_le limit 262143) e in
    (leb-true 1 limit parts.0, leb-true limit 262143 parts.1)
is-served Stream e = tt

-- no bytes have no messages
pub none-came : (mode : Mode) → AreMessages mode [] false []
none-came Packet1 = refl
none-came Packet2 = refl
none-came Packet4 = refl
none-came (Line limit) = refl
none-came Stream = record { whole = refl; each = All-nil _ }

-- the pieces of a stream are its bytes, and none is empty
are-pieces : (lens bytes : List ℕ) → is_cut lens (length bytes) ≡ true → StreamMessages bytes (map (message Plain) (pieces lens bytes))
are-pieces [] [] cut = record { whole = refl; each = All-nil _ }
are-pieces [] (byte ∷ bytes) cut = absurd (let h = eqb-true (length (byte ∷ bytes)) 0 cut in omega (arith, h))
are-pieces (len ∷ lens) bytes cut =
    let front = and_parts (nat_lt 0 len && nat_le len (length bytes)) (is_cut lens (length bytes - len)) cut in
    let some = and_parts (nat_lt 0 len) (nat_le len (length bytes)) front.0 in
    let positive : 0 < len = ltb-true 0 len some.0 in
    let within : len ≤ length bytes = leb-true len (length bytes) some.1 in
    let others = are-pieces lens (drop len bytes) (ap (is_cut lens) (length-drop len bytes) ∙ front.1) in
    record {
      whole = sym (take-append-drop len bytes) ∙ ap (λ xs. take len bytes ++ xs) others.whole;
      each = All-cons IsStreamed (message Plain (take len bytes)) (map (message Plain) (pieces lens (drop len bytes))) (refl, omega (arith, length-take-le len bytes within)) others.each;
    }

are-cut : (cut bytes : List ℕ) → 0 < length bytes → StreamMessages bytes (map (message Plain) (cut_into cut bytes))
are-cut cut bytes some =
    elim (is_cut cut (length bytes)) as (λ b. is_cut cut (length bytes) ≡ b → StreamMessages bytes (map (message Plain) (cond b (pieces cut bytes) (bytes ∷ [])))) [
      | true ↦ λ e. are-pieces cut bytes e
      | false ↦ λ e. record { whole = sym (append-nil bytes); each = All-cons IsStreamed (message Plain bytes) [] (refl, some) (All-nil _) }
    ] refl

-- in packet and line mode the messages that a chunk brings go on behind those before
more-fixed : (mode : Mode) → IsServed mode → (before bytes : List ℕ) (messages : List Message) → messages ≡ unframed mode before false
    → messages ++ messages_in (map sent (drop (length (messages_of mode before)) (messages_of mode (before ++ bytes)))) ≡ unframed mode (before ++ bytes) false
more-fixed mode served before bytes messages are =
    let all = messages_of-append mode served before bytes in
    let later : List Message = messages_of mode (rest_of mode before ++ bytes) in
    let brings : drop (length (messages_of mode before)) (messages_of mode (before ++ bytes)) ≡ later =
    ap (drop (length (messages_of mode before))) all ∙ drop_at (messages_of mode before) later (length (messages_of mode before)) refl in
    ap (λ ms. ms ++ messages_in (map sent (drop (length (messages_of mode before)) (messages_of mode (before ++ bytes))))) (are ∙ append-nil (messages_of mode before))
    ∙ (ap (λ ms. messages_of mode before ++ ms) (messages_in-sent (drop (length (messages_of mode before)) (messages_of mode (before ++ bytes))) ∙ brings)
    ∙ (sym all ∙ sym (append-nil (messages_of mode (before ++ bytes)))))

-- what a chunk brings
pub more-came : (mode : Mode) → IsServed mode → (cut before bytes : List ℕ) (messages : List Message) → 0 < length bytes → AreMessages mode before false messages
    → AreMessages mode (before ++ bytes) false (messages ++ messages_in (brought mode cut before bytes))
more-came Packet1 served cut before bytes messages some are = more-fixed Packet1 served before bytes messages are
more-came Packet2 served cut before bytes messages some are = more-fixed Packet2 served before bytes messages are
more-came Packet4 served cut before bytes messages some are = more-fixed Packet4 served before bytes messages are
more-came (Line limit) served cut before bytes messages some are = more-fixed (Line limit) served before bytes messages are
more-came Stream served cut before bytes messages some are =
    rw (messages_in-plain (cut_into cut bytes)) (
    let now = are-cut cut bytes some in
    record {
      whole = ap (λ xs. xs ++ bytes) are.whole ∙ (ap (λ xs. flat_map (λ (m : Message). m.bytes) messages ++ xs) now.whole
          ∙ sym (flat_map-append (λ (m : Message). m.bytes) messages (map (message Plain) (cut_into cut bytes))));
      each = All-append IsStreamed messages (map (message Plain) (cut_into cut bytes)) are.each now.each;
    }
    )

end-fixed : (mode : Mode) (bytes : List ℕ) (messages : List Message) → messages ≡ unframed mode bytes false → messages ++ last_message mode (rest_of mode bytes) ≡ unframed mode bytes true
end-fixed mode bytes messages are = ap (λ ms. ms ++ last_message mode (rest_of mode bytes)) (are ∙ append-nil (messages_of mode bytes))

-- what the end brings
pub end-came : (mode : Mode) (bytes : List ℕ) (messages : List Message) → AreMessages mode bytes false messages → AreMessages mode bytes true (messages ++ last_message mode (rest_of mode bytes))
end-came Packet1 bytes messages are = end-fixed Packet1 bytes messages are
end-came Packet2 bytes messages are = end-fixed Packet2 bytes messages are
end-came Packet4 bytes messages are = end-fixed Packet4 bytes messages are
end-came (Line limit) bytes messages are = end-fixed (Line limit) bytes messages are
end-came Stream bytes messages are = rw (append-nil messages) are
