-- What the end of a program's output brings.
use Rattle.std.proofs.Common.{◌≡◌, ℕ, List, [], ◌∷◌, ◌++◌, drop, length, map, Bool, true, false, ◌||◌, cond, refl, ◌∙◌, ap, codes}
use Rattle.std.proofs.lemmas.List.{append-nil}
use Rattle.packet_framing.specs.declared.message.Message.{Message}
use Rattle.packet_framing.specs.Messages.{last_message, messages_of}
use Rattle.driver_model.specs.port_config.declared.config.Config.{Config}
use Rattle.driver_model.specs.port_signal.declared.outside.Outside.{Outside}
use Rattle.driver_model.specs.port_signal.declared.outside.Outside.TheVariants.{End, Failed, Status as ToldStatus}
use Rattle.driver_model.specs.port_model.declared.event.Dir.TheVariants.{Read}
use Rattle.driver_model.specs.port_model.declared.effect.Effect.{Effect}
use Rattle.driver_model.specs.port_model.declared.effect.Effect.TheVariants.{Eof, Fail, Select}
use Rattle.driver_model.specs.Calls.{DriverCall}
use Rattle.driver_model.specs.Spawn.{got_by, has_failed, read_event, rest, sent, plain_message, end_effects, status_effects, answers_fetch, brought, cut_into}
use Rattle.packet_framing.specs.declared.mode.Mode.{Mode}
use Rattle.packet_framing.specs.declared.mode.Mode.TheVariants.{Packet1, Packet2, Packet4, Line, Stream}
use Rattle.port_history.specs.Events.{Event, event_of, select, selected_by}
use Rattle.unframed_output.specs.Output.{messages_in}
use Rattle.unframed_output.proofs.Events.{selects_reading, selected_by-append, deselects}
use Rattle.unframed_output.proofs.Messages.{messages_in-append, messages_in-sent}
use Rattle.unframed_output.proofs.Calls.{AreBare, bare, maybe-bare, either-bare, selects-append}

pub sent-reads : (messages : List Message) → selects_reading (map sent messages) ≡ false
sent-reads [] = refl
sent-reads (m ∷ messages) = sent-reads messages

plain-reads : (ps : List (List ℕ)) → selects_reading (map plain_message ps) ≡ false
plain-reads [] = refl
plain-reads (p ∷ ps) = plain-reads ps

-- messages select nothing
pub brought-reads : (mode : Mode) (cut before bytes : List ℕ) → selects_reading (brought mode cut before bytes) ≡ false
brought-reads Stream cut before bytes = plain-reads (cut_into cut bytes)
brought-reads Packet1 cut before bytes = sent-reads (drop (length (messages_of Packet1 before)) (messages_of Packet1 (before ++ bytes)))
brought-reads Packet2 cut before bytes = sent-reads (drop (length (messages_of Packet2 before)) (messages_of Packet2 (before ++ bytes)))
brought-reads Packet4 cut before bytes = sent-reads (drop (length (messages_of Packet4 before)) (messages_of Packet4 (before ++ bytes)))
brought-reads (Line limit) cut before bytes = sent-reads (drop (length (messages_of (Line limit) before)) (messages_of (Line limit) (before ++ bytes)))

status-bare : (answers : List Outside) → AreBare (status_effects answers)
status-bare [] = bare [] refl refl
status-bare (ToldStatus status ∷ answers) = bare _ refl refl
status-bare (Failed ∷ answers) = bare _ refl refl
status-bare (answer ∷ answers) = bare [] refl refl

pub end-messages : (config : Config) (earlier : List DriverCall) (answers : List Outside) → messages_in (end_effects config earlier answers) ≡ last_message config.mode (rest config earlier)
end-messages config earlier answers =
    let messages = last_message config.mode (rest config earlier) in
    let eof : List Effect = cond config.eof (Eof ∷ []) [] in
    let status : List Effect = cond config.exit_status (status_effects answers) [] in
    let off : List Effect = Select (read_event earlier) Read false ∷ [] in
    let fail : List Effect = cond (config.eof || has_failed answers) [] (Fail (codes "normal") ∷ []) in
    let eof-none = (maybe-bare config.eof (Eof ∷ []) (bare _ refl refl)).messages in
    let status-none = (maybe-bare config.exit_status (status_effects answers) (status-bare answers)).messages in
    let fail-none = (either-bare (config.eof || has_failed answers) [] (Fail (codes "normal") ∷ []) (bare _ refl refl) (bare _ refl refl)).messages in
    messages_in-append (map sent messages ++ eof ++ status ++ off) fail ∙ (ap (λ ms. messages_in (map sent messages ++ eof ++ status ++ off) ++ ms) fail-none ∙ (append-nil _
    ∙ (messages_in-append (map sent messages ++ eof ++ status) off ∙ (append-nil _
    ∙ (messages_in-append (map sent messages ++ eof) status ∙ (ap (λ ms. messages_in (map sent messages ++ eof) ++ ms) status-none ∙ (append-nil _
    ∙ (messages_in-append (map sent messages) eof ∙ (ap (λ ms. messages_in (map sent messages) ++ ms) eof-none ∙ (append-nil _ ∙ messages_in-sent messages))))))))))

-- its front selects nothing for reading, and then the event is deselected
pub end-off : (config : Config) (earlier : List DriverCall) (answers : List Outside) (events : List Event)
    → (event_of (read_event earlier) (selected_by (end_effects config earlier answers) events)).reads ≡ false
end-off config earlier answers events =
    let messages = last_message config.mode (rest config earlier) in
    let eof : List Effect = cond config.eof (Eof ∷ []) [] in
    let status : List Effect = cond config.exit_status (status_effects answers) [] in
    let off : List Effect = Select (read_event earlier) Read false ∷ [] in
    let front : List Effect = map sent messages ++ eof ++ status in
    let fail : List Effect = cond (config.eof || has_failed answers) [] (Fail (codes "normal") ∷ []) in
    ap (λ es. (event_of (read_event earlier) es).reads)
    (selected_by-append (front ++ off) fail events ∙ (last (config.eof || has_failed answers) (selected_by (front ++ off) events) ∙ selected_by-append front off events))
    ∙ deselects (select Read false) (λ e. refl) (λ e. refl) (read_event earlier) (selected_by front events)
  where
    last : (b : Bool) (es : List Event) → selected_by (cond b [] (Fail (codes "normal") ∷ [])) es ≡ es
    last true es = refl
    last false es = refl

pub end-reads : (config : Config) (earlier : List DriverCall) (answers : List Outside) → selects_reading (end_effects config earlier answers) ≡ false
end-reads config earlier answers =
    let messages = last_message config.mode (rest config earlier) in
    let eof : List Effect = cond config.eof (Eof ∷ []) [] in
    let status : List Effect = cond config.exit_status (status_effects answers) [] in
    let off : List Effect = Select (read_event earlier) Read false ∷ [] in
    let fail : List Effect = cond (config.eof || has_failed answers) [] (Fail (codes "normal") ∷ []) in
    selects-append (map sent messages ++ eof ++ status ++ off) fail
    (selects-append (map sent messages ++ eof ++ status) off
    (selects-append (map sent messages ++ eof) status
    (selects-append (map sent messages) eof (sent-reads messages) (maybe-bare config.eof (Eof ∷ []) (bare _ refl refl)).reads)
    (maybe-bare config.exit_status (status_effects answers) (status-bare answers)).reads)
    refl)
    (either-bare (config.eof || has_failed answers) [] (Fail (codes "normal") ∷ []) (bare _ refl refl) (bare _ refl refl)).reads

-- the answers behind an end bring no bytes
pub end-answers : (asks : Bool) (answers : List Outside) → answers_fetch asks (End ∷ answers) ≡ true → got_by answers ≡ []
end-answers true (ToldStatus status ∷ []) answered = refl
end-answers true (Failed ∷ []) answered = refl
end-answers true answers answered = absurd (cc)
end-answers false [] answered = refl
end-answers false (answer ∷ answers) answered = absurd (cc)
