-- Streams that are cut as a row tells.
use Rattle.std.proofs.Common.{◌≡◌, ◌≤◌, ◌<◌, ◌-◌, ℕ, List, [], ◌∷◌, ◌++◌, length, take, drop, Bool, true, false, ◌&&◌, Option, None, Some, IfSome, refl, sym, ◌∙◌, ap, arith, length-drop}
use Rattle.std.specs.Prelude.{map, nat_le, nat_lt, codes, is_none, if◌then◌else◌}
use Rattle.std.specs.Option.{is_some}
use Rattle.std.proofs.lemmas.Bool.{leb-true, ltb-true, eqb-true, le-ltb}
use Rattle.std.proofs.lemmas.List.{append-nil, append_cancel_left, take-append-drop, length-map, length-take-le}
use Rattle.std.proofs.lemmas.List.Elements.{All-nil, All-cons}
use Rattle.io_vector.specs.declared.flag.Flag.TheVariants.{Plain}
use Rattle.packet_framing.specs.declared.mode.Mode.{Mode}
use Rattle.packet_framing.specs.declared.mode.Mode.TheVariants.{Packet1, Packet2, Packet4, Line, Stream}
use Rattle.packet_framing.specs.declared.message.Message.{Message as Unframed}
use Rattle.packet_framing.specs.Lines.{message}
use Rattle.packet_framing.specs.Messages.{IsServed, IsStreamed, StreamMessages}
use Rattle.packet_framing.specs.Unframed.{Unframes}
use Rattle.packet_framing.specs.Unframed.{Unframed as Unframer}
use Rattle.port_signal.specs.declared.outside.Outside.TheVariants.{Got}
use Rattle.port_model.specs.declared.effect.Effect.{Effect}
use Rattle.port_model.specs.declared.effect.Effect.TheVariants.{Fail}
use Rattle.driver_model.specs.Calls.{ReadyInput, DriverCall, call_of, cut_of, Program, Running, Spawn}
use Rattle.driver_model.specs.Spawn.{is_cut, pieces, cut_into, plain_message, sent, brought, most_taken, is_fetch, taken_bytes, unended_bytes, is_refused}
use Rattle.port_driver.specs.Context.{Context}
use Rattle.port_driver.specs.Driven.{Did}
use Rattle.spawn_driver.specs.declared.unframing.Found.{Found}
use Rattle.spawn_driver.specs.declared.unframing.Found.TheVariants.{Messages, TooMany, Oversize}
use Rattle.spawn_driver.specs.Recorded.{with_answers}
use Rattle.spawn_driver.specs.Serving.{HoldsBack, rest_in}
use Rattle.spawn_driver.specs.Steps.{effects_in}
use Rattle.spawn_driver.specs.Told.{GoesOnBy, IsCutAs, ReceivesAsTold}
use Rattle.spawn_driver.proofs.Histories.{kept-is}
use Rattle.spawn_driver.proofs.Fetches.{Did-got}
use Rattle.spawn_driver.proofs.Silent.{Did-untold, silent, goes-on-by}

both : (a b : Bool) → (a && b) ≡ true → (a ≡ true) × (b ≡ true)
both true b e = (refl, e)
both false b e = absurd (cc)

-- the lengths of a cut
record Cuts (len : ℕ) (lens : List ℕ) (bytes : List ℕ) : Type 0 where
  some : 0 < len
  within : len ≤ length bytes
  others : is_cut lens (length (drop len bytes)) ≡ true

cuts : (len : ℕ) (lens bytes : List ℕ) → is_cut (len ∷ lens) (length bytes) ≡ true → Cuts len lens bytes
cuts len lens bytes e =
    let one = both (nat_lt 0 len && nat_le len (length bytes)) (is_cut lens (length bytes - len)) e in
    let two = both (nat_lt 0 len) (nat_le len (length bytes)) one.0 in
    record {
      some = ltb-true 0 len two.0;
      within = leb-true len (length bytes) two.1;
      others = ap (is_cut lens) (length-drop len bytes) ∙ one.1;
    }

none-left : (bytes : List ℕ) → length bytes ≡ 0 → bytes ≡ []
none-left [] none = refl
none-left (byte ∷ bytes) none = absurd (omega arith)

-- pieces make up the bytes, and none is empty
pieces-streamed : (cut bytes : List ℕ) → is_cut cut (length bytes) ≡ true → StreamMessages bytes (map (message Plain) (pieces cut bytes))
pieces-streamed [] bytes e = record { whole = none-left bytes (eqb-true (length bytes) 0 e); each = All-nil _ }
pieces-streamed (len ∷ lens) bytes e =
    let c = cuts len lens bytes e in
    let more = pieces-streamed lens (drop len bytes) c.others in
    let size : length (take len bytes) ≡ len = length-take-le len bytes c.within in
    record {
      whole = sym (take-append-drop len bytes) ∙ ap (λ (xs : List ℕ). take len bytes ++ xs) more.whole;
      each = All-cons IsStreamed (message Plain (take len bytes)) (map (message Plain) (pieces lens (drop len bytes))) (refl, omega (arith, size, c.some)) more.each;
    }

-- and so are no more than the bytes
pieces-few : (cut bytes : List ℕ) → is_cut cut (length bytes) ≡ true → length (pieces cut bytes) ≤ length bytes
pieces-few [] bytes e = omega arith
pieces-few (len ∷ lens) bytes e =
    let c = cuts len lens bytes e in
    let more = pieces-few lens (drop len bytes) c.others in
    omega (arith, more, c.some, c.within, length-drop len bytes)

cut-streamed : (cut bytes : List ℕ) → 0 < length bytes → StreamMessages bytes (map (message Plain) (cut_into cut bytes))
cut-streamed cut bytes some =
    elim (is_cut cut (length bytes)) as (λ (b : Bool). is_cut cut (length bytes) ≡ b → StreamMessages bytes (map (message Plain) (cut_into cut bytes))) [
      | true ↦ λ e. rw e (pieces-streamed cut bytes e)
      | false ↦ λ e. rw e (record { whole = sym (append-nil bytes); each = All-cons IsStreamed (message Plain bytes) [] (refl, some) (All-nil _) })
    ] refl

cut-short : (cut bytes : List ℕ) → 0 < length bytes → length (cut_into cut bytes) ≤ length bytes
cut-short cut bytes some =
    elim (is_cut cut (length bytes)) as (λ (b : Bool). is_cut cut (length bytes) ≡ b → length (cut_into cut bytes) ≤ length bytes) [
      | true ↦ λ e. rw e (pieces-few cut bytes e)
      | false ↦ λ e. rw e (omega (arith, some))
    ] refl

pub cut-few : (cut bytes : List ℕ) (ms : List Unframed) → 0 < length bytes → length bytes ≤ 65536 → ms ≡ map (message Plain) (cut_into cut bytes)
    → length (map sent ms) ≤ 131000
cut-few cut bytes ms some within is =
    let short = cut-short cut bytes some in
    let size : length ms ≡ length (cut_into cut bytes) = ap length is ∙ length-map (cut_into cut bytes) (message Plain) in
    omega (arith, length-map ms sent, size, short)

-- an unframer of a stream might have told them
pub cut-unframes : (mode : Mode) (cut bytes rest : List ℕ) (ms : List Unframed) → mode ≡ Stream → rest ≡ [] → 0 < length bytes → ms ≡ map (message Plain) (cut_into cut bytes)
    → Unframes mode (rest ++ bytes) ms rest
cut-unframes mode cut bytes rest ms stream none some is = rw (stream, none, is) (cut-streamed cut bytes some, refl)

pub some-not-none : (o : Option Unframer) → is_some o ≡ true → is_none o ≡ false
some-not-none None some = absurd (cc)
some-not-none (Some u) some = refl

stream-holds-none : (mode : Mode) (held : List ℕ) → mode ≡ Stream → HoldsBack mode held → held ≡ []
stream-holds-none Stream held stream holds = holds
stream-holds-none Packet1 held stream holds = absurd (cc)
stream-holds-none Packet2 held stream holds = absurd (cc)
stream-holds-none Packet4 held stream holds = absurd (cc)
stream-holds-none (Line limit) held stream holds = absurd (cc)

pub holds-none : (mode : Mode) (o : Option Unframer) → mode ≡ Stream
    → IfSome o (λ (u : Unframer). (u.mode ≡ mode) × (u.oversize ≡ None) × HoldsBack u.mode u.held) → rest_in o ≡ []
holds-none mode None stream holds = refl
holds-none mode (Some u) stream holds = stream-holds-none u.mode u.held (holds.0 ∙ stream) holds.2

pub not-many : (taken : ℕ) → taken ≤ most_taken → nat_lt most_taken taken ≡ false
not-many taken few = le-ltb most_taken taken few

-- the effects of bytes that were taken, if these are the messages
abbrev effects_with : Bool → Bool → List Effect → List Effect
effects_with many refused messages = if many then Fail (codes "enospc") ∷ [] else (if refused then Fail (codes "emsgsize") ∷ [] else messages)

no-failure : {P : Type 0} (reason : List ℕ) (xs : List (List ℕ)) → Fail reason ∷ [] ≡ map plain_message xs → P
no-failure reason [] e = absurd (cc)
no-failure reason (x ∷ xs) e = absurd (cc)

sent-plain : (xs : List (List ℕ)) → map sent (map (message Plain) xs) ≡ map plain_message xs
sent-plain [] = refl
sent-plain (x ∷ xs) = ap (λ (es : List Effect). plain_message x ∷ es) (sent-plain xs)

stream-recut : (cut row bytes : List ℕ) (found : Found) → IsCutAs Stream row bytes found → effects_in found ≡ map plain_message (cut_into cut bytes)
    → map plain_message (cut_into cut bytes) ≡ map plain_message (cut_into row bytes)
stream-recut cut row bytes (Messages messages) is e = sym e ∙ (ap (map sent) is ∙ sent-plain (cut_into row bytes))
stream-recut cut row bytes TooMany is e = no-failure (codes "enospc") (cut_into cut bytes) e
stream-recut cut row bytes Oversize is e = no-failure (codes "emsgsize") (cut_into cut bytes) e

-- the effects are those of the row's cut
got-recut : (mode : Mode) (many refused : Bool) (cut row before bytes : List ℕ) (found : Found) → IsCutAs mode row bytes found
    → effects_in found ≡ effects_with many refused (brought mode cut before bytes)
    → effects_with many refused (brought mode cut before bytes) ≡ effects_with many refused (brought mode row before bytes)
got-recut mode true refused cut row before bytes found is e = refl
got-recut mode false true cut row before bytes found is e = refl
got-recut Packet1 false false cut row before bytes found is e = refl
got-recut Packet2 false false cut row before bytes found is e = refl
got-recut Packet4 false false cut row before bytes found is e = refl
got-recut (Line limit) false false cut row before bytes found is e = refl
got-recut Stream false false cut row before bytes found is e = stream-recut cut row bytes found is e

-- bytes were taken
pub got-told : (event : ℕ) (bytes : List ℕ) (row : List Effect) (old new : Program) (before after : Context) → IsServed old.config.mode → is_fetch (length bytes) ≡ true
    → ReceivesAsTold bytes row old new before after → GoesOnBy (ReadyInput event) (Got bytes ∷ []) row old new before after
got-told event bytes row old new before after served fetched r =
    let size = both (nat_le 1 (length bytes)) (nat_le (length bytes) 65536) fetched in
    let d : Did Spawn (ReadyInput event) (Running old) (Running new) None None before (with_answers after (Got bytes ∷ [])) [] =
    Did-untold (ReadyInput event) old new before (with_answers after (Got bytes ∷ [])) [] (λ command given' fetched over. silent command given' (fetched ++ bytes) over)
    (λ command given' fetched over.
    Did-got event bytes (silent command given' fetched over) (silent command given' (fetched ++ bytes) over) old new before (with_answers after (Got bytes ∷ [])) served
    (leb-true 1 (length bytes) size.0) (leb-true (length bytes) 65536 size.1) (record { shown = refl; stand = refl }) r.receives) in
    let found = r.receives.found in
    let added : d.added ++ [] ≡ effects_in found =
    append-nil d.added ∙ append_cancel_left before.effects d.added (effects_in found) (sym d.effects ∙ ap (λ (c : Context). c.effects) r.receives.context) in
    goes-on-by (ReadyInput event) (Got bytes ∷ []) row old new before after d (ap (λ (c : Context). c.outside) r.receives.context)
    (λ config earlier stands is.
    let kept = kept-is config earlier old before.queue stands.holds in
    let cut = rw (ap (λ (p : Program). p.config.mode) kept.0) at r.cut in
    let call : DriverCall = call_of (ReadyInput event) before.caller (Got bytes ∷ []) row in
    got-recut config.mode (nat_lt most_taken (length (taken_bytes (call ∷ earlier)))) (is_refused config (call ∷ earlier)) (cut_of (d.added ++ [])) (cut_of row) (unended_bytes earlier)
    bytes found cut (sym added ∙ is))
