-- Effects that are recorded one part after another.
use Rattle.std.proofs.Common.{◌≡◌, ◌+◌, ◌<◌, ℕ, List, [], ◌∷◌, ◌++◌, length, take, get_or, refl, sym, ◌∙◌, ap, append_assoc}
use Rattle.std.specs.Prelude.{map}
use Rattle.std.proofs.lemmas.List.{map_more}
use Rattle.packet_framing.specs.declared.message.Message.{Message as Unframed}
use Rattle.driver_model.specs.Spawn.{sent}
use Rattle.port_signal.specs.declared.outside.Outside.{Outside}
use Rattle.port_signal.specs.declared.outside.Outside.TheVariants.{End}
use Rattle.port_model.specs.declared.effect.Effect.{Effect}
use Rattle.port_model.specs.declared.effect.Effect.TheVariants.{Message, Eof, Status, Busy, Select, Unuse, Async, Watch, Reply, ReplyBadarg, Fail}
use Rattle.driver_model.specs.Drivers.{held_by, with_event, without_event}
use Rattle.port_driver.specs.Context.{Context}
use Rattle.spawn_driver.specs.Recorded.{with_effects, with_answers}
use Rattle.spawn_driver.specs.Steps.{queue_kept}

pub held_by-append : (xs ys : List Effect) (held : List ℕ) → held_by (xs ++ ys) held ≡ held_by ys (held_by xs held)
held_by-append [] ys held = refl
held_by-append (Message flag bytes ∷ xs) ys held = held_by-append xs ys held
held_by-append (Eof ∷ xs) ys held = held_by-append xs ys held
held_by-append (Status status ∷ xs) ys held = held_by-append xs ys held
held_by-append (Busy busy ∷ xs) ys held = held_by-append xs ys held
held_by-append (Select event dir on ∷ xs) ys held = held_by-append xs ys (with_event event held)
held_by-append (Unuse event ∷ xs) ys held = held_by-append xs ys (without_event event held)
held_by-append (Async number key code input ∷ xs) ys held = held_by-append xs ys held
held_by-append (Watch process ∷ xs) ys held = held_by-append xs ys held
held_by-append (Reply bytes ∷ xs) ys held = held_by-append xs ys held
held_by-append (ReplyBadarg ∷ xs) ys held = held_by-append xs ys held
held_by-append (Fail reason ∷ xs) ys held = held_by-append xs ys held

pub with_effects-append : (c : Context) (xs ys : List Effect) → with_effects (with_effects c xs) ys ≡ with_effects c (xs ++ ys)
with_effects-append c xs ys =
    ap (λ (es : List Effect). record c { effects = es; held = held_by ys (held_by xs c.held) }) (append_assoc c.effects xs ys)
    ∙ ap (λ (h : List ℕ). record c { effects = c.effects ++ (xs ++ ys); held = h }) (sym (held_by-append xs ys c.held))

-- the parts of the end of the output, one after another
pub ended-context : (c0 c1 c2 c3 c4 c5 : Context) (last eof status select fail : List Effect) (answers : List Outside) → c1 ≡ with_effects c0 last
    → c2 ≡ with_effects c1 eof → c3 ≡ record (with_effects c2 status) { queue = queue_kept answers c2.queue }
    → c4 ≡ with_effects c3 select → c5 ≡ with_effects c4 fail
    → with_answers c5 (End ∷ answers) ≡ record (with_effects c0 (last ++ (eof ++ (status ++ (select ++ fail))))) { queue = queue_kept answers c0.queue; outside = c0.outside ++ End ∷ answers }
ended-context c0 c1 c2 c3 c4 c5 last eof status select fail answers e1 e2 e3 e4 e5 =
    let two : c2 ≡ with_effects c0 (last ++ eof) = rw e1 at e2 ∙ with_effects-append c0 last eof in
    let three : c3 ≡ record (with_effects c0 ((last ++ eof) ++ status)) { queue = queue_kept answers c0.queue } =
    rw two at e3 ∙ ap (λ (c : Context). record c { queue = queue_kept answers c0.queue }) (with_effects-append c0 (last ++ eof) status) in
    let four : c4 ≡ record (with_effects c0 (((last ++ eof) ++ status) ++ select)) { queue = queue_kept answers c0.queue } =
    rw three at e4 ∙ ap (λ (c : Context). record c { queue = queue_kept answers c0.queue }) (with_effects-append c0 ((last ++ eof) ++ status) select) in
    let five : c5 ≡ record (with_effects c0 ((((last ++ eof) ++ status) ++ select) ++ fail)) { queue = queue_kept answers c0.queue } =
    rw four at e5 ∙ ap (λ (c : Context). record c { queue = queue_kept answers c0.queue }) (with_effects-append c0 (((last ++ eof) ++ status) ++ select) fail) in
    ap (λ (c : Context). with_answers c (End ∷ answers)) five ∙ ap (λ (es : List Effect). record (with_effects c0 es) { queue = queue_kept answers c0.queue; outside = c0.outside ++ End ∷ answers })
    (append_assoc ((last ++ eof) ++ status) select fail ∙ (append_assoc (last ++ eof) status (select ++ fail) ∙ append_assoc last eof (status ++ (select ++ fail))))

-- one message more was sent
pub sent-more : (c0 c1 c2 : Context) (ms : List Unframed) (i : ℕ) (m : Unframed) → i < length ms → m ≡ get_or ms i m → c1 ≡ with_effects c0 (map sent (take i ms))
    → c2 ≡ with_effects c1 (sent m ∷ []) → c2 ≡ with_effects c0 (map sent (take (i + 1) ms))
sent-more c0 c1 c2 ms i m within is first next =
    next ∙ (ap (λ (c : Context). with_effects c (sent m ∷ [])) first ∙ (with_effects-append c0 (map sent (take i ms)) (sent m ∷ [])
    ∙ ap (with_effects c0) (ap (λ (n : Unframed). map sent (take i ms) ++ sent n ∷ []) is ∙ sym (map_more sent ms i m within))))
