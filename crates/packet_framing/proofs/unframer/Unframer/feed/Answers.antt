use Rattle.std.proofs.Common.{◌++◌, ◌∙◌, ℕ, List, drop, sym, ap, subst}
use Rattle.packet_framing.specs.Messages.{rest_of}
use Rattle.packet_framing.specs.Unframed.{Unframed, Unframes}
use Rattle.packet_framing.proofs.Laws.{rest_is, rest_held}
use Rattle.packet_framing.proofs.unframer.Unframer.feed.Goals as goal

told : (c : goal.In_ok-hold-in-Ok) →
    Unframes c.self.inside.mode (c.self.inside.held.items ++ c.args.chunk.now) c.in-Ok.reading.messages.items c.hold.new.held.items
told c =
    let P : List ℕ → Type 0 = λ held.
    Unframes c.self.inside.mode (held ++ c.args.chunk.now) c.in-Ok.reading.messages.items (drop c.in-Ok.reading.rest (held ++ c.args.chunk.now)) in
    let Q : List ℕ → Type 0 =
    Unframes c.self.inside.mode (c.self.inside.held.items ++ c.args.chunk.now) c.in-Ok.reading.messages.items in
    subst Q (sym c.in_ok-hold-in-Ok.ensures.ok) (subst P c.as_slice.ensures.value c.in-Ok.ensures.messages)

pub invariant_of-self-in-Ok : goal.invariant_of-self-in-Ok
invariant_of-self-in-Ok c = (c.self.invariant.0, rest_held c.self.inside.mode c.self.invariant.0 _ _ _ (told c))

pub returns-in_ok-hold-in-Ok-clause-new : goal.returns-in_ok-hold-in-Ok-clause-new
returns-in_ok-hold-in-Ok-clause-new c =
    ap (λ h. let u : Unframed = record { mode = c.self.inside.mode; held = h; oversize = c.self.inside.oversize } in u)
    (rest_is c.self.inside.mode _ _ _ (told c))
    ∙ ap (λ (u : Unframed). record u { held = rest_of u.mode (u.held ++ c.args.chunk.now) }) c.self.view_is
