use Rattle.std.proofs.Common.{◌≡◌, [], ◌∷◌, refl, ap, ◌∙◌, arith, codes}
use Rattle.std.specs.Prelude.{pos}
use Rattle.std.specs.Int.{w64}
use Rattle.std.proofs.lemmas.Int.{to_z_pos}
use Rattle.port_terms.specs.declared.values.Term.TheVariants.{Int, Atom}
use Rattle.port_terms.specs.Tree.{tuple, forest}
use Rattle.port_terms.specs.View.{trees}
use Rattle.port_terms.specs.Written.{external}
use Rattle.driver_model.specs.Tally.{tally_term}
use Rattle.sample_drivers.proofs.Tallies.{name-chars}
use Rattle.sample_drivers.proofs.tally.term.Goals as goal

pub unreachable-requires : goal.unreachable-requires
unreachable-requires c =
    let e = rw name-chars at c.in-Err-TooLong.ensures.fits in
    let f = e (omega arith) in
    absurd cc

pub returns : goal.returns
returns c =
    let name = c.in-Ok.ensures.name ∙ name-chars in
    let pc = to_z_pos w64 c.args.commands c.requires.commands in
    let pb = to_z_pos w64 c.args.bytes c.requires.bytes in
    let items : c.push-3.new.self.items ≡ Atom (codes "tally") ∷ Int (pos c.args.commands) ∷ Int (pos c.args.bytes) ∷ [] =
    c.in_ok-push-3.ensures.items ∙ rw (c.in_ok-push-2.ensures.items, c.in_ok-push.ensures.items, c.in_ok-parts.ensures.items, name, pc, pb) refl in
    let e : c.in-Ok-encode.form.items ≡ tally_term c.args.commands c.args.bytes = c.in-Ok-encode.ensures.written ∙ ap (λ ts. external (tuple ts)) (c.terms.ensures ∙ ap (λ xs. forest (trees xs)) items) in
    rw e at c.of_vec.ensures
