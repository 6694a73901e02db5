use Rattle.std.proofs.Common.{◌≡◌, ◌<◌, ℕ, List, Bool, true, false, not, get_or, sym, ap, ◌∙◌, subst, arith}
use Rattle.std.proofs.lemmas.List.{get_or_read}
use Rattle.port_history.specs.port_model.declared.signal.Sender.TheVariants.{Process}
use Rattle.port_history.specs.Suspension.{Entry, has_sender}
use Rattle.suspend_list.specs.Entries.{Suspended, is_listed}
use Rattle.port_suspension.specs.Listed.{AgreesListed}
use Rattle.port_suspension.specs.Flags.{IsFlagged}
use Rattle.port_suspension.proofs.Listing.{has-listed}
use Rattle.port_suspension.proofs.Flagged.{flagged-more}
use Rattle.port_suspension.proofs.suspension.Suspension.list.Goals as goal

-- what a flag that was read tells of the list
listed-by : (flags : List Bool) (list : Suspended) (process : ℕ) (flag wanted : Bool) → IsFlagged flags list → process < list.places → flag ≡ get_or flags process flag → flag ≡ wanted → is_listed process list.entries ≡ wanted
listed-by flags list process flag wanted is within read value =
    sym (is.told process within) ∙ (sym (get_or_read flags process flag (omega (arith, is.places, within)) read false) ∙ value)

answer : (inside now : Suspended) (process : ℕ) (wanted : Bool) → inside ≡ now → is_listed process inside.entries ≡ wanted → (listed : List Entry) → AgreesListed now listed → not wanted ≡ not (has_sender (Process process) listed)
answer inside now process wanted same is listed agrees =
    ap not (sym (ap (has_sender (Process process)) (sym agrees) ∙ (has-listed process now.entries ∙ (ap (λ (v : Suspended). is_listed process v.entries) (sym same) ∙ is))))

pub returns-then-index-clause-value : goal.returns-then-index-clause-value
returns-then-index-clause-value c =
    let within = subst (λ v. c.args.process < v.places) (sym c.self.view_is) c.requires in
    answer c.self.inside.list c.args.self.now c.args.process true c.self.view_is
    (listed-by c.self.inside.is_listed.items c.self.inside.list c.args.process c.index.result.now true c.self.invariant within c.index.ensures c.if-index.true)

pub invariant_of-self : goal.invariant_of-self
invariant_of-self c =
    let within = subst (λ v. c.args.process < v.places) (sym c.self.view_is) c.requires in
    subst (IsFlagged _) (sym c.list.ensures)
    (flagged-more c.self.inside.is_listed.items c.self.inside.list _ c.self.invariant within
    (listed-by c.self.inside.is_listed.items c.self.inside.list c.args.process c.index.result.now false c.self.invariant within c.index.ensures c.if-index.false))

pub returns-clause-value : goal.returns-clause-value
returns-clause-value c =
    let within = subst (λ v. c.args.process < v.places) (sym c.self.view_is) c.requires in
    answer c.self.inside.list c.args.self.now c.args.process false c.self.view_is
    (listed-by c.self.inside.is_listed.items c.self.inside.list c.args.process c.index.result.now false c.self.invariant within c.index.ensures c.if-index.false)
