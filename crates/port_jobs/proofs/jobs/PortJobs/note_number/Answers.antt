use Rattle.std.proofs.Common.{◌≡◌, ℕ, ◌∷◌, ◌||◌, eqb, sym, ap, ◌∙◌, subst}
use Rattle.std.specs.BTreeSet.{keys}
use Rattle.port_history.specs.Jobs.{is_done}
use Rattle.port_jobs.specs.Jobs.{Agrees}
use Rattle.port_jobs.proofs.Counts.{agrees, adds-told, was-fresh, was-known, counted-told, counted-late, counted-known}
use Rattle.port_jobs.proofs.jobs.PortJobs.note_number.Goals as goal
use Rattle.port_jobs.proofs.jobs.PortJobs.note_number.Goals.{else-branch-via-then-branch+else-number-self, else-branch-via-else-branch}

pub overflow_sub-self : goal.overflow_sub-self
overflow_sub-self c =
    (counted-told c.self.inside.submitted c.self.inside.waiting c.args.number (keys c.self.inside.told) (keys c.insert.new.self) c.self.invariant (adds-told c.args.number c.self.inside.told c.insert.new.self c.in_ok-insert.ensures.updates.0)
    (was-fresh c.args.number c.self.inside.told _ c.in_ok-insert.ensures.added c.if-branch.true) c.if-number-self.true).1

pub invariant_of-self-then-number-self : goal.invariant_of-self-then-number-self
invariant_of-self-then-number-self c =
    (counted-told c.self.inside.submitted c.self.inside.waiting c.args.number (keys c.self.inside.told) (keys c.insert.new.self) c.self.invariant (adds-told c.args.number c.self.inside.told c.insert.new.self c.in_ok-insert.ensures.updates.0)
    (was-fresh c.args.number c.self.inside.told _ c.in_ok-insert.ensures.added c.if-branch.true) c.if-number-self.true).0

pub invariant_of-self-else-number-self : goal.invariant_of-self-else-number-self
invariant_of-self-else-number-self c =
    counted-late c.self.inside.submitted c.self.inside.waiting c.args.number (keys c.self.inside.told) (keys c.insert.new.self) c.self.invariant (adds-told c.args.number c.self.inside.told c.insert.new.self c.in_ok-insert.ensures.updates.0) c.if-number-self.false

pub returns-then-number-self-clause-ok : goal.returns-then-number-self-clause-ok
returns-then-number-self-clause-ok c = λ jobs done is.
    let adds = adds-told c.args.number c.self.inside.told c.insert.new.self c.in_ok-insert.ensures.updates.0 in
    let was = subst (λ v. Agrees v jobs done) (sym c.self.view_is) is in
    agrees _ jobs (c.args.number ∷ done)
    (counted-told c.self.inside.submitted c.self.inside.waiting c.args.number (keys c.self.inside.told) (keys c.insert.new.self) c.self.invariant adds (was-fresh c.args.number c.self.inside.told _ c.in_ok-insert.ensures.added c.if-branch.true) c.if-number-self.true).0
    was.count was.numbers (λ m. adds m ∙ ap (λ b. eqb c.args.number m || b) (was.told m))

pub returns-else-branch-clause-ok : goal.returns-else-branch-clause-ok
returns-else-branch-clause-ok c = λ jobs done is.
    let adds = adds-told c.args.number c.self.inside.told c.insert.new.self c.in_ok-insert.ensures.updates.0 in
    let was = subst (λ v. Agrees v jobs done) (sym c.self.view_is) is in
    let told : (m : ℕ) → is_done m (keys c.insert.new.self) ≡ is_done m (c.args.number ∷ done) = λ m. adds m ∙ ap (λ b. eqb c.args.number m || b) (was.told m) in
    elim c.else-branch.branch [
      | else-branch-via-then-branch+else-number-self w ↦
          subst (λ v. Agrees v jobs (c.args.number ∷ done)) (sym w.self-is)
          (agrees _ jobs (c.args.number ∷ done) (counted-late c.self.inside.submitted c.self.inside.waiting c.args.number (keys c.self.inside.told) (keys c.insert.new.self) c.self.invariant adds w.if-number-self.false) was.count was.numbers told)
      | else-branch-via-else-branch w ↦
          subst (λ v. Agrees v jobs (c.args.number ∷ done)) (sym w.self-is)
          (agrees _ jobs (c.args.number ∷ done)
          (counted-known c.self.inside.submitted c.self.inside.waiting c.args.number (keys c.self.inside.told) (keys c.insert.new.self) c.self.invariant adds (was-known c.args.number c.self.inside.told _ c.in_ok-insert.ensures.added w.if-branch.false))
          was.count was.numbers told)
    ]
