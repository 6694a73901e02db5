use Rattle.std.proofs.Common.{Some, ap, sym, ◌∙◌, refl}
use Rattle.spawn_driver.specs.Serving.{Serving, SpawnView}
use Rattle.spawn_driver.proofs.Callbacks.{Ended-program, started-has}
use Rattle.spawn_driver.proofs.driver.SpawnDriverDriver.stop.Goals.{in-Some, in_default}
use Rattle.spawn_driver.proofs.driver.SpawnDriverDriver.stop.Goals as goal

pub returns-clause-ended : goal.returns-clause-ended
returns-clause-ended g c = elim c.match-self.branch [
  | (in-Some w) ↦
      let program = sym (ap (λ (v : SpawnView). v.program) c.self.view_is) ∙ (w.in-Some.is ∙ ap Some (sym w.program.view_is)) in
      let stopped : Serving = record {
        child = g.S.Program.Child.shows w.stop.new.self;
        faults = g.S.Program.Child.faults w.stop.new.self;
        kept = w.program.inside.kept;
      } in
      rw w.self-inside-is (Ended-program _ (Some stopped) _ stopped program refl refl w.stop.ensures.stop)
  | (in_default w) ↦
      absurd (started-has _ _ c.self.invariant (ap (λ (v : SpawnView). v.life) c.self.view_is ∙ c.requires.started) w.in_default.is)
]
