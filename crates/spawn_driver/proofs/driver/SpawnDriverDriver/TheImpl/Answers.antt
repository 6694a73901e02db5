use Rattle.std.proofs.Common.{ℕ, List, Option, refl}
use Rattle.std.proofs.lemmas.Result.{on_ok_weaker}
use Rattle.outside.specs.Children.{Stand}
use Rattle.port_signal.specs.declared.outside.Outside.{Outside}
use Rattle.port_driver.specs.Faults.{CountsFailures}
use Rattle.port_driver.proofs.Faults.{counts-answers}
use Rattle.spawn_driver.specs.Answered.{Answered}
use Rattle.spawn_driver.proofs.driver.SpawnDriverDriver.TheImpl.Goals as goal

answered-counts : (queue : List ℕ) (stand : Option Stand) (before after : ℕ) (old new : List Outside) → Answered queue stand before after old new → CountsFailures old new before after
answered-counts queue stand before after old new a = counts-answers old new a.answers before after a.outside a.faults

pub ready_input-tells : goal.ready_input-tells
ready_input-tells g x c = record {
  kept = record { kind = refl; faults = c.ensures.faults; stage_is = c.ensures.stage; room = c.ensures.room };
  counted = on_ok_weaker c.result (λ a. answered-counts _ _ _ _ _ _ a) c.ensures.answered;
  did = c.ensures.did;
}

pub ready_output-tells : goal.ready_output-tells
ready_output-tells g x c = record {
  kept = record { kind = refl; faults = c.ensures.faults; stage_is = c.ensures.stage; room = c.ensures.room };
  counted = on_ok_weaker c.result (λ a. answered-counts _ _ _ _ _ _ a) c.ensures.answered;
  did = c.ensures.did;
}
