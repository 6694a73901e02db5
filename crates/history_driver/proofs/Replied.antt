-- What a callback leaves with its reply.
use Rattle.std.proofs.Common.{◌≡◌, List, [], ◌∷◌, ◌++◌, Option, ap, ◌∙◌, append_assoc, refl}
use Rattle.port_config.specs.declared.config.Config.{Config}
use Rattle.driver_model.specs.port_model.declared.effect.Effect.{Effect}
use Rattle.driver_model.specs.Calls.{Callback, DriverCall, Own, Kind}
use Rattle.driver_model.specs.Programs.{ToldProgram}
use Rattle.port_driver.specs.Context.{Context, did}
use Rattle.port_driver.specs.Driven.{Stands, Did}
use Rattle.history_driver.specs.Calling.{Made}

-- a driver that stands so in a context stands so in one of the same queue, events and jobs
pub Stands-in : (kind : Kind) (config : Config) (calls : List DriverCall) (own : Own) (program : Option ToldProgram) (old new : Context) → new.queue ≡ old.queue → new.held ≡ old.held
    → new.next_job ≡ old.next_job → Stands kind config calls own program old → Stands kind config calls own program new
Stands-in kind config calls own program old new q h n s = record {
  holds = rw q s.holds;
  jobs = rw n s.jobs;
  events = rw h s.events;
  told = s.told;
}

-- a callback whose reply is recorded behind what it did
pub Made-replied : (kind : Kind) (callback : Callback) (old_own new_own : Own) (old_program new_program : Option ToldProgram) (old mid new : Context) (answer : Effect)
    → Did kind callback old_own new_own old_program new_program old mid (answer ∷ []) → mid.caller ≡ old.caller → new ≡ did mid answer
    → Made kind callback old_own new_own old_program new_program old new
Made-replied kind callback old_own new_own old_program new_program old mid new answer d caller e = rw e (record {
  caller = caller;
  answers = d.answers;
  added = d.added ++ answer ∷ [];
  effects = ap (λ es. es ++ answer ∷ []) d.effects ∙ append_assoc old.effects d.added (answer ∷ []);
  follows = λ config earlier s.
      let f = d.follows config earlier s in
      record {
        stands = Stands-in kind config _ new_own new_program mid (did mid answer) refl refl refl f.stands;
        effects = f.effects;
        answered = f.answered;
      };
})
