use Rattle.std.proofs.Common.{ap}
use Rattle.std.proofs.lemmas.List.{get_or_default}
use Rattle.script_plan.specs.declared.decl.PortDecl.{PortDecl}
use Rattle.gateway.proofs.preparing.look_for_drivers.Goals as goal
use Rattle.gateway.proofs.preparing.look_for_drivers.Goals.{in-Ok, in-Err-NoDriver, in-Err-NoMemory}

pub returns-clause-found : goal.returns-clause-found
returns-clause-found g c = elim c.match-find_drivers.branch [
  | in-Ok w ↦ rw w.result-is (_, w.in-Ok.ensures.found)
  | in-Err-NoDriver w ↦ rw w.result-is tt
  | in-Err-NoMemory w ↦ rw w.result-is tt
]

pub returns-clause-lacking : goal.returns-clause-lacking
returns-clause-lacking g c = elim c.match-find_drivers.branch [
  | in-Ok w ↦ rw w.result-is tt
  | in-Err-NoDriver w ↦
      let lacks = rw w.in-Err-NoDriver.field-0-is at w.in-Err-NoDriver.ensures.lacking in
      rw w.result-is (record {
        at = w.in-Err-NoDriver.at;
        line_is = λ p. ap (λ (x : PortDecl). x.line) (get_or_default c.args.ports.now w.in-Err-NoDriver.at w.index-ports-at.result p lacks.within);
        lacks = lacks;
      })
  | in-Err-NoMemory w ↦ rw w.result-is tt
]
