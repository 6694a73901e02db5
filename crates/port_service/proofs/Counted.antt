-- The faults that the calls of a row counted.
use Rattle.std.proofs.Common.{◌≡◌, ◌≤◌, ◌-◌, ◌^◌, ℕ, List, [], ap, arith}
use Rattle.port_driver.specs.Context.{Context}
use Rattle.port_driver.specs.Faults.{failures, RisenBy, CountsFailures}
use Rattle.port_model.specs.port_signal.declared.outside.Outside.{Outside}

-- the same answers
pub counts-to : (old mid new : List Outside) (before after : ℕ) → new ≡ mid → CountsFailures old mid before after → CountsFailures old new before after
counts-to old mid new before after e p = rw e p

-- a row whose context began with no answers: what its callback and its flush counted
pub counts-row : (fresh called flushed : Context) (outside : List Outside) (before mid last after : ℕ) → fresh.outside ≡ [] → CountsFailures fresh.outside called.outside before mid
    → CountsFailures called.outside flushed.outside mid last → last ≤ after → outside ≡ flushed.outside → RisenBy (failures outside) before after
counts-row fresh called flushed outside before mid last after none p q rises e =
    let f : failures fresh.outside ≡ 0 = ap failures none in
    let o : failures outside ≡ failures flushed.outside = ap failures e in
    omega (arith, f, o, p, q, rises)
