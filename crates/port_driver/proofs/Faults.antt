-- How counts of faults rise, one step after another.
use Rattle.std.proofs.Common.{◌≡◌, ◌≤◌, ◌+◌, ◌-◌, ◌^◌, ℕ, List, [], ◌∷◌, ◌++◌, zero-add, sym, ap, ◌∙◌, arith}
use Rattle.driver_model.specs.port_model.port_signal.declared.outside.Outside.{Outside}
use Rattle.driver_model.specs.port_model.port_signal.declared.outside.Outside.TheVariants.{Failed}
use Rattle.driver_model.specs.port_model.declared.row.Row.{Row}
use Rattle.driver_model.specs.port_model.declared.row.Row.TheVariants.{Handled}
use Rattle.port_driver.specs.Faults.{failures, failures_in, RisenBy, CountsFailures}

pub failures-append : (a b : List Outside) → failures (a ++ b) ≡ failures a + failures b
failures-append [] b = sym (zero-add (failures b))
failures-append (Failed ∷ a) b = let e = failures-append a b in omega (arith, e)
failures-append (answer ∷ a) b = failures-append a b

pub failures_in-append : (a b : List Row) → failures_in (a ++ b) ≡ failures_in a + failures_in b
failures_in-append [] b = sym (zero-add (failures_in b))
failures_in-append (Handled from seq task outside effects ∷ a) b = let e = failures_in-append a b in omega (arith, e)
failures_in-append (row ∷ a) b = failures_in-append a b

-- a count that doesn't fall, of no failure more
pub risen-none : (failed before after : ℕ) → before ≤ after → RisenBy (failed - failed) before after
risen-none failed before after rises = omega (arith, rises)

-- one step after another
pub risen-trans : (x y z before mid after : ℕ) → RisenBy (y - x) before mid → RisenBy (z - y) mid after → RisenBy (z - x) before after
risen-trans x y z before mid after p q = omega (arith, p, q)

-- failures that came behind others
pub risen-behind : (x y before mid after : ℕ) → RisenBy x before mid → RisenBy (y - x) mid after → RisenBy y before after
risen-behind x y before mid after p q = omega (arith, p, q)

-- a count that doesn't fall behind a rise
pub risen-on : (failed before mid after : ℕ) → RisenBy failed before mid → mid ≤ after → RisenBy failed before after
risen-on failed before mid after p q = omega (arith, p, q)

-- these answers came behind others
pub counts-answers : (old new answers : List Outside) (before after : ℕ) → new ≡ old ++ answers → RisenBy (failures answers) before after → CountsFailures old new before after
counts-answers old new answers before after e p =
    let f : failures new ≡ failures old + failures answers = ap failures e ∙ failures-append old answers in
    omega (arith, f, p)
