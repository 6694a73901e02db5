-- The options that a line writes keep those of a port in their ranges.
use Rattle.std.proofs.Common.{◌≡◌, List, [], ◌∷◌, All, true, ap, ◌∙◌, arith}
use Rattle.std.specs.Prelude.{◌&&◌, nat_le, min}
use Rattle.std.proofs.lemmas.Bool.{and_parts, le-leb}
use Rattle.std.proofs.lemmas.List.Elements.{All-head, All-tail}
use Rattle.port_config.specs.declared.config.Config.{Config}
use Rattle.port_config.specs.Config.{is_pair, is_served, is_config}
use Rattle.gateway_script.specs.declared.options.LimitPair.{LimitPair}
use Rattle.gateway_script.specs.declared.options.PortOption.{PortOption}
use Rattle.gateway_script.specs.declared.options.PortOption.TheVariants.{Msgq, MsgqOff, Run, Framing, Eof, ExitStatus, Busy}
use Rattle.gateway_script.specs.Options.{set, set_all}
use Rattle.gateway_script.specs.Ranges.{AreLimits, InOption}

pair_of : (limits : LimitPair) → AreLimits limits → is_pair (min limits.low limits.high) limits.high ≡ true
pair_of limits are =
    ap (λ b. b && nat_le (min limits.low limits.high) limits.high && nat_le limits.high 1073741824) (le-leb 1 (min limits.low limits.high) (omega (arith, are.low_from, are.high_from)))
    ∙ ap (λ b. b && nat_le limits.high 1073741824) (le-leb (min limits.low limits.high) limits.high (omega arith))
    ∙ le-leb limits.high 1073741824 are.high_to

-- the three parts of a config
pub record InRanges (config : Config) : Type 0 where
  pub mode : is_served config.mode ≡ true
  pub busy : is_pair config.busy_low config.busy_high ≡ true
  pub msgq : is_pair config.msgq_low config.msgq_high ≡ true

in_ranges : (config : Config) → is_config config ≡ true → InRanges config
in_ranges config e =
    let h = and_parts (is_served config.mode && is_pair config.busy_low config.busy_high) (is_pair config.msgq_low config.msgq_high) e in
    let i = and_parts (is_served config.mode) (is_pair config.busy_low config.busy_high) h.0 in
    record { mode = i.0; busy = i.1; msgq = h.1 }

of_ranges : (config : Config) → InRanges config → is_config config ≡ true
of_ranges config r =
    ap (λ b. b && is_pair config.busy_low config.busy_high && is_pair config.msgq_low config.msgq_high) r.mode
    ∙ ap (λ b. b && is_pair config.msgq_low config.msgq_high) r.busy
    ∙ r.msgq

set-ranges : (option : PortOption) (config : Config) → InOption option → InRanges config → InRanges (set option config)
set-ranges (Msgq limits) config is r = record { mode = r.mode; busy = r.busy; msgq = pair_of limits is }
set-ranges MsgqOff config is r = record { mode = r.mode; busy = r.busy; msgq = r.msgq }
set-ranges (Run command) config is r = record { mode = r.mode; busy = r.busy; msgq = r.msgq }
set-ranges (Framing mode) config is r = record { mode = is; busy = r.busy; msgq = r.msgq }
set-ranges Eof config is r = record { mode = r.mode; busy = r.busy; msgq = r.msgq }
set-ranges ExitStatus config is r = record { mode = r.mode; busy = r.busy; msgq = r.msgq }
set-ranges (Busy limits) config is r = record { mode = r.mode; busy = pair_of limits is; msgq = r.msgq }

set_all-ranges : (options : List PortOption) (config : Config) → All InOption options → InRanges config → InRanges (set_all options config)
set_all-ranges [] config all r = r
set_all-ranges (option ∷ options) config all r = set_all-ranges options (set option config) (All-tail InOption option options all) (set-ranges option config (All-head InOption option options all) r)

pub set_all-is_config : (options : List PortOption) (config : Config) → All InOption options → is_config config ≡ true → is_config (set_all options config) ≡ true
set_all-is_config options config all e = of_ranges (set_all options config) (set_all-ranges options config all (in_ranges config e))
