use Rattle.std.proofs.Common.{◌≡◌, drop}
use Rattle.port_config.specs.Config.{plain}
use Rattle.gateway_script.specs.Options.{set_all}
use Rattle.gateway_script.proofs.config.config_of.Given as goal

-- what the options that are left say of the options so far
abbrev pub invariant-loop-option : goal.invariant-loop-option
invariant-loop-option l = set_all (drop l.option-index l.option-items) l.config ≡ set_all l.option-items plain
