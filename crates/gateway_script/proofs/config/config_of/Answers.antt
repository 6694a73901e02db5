use Rattle.std.proofs.Common.{◌≡◌, refl, sym, ap, ◌∙◌, subst, true}
use Rattle.std.proofs.lemmas.List.{drop_all}
use Rattle.port_config.specs.declared.config.Config.{Config}
use Rattle.port_config.specs.Config.{plain, is_config}
use Rattle.gateway_script.specs.Options.{set_all}
use Rattle.gateway_script.proofs.Configs.{set_all-is_config}
use Rattle.gateway_script.proofs.config.config_of.Goals as goal

pub returns-clause-config : goal.returns-clause-config
returns-clause-config c =
    let items = c.as_slice-option-items.result.now in
    let config = c.loop-option.config in
    let end : config ≡ set_all items plain = ap (λ options. set_all options config) (sym (drop_all c.loop-option.option-index items c.loop-option-test.false)) ∙ c.loop-option.invariant in
    let whole : config ≡ set_all c.args.options.now plain = end ∙ ap (λ options. set_all options plain) c.as_slice-option-items.ensures in
    subst (λ (k : Config). is_config k ≡ true) (sym whole) (set_all-is_config c.args.options.now plain c.requires refl)
