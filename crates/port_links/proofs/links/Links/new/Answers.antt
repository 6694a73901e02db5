use Rattle.std.proofs.Common.{List, Bool, ◌∙◌, ap, set, true, false, length}
use Rattle.std.proofs.lemmas.List.{length-replicate}
use Rattle.port_links.specs.Flags.{set_flags}
use Rattle.port_links.proofs.Flags.{one-flag, no-flags, new-kept}
use Rattle.port_links.proofs.Views.{same-table}
use Rattle.port_links.proofs.links.Links.new.Goals as goal

pub invariant_of-result : goal.invariant_of-result
invariant_of-result c =
    new-kept c.args.owner c.args.processes _ _ _ (c.in_ok-linked.ensures.items_if_clones_equal (λ y e. e)) (c.in_ok-vec.ensures.items_if_clones_equal (λ y e. e)) c.new.ensures c.requires c.ranges.processes.fits

pub returns : goal.returns
returns c =
    same-table _ _ _ _ _ _ _ _ _
    (ap (λ (flags : List Bool). set_flags 0 (set flags c.args.owner true)) (c.in_ok-linked.ensures.items_if_clones_equal (λ y e. e)) ∙ one-flag c.args.owner c.args.processes c.requires)
    c.new.ensures
    (ap (set_flags 0) (c.in_ok-vec.ensures.items_if_clones_equal (λ y e. e)) ∙ no-flags c.args.processes)
    (ap (λ (flags : List Bool). length flags) (c.in_ok-vec.ensures.items_if_clones_equal (λ y e. e)) ∙ length-replicate c.args.processes false)
