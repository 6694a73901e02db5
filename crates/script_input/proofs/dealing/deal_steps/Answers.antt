use Rattle.std.proofs.Common.{◌++◌, ◌∷◌, [], sym, ap, ◌∙◌, append_assoc, ℕ, List, length, length-append, arith}
use Rattle.std.specs.Option.{option_to_list}
use Rattle.script_input.proofs.StepsDealt.{dealt-more, sender-below}
use Rattle.script_input.proofs.dealing.deal_steps.Goals as goal

pub loop-step-preserved : goal.loop-step-preserved
loop-step-preserved c =
    let inv = c.loop-step.invariant in
    let here = ap (λ rest. c.loop-step.yielded ++ rest) (sym c.in-Some.ensures.steps.0) ∙ inv.rest in
    record {
      rest = append_assoc c.loop-step.yielded (c.in-Some.step ∷ []) c.next.new.self.rest.items ∙ here;
      count = omega (
        arith,
        inv.count,
        c.next_content-content.ensures.len,
        ap (λ (l : List (List ℕ)). length l) c.next_content-content.ensures.content,
        length-append (option_to_list c.next_content-content.result) c.next_content-content.new.contents.rest.items,
      );
      dealt = dealt-more _ _ _ _ _ _ c.in-Some.step c.next_content-content.result _ _ inv.dealt (sender-below _ _ c.loop-step.yielded c.next.new.self.rest.items c.in-Some.step c.requires.senders here)
          c.index_mut.ensures.value c.next_content-content.ensures.content c.next_content-content.ensures.sends c.in_ok-add_step.ensures.steps c.in_ok-add_step.ensures.files;
    }
