use Rattle.std.proofs.Common.{◌≡◌, ℕ, ◌<◌, ◌≤◌, List, [], ◌++◌, length, take, Option, None, Some, IfSome, ap, ◌∙◌, arith}
use Rattle.std.specs.Option.{option_map}
use Rattle.std.proofs.lemmas.List.{length-take, take_all}
use Rattle.outside.proofs.real_files.read_whole.Goals as goal

-- what was taken is all that was left, if it is shorter than what could be taken
taken_whole : (left : Option (List ℕ)) (limit : ℕ) (front bytes : List ℕ) → front ≡ []
    → IfSome (option_map (take limit) left) (λ xs. bytes ≡ front ++ xs) → length bytes < limit → IfSome left (λ all. bytes ≡ all)
taken_whole None limit front bytes empty taken shorter = tt
taken_whole (Some all) limit front bytes empty taken shorter =
    let only : bytes ≡ take limit all = taken ∙ ap (λ xs. xs ++ take limit all) empty in
    let short : length (take limit all) < limit = rw (← only) shorter in
    let within : length all ≤ limit = omega (arith, short, length-take limit all) in
    only ∙ take_all limit all within

pub returns-in-Ok-2-clause-whole : goal.returns-in-Ok-2-clause-whole
returns-in-Ok-2-clause-whole g c =
    taken_whole _ c.take.result.limit c.in_ok-bytes.bytes.items c.read_rest.new.bytes.items c.in_ok-bytes.ensures.items
    (rw c.take.ensures.inner at c.in-Ok-2.ensures)
    (let buf = c.read_rest.new.bytes in omega (arith, c.take.ensures.limit, c.saturating_add.ensures, c.len.ensures, c.if-len-max.false, buf.ok.0, buf.ok.1, buf.small))
