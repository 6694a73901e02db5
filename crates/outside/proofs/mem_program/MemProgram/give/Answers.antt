use Rattle.std.proofs.Common.{◌≡◌, [], ◌∷◌, ◌++◌, refl, arith}
use Rattle.std.proofs.lemmas.Grind.{common_steps}
use Rattle.outside.proofs.mem_program.MemProgram.give.Goals as goal

-- the chunk that was pushed
pub returns-clause-ok : goal.returns-clause-ok
returns-clause-ok c =
    let pushed : c.push_back.new.self.items ≡ c.self.inside.chunks.items ++ c.in_ok-chunk.chunk ∷ [] = grind (arith, common_steps) in
    rw (← c.self.view_is, pushed) (λ _ _. record { chunk = c.in_ok-chunk.chunk; need = c.in_ok-chunk.ensures.need; bytes = c.in_ok-chunk.ensures.bytes; chunks = refl })
