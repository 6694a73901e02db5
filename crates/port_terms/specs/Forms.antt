-- The spelling of an integer by its form.
use Rattle.std.specs.Prelude.{ℕ, List, [], ◌∷◌}
use Rattle.std.specs.Int.{w32, to_be_bytes, cast_unsigned}
use Rattle.port_terms.specs.declared.integers.IntegerForm.{IntegerForm}
use Rattle.port_terms.specs.declared.integers.IntegerForm.TheVariants.{Byte, Word, Big}
use Rattle.port_terms.specs.Written.{written_big}

abbrev pub form_bytes : IntegerForm → List ℕ
form_bytes (Byte n) = 97 ∷ n ∷ []
form_bytes (Word z) = 98 ∷ to_be_bytes w32 (cast_unsigned w32 z)
form_bytes (Big sign magnitude) = written_big sign magnitude
