-- The limits of every term: integers of 64 bits, names that are names, and few enough bytes and items.
use Rattle.std.specs.Prelude.{◌≤◌, length, FitsSigned}
use Rattle.std.specs.Int.{w64}
use Rattle.port_terms.specs.declared.values.TheConstants.{MAX_ITEMS}
use Rattle.port_terms.specs.Tree.{Tree, Forest, int, atom, bin, tuple, list, none, more, count}
use Rattle.port_terms.specs.Spelling.{IsName}

abbrev mutual
  pub IsTerm : Tree → Type 0
  IsTerm (int z) = FitsSigned w64 z
  IsTerm (atom name) = IsName name
  IsTerm (bin bytes) = length bytes ≤ MAX_ITEMS
  IsTerm (tuple ts) = (count ts ≤ MAX_ITEMS) × AreTerms ts
  IsTerm (list ts) = (count ts ≤ MAX_ITEMS) × AreTerms ts

  pub AreTerms : Forest → Type 0
  AreTerms none = Unit {0}
  AreTerms (more t ts) = IsTerm t × AreTerms ts
