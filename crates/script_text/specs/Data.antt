-- The grammar of data: IOLISTs and TERMs.
use Rattle.std.specs.Prelude.{◌≡◌, ◌≢◌, ℕ, ℤ, pos, ◌≤◌, List, [], ◌∷◌, ◌++◌, true}
use Rattle.port_terms.specs.declared.values.TheConstants.{MAX_ITEMS, MAX_DEPTH}
use Rattle.port_terms.specs.Tree.{Tree, Forest, int, atom, bin, tuple, list, none, more, count, depth}
use Rattle.port_terms.specs.Spelling.{ints}
use Rattle.script_text.specs.Tokens.{gap, is_name, SpellsNumber, SpellsWhole}
use Rattle.script_text.specs.Texts.{SpellsText}

-- what is spelled: an item of an IOLIST, or a TERM
pub data Language : Type 0 where
  io_item : Language
  term : Language

mutual
  -- The text is a spelling of the value.
  pub data Spells : Language → Tree → List ℕ → Type 0 where
    -- in an IOLIST: a NUMBER up to 255, a TEXT as its bytes, or items in `[` `]`
    byte : (number : ℕ) (text : List ℕ) → SpellsNumber number text → number ≤ 255 → Spells io_item (int (pos number)) text
    bytes : (content text : List ℕ) → SpellsText content text → Spells io_item (bin content) text
    parts : (ts : Forest) (inner : List ℕ) → count ts ≤ MAX_ITEMS → SpellsAll io_item ts inner → Spells io_item (list ts) (91 ∷ inner ++ 93 ∷ [])
    -- a TERM: a whole number, a NAME as an atom, a TEXT as the list of its bytes, `<<TEXT>>` as a binary, or terms in `{` `}` or `[` `]`
    whole : (number : ℤ) (text : List ℕ) → SpellsWhole number text → Spells term (int number) text
    name : (text : List ℕ) → is_name text ≡ true → Spells term (atom text) text
    string : (content text : List ℕ) → SpellsText content text → Spells term (list (ints content)) text
    binary : (content text : List ℕ) (before behind : ℕ) → SpellsText content text → Spells term (bin content) (60 ∷ 60 ∷ gap before ++ (text ++ (gap behind ++ 62 ∷ 62 ∷ [])))
    items : (ts : Forest) (inner : List ℕ) → count ts ≤ MAX_ITEMS → SpellsAll term ts inner → Spells term (list ts) (91 ∷ inner ++ 93 ∷ [])
    elements : (ts : Forest) (inner : List ℕ) → count ts ≤ MAX_ITEMS → SpellsAll term ts inner → Spells term (tuple ts) (123 ∷ inner ++ 125 ∷ [])

  -- The text is a spelling of the values, separated by commas. Spaces may stand round each.
  pub data SpellsAll : Language → Forest → List ℕ → Type 0 where
    nothing : (language : Language) (spaces : ℕ) → SpellsAll language none (gap spaces)
    last : (language : Language) (t : Tree) (before behind : ℕ) (text : List ℕ) → Spells language t text → SpellsAll language (more t none) (gap before ++ (text ++ gap behind))
    one_more : (language : Language) (t u : Tree) (ts : Forest) (before behind : ℕ) (text others : List ℕ) → Spells language t text → SpellsAll language (more u ts) others
        → SpellsAll language (more t (more u ts)) (gap before ++ (text ++ (gap behind ++ 44 ∷ others)))

-- an IOLIST: an item of one that isn't a lone number, of at most 64 levels
pub record SpellsIoList (value : Tree) (text : List ℕ) : Type 0 where
  pub spelled : Spells io_item value text
  pub bytes : (number : ℤ) → value ≢ int number
  pub levels : depth value ≤ MAX_DEPTH

-- a TERM of at most 64 levels
pub record SpellsTerm (value : Tree) (text : List ℕ) : Type 0 where
  pub spelled : Spells term value text
  pub levels : depth value ≤ MAX_DEPTH
