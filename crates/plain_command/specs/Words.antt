-- The words of a command that runs nothing, without the program's own name.
use Rattle.std.specs.Prelude.{ℕ, List, [], ◌∷◌, Bool, false, ◌||◌, Result, Ok, Err, if◌then◌else◌, codes}
use Rattle.std.specs.Str.{bytes_eq}
use Rattle.program_io.specs.Word.{is_word}
use Rattle.plain_command.specs.declared.words.PlainWords.{PlainWords}
use Rattle.plain_command.specs.declared.words.PlainWords.TheVariants as words

-- what is asked for
pub data PlainAsked : Type 0 where
  -- how much the script of this name has
  Check : List ℕ → PlainAsked
  -- whether the histories of the journal of this name are legal
  Replay : List ℕ → PlainAsked

-- nothing stands behind the name of a file
abbrev pub ended : List ℕ → List (List ℕ) → Result (List ℕ) ℕ
ended name [] = Ok name
ended name (word ∷ rest) = Err 3

-- which file is read
abbrev pub file_named : List (List ℕ) → Result (List ℕ) ℕ
file_named [] = Err 2
file_named (word ∷ rest) = if is_word word then ended word rest else Err 2

-- what is asked of that file
abbrev pub of_file : (List ℕ → PlainAsked) → Result (List ℕ) ℕ → Result PlainAsked ℕ
of_file ask (Ok name) = Ok (ask name)
of_file ask (Err at) = Err at

-- What `check SCRIPT` or `replay JOURNAL` asks for, or the first word, from 1, at which no accepted list of words goes on
abbrev pub asked : List (List ℕ) → Result PlainAsked ℕ
asked [] = Err 1
asked (word ∷ rest) =
    if bytes_eq word (codes "check") then of_file Check (file_named rest)
    else (if bytes_eq word (codes "replay") then of_file Replay (file_named rest) else Err 1)

-- the first word is that of a command which runs nothing
abbrev pub is_plain : List (List ℕ) → Bool
is_plain [] = false
is_plain (word ∷ rest) = bytes_eq word (codes "check") || bytes_eq word (codes "replay")

-- what the words ask for that were read so
abbrev pub asked_by : PlainWords → PlainAsked
asked_by (words.Check script) = Check script.now
asked_by (words.Replay journal) = Replay journal.now

abbrev pub told : Result PlainWords ℕ → Result PlainAsked ℕ
told (Ok words) = Ok (asked_by words)
told (Err at) = Err at
