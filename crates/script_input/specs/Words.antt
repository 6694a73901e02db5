-- The words of the command line, without the program's own name.
use Rattle.std.specs.Prelude.{ℕ, ◌^◌, List, [], ◌∷◌, Bool, ◌&&◌, Result, Ok, Err, if◌then◌else◌, codes, nat_le, nat_lt, length}
use Rattle.std.specs.List.{list_all}
use Rattle.std.specs.Str.{bytes_eq}
use Rattle.script_text.specs.Tokens.{is_digit, value_of}
use Rattle.program_io.specs.Word.{is_word}
use Rattle.script_input.specs.declared.words.RunSource.{RunSource}
use Rattle.script_input.specs.declared.words.RunSource.TheVariants.{File, Load}
use Rattle.script_input.specs.declared.words.RunWords.{RunWords}

-- where the script of a run comes from: the file of this name, or the load generator, which makes it of this number
pub data Source : Type 0 where
  FromFile : List ℕ → Source
  FromLoad : ℕ → Source

-- what is asked for: where the script comes from, and how many schedulers and workers run it
pub record AskedRun : Type 0 where
  pub source : Source
  pub schedulers : ℕ
  pub workers : ℕ

-- 1 to 20 decimal digits
abbrev pub is_number : List ℕ → Bool
is_number word = list_all is_digit word && nat_le 1 (length word) && nat_le (length word) 20

-- such a number, within 64 bits
abbrev pub is_load_number : List ℕ → Bool
is_load_number word = is_number word && nat_lt (value_of word) (2 ^ 64)

-- a number of 1 to so many
abbrev pub is_count : ℕ → List ℕ → Bool
is_count most word = is_number word && nat_le 1 (value_of word) && nat_le (value_of word) most

-- nothing stands behind the words
abbrev pub ended : AskedRun → List (List ℕ) → Result AskedRun ℕ
ended asked [] = Ok asked
ended asked (word ∷ rest) = Err 5

-- how many workers are asked for, 2 where nothing is said
abbrev pub with_workers : Source → ℕ → List (List ℕ) → Result AskedRun ℕ
with_workers source schedulers [] = Ok (record { source = source; schedulers = schedulers; workers = 2 })
with_workers source schedulers (word ∷ rest) =
    if is_count 8 word then ended (record { source = source; schedulers = schedulers; workers = value_of word }) rest else Err 4

-- how many schedulers, 4 where nothing is said
abbrev pub with_schedulers : Source → List (List ℕ) → Result AskedRun ℕ
with_schedulers source [] = Ok (record { source = source; schedulers = 4; workers = 2 })
with_schedulers source (word ∷ rest) = if is_count 16 word then with_workers source (value_of word) rest else Err 3

-- which script
abbrev pub with_script : List (List ℕ) → Result AskedRun ℕ
with_script [] = Err 2
with_script (word ∷ rest) = if is_word word then with_schedulers (FromFile word) rest else Err 2

-- which load
abbrev pub with_load_number : List (List ℕ) → Result AskedRun ℕ
with_load_number [] = Err 2
with_load_number (word ∷ rest) = if is_load_number word then with_schedulers (FromLoad (value_of word)) rest else Err 2

-- What `run SCRIPT [SCHEDULERS [WORKERS]]` or `load NUMBER [SCHEDULERS [WORKERS]]` asks for, or the first word, from 1, at which no accepted list of words goes on
abbrev pub asked : List (List ℕ) → Result AskedRun ℕ
asked [] = Err 1
asked (word ∷ rest) = if bytes_eq word (codes "run") then with_script rest else (if bytes_eq word (codes "load") then with_load_number rest else Err 1)

-- the source that was read so
abbrev pub source_of : RunSource → Source
source_of (File name) = FromFile name.now
source_of (Load number) = FromLoad number

-- what the words ask for that were read so
abbrev pub asked_by : RunWords → AskedRun
asked_by words = record { source = source_of words.source; schedulers = words.schedulers; workers = words.workers }

abbrev pub told : Result RunWords ℕ → Result AskedRun ℕ
told (Ok words) = Ok (asked_by words)
told (Err at) = Err at
