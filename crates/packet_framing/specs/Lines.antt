-- Lines, after the option {line, L} of open_port, over all bytes at once. A line is ended by byte 10, which isn't part of it.
-- A line of more than `limit` bytes is told in pieces.
use Rattle.std.specs.Prelude.{◌==◌, nat_lt, if◌then◌else◌, ℕ, zero, suc, List, [], ◌∷◌, ◌++◌, length, take, drop}
use Rattle.std.specs.List.{slice_split}
use Rattle.io_vector.specs.declared.flag.Flag.{Flag}
use Rattle.io_vector.specs.declared.flag.Flag.TheVariants.{Eol, Noeol}
use Rattle.packet_framing.specs.declared.message.Message.{Message}

-- the pieces of a run of bytes: the first `limit` bytes, then the pieces of the others, up to a last one of at most `limit` bytes.
-- So a run of exactly `limit` bytes is one piece, and so is an empty one.
abbrev pub cut_within : ℕ → ℕ → List ℕ → List (List ℕ)
cut_within zero limit run = run ∷ []
cut_within (suc most) limit run =
    (if nat_lt limit (length run) then take limit run ∷ cut_within most limit (drop limit run) else run ∷ [])

abbrev pub cut : ℕ → List ℕ → List (List ℕ)
cut limit run = cut_within (length run) limit run

abbrev pub message : Flag → List ℕ → Message
message flag bytes = record { flag = flag; bytes = bytes }

-- the pieces of a line that is ended
abbrev pub ended_pieces : List (List ℕ) → List Message
ended_pieces [] = []
ended_pieces (piece ∷ []) = message Eol piece ∷ []
ended_pieces (piece ∷ next ∷ pieces) = message Noeol piece ∷ ended_pieces (next ∷ pieces)

-- the pieces of a line that isn't ended, but for the last one, which may go on
abbrev pub open_pieces : List (List ℕ) → List Message
open_pieces [] = []
open_pieces (piece ∷ []) = []
open_pieces (piece ∷ next ∷ pieces) = message Noeol piece ∷ open_pieces (next ∷ pieces)

abbrev pub last_of : List (List ℕ) → List ℕ
last_of [] = []
last_of (x ∷ []) = x
last_of (x ∷ y ∷ ys) = last_of (y ∷ ys)

-- the runs between the line ends: all but the last are lines that are ended
abbrev pub runs_of : List ℕ → List (List ℕ)
runs_of bytes = slice_split (λ byte. byte == 10) bytes

abbrev pub told_runs : ℕ → List (List ℕ) → List Message
told_runs limit [] = []
told_runs limit (run ∷ []) = open_pieces (cut limit run)
told_runs limit (run ∷ next ∷ runs) = ended_pieces (cut limit run) ++ told_runs limit (next ∷ runs)

-- the messages of the bytes, while more bytes may come
abbrev pub line_messages : ℕ → List ℕ → List Message
line_messages limit bytes = told_runs limit (runs_of bytes)

-- the bytes that no message has yet: the last piece of the run after the last line end
abbrev pub line_rest : ℕ → List ℕ → List ℕ
line_rest limit bytes = last_of (cut limit (last_of (runs_of bytes)))
