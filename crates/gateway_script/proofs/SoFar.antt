-- The plan of a text as its lines are read from the first.
use Rattle.std.proofs.Common.{◌≡◌, ℕ, ◌+◌, List, [], ◌∷◌, Result, Ok, Err, refl, ap, ◌∙◌}
use Rattle.script_plan.specs.declared.fault.ScriptFault.{ScriptFault}
use Rattle.gateway_script.specs.declared.line_fault.LineFault.{LineFault}
use Rattle.gateway_script.specs.declared.line_fault.LineFault.TheVariants.{Bad, UnknownName, Repeated, Limit, NoMemory}
use Rattle.gateway_script.specs.LineFault.{Tells, fault_at}
use Rattle.gateway_script.specs.Lines.{Line, numbered_from}
use Rattle.script_plan.specs.Plan.{Plan}
use Rattle.gateway_script.specs.Script.{with_line, with_lines, below, IsFaultOf}

with_lines-Ok : (rest : List Line) (line : Line) (old new : Plan) → with_line old line ≡ Ok new → with_lines (line ∷ rest) old ≡ with_lines rest new
unfolding with_lines
with_lines-Ok rest line old new e = ap (below line.number (with_lines rest)) e

with_lines-Err : (rest : List Line) (line : Line) (old : Plan) (fault : LineFault) → with_line old line ≡ Err fault → with_lines (line ∷ rest) old ≡ Err (fault_at line.number fault)
unfolding with_lines
with_lines-Err rest line old fault e = ap (below line.number (with_lines rest)) e

with_lines-none : (plan : Plan) → with_lines [] plan ≡ Ok plan
unfolding with_lines
with_lines-none plan = refl

-- what the lines from this number on say behind a plan
abbrev pub said_from : ℕ → List (List ℕ) → Plan → Result Plan ScriptFault
said_from number lines plan = with_lines (numbered_from number lines) plan

-- behind a line that is taken in
pub line_goes_on : (read : Result Plan ScriptFault) (number : ℕ) (left rest : List (List ℕ)) (bytes : List ℕ) (old new : Plan) → left ≡ bytes ∷ rest → read ≡ said_from number left old
    → with_line old (record { number = number; bytes = bytes }) ≡ Ok new → read ≡ said_from (number + 1) rest new
line_goes_on read number left rest bytes old new parted so_far e =
    so_far ∙ ap (λ lines. said_from number lines old) parted ∙ with_lines-Ok (numbered_from (number + 1) rest) (record { number = number; bytes = bytes }) old new e

fault_of : (read : Result Plan ScriptFault) (behind : List Line) (line : Line) (plan : Plan) (fault : LineFault) (told : ScriptFault) → read ≡ with_lines (line ∷ behind) plan
    → Tells (with_line plan line) fault → told ≡ fault_at line.number fault → IsFaultOf read told
fault_of read behind line plan Bad told so_far e is = rw is (so_far ∙ with_lines-Err behind line plan Bad e)
fault_of read behind line plan UnknownName told so_far e is = rw is (so_far ∙ with_lines-Err behind line plan UnknownName e)
fault_of read behind line plan Repeated told so_far e is = rw is (so_far ∙ with_lines-Err behind line plan Repeated e)
fault_of read behind line plan (Limit which) told so_far e is = rw is (so_far ∙ with_lines-Err behind line plan (Limit which) e)
fault_of read behind line plan NoMemory told so_far e is = rw is tt

-- at a fault
pub line_at_fault : (read : Result Plan ScriptFault) (number : ℕ) (left rest : List (List ℕ)) (bytes : List ℕ) (plan : Plan) (fault : LineFault) (told : ScriptFault) → left ≡ bytes ∷ rest → read ≡ said_from number left plan
    → Tells (with_line plan (record { number = number; bytes = bytes })) fault → told ≡ fault_at number fault → IsFaultOf read told
line_at_fault read number left rest bytes plan fault told parted so_far e is =
    let behind = numbered_from (number + 1) rest in
    let line : Line = record { number = number; bytes = bytes } in
    let read_so : read ≡ with_lines (line ∷ behind) plan = so_far ∙ ap (λ lines. said_from number lines plan) parted in
    fault_of read behind line plan fault told read_so e is

-- behind the last line
pub line_was_last : (read : Result Plan ScriptFault) (number : ℕ) (left : List (List ℕ)) (plan : Plan) → left ≡ [] → read ≡ said_from number left plan → read ≡ Ok plan
line_was_last read number left plan last so_far = so_far ∙ ap (λ lines. said_from number lines plan) last ∙ with_lines-none plan
