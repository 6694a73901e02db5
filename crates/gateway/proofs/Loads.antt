-- The script of the load generator sends no file, and its drivers start.
use Rattle.std.proofs.Common.{◌≡◌, ℕ, ◌+◌, ◌*◌, List, [], ◌∷◌, ◌++◌, length, map, take, drop, Bool, true, false, cond, Some, None, refl, sym, ap, ◌∙◌, append-nil, length-append, arith}
use Rattle.std.specs.Prelude.{All, codes, nat_lt}
use Rattle.std.specs.List.{flat_map}
use Rattle.std.proofs.lemmas.List.Elements.{All-nil, All-cons, filter_map-append}
use Rattle.port_config.specs.declared.config.Config.{Config}
use Rattle.driver_model.specs.Calls.{Kind, Echo, Tally, Valve, Store, Digest, Spawn, Refuse1, Refuse2, Refuse3}
use Rattle.driver_model.specs.Drivers.{kind_name, refusal_of}
use Rattle.script_input.specs.Contents.{file_of, file_names, named, HaveRead, SomeRead, StopsAt}
use Rattle.script_input.specs.Files.{FilesView, NothingRead}
use Rattle.script_load.specs.Load.{values, commands, command_count, waits, first_line, steps_of, processes, ports, port_with, load_plan}
use Rattle.script_plan.specs.declared.decl.PortDecl.{PortDecl}
use Rattle.script_plan.specs.declared.step.Act.TheVariants.{Expect}
use Rattle.script_plan.specs.declared.step.Step.{Step}
use Rattle.script_plan.specs.Plan.{Plan}
use Rattle.gateway.specs.Causes.{AllStart}

-- ---- its steps

commands-none : (line process : ℕ) (xs : List ℕ) → file_names (commands line process xs) ≡ []
commands-none line process [] = refl
commands-none line process (x ∷ xs) = commands-none (line + 1) process xs

abbrev wait : ℕ → ℕ → List ℕ → Step
wait line process xs = record { line = line; process = process; act = Expect process (command_count process xs) }

wait-none : (line process : ℕ) (xs : List ℕ) (b : Bool) → file_names (cond b (wait line process xs ∷ []) []) ≡ []
wait-none line process xs true = refl
wait-none line process xs false = refl

steps-none : (xs : List ℕ) (process : ℕ) → file_names (steps_of xs process) ≡ []
steps-none xs process =
    let own = commands (first_line process) process (take 2000 (drop (2000 * process) xs)) in
    let last = waits (first_line process + 2000) process xs in
    filter_map-append (λ (s : Step). file_of s.act) own last
    ∙ (ap (λ (front : List (List ℕ)). front ++ file_names last) (commands-none (first_line process) process (take 2000 (drop (2000 * process) xs)))
    ∙ wait-none (first_line process + 2000) process xs (nat_lt process 4))

all-none : (xs ps : List ℕ) → file_names (flat_map (steps_of xs) ps) ≡ []
all-none xs [] = refl
all-none xs (p ∷ ps) =
    filter_map-append (λ (s : Step). file_of s.act) (steps_of xs p) (flat_map (steps_of xs) ps)
    ∙ (ap (λ (front : List (List ℕ)). front ++ file_names (flat_map (steps_of xs) ps)) (steps-none xs p) ∙ all-none xs ps)

of-load : (number : ℕ) → file_names (load_plan number).steps ≡ []
unfolding load_plan
of-load number = all-none (values 16000 number) processes

pub sends-none : (number : ℕ) (plan : Plan) → plan ≡ load_plan number → file_names plan.steps ≡ []
sends-none number plan e = ap (λ (p : Plan). file_names p.steps) e ∙ of-load number

-- ---- steps that send no file

-- the name of the file that a step sends stands among those of all steps
pub names-split : (steps done rest : List Step) (step : Step) (name : List ℕ) → steps ≡ done ++ step ∷ rest → file_of step.act ≡ Some name → file_names steps ≡ file_names done ++ name ∷ file_names rest
names-split steps done rest step name e f =
    ap file_names e ∙ filter_map-append (λ (s : Step). file_of s.act) done (step ∷ rest) ∙ ap (λ more. file_names done ++ more) (one step f)
  where
    one : (step : Step) → file_of step.act ≡ Some name → file_names (step ∷ rest) ≡ name ∷ file_names rest
    one step f = rw f refl

-- there is none at which the reads can stop
pub stops-nowhere : (steps : List Step) (line : ℕ) (name : List ℕ) (contents : List (List ℕ)) (before after : FilesView) → file_names steps ≡ [] → StopsAt steps line name contents before after → ⊥
stops-nowhere steps line name contents before after none s =
    let names = names-split steps s.done s.rest s.step name s.split s.names in
    omega (arith, ap (λ (l : List (List ℕ)). length l) (sym none ∙ names), length-append (file_names s.done) (name ∷ file_names s.rest))

-- nothing is read for them
pub none-read : (steps : List Step) (before after : FilesView) (contents : List (List ℕ)) → file_names steps ≡ [] → HaveRead before after steps contents → NothingRead before after
none-read steps before after contents none h = record {
  answered = h.answer.answered ∙ (ap (λ (names : List (List ℕ)). before.answered ++ named names contents) none ∙ append-nil before.answered);
  reads = h.reads;
}

front-none : (xs ys : List (List ℕ)) → xs ++ ys ≡ [] → xs ≡ []
front-none [] ys e = refl
front-none (x ∷ xs) ys e = absurd cc

pub some-none : (steps : List Step) (before after : FilesView) → file_names steps ≡ [] → SomeRead steps before after → NothingRead before after
some-none steps before after none s =
    let both = sym (filter_map-append (λ (s : Step). file_of s.act) s.done s.rest) ∙ (ap file_names (sym s.split) ∙ none) in
    none-read s.done before after s.contents (front-none (file_names s.done) (file_names s.rest) both) s.read

-- ---- its drivers

echo-starts : (kind : Kind) (config : Config) → kind_name kind ≡ codes "echo" → refusal_of kind config ≡ None
echo-starts Echo config e = refl
echo-starts Tally config e = refl
echo-starts (Valve soft) config e = refl
echo-starts Store config e = refl
echo-starts Digest config e = refl
echo-starts Spawn config e = absurd (omega (arith, ap (λ (l : List ℕ). length l) e))
echo-starts Refuse1 config e = absurd (omega (arith, ap (λ (l : List ℕ). length l) e))
echo-starts Refuse2 config e = absurd (omega (arith, ap (λ (l : List ℕ). length l) e))
echo-starts Refuse3 config e = absurd (omega (arith, ap (λ (l : List ℕ). length l) e))

WantsEcho : PortDecl → Type 0
WantsEcho p = p.driver ≡ codes "echo"

all-echo : All WantsEcho (map port_with ports)
unfolding WantsEcho
all-echo =
    All-cons WantsEcho (port_with 0) (port_with 1 ∷ port_with 2 ∷ port_with 3 ∷ []) refl
    (All-cons WantsEcho (port_with 1) (port_with 2 ∷ port_with 3 ∷ []) refl
    (All-cons WantsEcho (port_with 2) (port_with 3 ∷ []) refl (All-cons WantsEcho (port_with 3) [] refl (All-nil WantsEcho))))

pub load-starts : (number : ℕ) → AllStart (load_plan number)
unfolding load_plan WantsEcho
load-starts number at d kind within named = echo-starts kind _ (named ∙ all-echo at d within)
