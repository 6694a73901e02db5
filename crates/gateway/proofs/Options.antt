-- Every port that a script declares has only the options that its driver can have. The cases of what a line says are those of the grammar that spells it.
use Rattle.std.proofs.Common.{◌≡◌, ℕ, List, [], ◌∷◌, length, map, Bool, true, false, cond, Option, Some, None, Result, Ok, Err, refl, sym, ap, subst, ◌∙◌, inl, inr}
use Rattle.std.specs.Prelude.{All, ◌&&◌, ◌||◌, ◌==◌, nat_le}
use Rattle.std.specs.List.{list_all, list_any}
use Rattle.std.proofs.lemmas.Bool.{cases_Bool, true≢false, and_parts, and_from, or_parts, or_left, or_right}
use Rattle.std.proofs.lemmas.List.Elements.{All-nil, All-cons, All-push}
use Rattle.port_config.specs.declared.config.Config.{Config}
use Rattle.port_config.specs.Config.{plain}
use Rattle.journal_text.specs.Ports.{are_limits, is_spawn, without_program}
use Rattle.script_plan.specs.declared.decl.PortDecl.{PortDecl}
use Rattle.script_plan.specs.declared.fault.ScriptFault.{ScriptFault}
use Rattle.script_plan.specs.declared.step.Act.{Act}
use Rattle.script_plan.specs.declared.step.Act.TheVariants as act
use Rattle.script_plan.specs.Plan.{Plan}
use Rattle.script_load.specs.Load.{ports, port_with, load_plan}
use Rattle.gateway_script.specs.Options.{is_for_every_driver, suits, is_same, is_repeated, set, set_all, config_of}
use Rattle.gateway_script.specs.Lines.{Line, lines}
use Rattle.gateway_script.specs.Forms.{statement_of}
use Rattle.gateway_script.specs.Grammar.{SpellsOption, SpellsOptions, SpellsForm}
use Rattle.gateway_script.specs.Grammar as G
use Rattle.gateway_script.specs.Script.{◌>>=◌, or_fault, empty, process_named, port_named, is_declared, is_written, is_saved, process_said, port_declared, port_said, journal_said, save_declared, save_said, act_at, step_made, living_process, step_said, die_said, said, with_line, below, with_lines, script}
use Rattle.gateway_script.proofs.Found.{line_found}
use Rattle.run_laws.specs.Ranges.{has_own_options}

-- ---- the options of a driver other than `spawn`

without_program-set : (driver : List ℕ) (option : _) (kind text : List ℕ) (config : Config) → SpellsOption option kind text → is_spawn driver ≡ false → suits driver option ≡ true
    → without_program config (0, 0) ≡ true → without_program (set option config) (0, 0) ≡ true
without_program-set driver _ _ _ config (G.msgq limits text s) other suit e = e
without_program-set driver _ _ _ config (G.msgq_off n) other suit e = e
without_program-set driver _ _ _ config _ other suit e = absurd (true≢false (sym suit ∙ other))

without_program-set_all : (driver : List ℕ) (options : _) (text : List ℕ) (config : Config) → SpellsOptions options text → is_spawn driver ≡ false → list_all (suits driver) options ≡ true
    → without_program config (0, 0) ≡ true → without_program (set_all options config) (0, 0) ≡ true
without_program-set_all driver _ _ config G.none other suit e = e
without_program-set_all driver _ _ config (G.more option options n kind text rest s others) other suit e =
    let suits_both = and_parts (suits driver option) (list_all (suits driver) options) suit in
    without_program-set_all driver options rest (set option config) others other suits_both.1 (without_program-set driver option kind text config s other suits_both.0 e)

-- ---- the limits of the message queue

abbrev has_limits : Config → Bool
has_limits config = are_limits config.msgq_on config.msgq_low config.msgq_high

-- where nothing is said of the message queue
record IsPlain (config : Config) : Type 0 where
  on : config.msgq_on ≡ true
  low : config.msgq_low ≡ 4096
  high : config.msgq_high ≡ 8192

-- an option that isn't for every driver keeps them
has_limits-set : (option : _) (kind text : List ℕ) (config : Config) → SpellsOption option kind text → is_for_every_driver option ≡ false → has_limits (set option config) ≡ has_limits config
has_limits-set _ _ _ config (G.msgq limits text s) none = absurd (true≢false none)
has_limits-set _ _ _ config (G.msgq_off n) none = absurd (true≢false none)
has_limits-set _ _ _ config _ none = refl

IsPlain-set : (option : _) (kind text : List ℕ) (config : Config) → SpellsOption option kind text → is_for_every_driver option ≡ false → IsPlain config → IsPlain (set option config)
IsPlain-set _ _ _ config (G.msgq limits text s) none p = absurd (true≢false none)
IsPlain-set _ _ _ config (G.msgq_off n) none p = absurd (true≢false none)
IsPlain-set _ _ _ config _ none p = record { on = p.on; low = p.low; high = p.high }

has_limits-kept : (options : _) (text : List ℕ) (config : Config) → SpellsOptions options text → list_any is_for_every_driver options ≡ false → has_limits (set_all options config) ≡ has_limits config
has_limits-kept _ _ config G.none none = refl
has_limits-kept _ _ config (G.more option options n kind text rest s others) none =
    let none_of = or_parts (is_for_every_driver option) (list_any is_for_every_driver options) none in
    has_limits-kept options rest (set option config) others none_of.1 ∙ has_limits-set option kind text config s none_of.0

-- the options that are for every driver are one option
is_same-is : (first other : _) (kind text other_kind other_text : List ℕ) → SpellsOption first kind text → SpellsOption other other_kind other_text → is_for_every_driver first ≡ true
    → is_for_every_driver other ≡ is_same first other
is_same-is _ _ _ _ _ _ (G.msgq limits text s) (G.msgq others other_text t) every = refl
is_same-is _ _ _ _ _ _ (G.msgq limits text s) (G.msgq_off n) every = refl
is_same-is _ _ _ _ _ _ (G.msgq limits text s) _ every = refl
is_same-is _ _ _ _ _ _ (G.msgq_off m) (G.msgq others other_text t) every = refl
is_same-is _ _ _ _ _ _ (G.msgq_off m) (G.msgq_off n) every = refl
is_same-is _ _ _ _ _ _ (G.msgq_off m) _ every = refl
is_same-is _ _ _ _ _ _ _ _ every = absurd (true≢false (sym every))

any_same-is : (first options : _) (kind text rest : List ℕ) → SpellsOption first kind text → SpellsOptions options rest → is_for_every_driver first ≡ true
    → list_any is_for_every_driver options ≡ list_any (is_same first) options
any_same-is first _ kind text _ s G.none every = refl
any_same-is first _ kind text _ s (G.more option options n other_kind other_text rest t others) every =
    ap (λ b. b || list_any is_for_every_driver options) (is_same-is first option kind text other_kind other_text s t every)
    ∙ ap (λ b. is_same first option || b) (any_same-is first options kind text rest s others every)

-- the first option of the message queue gives it limits, or the default ones where it has none
limits-first : (option : _) (kind text : List ℕ) (config : Config) → SpellsOption option kind text → is_for_every_driver option ≡ true → IsPlain config → has_limits (set option config) ≡ true
limits-first _ _ _ config (G.msgq limits text s) every p = refl
limits-first _ _ _ config (G.msgq_off n) every p = ap (λ n. n == 4096 && config.msgq_high == 8192) p.low ∙ ap (λ n. n == 8192) p.high
limits-first _ _ _ config _ every p = absurd (true≢false (sym every))

has_limits-set_all : (options : _) (text : List ℕ) (config : Config) → SpellsOptions options text → IsPlain config → is_repeated options ≡ false → has_limits (set_all options config) ≡ true
has_limits-set_all _ _ config G.none p once = or_left config.msgq_on (config.msgq_low == 4096 && config.msgq_high == 8192) p.on
has_limits-set_all _ _ config (G.more option options n kind text rest s others) p once =
    let once_both = or_parts (list_any (is_same option) options) (is_repeated options) once in
    elim (cases_Bool (is_for_every_driver option)) [
      | inl every ↦
          has_limits-kept options rest (set option config) others (any_same-is option options kind text rest s others every ∙ once_both.0) ∙ limits-first option kind text config s every p
      | inr none ↦ has_limits-set_all options rest (set option config) others (IsPlain-set option kind text config s none p) once_both.1
    ]

-- the options that are written are those of the driver
own-plain : (driver : List ℕ) (options : _) (text : List ℕ) → SpellsOptions options text → is_repeated options ≡ false → list_all (suits driver) options ≡ true
    → (has_limits (set_all options plain) && (is_spawn driver || without_program (set_all options plain) (0, 0))) ≡ true
own-plain driver options text s once suit =
    let p : IsPlain plain = record { on = refl; low = refl; high = refl } in
    and_from (has_limits (set_all options plain)) (is_spawn driver || without_program (set_all options plain) (0, 0)) (has_limits-set_all options text plain s p once) (elim (cases_Bool (is_spawn driver)) [
      | inl spawn ↦ or_left (is_spawn driver) (without_program (set_all options plain) (0, 0)) spawn
      | inr other ↦ or_right (is_spawn driver) (without_program (set_all options plain) (0, 0)) (without_program-set_all driver options text plain s other suit refl)
    ])

-- ---- steps that may fail

bound : {A B : Type 0} (first : Result A _) (next : A → Result B _) (y : B) → ◌>>=◌ first next ≡ Ok y → (x : A) × (first ≡ Ok x) × (next x ≡ Ok y)
bound (Ok x) next y e = (x, refl, e)
bound (Err fault) next y e = absurd cc

passed : {A E : Type 0} (b : Bool) (fault : E) (rest : Result A E) (y : A) → cond b (Err fault) rest ≡ Ok y → (b ≡ false) × (rest ≡ Ok y)
passed true fault rest y e = absurd cc
passed false fault rest y e = (refl, e)

value-is : {A E : Type 0} (x y : A) → ◌≡◌ {A = Result A E} (Ok x) (Ok y) → x ≡ y
value-is x y e = cc

found : {A : Type 0} (fault : _) (option : Option A) (x : A) → or_fault fault option ≡ Ok x → option ≡ Some x
found fault (Some y) x e = ap Some (value-is y x e)
found fault None x e = absurd cc

-- ---- what a line says

-- each port of the plan has only the options of its driver
abbrev AreOwn : List PortDecl → Type 0
AreOwn ports = All (λ p. has_own_options p ≡ true) ports

ports-are : {E : Type 0} (old new : Plan) → ◌≡◌ {A = Result Plan E} (Ok old) (Ok new) → AreOwn old.ports → AreOwn new.ports
ports-are old new e all = subst (λ (plan : Plan). AreOwn plan.ports) (value-is old new e) all

process-own : (plan new : Plan) (line : ℕ) (name : List ℕ) → process_said plan line name ≡ Ok new → AreOwn plan.ports → AreOwn new.ports
process-own plan new line name e all =
    let a = passed (is_declared plan name) _ _ new e in
    let b = passed (nat_le 32 (length plan.processes)) _ _ new a.1 in
    ports-are _ new b.1 all

port-own : (plan new : Plan) (line : ℕ) (name process driver : List ℕ) (options : _) (text : List ℕ) → SpellsOptions options text → list_all (suits driver) options ≡ true
    → port_said plan line name process driver options ≡ Ok new → AreOwn plan.ports → AreOwn new.ports
unfolding port_said
port-own plan new line name process driver options text s suit e all =
    let a = bound (process_named plan process) (λ owner. config_of options >>= λ config. port_declared plan line name owner driver config) new e in
    let b = bound (config_of options) (λ config. port_declared plan line name a.0 driver config) new a.2 in
    let written = passed (is_repeated options) _ (Ok (set_all options plain)) b.0 b.1 in
    let d = passed (is_declared plan name) _ _ new b.2 in
    let f = passed (nat_le 32 (length plan.ports)) _ _ new d.1 in
    let port : PortDecl = record { line = line; name = name; owner = a.0; driver = driver; config = b.0 } in
    let own : has_own_options port ≡ true =
    subst (λ (config : Config). (has_limits config && (is_spawn driver || without_program config (0, 0))) ≡ true) (value-is (set_all options plain) b.0 written.1) (own-plain driver options text s written.0 suit)
    in
    ports-are _ new f.1 (All-push (λ p. has_own_options p ≡ true) plan.ports port all own)

journal-own : (plan new : Plan) (name : List ℕ) → journal_said plan name ≡ Ok new → AreOwn plan.ports → AreOwn new.ports
journal-own plan new name e all = ports-are _ new (passed _ _ _ new e).1 all

save-own : (plan new : Plan) (line : ℕ) (process port name : List ℕ) → save_said plan line process port name ≡ Ok new → AreOwn plan.ports → AreOwn new.ports
unfolding save_said
save-own plan new line process port name e all =
    let a = bound (process_named plan process) (λ process. port_named plan port >>= λ port. save_declared plan line process port name) new e in
    let b = bound (port_named plan port) (λ port. save_declared plan line a.0 port name) new a.2 in
    let d = passed (is_saved plan a.0 b.0 || is_written plan name) _ _ new b.2 in
    ports-are _ new d.1 all

made-own : (plan new : Plan) (line process : ℕ) (act : Act) → step_made plan line process act ≡ Ok new → AreOwn plan.ports → AreOwn new.ports
made-own plan new line process act e all = ports-are _ new (passed (nat_le 131072 (length plan.steps)) _ _ new e).1 all

step-own : (plan new : Plan) (line : ℕ) (process port : List ℕ) (action : _) → step_said plan line process port action ≡ Ok new → AreOwn plan.ports → AreOwn new.ports
unfolding step_said
step-own plan new line process port action e all =
    let a = bound (living_process plan process) (λ process. port_named plan port >>= λ port. (act_at plan process port action >>= step_made plan line process)) new e in
    let b = bound (port_named plan port) (λ port. act_at plan a.0 port action >>= step_made plan line a.0) new a.2 in
    let d = bound (act_at plan a.0 b.0 action) (step_made plan line a.0) new b.2 in
    made-own plan new line a.0 d.0 d.2 all

die-own : (plan new : Plan) (line : ℕ) (process reason : List ℕ) → die_said plan line process reason ≡ Ok new → AreOwn plan.ports → AreOwn new.ports
unfolding die_said
die-own plan new line process reason e all =
    let a = bound (living_process plan process) (λ process. step_made plan line process (act.Die reason)) new e in
    made-own plan new line a.0 (act.Die reason) a.2 all

said-own : (plan new : Plan) (number : ℕ) (statement : _) (line : List ℕ) → SpellsForm statement line → said plan number statement ≡ Ok new → AreOwn plan.ports → AreOwn new.ports
unfolding said
said-own plan new number _ _ G.empty e all = ports-are plan new e all
said-own plan new number _ _ (G.comment text) e all = ports-are plan new e all
said-own plan new number _ _ (G.process name n f) e all = process-own plan new number name e all
said-own plan new number _ _ (G.port name process driver options l m n rest f g h s suit) e all = port-own plan new number name process driver options rest s suit e all
said-own plan new number _ _ (G.journal name n text s) e all = journal-own plan new name e all
said-own plan new number _ _ (G.save process port name l m n text f g s) e all = save-own plan new number process port name e all
said-own plan new number _ _ (G.step process port action m n kind rest f g s) e all = step-own plan new number process port action e all
said-own plan new number _ _ (G.die process reason m n f g) e all = die-own plan new number process reason e all

-- ---- the lines of a script

line-own : (plan new : Plan) (line : Line) → with_line plan line ≡ Ok new → AreOwn plan.ports → AreOwn new.ports
unfolding with_line
line-own plan new line e all =
    let a = bound (or_fault _ (statement_of line.bytes)) (said plan line.number) new e in
    said-own plan new line.number a.0 line.bytes (line_found line.bytes a.0 (found _ (statement_of line.bytes) a.0 a.1)).form a.2 all

goes_below : (number : ℕ) (rest : Plan → Result Plan ScriptFault) (first : Result Plan _) (new : Plan) → below number rest first ≡ Ok new
    → (plan : Plan) × (first ≡ Ok plan) × (rest plan ≡ Ok new)
goes_below number rest (Ok plan) new e = (plan, refl, e)
goes_below number rest (Err fault) new e = absurd cc

lines-own : (rest : List Line) (plan new : Plan) → with_lines rest plan ≡ Ok new → AreOwn plan.ports → AreOwn new.ports
unfolding with_lines
lines-own [] plan new e all = ports-are plan new e all
lines-own (line ∷ rest) plan new e all =
    let a = goes_below line.number (with_lines rest) (with_line plan line) new e in
    lines-own rest a.0 new a.2 (line-own plan a.0 line a.1 all)

pub options-of-script : (bytes : List ℕ) (plan : Plan) → script bytes ≡ Ok plan → All (λ p. has_own_options p ≡ true) plan.ports
options-of-script bytes plan e = lines-own (lines bytes) empty plan e (All-nil (λ p. has_own_options p ≡ true))

-- ---- the script of the load generator

all-echo : AreOwn (map port_with ports)
all-echo =
    let IsOwn : PortDecl → Type 0 = λ p. has_own_options p ≡ true in
    All-cons IsOwn (port_with 0) (port_with 1 ∷ port_with 2 ∷ port_with 3 ∷ []) refl
    (All-cons IsOwn (port_with 1) (port_with 2 ∷ port_with 3 ∷ []) refl
    (All-cons IsOwn (port_with 2) (port_with 3 ∷ []) refl (All-cons IsOwn (port_with 3) [] refl (All-nil IsOwn))))

pub options-of-load : (number : ℕ) → All (λ p. has_own_options p ≡ true) (load_plan number).ports
unfolding load_plan
options-of-load number = all-echo
