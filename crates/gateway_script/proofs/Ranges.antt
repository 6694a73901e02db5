-- The numbers of what a line says lie in their ranges.
use Rattle.std.proofs.Common.{◌≡◌, ℕ, List, Some, All, refl, ap, ◌∙◌}
use Rattle.std.specs.Prelude.{nat_le, ◌&&◌}
use Rattle.std.proofs.lemmas.Bool.{le-leb}
use Rattle.std.proofs.lemmas.List.Elements.{All-nil, All-cons}
use Rattle.gateway_script.specs.declared.options.LimitPair.{LimitPair}
use Rattle.gateway_script.specs.declared.options.PortOption.{PortOption}
use Rattle.gateway_script.specs.declared.statement.Statement.{Statement}
use Rattle.gateway_script.specs.declared.statement.Action.{Action}
use Rattle.gateway_script.specs.Forms.{statement_of}
use Rattle.gateway_script.specs.Grammar.{SpellsLimits, SpellsOption, SpellsOptions, SpellsAction, SpellsForm}
use Rattle.gateway_script.specs.Grammar as G
use Rattle.gateway_script.specs.Ranges.{AreLimits, InOption, InAction, InStatement}
use Rattle.gateway_script.proofs.Found.{line_found}

limits-ranges : (limits : LimitPair) (text : List ℕ) → SpellsLimits limits text → AreLimits limits
limits-ranges limits text s = record { low_from = s.spelled_low.least; low_to = s.spelled_low.greatest; high_from = s.spelled_high.least; high_to = s.spelled_high.greatest }

option-ranges : (option : PortOption) (kind text : List ℕ) → SpellsOption option kind text → InOption option
option-ranges _ _ _ (G.msgq limits text s) = limits-ranges limits text s
option-ranges _ _ _ (G.msgq_off n) = tt
option-ranges _ _ _ (G.run command n text s) = tt
option-ranges _ _ _ (G.packet1 n number s) = refl
option-ranges _ _ _ (G.packet2 n number s) = refl
option-ranges _ _ _ (G.packet4 n number s) = refl
option-ranges _ _ _ (G.line limit n number s) = ap (λ b. b && nat_le limit 262143) (le-leb 1 limit s.least) ∙ le-leb limit 262143 s.greatest
option-ranges _ _ _ G.stream = refl
option-ranges _ _ _ G.eof = tt
option-ranges _ _ _ G.exit_status = tt
option-ranges _ _ _ (G.busy limits text s) = limits-ranges limits text s

options-ranges : (options : List PortOption) (text : List ℕ) → SpellsOptions options text → All InOption options
options-ranges _ _ G.none = All-nil InOption
options-ranges _ _ (G.more option options n kind text rest s others) = All-cons InOption option options (option-ranges option kind text s) (options-ranges options rest others)

action-ranges : (action : Action) (kind text : List ℕ) → SpellsAction action kind text → InAction action
action-ranges _ _ _ (G.file size name how m n number text behind s t u) = (s.least, s.greatest)
action-ranges _ _ _ _ = tt

form-ranges : (said : Statement) (line : List ℕ) → SpellsForm said line → InStatement said
form-ranges _ _ (G.port name process driver options l m n rest e f g s suit) = options-ranges options rest s
form-ranges _ _ (G.step process port action m n kind rest e f s) = action-ranges action kind rest s
form-ranges _ _ _ = tt

-- the numbers of what a line says lie in their ranges
pub statement-ranges : (line : List ℕ) (said : Statement) → statement_of line ≡ Some said → InStatement said
statement-ranges line said is = form-ranges said line (line_found line said is).form
