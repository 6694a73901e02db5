-- CommandFlags the outside's answers and the driver's effects of a row are written, among so many processes.
use Rattle.std.specs.Prelude.{ℕ, ◌^◌, List, [], ◌∷◌, Bool, true, false, ◌&&◌, nat_lt, codes}
use Rattle.std.specs.Fmt.{decimal, signed_decimal}
use Rattle.io_vector.specs.declared.flag.Flag.{Flag}
use Rattle.io_vector.specs.declared.flag.Flag.TheVariants.{Plain, Eol, Noeol}
use Rattle.port_signal.specs.declared.outside.Outside.{Outside}
use Rattle.port_signal.specs.declared.outside.Outside.TheVariants.{Took, Got, Again, End, Failed, Status}
use Rattle.port_model.specs.declared.event.Dir.{Dir}
use Rattle.port_model.specs.declared.event.Dir.TheVariants.{Read, Write}
use Rattle.port_model.specs.declared.effect.Effect.{Effect}
use Rattle.port_model.specs.declared.effect.Effect.TheVariants as effect
use Rattle.journal_text.specs.Words.{spaced, bytes_text, are_bytes, is_32, is_64, is_name, is_status}

abbrev pub answer_text : Outside → List ℕ
answer_text (Took count) = spaced (codes "took" ∷ decimal count ∷ [])
answer_text (Got bytes) = spaced (codes "got" ∷ bytes_text bytes ∷ [])
answer_text Again = codes "again"
answer_text End = codes "end"
answer_text Failed = codes "failed"
answer_text (Status status) = spaced (codes "status" ∷ signed_decimal status ∷ [])

abbrev pub is_answer : Outside → Bool
is_answer (Took count) = is_32 count
is_answer (Got bytes) = are_bytes bytes
is_answer Again = true
is_answer End = true
is_answer Failed = true
is_answer (Status status) = is_status status

abbrev pub flag_text : Flag → List ℕ
flag_text Plain = codes "plain"
flag_text Eol = codes "eol"
flag_text Noeol = codes "noeol"

abbrev pub dir_text : Dir → List ℕ
dir_text Read = codes "r"
dir_text Write = codes "w"

abbrev pub bit_text : Bool → List ℕ
bit_text false = codes "0"
bit_text true = codes "1"

abbrev pub effect_text : Effect → List ℕ
effect_text (effect.Message flag bytes) = spaced (codes "data" ∷ flag_text flag ∷ bytes_text bytes ∷ [])
effect_text effect.Eof = codes "eof"
effect_text (effect.Status status) = spaced (codes "xstatus" ∷ signed_decimal status ∷ [])
effect_text (effect.Busy busy) = spaced (codes "busy" ∷ bit_text busy ∷ [])
effect_text (effect.Select event dir on) = spaced (codes "select" ∷ decimal event ∷ dir_text dir ∷ bit_text on ∷ [])
effect_text (effect.Unuse event) = spaced (codes "unuse" ∷ decimal event ∷ [])
effect_text (effect.Async number key code input) = spaced (codes "async" ∷ decimal number ∷ decimal key ∷ decimal code ∷ bytes_text input ∷ [])
effect_text (effect.Watch process) = spaced (codes "watch" ∷ decimal process ∷ [])
effect_text (effect.Reply bytes) = spaced (codes "reply" ∷ bytes_text bytes ∷ [])
effect_text effect.ReplyBadarg = spaced (codes "reply" ∷ codes "badarg" ∷ [])
effect_text (effect.Fail reason) = spaced (codes "fail" ∷ reason ∷ [])

abbrev pub is_effect : ℕ → Effect → Bool
is_effect names (effect.Message flag bytes) = are_bytes bytes
is_effect names effect.Eof = true
is_effect names (effect.Status status) = is_status status
is_effect names (effect.Busy busy) = true
is_effect names (effect.Select event dir on) = is_32 event
is_effect names (effect.Unuse event) = is_32 event
is_effect names (effect.Async number key code input) = is_64 number && (is_32 key && (nat_lt code 256 && are_bytes input))
is_effect names (effect.Watch process) = nat_lt process names
is_effect names (effect.Reply bytes) = are_bytes bytes
is_effect names effect.ReplyBadarg = true
is_effect names (effect.Fail reason) = is_name reason
