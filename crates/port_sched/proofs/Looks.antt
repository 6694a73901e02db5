-- A seat of OVER that looks again and again.
use Rattle.std.proofs.Common.{[], ◌++◌, sym, ap, ◌∙◌, append_assoc, append-nil}
use Rattle.port_words.specs.over.Over.{OverKnown, over_known, over_view}
use Rattle.port_sched.specs.Running.{Looked}

pub looked_none : (k : OverKnown) → Looked k k
looked_none k = ([], ap (λ found. over_known k.word (over_view k.known.size k.known.places found)) (sym (append-nil k.known.found)))

pub looked_then : (first second third : OverKnown) → Looked first second → Looked second third → Looked first third
looked_then first second third one two = (
  one.0 ++ two.0,
  two.1
      ∙ ap (λ (k : OverKnown). over_known k.word (over_view k.known.size k.known.places (k.known.found ++ two.0))) one.1
      ∙ ap (λ found. over_known first.word (over_view first.known.size first.known.places found)) (append_assoc first.known.found one.0 two.0),
)
