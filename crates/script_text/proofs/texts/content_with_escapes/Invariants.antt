use Rattle.std.proofs.Common.{◌≡◌, ◌+◌, ◌-◌, ◌≤◌, length}
use Rattle.port_terms.specs.declared.values.TheConstants.{MAX_ITEMS}
use Rattle.script_text.specs.Reading.{content_at}
use Rattle.script_text.proofs.Turns.{with_front}
use Rattle.script_text.proofs.texts.content_with_escapes.Given as goal

-- each turn that goes on takes a byte at least
abbrev pub invariant-loop : goal.invariant-loop
invariant-loop l = record {
  so_far : with_front l.content.items (content_at (MAX_ITEMS + 1 - length l.content.items) l.rest) ≡ content_at (MAX_ITEMS + 1) l.bytes;
  turns : l.counter ≤ length l.content.items;
  few : length l.content.items ≤ MAX_ITEMS + 1;
}
