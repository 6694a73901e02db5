use Rattle.std.proofs.Common.{◌≡◌, ◌-◌, length}
use Rattle.port_signal.specs.declared.items.TheConstants.{MAX_ITEMS}
use Rattle.journal_text.specs.Reading.{effect_at}
use Rattle.journal_text.specs.ReadingRows.{some_at}
use Rattle.journal_text.proofs.Items.{with_front}
use Rattle.journal_text.proofs.rows.some_effects.Given as goal

abbrev pub invariant-loop : goal.invariant-loop
invariant-loop l = record {
  so_far : with_front l.items.items (some_at (effect_at l.names) (MAX_ITEMS - l.counter) l.rest) ≡ some_at (effect_at l.names) MAX_ITEMS l.front;
  len : length l.items.items ≡ l.counter;
}
