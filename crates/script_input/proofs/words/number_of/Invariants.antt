use Rattle.std.proofs.Common.{◌≡◌, ◌<◌, ◌^◌, take}
use Rattle.script_text.specs.Tokens.{value_of}
use Rattle.script_input.proofs.words.number_of.Given as goal

abbrev pub invariant-loop-byte : goal.invariant-loop-byte
invariant-loop-byte l = record {
  fits : l.number < 2 ^ 64;
  so_far : l.number ≡ value_of (take l.byte-index l.digits);
}
