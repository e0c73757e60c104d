use Rattle.std.proofs.Common.{◌≡◌, ◌<◌, ◌^◌, drop}
use Rattle.std.specs.Str.Parse.{digits_value, digits_value_after}
use Rattle.ivory_lexer.proofs.number.number_of.Given as goal

abbrev pub invariant-loop-b : goal.invariant-loop-b
invariant-loop-b l = record {
  same : digits_value_after l.radix l.n (drop l.b-index l.digits) ≡ digits_value l.radix l.digits;
  small : l.n < 2 ^ 64;
}
