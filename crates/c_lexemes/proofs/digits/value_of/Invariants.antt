use Rattle.std.proofs.Common.{◌≡◌, ◌<◌, ◌^◌, drop}
use Rattle.c_grammar.specs.Kinds.{value_behind}
use Rattle.c_lexemes.proofs.digits.value_of.Given as goal

abbrev pub invariant-loop-digit : goal.invariant-loop-digit
invariant-loop-digit l = record {
  same : value_behind l.n (drop l.digit-index l.digits) ≡ value_behind 0 l.digits;
  small : l.n < 2 ^ 64;
}
