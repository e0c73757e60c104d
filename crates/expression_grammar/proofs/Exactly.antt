-- A text that is one expression is read exactly, and has one tree.
use Rattle.std.proofs.Common.{arith}
use Rattle.reading.proofs.Exactness.{exact, one_value}
use Rattle.expression_grammar.specs.Examples.{Text, parse, ReadExactly, OneTree}
use Rattle.expression_grammar.proofs.Expressions.{good_expression}

pub expression_exact : ReadExactly
expression_exact = λ limit. exact (good_expression limit limit 0 (omega arith))

pub one_expression : OneTree
one_expression = λ x y ts. one_value Text parse expression_exact x y ts
