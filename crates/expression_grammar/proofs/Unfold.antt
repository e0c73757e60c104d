-- The readers by the number of levels that are left to nest, over the readers of one level deeper, as the code has them.
use Rattle.std.proofs.Common.{◌≡◌, ℕ, zero, suc, refl}
use Rattle.reading.specs.Reader.{below}
use Rattle.expression_grammar.specs.Reader.{readers, expression, operand, expression_reader, operand_reader}

pub expression_below : (k : ℕ) → expression k ≡ expression_reader (below expression k) (operand k)
unfolding readers below
expression_below zero = refl
expression_below (suc k) = refl

pub operand_below : (k : ℕ) → operand k ≡ operand_reader (below expression k) (below operand k)
unfolding readers below
operand_below zero = refl
operand_below (suc k) = refl
