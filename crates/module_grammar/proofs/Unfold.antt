-- The readers by the number of levels that are left to nest, over the readers of one level deeper, as the code has them.
use Rattle.std.proofs.Common.{◌≡◌, ℕ, zero, suc, refl}
use Rattle.reading.specs.Reader.{below}
use Rattle.module_grammar.specs.TypeReader.{area, area_reader}
use Rattle.module_grammar.specs.InitReader.{init, init_reader}
use Rattle.module_grammar.specs.StatementReader.{readers, statement, if_rest, block, statement_reader, if_reader}

pub area_below : (k : ℕ) → area k ≡ area_reader k (below area k)
unfolding area below
area_below zero = refl
area_below (suc k) = refl

pub init_below : (k : ℕ) → init k ≡ init_reader k (below init k)
unfolding init below
init_below zero = refl
init_below (suc k) = refl

pub statement_below : (k : ℕ) → statement k ≡ statement_reader k (block k) (if_rest k)
unfolding readers below
statement_below zero = refl
statement_below (suc k) = refl

pub if_rest_below : (k : ℕ) → if_rest k ≡ if_reader k (block k) (below if_rest k)
unfolding readers below
if_rest_below zero = refl
if_rest_below (suc k) = refl
