-- A range that has both ends of another has all its numbers.
use Rattle.std.proofs.Common.{ℕ, ℤ, Bool, IsTrue, arith}
use Rattle.std.proofs.lemmas.Int.{ints}
use Rattle.std.specs.Prelude.{◌&&◌, int_le}
use Rattle.iv_words.specs.Kinds.{in_range_of, least_of, greatest_of}
use Rattle.c_ast.specs.Targets.{represents}

between : (l g m n v : ℤ) → IsTrue ((int_le l m && int_le m g) && (int_le l n && int_le n g)) → IsTrue (int_le m v && int_le v n) → IsTrue (int_le l v && int_le v g)
between l g m n v e h = grind (arith, ints)

pub represented : (bits : ℕ) (signed : Bool) (m : ℕ) (other : Bool) (v : ℤ) → IsTrue (represents bits signed m other) → IsTrue (in_range_of m other v) → IsTrue (in_range_of bits signed v)
represented bits signed m other v e h = between (least_of bits signed) (greatest_of bits signed) (least_of m other) (greatest_of m other) v e h
