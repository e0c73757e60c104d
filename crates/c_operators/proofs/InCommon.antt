-- An operator on two numbers is what it does in their common type.
use Rattle.std.proofs.Common.{◌≡◌, ℤ, ap}
use Rattle.c_ast.specs.Targets.{TargetTable, common_type}
use Rattle.c_ast.specs.declared.Arith.{Arith}
use Rattle.c_ast.specs.declared.CKind.{CKind}
use Rattle.c_meaning.specs.Values.{Num}
use Rattle.c_meaning.specs.Operators.{usual, compared}
use Rattle.c_operators.specs.declared.classes.Usual.{Usual}
use Rattle.c_operators.specs.declared.classes.Comparison.{Comparison}
use Rattle.c_operators.specs.Classes.{operator_of, comparison_of, in_type, computing, comparing}

module _ (t : TargetTable) (k l : CKind) (x y : ℤ) (c : Arith) (type : c ≡ common_type t k l) where
  pub usual_in_common : (f : Usual) → in_type t c (computing t f) x y ≡ usual t (operator_of f) (Num k x) (Num l y)
  usual_in_common f = ap (λ d. in_type t d (computing t f) x y) type

  pub compared_in_common : (f : Comparison) → in_type t c (comparing f) x y ≡ compared t (comparison_of f) (Num k x) (Num l y)
  compared_in_common f = ap (λ d. in_type t d (comparing f) x y) type
