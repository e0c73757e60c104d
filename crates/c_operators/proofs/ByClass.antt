-- What each operator gives is what its class says.
use Rattle.std.proofs.Common.{◌≡◌, Ok, refl}
use Rattle.c_ast.specs.Targets.{TargetTable}
use Rattle.c_ast.specs.declared.CBinary.{CBinary}
use Rattle.c_ast.specs.declared.CBinary.TheVariants as op
use Rattle.c_meaning.specs.Values.{CValue}
use Rattle.c_meaning.specs.Operators.{binary}
use Rattle.c_operators.specs.Classes.{class_of, by_class}

pub binary_by_class : (t : TargetTable) (o : CBinary) (a b : CValue) → binary t o a (Ok b) ≡ by_class (class_of o) t a b
binary_by_class t op.Add a b = refl
binary_by_class t op.Sub a b = refl
binary_by_class t op.Mul a b = refl
binary_by_class t op.Div a b = refl
binary_by_class t op.Rem a b = refl
binary_by_class t op.And a b = refl
binary_by_class t op.Or a b = refl
binary_by_class t op.Xor a b = refl
binary_by_class t op.Shl a b = refl
binary_by_class t op.Shr a b = refl
binary_by_class t op.Eq a b = refl
binary_by_class t op.Ne a b = refl
binary_by_class t op.Lt a b = refl
binary_by_class t op.Le a b = refl
binary_by_class t op.Gt a b = refl
binary_by_class t op.Ge a b = refl
binary_by_class t op.AndAlso a b = refl
binary_by_class t op.OrElse a b = refl
