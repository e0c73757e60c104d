-- What an assignment to a place comes to.
use Rattle.std.proofs.Common.{◌≡◌, Some, None, Err, Bool, refl, ap}
use Rattle.type_trees.specs.Trees.{Leaf, Many, Struct}
use Rattle.c_ast.specs.declared.CScalar.{CScalar}
use Rattle.c_ast.specs.declared.Target.{Target}
use Rattle.c_ast.specs.Structs.{CTree}
use Rattle.c_meaning.specs.Places.{Located}
use Rattle.c_meaning.specs.State.{CState}
use Rattle.c_meaning.specs.Statements.{stored}
use Rattle.c_meaning.specs.Values.{Stuck, Address, CValue}
use Rattle.c_statements.specs.Stores.{leaf_of, scalar_stored}

pub stored_scalar : (t : Target) (s : CState) (constant : Bool) (to : Address) (a : CTree) (k : CScalar) (v : CValue) → leaf_of a ≡ Some k → stored t s (Located constant to a) v ≡ scalar_stored t s to k v
stored_scalar t s constant to (Leaf j) k v h = let e : j ≡ k = cc in ap (λ x. scalar_stored t s to x v) e
stored_scalar t s constant to (Many n a) k v h = absurd (cc)
stored_scalar t s constant to (Struct n r) k v h = absurd (cc)

pub stored_nowhere : (t : Target) (s : CState) (constant : Bool) (to : Address) (a : CTree) (v : CValue) → leaf_of a ≡ None → stored t s (Located constant to a) v ≡ Err Stuck
stored_nowhere t s constant to (Leaf j) v h = absurd (cc)
stored_nowhere t s constant to (Many n a) v h = refl
stored_nowhere t s constant to (Struct n r) v h = refl
