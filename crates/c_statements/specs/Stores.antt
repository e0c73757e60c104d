-- A write to one scalar by an assignment.
use Rattle.std.specs.Prelude.{Option, Some, None, Result}
use Rattle.type_trees.specs.Trees.{Leaf, Many, Struct}
use Rattle.c_ast.specs.declared.CScalar.{CScalar}
use Rattle.c_ast.specs.declared.Target.{Target}
use Rattle.c_ast.specs.Structs.{CTree}
use Rattle.c_meaning.specs.Initializers.{as_number}
use Rattle.c_meaning.specs.Memory.{CObjects, memory_of, answered, unless_refused}
use Rattle.c_meaning.specs.State.{CState}
use Rattle.c_meaning.specs.Values.{Trouble, Address, CValue, on_ok}

-- the scalar that a type is
abbrev pub leaf_of : CTree → Option CScalar
leaf_of (Leaf s) = Some s
leaf_of (Many n a) = None
leaf_of (Struct k r) = None

-- what may not be written is known before the value is converted
abbrev pub scalar_stored : Target → CState → Address → CScalar → CValue → Result CObjects Trouble
scalar_stored t s to k v =
    unless_refused ((memory_of t).refuses s.objects to.object (to.offset, k))
    (on_ok (as_number t k v) (λ n. answered ((memory_of t).write s.objects to.object (to.offset, k) n)))
