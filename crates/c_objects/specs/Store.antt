-- The objects of the code as those of the memory of C.
use Rattle.std.specs.Prelude.{ℕ, zero, suc, ℤ, [], ◌∷◌, map}
use Rattle.c_memory.specs.Bytes.{Byte}
use Rattle.c_memory.specs.Codecs.{numbers}
use Rattle.c_memory.specs.Objects as memory
use Rattle.c_memory.specs.Representations.{Representation}
use Rattle.c_ast.specs.declared.CScalar.{CScalar}
use Rattle.c_ast.specs.declared.Target.{Target}
use Rattle.c_ast.specs.Syntax.{Name}
use Rattle.c_ast.specs.Targets.{table_of}
use Rattle.c_meaning.specs.Memory.{CObjects, scalar_table}
use Rattle.c_meaning.specs.Values.{Address}
use Rattle.c_objects.specs.declared.objects.Object.{Object}
use Rattle.c_objects.specs.declared.objects.Objects.{Objects}
use Rattle.c_objects.specs.Bytes.{byte_of}
use Rattle.c_objects.specs.Shapes.{type_tree}

abbrev pub representation : Target → Representation CScalar ℤ (Byte Address)
representation t = numbers {P = Address} (scalar_table (table_of t))

abbrev pub object_of : Object → memory.Object CScalar Name (Byte Address)
object_of o = record { type = type_tree o.ty; constant = o.constant; live = o.live; bytes = map byte_of o.bytes.items }

abbrev pub objects_of : Objects → CObjects
objects_of os = map object_of os.items.items

-- one object changed
abbrev pub at_place : ℕ → (memory.Object CScalar Name (Byte Address) → memory.Object CScalar Name (Byte Address)) → CObjects → CObjects
at_place o f [] = []
at_place zero f (ob ∷ mem) = f ob ∷ mem
at_place (suc o) f (ob ∷ mem) = ob ∷ at_place o f mem
