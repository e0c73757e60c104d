-- The names that a state has in scope, and as what they were declared.
use Rattle.std.specs.Prelude.{List, [], ◌∷◌, map, ◌++◌, false, Option, Some, None}
use Rattle.c_ast.specs.declared.CKind.TheVariants.{Scalar}
use Rattle.c_ast.specs.declared.CParam.{CParam}
use Rattle.c_ast.specs.declared.CType.{CType}
use Rattle.c_ast.specs.declared.CType.TheVariants.{Void, Value, Pointer}
use Rattle.c_ast.specs.Names.{named}
use Rattle.c_ast.specs.Syntax.{Name, FileObject}
use Rattle.c_ast.specs.StaticTypes.{Arithmetic, PointerTo, Entity, ConstName, ObjectName, Scope, declared}
use Rattle.c_meaning.specs.Values.{CValue, held_type}
use Rattle.c_meaning.specs.State.{Program, Slot, Holding, Naming, CState}

abbrev pub value_in : Option Slot → Option CValue
value_in None = None
value_in (Some (Holding v)) = Some v
value_in (Some (Naming object base)) = None

-- the value that a name holds in a state, whose latest declaration of the name counts (6.2.1)
abbrev pub name_value : CState → Name → Option CValue
name_value s x = value_in (named s.frames.own x)

-- ---- static scopes

abbrev pub slot_entity : Slot → Entity
slot_entity (Holding v) = ConstName (held_type v)
slot_entity (Naming object base) = ObjectName false base

abbrev pub local_entity : Name × Slot → Name × Entity
local_entity n = (n.0, slot_entity n.1)

abbrev pub file_entity : FileObject → Name × Entity
file_entity o = (o.name, ObjectName o.constant o.base)

-- the declarations in scope: those of the function, and of file scope
abbrev pub declarations : Program → CState → List (Name × Entity)
declarations p s = map local_entity s.frames.own ++ map file_entity p.unit.objects

abbrev pub scope_of : Program → CState → Scope
scope_of p s = declared (declarations p s)

-- ---- what declarations add

abbrev pub Declarations : Type 0
Declarations = List (Name × Entity)

-- a name that holds a value of the type is declared
abbrev pub and_name : Name → CType → Declarations → Declarations
and_name x (Value s) scope = (x, ConstName (Arithmetic (Scalar s))) ∷ scope
and_name x Void scope = scope
and_name x (Pointer constant base) scope = (x, ConstName (PointerTo constant base)) ∷ scope

abbrev pub of_params : List CParam → Declarations
of_params [] = []
of_params (x ∷ xs) = and_name x.name x.ty (of_params xs)
