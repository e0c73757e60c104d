-- What places come to (C99 6.3.2.1): the value of a const name, or a part of an object; what is read there, and where pointers lead.
use Rattle.std.specs.Prelude.{ℕ, suc, ◌+◌, ◌*◌, ℤ, pos, int_le, int_lt, unsigned_abs, Bool, false, ◌&&◌, if◌then◌else◌, List, [], ◌∷◌, Option, Some, None, Result, Ok, Err}
use Rattle.iv_words.specs.Words.{same_word}
use Rattle.run_records.specs.declared.Reason.TheVariants.{Dead, Bounds}
use Rattle.type_trees.specs.Trees.{Leaf, Many, Struct}
use Rattle.type_trees.specs.Layouts.{size}
use Rattle.c_memory.specs.Standing.{refuses_cast}
use Rattle.c_ast.specs.declared.Target.{Target}
use Rattle.c_ast.specs.declared.CScalar.{CScalar}
use Rattle.c_ast.specs.declared.CBase.{CBase}
use Rattle.c_ast.specs.declared.CBase.TheVariants as base
use Rattle.c_ast.specs.declared.CKind.TheVariants.{Scalar}
use Rattle.c_ast.specs.declared.CStruct.{CStruct}
use Rattle.c_ast.specs.declared.CType.{CType}
use Rattle.c_ast.specs.declared.CType.TheVariants.{Void, Value, Pointer}
use Rattle.c_ast.specs.Conversions.{can_hold}
use Rattle.c_ast.specs.Names.{named}
use Rattle.c_ast.specs.Scalars.{metric_of}
use Rattle.c_ast.specs.StaticTypes.{member_tree}
use Rattle.c_ast.specs.Structs.{CTree, tree, offset_named}
use Rattle.c_ast.specs.Syntax.{Name, FileObject}
use Rattle.c_ast.specs.Targets.{table_of}
use Rattle.c_meaning.specs.Values.{Trouble, Undefined, Stuck, Address, CValue, Num, Ptr, on_ok, as_assigned}
use Rattle.c_meaning.specs.Memory.{memory_of, is_base, answered, unless_refused}
use Rattle.c_meaning.specs.State.{Program, Slot, Holding, Naming, CState, lives}

-- A place: a value that a name holds for good, or a part of an object, which may be named as const here, with where it begins and its type.
pub data Lvalue : Type 0 where
  Known : CValue → Lvalue
  Located : (constant : Bool) → Address → CTree → Lvalue

-- ---- names (6.5.1)

-- a whole object
abbrev pub object_of : List CStruct → (constant : Bool) → ℕ → CBase → Lvalue
object_of structs constant o b = Located constant (record { object = o; offset = 0 }) (tree structs b)

abbrev pub slot_place : List CStruct → Slot → Lvalue
slot_place structs (Holding v) = Known v
slot_place structs (Naming o b) = object_of structs false o b

-- among the objects of file scope, from number o on
abbrev pub file_place : List CStruct → ℕ → List FileObject → Name → Result Lvalue Trouble
file_place structs o [] x = Err Stuck
file_place structs o (f ∷ fs) x = if same_word f.name x then Ok (object_of structs f.constant o f.base) else file_place structs (suc o) fs x

-- those of the function hide them (6.2.1)
abbrev pub or_outer : List CStruct → Option Slot → Result Lvalue Trouble → Result Lvalue Trouble
or_outer structs (Some slot) outer = Ok (slot_place structs slot)
or_outer structs None outer = outer

abbrev pub name_place : Program → CState → Name → Result Lvalue Trouble
name_place p s x = or_outer p.unit.structs (named s.frames.own x) (file_place p.unit.structs 0 p.unit.objects x)

-- ---- parts (6.5.2.1, 6.5.2.3, 6.5.3.2)

-- `*` of a pointer
abbrev pub pointee : List CStruct → CValue → Result Lvalue Trouble
pointee structs (Num kind v) = Err Stuck
pointee structs (Ptr constant b to) = Ok (Located constant to (tree structs b))

abbrev pub behind : Address → ℕ → Address
behind to bytes = record to { offset = to.offset + bytes }

abbrev pub part_at : Bool → Address → Option CTree → Result Lvalue Trouble
part_at constant to None = Err Stuck
part_at constant to (Some a) = Ok (Located constant to a)

-- a member of a struct
abbrev pub member_of : Target → Name → Lvalue → Result Lvalue Trouble
member_of t m (Known v) = Err Stuck
member_of t m (Located constant to (Leaf s)) = Err Stuck
member_of t m (Located constant to (Many n a)) = Err Stuck
member_of t m (Located constant to (Struct k r)) = part_at constant (behind to (offset_named (metric_of t) (Struct k r) m)) (member_tree r m)

-- An element of an array of n. An index must be in range also where no more than the address is taken; this is stricter than 6.5.6.
abbrev pub element_at : Target → Bool → Address → ℕ → CTree → ℤ → Result Lvalue Trouble
element_at t constant to n a i =
    if int_le (pos 0) i && int_lt i (pos n) then Ok (Located constant (behind to (unsigned_abs i * size (metric_of t) a)) a) else Err (Undefined Bounds)

abbrev pub element_of : Target → Lvalue → CValue → Result Lvalue Trouble
element_of t (Known u) v = Err Stuck
element_of t (Located constant to (Leaf s)) v = Err Stuck
element_of t (Located constant to (Struct k r)) v = Err Stuck
element_of t (Located constant to (Many n a)) (Num kind i) = element_at t constant to n a i
element_of t (Located constant to (Many n a)) (Ptr c b other) = Err Stuck

-- ---- what is read, and pointers

-- the value of a pointer to an object that has ended is indeterminate (6.2.4)
abbrev pub alive : CState → CValue → Result CValue Trouble
alive s (Num kind v) = Ok (Num kind v)
alive s (Ptr constant b to) = if lives s to.object then Ok (Ptr constant b to) else Err (Undefined Dead)

-- what is no number of its type is never written, so that no run reads it
abbrev pub of_scalar : Target → CScalar → ℤ → Result CValue Trouble
of_scalar t k v = if can_hold (table_of t) (Scalar k) v then Ok (Num (Scalar k) v) else Err Stuck

-- the value of a place, of the exact scalar that is laid out there (6.3.2.1, 6.5)
abbrev pub read : Target → CState → Lvalue → Result CValue Trouble
read t s (Known v) = alive s v
read t s (Located constant to (Leaf k)) = on_ok (answered ((memory_of t).read s.objects to.object (to.offset, k))) (of_scalar t k)
read t s (Located constant to (Many n a)) = Err Stuck
read t s (Located constant to (Struct k r)) = Err Stuck

-- `&` of an object or its part, save an array (6.5.3.2)
abbrev pub address_of : Lvalue → Result CValue Trouble
address_of (Known v) = Err Stuck
address_of (Located constant to (Leaf k)) = Ok (Ptr constant (base.Scalar k) to)
address_of (Located constant to (Many n a)) = Err Stuck
address_of (Located constant to (Struct k r)) = Ok (Ptr constant (base.Struct k) to)

-- A cast (6.5.4): of a number as by assignment; of a pointer to another base, `const` or not, only where such a type begins. This is
-- stricter than 6.3.2.3, which asks for alignment.
abbrev pub pointer_cast : Target → CState → Bool → CBase → CValue → Result CValue Trouble
pointer_cast t s constant b (Num kind v) = Err Stuck
pointer_cast t s constant b (Ptr c from to) = unless_refused (refuses_cast (metric_of t) (is_base b) s.objects to.object to.offset) (Ok (Ptr constant b to))

abbrev pub cast : Target → CState → CType → CValue → Result CValue Trouble
cast t s (Value k) v = as_assigned t (Value k) v
cast t s (Pointer constant b) v = pointer_cast t s constant b v
cast t s Void v = Err Stuck
