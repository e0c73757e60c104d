-- The memory that C runs on: objects of C's types, whose scalars are represented as the target's table says (C99 6.2.6), and the
-- reasons for which it refuses.
use Rattle.std.specs.Prelude.{ℤ, pos, Bool, false, Option, Some, None, Result, Ok, Err}
use Rattle.iv_words.specs.Words.{same_word}
use Rattle.run_records.specs.declared.Reason.{Reason}
use Rattle.run_records.specs.declared.Reason.TheVariants as reason
use Rattle.type_trees.specs.Trees.{Leaf, Many, Struct}
use Rattle.c_memory.specs.Abstract.{Operations}
use Rattle.c_memory.specs.Access.{Fault, Dead, BadAccess, Indeterminate, ConstWrite}
use Rattle.c_memory.specs.Bytes.{Byte}
use Rattle.c_memory.specs.Codecs.{ScalarTable}
use Rattle.c_memory.specs.Memories.{memory_of_numbers}
use Rattle.c_memory.specs.Objects.{Objects}
use Rattle.c_ast.specs.declared.Target.{Target}
use Rattle.c_ast.specs.declared.CScalar.{CScalar}
use Rattle.c_ast.specs.declared.CBase.{CBase}
use Rattle.c_ast.specs.declared.CBase.TheVariants as base
use Rattle.c_ast.specs.declared.CKind.TheVariants.{Scalar}
use Rattle.c_ast.specs.Conversions.{kind_signed, can_hold}
use Rattle.c_ast.specs.Scalars.{metric}
use Rattle.c_ast.specs.StaticTypes.{same_scalar}
use Rattle.c_ast.specs.Structs.{CTree}
use Rattle.c_ast.specs.Syntax.{Name}
use Rattle.c_ast.specs.Targets.{TargetTable, table_of}
use Rattle.c_meaning.specs.Values.{Trouble, Undefined, Address}

-- ---- scalars of a target

abbrev pub scalar_table : TargetTable → ScalarTable CScalar
scalar_table t = record {
  metric = metric t;
  signed = λ s. kind_signed (Scalar s);
  order = t.byte_order;
  same = same_scalar;
  holds = λ s v. can_hold t (Scalar s) v;
}

-- ---- objects

-- of numbers; a byte of a pointer would have its address
abbrev pub CObjects : Type 0
CObjects = Objects CScalar Name (Byte Address)

abbrev pub memory_of : Target → Operations CScalar Name ℤ
memory_of t = memory_of_numbers Address (scalar_table (table_of t))

-- a scalar that is initialized without a value, or by `{0}` (6.7.8)
abbrev pub nought : CScalar → ℤ
nought s = pos 0

-- whether a type is that of a base, to which a pointer may point
abbrev pub is_base : CBase → CTree → Bool
is_base (base.Scalar s) (Leaf u) = same_scalar s u
is_base (base.Scalar s) (Many n a) = false
is_base (base.Scalar s) (Struct k r) = false
is_base (base.Struct w) (Leaf u) = false
is_base (base.Struct w) (Many n a) = false
is_base (base.Struct w) (Struct k r) = same_word w k

-- ---- refusals

abbrev pub reason_of : Fault → Reason
reason_of Dead = reason.Dead
reason_of BadAccess = reason.BadAccess
reason_of Indeterminate = reason.Indeterminate
reason_of ConstWrite = reason.ConstWrite

-- what the memory answers
abbrev pub answered : {A : Type 0} → Result A Fault → Result A Trouble
answered (Ok a) = Ok a
answered (Err fault) = Err (Undefined (reason_of fault))

-- a value, where the memory does not refuse
abbrev pub unless_refused : {A : Type 0} → Option Fault → Result A Trouble → Result A Trouble
unless_refused None r = r
unless_refused (Some fault) r = Err (Undefined (reason_of fault))
