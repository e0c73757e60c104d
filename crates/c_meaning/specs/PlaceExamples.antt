-- Places, reads, addresses and casts of pointers in a small memory, and exactly what they come to: examples that hold the definitions fast.
use Rattle.std.specs.Prelude.{◌≡◌, ℕ, ℤ, pos, codes, List, [], ◌∷◌, Some, None, Bool, true, false, Result, Ok, Err}
use Rattle.iv_words.specs.declared.IntKind.TheVariants.{U8, U32, I8}
use Rattle.run_records.specs.declared.Reason.TheVariants.{DivZero, Dead, Bounds, BadAccess, Indeterminate}
use Rattle.c_memory.specs.Blocks.{leave}
use Rattle.c_ast.specs.declared.Target.TheVariants.{T32}
use Rattle.c_ast.specs.declared.CScalar.TheVariants.{Int as Exact}
use Rattle.c_ast.specs.declared.CBase.{CBase}
use Rattle.c_ast.specs.declared.CBase.TheVariants.{Scalar, Struct}
use Rattle.c_ast.specs.declared.CStruct.{CStruct}
use Rattle.c_ast.specs.declared.CType.TheVariants.{Pointer}
use Rattle.c_ast.specs.declared.CUnary.TheVariants.{Neg}
use Rattle.c_ast.specs.Structs.{tree}
use Rattle.c_ast.specs.Syntax.{Expr, Read, Address, Unary, Cast, Place, Var, At, Member, Element, One, FileObject}
use Rattle.c_meaning.specs.Values.{Trouble, Undefined, CValue, Ptr}
use Rattle.c_meaning.specs.Memory.{CObjects, memory_of}
use Rattle.c_meaning.specs.State.{Program, program_of, Holding, Naming, CState}
use Rattle.c_meaning.specs.Expressions.{eval}
use Rattle.c_meaning.specs.NumberExamples.{exact}
use Rattle.c_meaning.specs.ValueExamples.{number, by_zero}

-- ---- a memory

abbrev pub byte : CBase
byte = Scalar (Exact U8)

-- `struct iv_P { uint8_t iv_a; uint32_t iv_b; };` and `struct iv_R { uint8_t at[3]; };`
abbrev pub pair_struct : CStruct
pair_struct = record { name = codes "iv_P"; members = record { name = codes "iv_a"; base = byte; length = None } ∷ record { name = codes "iv_b"; base = Scalar (Exact U32); length = None } ∷ [] }

abbrev pub row_struct : CStruct
row_struct = record { name = codes "iv_R"; members = record { name = codes "at"; base = byte; length = Some 3 } ∷ [] }

abbrev pub structs : List CStruct
structs = pair_struct ∷ row_struct ∷ []

abbrev pub pair : CBase
pair = Struct (codes "iv_P")

abbrev pub row : CBase
row = Struct (codes "iv_R")

-- `static int8_t const iv_c = 5;` of file scope
abbrev pub small_const : FileObject
small_const = record { name = codes "iv_c"; constant = true; base = Scalar (Exact I8); init = One (number 5) }

abbrev pub program : Program
program = program_of (record { structs = structs; externs = []; objects = small_const ∷ []; functions = [] }) T32

-- 5; then 7 and 9; 1, 2 and 3; a byte without a value; and a byte that has ended
abbrev pub made : CObjects → CBase → Bool → List ℤ → CObjects
made objects b constant values = (memory_of T32).initialize objects (tree structs b) constant values

abbrev pub living : CObjects
living = made (made (made [] (Scalar (Exact I8)) true (pos 5 ∷ [])) pair false (pos 7 ∷ pos 9 ∷ [])) row false (pos 1 ∷ pos 2 ∷ pos 3 ∷ [])

abbrev pub objects : CObjects
objects = leave 4 ((memory_of T32).create ((memory_of T32).create living (tree structs byte)) (tree structs byte))

abbrev pub to_byte : ℕ → ℕ → CValue
to_byte o k = Ptr false byte (record { object = o; offset = k })

-- pointers to the ended byte, and to the padding of the pair
abbrev pub there : CState
there = record {
  frames = record { own = (codes "iv_p", Naming 1 pair) ∷ (codes "iv_r", Naming 2 row) ∷ (codes "iv_u", Naming 3 byte) ∷ (codes "iv_d", Holding (to_byte 4 0)) ∷ (codes "iv_q", Holding (to_byte 1 1)) ∷ []; callers = [] };
  objects = objects;
}

abbrev pub value : Expr → Result CValue Trouble
value e = eval program e there

-- ---- places

abbrev pub pair_place : Place
pair_place = Var (codes "iv_p")

abbrev pub of_row : Expr → Place
of_row i = Element (Member (Var (codes "iv_r")) (codes "at")) i

abbrev pub dead_pointer : Expr
dead_pointer = Read (Var (codes "iv_d"))

abbrev pub as_byte : Expr → Expr
as_byte e = Cast (Pointer false byte) e

-- the pair taken for a row
abbrev pub pair_as_row : Place
pair_as_row = At (Cast (Pointer false row) (Address pair_place))

-- a scalar is read at its offset, and never from padding or where it is indeterminate
pub record ReadExamples : Type 0 where
  pub first : value (Read (Member pair_place (codes "iv_a"))) ≡ Ok (exact U8 (pos 7))
  pub behind_padding : value (Read (Member pair_place (codes "iv_b"))) ≡ Ok (exact U32 (pos 9))
  pub element : value (Read (of_row (number 2))) ≡ Ok (exact U8 (pos 3))
  pub of_file : value (Read (Var (codes "iv_c"))) ≡ Ok (exact I8 (pos 5))
  pub indeterminate : value (Read (Var (codes "iv_u"))) ≡ Err (Undefined Indeterminate)
  pub padding : value (Read (At (Read (Var (codes "iv_q"))))) ≡ Err (Undefined BadAccess)
  pub dead : value dead_pointer ≡ Err (Undefined Dead)
  pub dead_used : value (Read (At dead_pointer)) ≡ Err (Undefined Dead)

-- an index is in range, also where only an address is taken; the array comes before the index, and the index before its range
pub record ElementExamples : Type 0 where
  pub past : value (Read (of_row (number 3))) ≡ Err (Undefined Bounds)
  pub address_past : value (Address (of_row (number 3))) ≡ Err (Undefined Bounds)
  pub below : value (Read (of_row (Unary Neg (number 1)))) ≡ Err (Undefined Bounds)
  pub address : value (Address (of_row (number 2))) ≡ Ok (to_byte 2 2)
  pub array_first : value (Read (Element (Member pair_as_row (codes "at")) by_zero)) ≡ Err (Undefined BadAccess)
  pub index_next : value (Read (of_row by_zero)) ≡ Err (Undefined DivZero)

-- a pointer may be cast where the type begins, `const` or not
pub record PointerCastExamples : Type 0 where
  pub address : value (Address pair_place) ≡ Ok (Ptr false pair (record { object = 1; offset = 0 }))
  pub of_const : value (Address (Var (codes "iv_c"))) ≡ Ok (Ptr true (Scalar (Exact I8)) (record { object = 0; offset = 0 }))
  pub const_dropped : value (Cast (Pointer false (Scalar (Exact I8))) (Address (Var (codes "iv_c")))) ≡ Ok (Ptr false (Scalar (Exact I8)) (record { object = 0; offset = 0 }))
  pub to_first : value (as_byte (Address pair_place)) ≡ Ok (to_byte 1 0)
  pub read_there : value (Read (At (as_byte (Address pair_place)))) ≡ Ok (exact U8 (pos 7))
  pub other_type : value (as_byte (Address (Member pair_place (codes "iv_b")))) ≡ Err (Undefined BadAccess)
  pub other_sign : value (as_byte (Address (Var (codes "iv_c")))) ≡ Err (Undefined BadAccess)
  pub dead_first : value (Cast (Pointer false pair) dead_pointer) ≡ Err (Undefined Dead)
