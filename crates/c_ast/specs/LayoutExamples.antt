-- Small structs, and exactly where their scalars stand: examples that hold the definitions fast.
use Rattle.std.specs.Prelude.{◌≡◌, ℕ, [], ◌∷◌, Some, None, codes}
use Rattle.iv_words.specs.declared.IntKind.{IntKind}
use Rattle.iv_words.specs.declared.IntKind.TheVariants.{U8, U32, U64, I16}
use Rattle.c_ast.specs.declared.types.Target.TheVariants.{T32}
use Rattle.c_ast.specs.declared.types.CScalar.TheVariants.{Truth, Int}
use Rattle.c_ast.specs.declared.types.CBase.{CBase}
use Rattle.c_ast.specs.declared.types.CBase.TheVariants.{Scalar, Struct}
use Rattle.c_ast.specs.declared.unit.CMember.{CMember}
use Rattle.c_ast.specs.declared.unit.CStruct.{CStruct}
use Rattle.c_ast.specs.Syntax.{Name}
use Rattle.c_ast.specs.TargetExamples.{narrow}
use Rattle.type_trees.specs.Layouts.{align, size, lay}
use Rattle.c_ast.specs.Scalars.{metric}
use Rattle.c_ast.specs.Structs.{tree, layout, size_of, align_of, offset_of}

-- ---- writing structs

-- `BASE NAME;` and `BASE NAME[LENGTH];`
abbrev pub one : Name → CBase → CMember
one name base = record { name = name; base = base; length = None }

abbrev pub some : Name → CBase → ℕ → CMember
some name base length = record { name = name; base = base; length = Some length }

abbrev pub int_of : IntKind → CBase
int_of kind = Scalar (Int kind)

-- `struct pair { uint8_t a; uint32_t b; };`
abbrev pub pair : CStruct
pair = record { name = codes "pair"; members = one (codes "a") (int_of U8) ∷ one (codes "b") (int_of U32) ∷ [] }

-- `struct row { struct pair p[2]; bool q; };`
abbrev pub row : CStruct
row = record { name = codes "row"; members = some (codes "p") (Struct (codes "pair")) 2 ∷ one (codes "q") (Scalar Truth) ∷ [] }

-- `struct wide { int16_t a; uint64_t b; bool c; };`
abbrev pub wide : CStruct
wide = record { name = codes "wide"; members = one (codes "a") (int_of I16) ∷ one (codes "b") (int_of U64) ∷ one (codes "c") (Scalar Truth) ∷ [] }

-- `struct pair { bool a; };`
abbrev pub other_pair : CStruct
other_pair = record { name = codes "pair"; members = one (codes "a") (Scalar Truth) ∷ [] }

-- `struct twice { bool a; uint8_t b; uint32_t b; };`
abbrev pub twice : CStruct
twice = record { name = codes "twice"; members = one (codes "a") (Scalar Truth) ∷ one (codes "b") (int_of U8) ∷ one (codes "b") (int_of U32) ∷ [] }

-- ---- where scalars stand

pub record PaddedExamples : Type 0 where
  pub scalars : layout T32 (pair ∷ []) (Struct (codes "pair")) ≡ (0, Int U8) ∷ (4, Int U32) ∷ []
  pub bytes : size_of T32 (pair ∷ []) (Struct (codes "pair")) ≡ 8
  pub alignment : align_of T32 (pair ∷ []) (Struct (codes "pair")) ≡ 4
  pub member : offset_of T32 (pair ∷ []) (codes "pair") (codes "b") ≡ 4

pub record NestedExamples : Type 0 where
  pub scalars : layout T32 (pair ∷ row ∷ []) (Struct (codes "row")) ≡ (0, Int U8) ∷ (4, Int U32) ∷ (8, Int U8) ∷ (12, Int U32) ∷ (16, Truth) ∷ []
  pub bytes : size_of T32 (pair ∷ row ∷ []) (Struct (codes "row")) ≡ 20
  pub member : offset_of T32 (pair ∷ row ∷ []) (codes "row") (codes "q") ≡ 16

-- a scalar is aligned to its size, or to the greatest alignment of the target
pub record AlignedExamples : Type 0 where
  pub scalars : layout T32 (wide ∷ []) (Struct (codes "wide")) ≡ (0, Int I16) ∷ (8, Int U64) ∷ (16, Truth) ∷ []
  pub bytes : size_of T32 (wide ∷ []) (Struct (codes "wide")) ≡ 24
  pub narrow_scalars : lay (metric narrow) (tree (wide ∷ []) (Struct (codes "wide"))) 0 ≡ (0, Int I16) ∷ (2, Int U64) ∷ (10, Truth) ∷ []
  pub narrow_bytes : size (metric narrow) (tree (wide ∷ []) (Struct (codes "wide"))) ≡ 12
  pub narrow_alignment : align (metric narrow) (tree (wide ∷ []) (Struct (codes "wide"))) ≡ 2

-- of two structs or members of one name the first counts, and a struct knows those before it alone
pub record NamedExamples : Type 0 where
  pub first_struct : size_of T32 (pair ∷ other_pair ∷ []) (Struct (codes "pair")) ≡ 8
  pub first_in_struct : size_of T32 (pair ∷ other_pair ∷ row ∷ []) (Struct (codes "row")) ≡ 20
  pub first_member : offset_of T32 (twice ∷ []) (codes "twice") (codes "b") ≡ 1
  pub earlier_alone : size_of T32 (row ∷ pair ∷ []) (Struct (codes "row")) ≡ 1
