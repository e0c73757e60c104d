-- How types are written, and names with their types before them (C99 6.7.5, 6.7.6): a blank stands before a name, save behind `*`.
use Rattle.std.specs.Prelude.{ℕ, Bool, if◌then◌else◌, List, [], ◌∷◌, ◌++◌, codes}
use Rattle.iv_words.specs.declared.kind.IntKind.{IntKind}
use Rattle.iv_words.specs.declared.kind.IntKind.TheVariants.{U8, U16, U32, U64, I8, I16, I32, I64}
use Rattle.c_ast.specs.declared.types.CScalar.{CScalar}
use Rattle.c_ast.specs.declared.types.CScalar.TheVariants.{Truth, Int}
use Rattle.c_ast.specs.declared.types.CBase.{CBase}
use Rattle.c_ast.specs.declared.types.CBase.TheVariants.{Scalar, Struct}
use Rattle.c_ast.specs.declared.types.CType.{CType}
use Rattle.c_ast.specs.declared.types.CType.TheVariants.{Void, Value, Pointer}
use Rattle.c_ast.specs.Syntax.{Name}

-- ---- lines and lists

-- the bytes of a line, and its end
abbrev pub line : List ℕ → List ℕ
line text = text ++ 10 ∷ []

-- the texts of a list with a comma and a blank between two of them
abbrev pub listed : List (List ℕ) → List ℕ
listed [] = []
listed (t ∷ []) = t
listed (t ∷ u ∷ us) = t ++ codes ", " ++ listed (u ∷ us)

-- the texts of a list one after another
abbrev pub texts : List (List ℕ) → List ℕ
texts [] = []
texts (t ∷ ts) = t ++ texts ts

-- ---- types

abbrev pub kind_text : IntKind → List ℕ
kind_text U8 = codes "uint8_t"
kind_text U16 = codes "uint16_t"
kind_text U32 = codes "uint32_t"
kind_text U64 = codes "uint64_t"
kind_text I8 = codes "int8_t"
kind_text I16 = codes "int16_t"
kind_text I32 = codes "int32_t"
kind_text I64 = codes "int64_t"

abbrev pub scalar_text : CScalar → List ℕ
scalar_text Truth = codes "bool"
scalar_text (Int kind) = kind_text kind

abbrev pub base_text : CBase → List ℕ
base_text (Scalar s) = scalar_text s
base_text (Struct tag) = codes "struct " ++ tag

-- behind the base of a pointer, whether to a const one
abbrev pub star_text : Bool → List ℕ
star_text constant = if constant then codes " const *" else codes " *"

abbrev pub type_text : CType → List ℕ
type_text Void = codes "void"
type_text (Value s) = scalar_text s
type_text (Pointer constant base) = base_text base ++ star_text constant

-- ---- names with their types

-- what stands between a type and the name that it is the type of
abbrev pub gap_text : CType → List ℕ
gap_text Void = codes " "
gap_text (Value s) = codes " "
gap_text (Pointer constant base) = []

-- a result and its function
abbrev pub typed_text : CType → Name → List ℕ
typed_text t name = type_text t ++ gap_text t ++ name

-- a name that holds a value: const follows its type
abbrev pub const_text : CType → Name → List ℕ
const_text t name = type_text t ++ gap_text t ++ codes "const " ++ name

-- an object or a member
abbrev pub object_text : CBase → Name → List ℕ
object_text base name = base_text base ++ codes " " ++ name
