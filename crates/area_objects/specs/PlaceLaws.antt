-- What places of C, their values and what the outside sees come to where the memory is alike to the areas.
use Rattle.std.specs.Prelude.{◌≡◌, ℕ, ◌<◌, ℤ, pos, List, [], ◌∷◌, ◌++◌, Bool, false, slice_get, Some, Ok}
use Rattle.run_records.specs.declared.Piece.TheVariants as piece
use Rattle.type_trees.specs.Trees.{Leaf, Many, Struct, part}
use Rattle.type_trees.specs.Values.{Cell, cells, at}
use Rattle.area_types.specs.Syntax.{ValueType, Area as AreaType}
use Rattle.area_types.specs.Tables.{Table, written_out}
use Rattle.area_types.specs.Trees.{Written, WrittenRow}
use Rattle.core_tree.specs.Syntax.{ModuleCore, AreaCore}
use Rattle.c_memory.specs.Initializers as values
use Rattle.c_ast.specs.declared.CBase.{CBase}
use Rattle.c_ast.specs.declared.CKind.{CKind}
use Rattle.c_ast.specs.declared.CKind.TheVariants.{Scalar}
use Rattle.c_ast.specs.declared.CStruct.{CStruct}
use Rattle.c_ast.specs.declared.Target.{Target}
use Rattle.c_ast.specs.Scalars.{metric_of}
use Rattle.c_ast.specs.Targets.{table_of}
use Rattle.c_meaning.specs.Calls as calls
use Rattle.c_meaning.specs.Initializers.{as_number, in_numbers, made_with}
use Rattle.c_meaning.specs.Memory.{CObjects, memory_of, nought}
use Rattle.c_meaning.specs.Places.{member_of, element_of, address_of, pointee, read}
use Rattle.c_meaning.specs.State as target
use Rattle.c_meaning.specs.State.{Program, CState}
use Rattle.c_meaning.specs.Statements.{stored}
use Rattle.c_meaning.specs.Values.{CValue, Num, Ptr, on_ok}
use Rattle.core_meaning.specs.Areas.{Held, Area, Areas, put_at}
use Rattle.core_meaning.specs.State as source
use Rattle.core_meaning.specs.State.{State}
use Rattle.area_objects.specs.Shapes.{Naming, shape, place, base_of}
use Rattle.area_objects.specs.Holds.{CanHold}
use Rattle.area_objects.specs.Both.{Map, LiveIn, Both, Done}
use Rattle.area_objects.specs.Located.{FieldsApart, Numbered, begins, located, IsType, SameGlobals}

-- the areas and the memory of a target are alike
abbrev pub BothIn : Target → Naming → Map → Areas → CObjects → Type 0
BothIn t g objects areas mem = Both (CanHold (table_of t)) (memory_of t) g objects areas mem

-- ---- longer paths

-- every area of a module has its fields in order
abbrev pub FieldsInOrder : Type 0
FieldsInOrder = (table : Table) (area : AreaType) → Numbered (written_out table area)

-- `.f` of a struct is the place of the field
abbrev pub FieldsLocated : Type 0
FieldsLocated =
    (t : Target) (g : Naming) (c : Bool) (o : ℕ) (ty : Written) (p : List ℕ) (k : ℕ) (r : WrittenRow) (f : ℕ) (b : Written)
    → FieldsApart g k r → Numbered (Struct k r) → part ty p ≡ Some (Struct k r) → part (Struct k r) (f ∷ []) ≡ Some b
    → (part ty (p ++ f ∷ []) ≡ Some b) × (member_of t (g.member k f) (located t g c o ty p (Struct k r)) ≡ Ok (located t g c o ty (p ++ f ∷ []) b))

-- the array's member and `[i]` of it are the place of the element, which is in bounds
abbrev pub ElementsLocated : Type 0
ElementsLocated =
    (t : Target) (g : Naming) (c : Bool) (o : ℕ) (ty : Written) (p : List ℕ) (n i : ℕ) (b : Written) (kind : CKind)
    → part ty p ≡ Some (Many n b) → i < n
    → (part ty (p ++ i ∷ []) ≡ Some b)
    × (on_ok (member_of t g.elements (located t g c o ty p (Many n b))) (λ l. element_of t l (Num kind (pos i))) ≡ Ok (located t g c o ty (p ++ i ∷ []) b))

-- `&` of a part, and `*` of that
abbrev pub PartsPointedTo : Type 0
PartsPointedTo =
    (t : Target) (g : Naming) (structs : List CStruct) (c : Bool) (o : ℕ) (ty : Written) (p : List ℕ) (b : Written) → IsType g structs (base_of g b) b
    → (address_of (located t g c o ty p b) ≡ Ok (Ptr c (base_of g b) (begins t g o ty p))) × (pointee structs (Ptr c (base_of g b) (begins t g o ty p)) ≡ Ok (located t g c o ty p b))

-- ---- values

abbrev pub PlacesRead : Type 0
PlacesRead =
    (t : Target) (g : Naming) (objects : Map) (areas : Areas) (s : CState) (k o : ℕ) (a : Area) (c : Bool) (p : List ℕ) (x : ValueType) (n : ℤ)
    → BothIn t g objects areas s.objects → LiveIn objects areas k o a → part a.ty p ≡ Some (Leaf x) → at a.held p ≡ Some (Cell n)
    → read t s (located t g c o a.ty p (Leaf x)) ≡ Ok (Num (Scalar (g.scalar x)) n)

abbrev pub PlacesAssigned : Type 0
PlacesAssigned =
    (t : Target) (g : Naming) (objects : Map) (areas : Areas) (s : CState) (k o : ℕ) (a : Area) (c : Bool) (p : List ℕ) (x : ValueType) (v : CValue) (n : ℤ)
    → BothIn t g objects areas s.objects → LiveIn objects areas k o a → a.constant ≡ false → part a.ty p ≡ Some (Leaf x) → as_number t (g.scalar x) v ≡ Ok n → CanHold (table_of t) (g.scalar x) n
    → (done : Done (metric_of t) (CanHold (table_of t)) (memory_of t) g ((memory_of t).write s.objects o (place (metric_of t) g a.ty p, g.scalar x) n) s.objects o objects (put_at k p (Cell n) areas))
    × (stored t s (located t g c o a.ty p (Leaf x)) v ≡ Ok done.new)

-- a declaration whose initializer gives the cells of the value makes the object of that value
abbrev pub ObjectsInitialized : Type 0
ObjectsInitialized =
    (t : Target) (g : Naming) (ty : Written) (held : Held) (c : Bool) (mem : CObjects) (given : values.Init CValue) (numbers : values.Init ℤ)
    → in_numbers t (shape g ty) given ≡ Ok numbers → cells (values.initial nought (shape g ty) numbers) ≡ cells held
    → made_with t (shape g ty) c mem given ≡ Ok ((memory_of t).initialize mem (shape g ty) c (cells held))

-- ---- the outside

-- a pointer to a part shows the cells of the part
abbrev pub PointersShow : Type 0
PointersShow =
    (t : Target) (g : Naming) (structs : List CStruct) (objects : Map) (areas : Areas) (mem : CObjects) (k o : ℕ) (a : Area) (c : Bool) (d : CBase) (p : List ℕ) (b : Written) (u : Held)
    → IsType g structs d b → BothIn t g objects areas mem → LiveIn objects areas k o a → part a.ty p ≡ Some b → at a.held p ≡ Some u
    → calls.piece_of t structs mem (Ptr c d (begins t g o a.ty p)) ≡ Ok (piece.Cells (cells u))

-- states that are alike show the same areas: each area of the module is live, of its type, and has the object of its own number
abbrev pub AreasSeen : Type 0
AreasSeen =
    (program : Program) (g : Naming) (core : ModuleCore) (objects : Map) (s : State) (u : CState)
    → BothIn program.target g objects s.areas u.objects → SameGlobals g core.structs program.unit.structs core.areas program.unit.objects
    → ((k : ℕ) (x : AreaCore) → slice_get core.areas k ≡ Some x → (a : Area) × (a.ty ≡ written_out core.structs x.area) × LiveIn objects s.areas k k a)
    → target.seen program u ≡ source.seen core s
