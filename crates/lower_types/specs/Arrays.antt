-- Which types the C declares, in order: the structs of the table, and each array type where it is first met, inner before outer. Met
-- are the fields of the structs, the areas, the parameters of the imports, and for each procedure its parameters, its result and the
-- areas that its body allocates, in order of text. Array types are apart where their areas are.
use Rattle.std.specs.Prelude.{ℕ, suc, Bool, false, ◌||◌, if◌then◌else◌, List, [], ◌∷◌, ◌++◌, Option, Some, None}
use Rattle.source_types.specs.Values.{same_area}
use Rattle.area_types.specs.Syntax.{ValueType, Truth, Int, Ix, Bits, Ref, Area, Stored, Array, Struct, Field, StructType}
use Rattle.core_tree.specs.Syntax.{StmtCore, Let, LetCall, Alloc, Store, Copy, Call, If, IfElse, Map, Upto, Downto, Forever, Break, Return, Assert, NoAlloc, NoBreak, NoReturn, StmtsCore, NoStmts, MoreStmts, AreaCore, ImportCore, ParamCore, ProcCore, ModuleCore}
use Rattle.area_types.specs.Tables.{structs_of}

-- the declared types so far: array types and structs
abbrev pub Declared : Type 0
Declared = List Area

abbrev pub is_declared : Declared → Area → Bool
is_declared [] area = false
is_declared (a ∷ more) area = same_area a area || is_declared more area

abbrev pub with_new : Declared → Area → Declared
with_new known area = if is_declared known area then known else known ++ area ∷ []

-- ---- meeting

-- the array types of an area; a struct has its place in the table
abbrev pub met : Declared → Area → Declared
met known (Stored held) = known
met known (Array n element) = with_new (met known element) (Array n element)
met known (Struct k) = known

-- a reference counts as its area
abbrev pub met_type : Declared → ValueType → Declared
met_type known (Ref constant region target) = met known target
met_type known Truth = known
met_type known (Int kind) = known
met_type known (Ix n) = known
met_type known (Bits k) = known

abbrev pub met_result : Declared → Option ValueType → Declared
met_result known None = known
met_result known (Some ty) = met_type known ty

-- the areas that a body allocates
abbrev mutual
  pub met_stmt : Declared → StmtCore → Declared
  met_stmt known (Alloc number area init) = met known area
  met_stmt known (If test first) = met_stmts known first
  met_stmt known (IfElse test first second) = met_stmts (met_stmts known first) second
  met_stmt known (Map number length body) = met_stmts known body
  met_stmt known (Upto number length bound body) = met_stmts known body
  met_stmt known (Downto number length bound body) = met_stmts known body
  met_stmt known (Forever body) = met_stmts known body
  met_stmt known (NoAlloc body) = met_stmts known body
  met_stmt known (NoBreak body) = met_stmts known body
  met_stmt known (NoReturn body) = met_stmts known body
  met_stmt known (Let number value) = known
  met_stmt known (LetCall number call) = known
  met_stmt known (Store target value) = known
  met_stmt known (Copy target source) = known
  met_stmt known (Call call) = known
  met_stmt known Break = known
  met_stmt known (Return value) = known
  met_stmt known (Assert cond check) = known

  pub met_stmts : Declared → StmtsCore → Declared
  met_stmts known NoStmts = known
  met_stmts known (MoreStmts s ss) = met_stmts (met_stmt known s) ss

abbrev pub met_fields : Declared → List Field → Declared
met_fields known [] = known
met_fields known (f ∷ fs) = met_fields (met known f.area) fs

-- structs, the first of which has the number k: each stands after the areas of its own fields
abbrev pub met_structs : ℕ → Declared → List StructType → Declared
met_structs k known [] = known
met_structs k known (s ∷ ss) = met_structs (suc k) (met_fields known s.fields ++ Struct k ∷ []) ss

abbrev pub met_areas : Declared → List AreaCore → Declared
met_areas known [] = known
met_areas known (a ∷ more) = met_areas (met known a.area) more

abbrev pub met_types : Declared → List ValueType → Declared
met_types known [] = known
met_types known (t ∷ ts) = met_types (met_type known t) ts

abbrev pub met_imports : Declared → List ImportCore → Declared
met_imports known [] = known
met_imports known (i ∷ is) = met_imports (met_types known i.params) is

abbrev pub met_params : Declared → List ParamCore → Declared
met_params known [] = known
met_params known (p ∷ ps) = met_params (met_type known p.ty) ps

abbrev pub met_procs : Declared → List ProcCore → Declared
met_procs known [] = known
met_procs known (p ∷ ps) = met_procs (met_stmts (met_result (met_params known p.params) p.result) p.body) ps

abbrev pub declared : ModuleCore → Declared
declared m = met_procs (met_imports (met_areas (met_structs 0 [] (structs_of m.structs)) m.areas) m.imports) m.procs

-- ---- numbers of array types

abbrev pub arrays_among : Declared → List Area
arrays_among [] = []
arrays_among (Array n element ∷ more) = Array n element ∷ arrays_among more
arrays_among (Stored held ∷ more) = arrays_among more
arrays_among (Struct k ∷ more) = arrays_among more

-- the place of the first area that is this one
abbrev pub place_of : List Area → Area → ℕ
place_of [] area = 0
place_of (a ∷ more) area = if same_area a area then 0 else suc (place_of more area)
