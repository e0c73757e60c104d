-- What stands around an expression or a statement of a procedure.
use Rattle.std.specs.Prelude.{ℕ, suc, ◌+◌, if◌then◌else◌, List, [], ◌∷◌, ◌++◌, map, slice_get, Option}
use Rattle.std.specs.Option.{option_map, option_and_then}
use Rattle.run_records.specs.declared.Plain.{Plain}
use Rattle.run_records.specs.declared.Plain.TheVariants as plain
use Rattle.alloc_effects.specs.declared.allowed.Allowed.{Allowed}
use Rattle.alloc_effects.specs.declared.allowed.Narrowing.{Narrowing}
use Rattle.alloc_effects.specs.Permissions.{narrowed, looped}
use Rattle.area_types.specs.Syntax as types
use Rattle.area_types.specs.Syntax.{ValueType, Area}
use Rattle.area_types.specs.View.{struct_of}
use Rattle.bit_data.specs.declared.layout.FieldBits.{FieldBits}
use Rattle.core_tree.specs.Syntax.{ProcCore, ModuleCore, CallCore, StmtCore, Let, LetCall, Alloc, Store, Copy, Call, If, IfElse, Map, Upto, Downto, Forever, Break, Return, Assert, NoAlloc, NoBreak, NoReturn, StmtsCore, NoStmts, MoreStmts}

-- the module, the procedures before this one, the types of its locals, its result, and in an `ensures` the type of `result`
pub record Env : Type 0 where
  pub core : ModuleCore
  pub earlier : List ProcCore
  pub locals : List ValueType
  pub result : Option ValueType
  pub outcome : Option ValueType

-- where a statement stands: the locals in scope, how many locals stand before it in the text, and what it may do
pub record Point : Type 0 where
  pub scope : List ℕ
  pub next : ℕ
  pub allowed : Allowed

-- ---- what numbers stand for

-- the field of that number of that bit data
abbrev pub bit_field : ModuleCore → (bits field : ℕ) → Option FieldBits
bit_field m bits field = option_and_then (λ l. slice_get l.fields field) (slice_get m.layouts bits)

-- the area of the field of that number of that struct
abbrev pub struct_field : ModuleCore → (number field : ℕ) → Option Area
struct_field m number field = option_and_then (λ s. option_map (λ f. f.area) (slice_get (struct_of s).fields field)) (slice_get m.structs.structs number)

-- ---- what is called

pub record Header : Type 0 where
  pub params : List ValueType
  pub result : Option ValueType

abbrev pub type_of_plain : Plain → ValueType
type_of_plain plain.Truth = types.Truth
type_of_plain (plain.Int kind) = types.Int kind

-- an import, or a procedure before this one
abbrev pub header_of : Env → CallCore → Option Header
header_of env c =
    if c.import then option_map (λ i. record { params = i.params; result = option_map type_of_plain i.result }) (slice_get env.core.imports c.callee)
    else option_map (λ p. record { params = map (λ x. x.ty) p.params; result = p.result }) (slice_get env.earlier c.callee)

-- ---- which locals there are

abbrev mutual
  -- how many locals a statement makes, those of its blocks counted
  pub locals_in : StmtCore → ℕ
  locals_in (Let number value) = 1
  locals_in (LetCall number call) = 1
  locals_in (Alloc number area init) = 1
  locals_in (If test first) = all_locals first
  locals_in (IfElse test first second) = all_locals first + all_locals second
  locals_in (Map number length body) = 1 + all_locals body
  locals_in (Upto number length bound body) = 1 + all_locals body
  locals_in (Downto number length bound body) = 1 + all_locals body
  locals_in (Forever body) = all_locals body
  locals_in (NoAlloc body) = all_locals body
  locals_in (NoBreak body) = all_locals body
  locals_in (NoReturn body) = all_locals body
  locals_in (Store target value) = 0
  locals_in (Copy target source) = 0
  locals_in (Call call) = 0
  locals_in Break = 0
  locals_in (Return value) = 0
  locals_in (Assert cond check) = 0

  pub all_locals : StmtsCore → ℕ
  all_locals NoStmts = 0
  all_locals (MoreStmts s ss) = locals_in s + all_locals ss

-- the locals that a statement brings into scope, up to the end of its block
abbrev pub named_by : StmtCore → List ℕ
named_by (Let number value) = number ∷ []
named_by (LetCall number call) = number ∷ []
named_by (Alloc number area init) = number ∷ []
named_by (Store target value) = []
named_by (Copy target source) = []
named_by (Call call) = []
named_by (If test first) = []
named_by (IfElse test first second) = []
named_by (Map number length body) = []
named_by (Upto number length bound body) = []
named_by (Downto number length bound body) = []
named_by (Forever body) = []
named_by Break = []
named_by (Return value) = []
named_by (Assert cond check) = []
named_by (NoAlloc body) = []
named_by (NoBreak body) = []
named_by (NoReturn body) = []

-- where the next statement of the block stands
abbrev pub after : StmtCore → Point → Point
after s at = record at { scope = named_by s ++ at.scope; next = at.next + locals_in s }

-- so many locals further on in the text
abbrev pub skipping : ℕ → Point → Point
skipping n at = record at { next = at.next + n }

-- in a block that takes a permission away
abbrev pub narrowing : Narrowing → Point → Point
narrowing by at = record at { allowed = narrowed at.allowed by }

-- in the body of a loop
abbrev pub looping : Point → Point
looping at = record at { allowed = looped at.allowed }

-- in the body of a loop with that name
abbrev pub within_loop : (number : ℕ) → Point → Point
within_loop number at = record at { scope = number ∷ at.scope; next = suc at.next; allowed = looped at.allowed }
