-- The rules that may be broken at each form of a statement, as rows of numbers with tests; the last is that it is reached.
use Rattle.std.specs.Prelude.{ℕ, Bool, not, List, [], ◌∷◌, ◌++◌, Option, Some, None}
use Rattle.ivory_tree.specs.Syntax.{StmtSyntax, Let, LetCall, Alloc, Store, Copy, Call, If, IfElse, Map, Upto, Downto, Forever, Break, Return, Assert, NoAlloc, NoBreak, NoReturn}
use Rattle.area_types.specs.Syntax.{ValueType}
use Rattle.area_types.specs.Tables.{is_length}
use Rattle.region_check.specs.Calls.{reference_of}
use Rattle.source_types.specs.Environments.{Callee, callee_named}
use Rattle.rule_faults.specs.Contexts.{Context, is_taken}
use Rattle.rule_faults.specs.ExpressionRules.{stores}
use Rattle.rule_faults.specs.StatementRules.{only_reads, alike}
use Rattle.rule_faults.specs.Tests.{where_there, where_both}
use Rattle.rule_faults.specs.Types.{own_type}

-- a call whose result is named
abbrev pub result_rows : (taken : Bool) → Option Callee → List (ℕ × Bool)
result_rows taken callee = (1, taken) ∷ (33, where_there callee (λ c. not c.gives)) ∷ []

-- an area of the procedure's own
abbrev pub alloc_rows : (taken may : Bool) → List (ℕ × Bool)
alloc_rows taken may = (1, taken) ∷ (43, not may) ∷ []

-- a store into what has this type
abbrev pub store_rows : Option ValueType → List (ℕ × Bool)
store_rows target = (23, where_there target (λ t. not (stores t))) ∷ (31, where_there target (λ t. only_reads (reference_of t))) ∷ []

-- a copy from the second to the first
abbrev pub copy_rows : (target source : Option ValueType) → List (ℕ × Bool)
copy_rows target source =
    (31, where_there target (λ t. only_reads (reference_of t)))
    ∷ (32, where_both target source (λ t u. not (alike (reference_of t) (reference_of u)))) ∷ []

-- a loop with the name of its index and its length
abbrev pub loop_rows : (taken : Bool) → ℕ → List (ℕ × Bool)
loop_rows taken n = (1, taken) ∷ (8, not (is_length n)) ∷ []

-- a `return` with or without a value, in a procedure that has a result or none
abbrev pub return_rows : {A : Type 0} → (gives may : Bool) → Option A → List (ℕ × Bool)
return_rows gives may None = (40, gives) ∷ (41, not may) ∷ []
return_rows gives may (Some value) = (40, not gives) ∷ (41, not may) ∷ []

abbrev pub form_rows : Context → StmtSyntax → List (ℕ × Bool)
form_rows context (Let s name value) = (1, is_taken context name.text) ∷ []
form_rows context (LetCall s name call) = result_rows (is_taken context name.text) (callee_named context.earlier call.name.text)
form_rows context (Alloc s name area init) = alloc_rows (is_taken context name.text) context.allowed.may_alloc
form_rows context (Store s target value) = store_rows (own_type context target)
form_rows context (Copy s target source) = copy_rows (own_type context target) (own_type context source)
form_rows context (Call s call) = []
form_rows context (If s test first) = []
form_rows context (IfElse s test first second) = []
form_rows context (Map s name n body) = loop_rows (is_taken context name.text) n
form_rows context (Upto s name n bound body) = loop_rows (is_taken context name.text) n
form_rows context (Downto s name n bound body) = loop_rows (is_taken context name.text) n
form_rows context (Forever s body) = []
form_rows context (Break s) = (42, not context.allowed.may_break) ∷ []
form_rows context (Return s value) = return_rows context.gives context.allowed.may_return value
form_rows context (Assert s cond) = []
form_rows context (NoAlloc s body) = []
form_rows context (NoBreak s body) = []
form_rows context (NoReturn s body) = []

abbrev pub reached_rows : (reached : Bool) → List (ℕ × Bool)
reached_rows reached = (44, not reached) ∷ []

abbrev pub stmt_rows : Context → (reached : Bool) → StmtSyntax → List (ℕ × Bool)
stmt_rows context reached s = form_rows context s ++ reached_rows reached
