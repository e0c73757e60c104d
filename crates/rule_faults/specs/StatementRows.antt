-- The nodes of statements and blocks. What a `let` or an `alloc` names is in scope from there to the end of its block.
use Rattle.std.specs.Prelude.{ℕ, Bool, true, false, ◌&&◌, List, [], ◌∷◌, ◌++◌, Option, Some, None, option_map, option_and_then, unwrap_or, if◌then◌else◌}
use Rattle.iv_words.specs.declared.Name.{Name}
use Rattle.ivory_tree.specs.Syntax.{ExprSyntax, InitSyntax, CallSyntax, StmtSyntax, Let, LetCall, Alloc, Store, Copy, Call, If, IfElse, Map, Upto, Downto, Forever, Break, Return, Assert, NoAlloc, NoBreak, NoReturn, BlockSyntax, Braces, StmtsSyntax, NoStmts, MoreStmts}
use Rattle.area_types.specs.Syntax as types
use Rattle.area_types.specs.Syntax.{ValueType, Area}
use Rattle.area_types.specs.declared.region.Region.TheVariants.{Global}
use Rattle.region_check.specs.Substitutions.{applied}
use Rattle.region_check.specs.Faults.{known}
use Rattle.alloc_effects.specs.Permissions.{narrowed, looped}
use Rattle.alloc_effects.specs.declared.allowed.Narrowing.{Narrowing}
use Rattle.alloc_effects.specs.declared.allowed.Narrowing.TheVariants as narrowing
use Rattle.control_effects.specs.Falling.{stmt_falls}
use Rattle.source_types.specs.Environments.{Callee, callee_named}
use Rattle.source_types.specs.Written.{index_type, area_in}
use Rattle.rule_faults.specs.Contexts.{Context, with_local, own_area}
use Rattle.rule_faults.specs.Types.{own_type}
use Rattle.rule_faults.specs.Wants.{Want, Nothing, Wants, wants, of_stored, of_returned}
use Rattle.rule_faults.specs.Nodes.{Node, AStatement, ABlock}
use Rattle.rule_faults.specs.ExpressionRows.{area_row, expr_row, matched_all, call_row, init_row}

-- the result of a call, its regions as the arguments give them
abbrev pub result_for : Context → CallSyntax → Callee → Option ValueType
result_for context call c = option_map (applied (λ j. unwrap_or (known (matched_all context c.params call.args) j) Global)) c.result

abbrev pub call_type : Context → CallSyntax → Option ValueType
call_type context call = option_and_then (result_for context call) (callee_named context.earlier call.name.text)

-- what is known after a statement of the same block
abbrev pub after_stmt : Context → StmtSyntax → Context
after_stmt context (Let s name value) = with_local context name.text (own_type context value)
after_stmt context (LetCall s name call) = with_local context name.text (call_type context call)
after_stmt context (Alloc s name area init) = with_local context name.text (own_area (area_in context.earlier area))
after_stmt context (Store s target value) = context
after_stmt context (Copy s target source) = context
after_stmt context (Call s call) = context
after_stmt context (If s test first) = context
after_stmt context (IfElse s test first second) = context
after_stmt context (Map s name n body) = context
after_stmt context (Upto s name n bound body) = context
after_stmt context (Downto s name n bound body) = context
after_stmt context (Forever s body) = context
after_stmt context (Break s) = context
after_stmt context (Return s value) = context
after_stmt context (Assert s cond) = context
after_stmt context (NoAlloc s body) = context
after_stmt context (NoBreak s body) = context
after_stmt context (NoReturn s body) = context

-- in the body of a loop: it may break, and the loop's name is an index
abbrev pub in_loop : Context → Context
in_loop context = record context { allowed = looped context.allowed }

abbrev pub in_counted : Context → Name → ℕ → Context
in_counted context name n = with_local (in_loop context) name.text (index_type n)

abbrev pub without : Context → Narrowing → Context
without context by = record context { allowed = narrowed context.allowed by }

abbrev pub alloc_row : Context → Option Area → Option InitSyntax → List Node
alloc_row context area None = []
alloc_row context area (Some init) = init_row context false area init

-- of the value of `return`: the result type; in a procedure without result nothing
abbrev pub of_value : Context → Want
of_value context = if context.gives then of_returned context.result else Nothing

abbrev pub value_row : Context → Option ExprSyntax → List Node
value_row context None = []
value_row context (Some e) = expr_row context (of_value context) e

abbrev mutual
  -- `reached` says whether each statement before it in its block falls through
  pub stmt_row : Context → (reached : Bool) → StmtSyntax → List Node
  stmt_row context reached (Let s name value) = AStatement context reached (Let s name value) ∷ expr_row context Nothing value
  stmt_row context reached (LetCall s name call) = AStatement context reached (LetCall s name call) ∷ call_row context call
  stmt_row context reached (Alloc s name area init) = AStatement context reached (Alloc s name area init) ∷ (area_row context.earlier area ++ alloc_row context (area_in context.earlier area) init)
  stmt_row context reached (Store s target value) = AStatement context reached (Store s target value) ∷ (expr_row context Nothing target ++ expr_row context (of_stored context target) value)
  stmt_row context reached (Copy s target source) = AStatement context reached (Copy s target source) ∷ (expr_row context Nothing target ++ expr_row context Nothing source)
  stmt_row context reached (Call s call) = AStatement context reached (Call s call) ∷ call_row context call
  stmt_row context reached (If s test first) = AStatement context reached (If s test first) ∷ (expr_row context (Wants types.Truth) test ++ block_row context false first)
  stmt_row context reached (IfElse s test first second) =
      AStatement context reached (IfElse s test first second) ∷ (expr_row context (Wants types.Truth) test ++ (block_row context false first ++ block_row context false second))
  stmt_row context reached (Map s name n body) = AStatement context reached (Map s name n body) ∷ block_row (in_counted context name n) false body
  stmt_row context reached (Upto s name n bound body) = AStatement context reached (Upto s name n bound body) ∷ (expr_row context (wants (index_type n)) bound ++ block_row (in_counted context name n) false body)
  stmt_row context reached (Downto s name n bound body) = AStatement context reached (Downto s name n bound body) ∷ (expr_row context (wants (index_type n)) bound ++ block_row (in_counted context name n) false body)
  stmt_row context reached (Forever s body) = AStatement context reached (Forever s body) ∷ block_row (in_loop context) false body
  stmt_row context reached (Break s) = AStatement context reached (Break s) ∷ []
  stmt_row context reached (Return s value) = AStatement context reached (Return s value) ∷ value_row context value
  stmt_row context reached (Assert s cond) = AStatement context reached (Assert s cond) ∷ expr_row context (Wants types.Truth) cond
  stmt_row context reached (NoAlloc s body) = AStatement context reached (NoAlloc s body) ∷ block_row (without context narrowing.NoAlloc) false body
  stmt_row context reached (NoBreak s body) = AStatement context reached (NoBreak s body) ∷ block_row (without context narrowing.NoBreak) false body
  stmt_row context reached (NoReturn s body) = AStatement context reached (NoReturn s body) ∷ block_row (without context narrowing.NoReturn) false body

  -- `with_result` says whether it is the body of a procedure with a result
  pub block_row : Context → (with_result : Bool) → BlockSyntax → List Node
  block_row context with_result (Braces s stmts) = ABlock with_result (Braces s stmts) ∷ stmts_row context true stmts

  pub stmts_row : Context → (reached : Bool) → StmtsSyntax → List Node
  stmts_row context reached NoStmts = []
  stmts_row context reached (MoreStmts s ss) = stmt_row context reached s ++ stmts_row (after_stmt context s) (reached && stmt_falls s) ss
