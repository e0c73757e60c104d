-- The first fault within a statement, of its parts one after another.
use Rattle.std.specs.Prelude.{ℕ, false, Option, Some, None}
use Rattle.iv_words.specs.declared.Span.{Span}
use Rattle.ivory_tree.specs.Syntax.{ExprSyntax, InitSyntax, AreaSyntax, StmtSyntax, Let, LetCall, Alloc, Store, Copy, Call, If, IfElse, Map, Upto, Downto, Forever, Break, Return, Assert, NoAlloc, NoBreak, NoReturn, BlockSyntax}
use Rattle.area_types.specs.Syntax as types
use Rattle.alloc_effects.specs.declared.allowed.Narrowing.TheVariants as narrowing
use Rattle.source_types.specs.Written.{index_type, area_in}
use Rattle.rule_faults.specs.Contexts.{Context}
use Rattle.rule_faults.specs.Wants.{Nothing, Wants, wants, of_stored}
use Rattle.rule_faults.specs.ExpressionRows.{area_row, expr_row, call_row}
use Rattle.rule_faults.specs.StatementRows.{in_loop, in_counted, without, alloc_row, value_row, block_row}
use Rattle.rule_faults.specs.FirstFault.{first_of}
use Rattle.rule_checker.specs.Faults.{either}

abbrev pub alloc_fault : Context → AreaSyntax → Option InitSyntax → Option (ℕ × Span)
alloc_fault context area init = either (first_of (area_row context.earlier area)) (first_of (alloc_row context (area_in context.earlier area) init))

abbrev pub store_fault : Context → (target value : ExprSyntax) → Option (ℕ × Span)
store_fault context target value = either (first_of (expr_row context Nothing target)) (first_of (expr_row context (of_stored context target) value))

abbrev pub copy_fault : Context → (target source : ExprSyntax) → Option (ℕ × Span)
copy_fault context target source = either (first_of (expr_row context Nothing target)) (first_of (expr_row context Nothing source))

-- a block within a statement
abbrev pub inner_fault : Context → BlockSyntax → Option (ℕ × Span)
inner_fault context body = first_of (block_row context false body)

abbrev pub second_fault : Context → Option BlockSyntax → Option (ℕ × Span)
second_fault context None = None
second_fault context (Some second) = inner_fault context second

abbrev pub bound_fault : Context → ℕ → ExprSyntax → Option (ℕ × Span)
bound_fault context n bound = first_of (expr_row context (wants (index_type n)) bound)

abbrev pub test_fault : Context → ExprSyntax → Option (ℕ × Span)
test_fault context test = first_of (expr_row context (Wants types.Truth) test)

abbrev pub within_stmt : Context → StmtSyntax → Option (ℕ × Span)
within_stmt context (Let s name value) = first_of (expr_row context Nothing value)
within_stmt context (LetCall s name call) = first_of (call_row context call)
within_stmt context (Alloc s name area init) = alloc_fault context area init
within_stmt context (Store s target value) = store_fault context target value
within_stmt context (Copy s target source) = copy_fault context target source
within_stmt context (Call s call) = first_of (call_row context call)
within_stmt context (If s test first) = either (test_fault context test) (either (inner_fault context first) None)
within_stmt context (IfElse s test first second) = either (test_fault context test) (either (inner_fault context first) (inner_fault context second))
within_stmt context (Map s name n body) = inner_fault (in_counted context name n) body
within_stmt context (Upto s name n bound body) = either (bound_fault context n bound) (inner_fault (in_counted context name n) body)
within_stmt context (Downto s name n bound body) = either (bound_fault context n bound) (inner_fault (in_counted context name n) body)
within_stmt context (Forever s body) = inner_fault (in_loop context) body
within_stmt context (Break s) = None
within_stmt context (Return s value) = first_of (value_row context value)
within_stmt context (Assert s cond) = test_fault context cond
within_stmt context (NoAlloc s body) = inner_fault (without context narrowing.NoAlloc) body
within_stmt context (NoBreak s body) = inner_fault (without context narrowing.NoBreak) body
within_stmt context (NoReturn s body) = inner_fault (without context narrowing.NoReturn) body
