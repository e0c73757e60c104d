-- Statements and declarations in functions of the C subset, each on a line of its own.
use Rattle.std.specs.Prelude.{Bool, List, [], ◌∷◌, Option, Some, None}
use Rattle.c_ast.specs.declared.types.CScalar.{CScalar}
use Rattle.c_ast.specs.declared.types.CBase.TheVariants.{Scalar, Struct}
use Rattle.c_ast.specs.declared.types.CType.{CType}
use Rattle.c_ast.specs.Syntax.{Name, Expr, Read, Init, FunctionCall, Stmt, Const, ConstCall, Object, Assign, If, IfElse, Forever, Break, Return, Block, Call, Stmts, Nil, Cons}
use Rattle.grammars.specs.Grammar.{token, map, sequence, choice, repeat, after, before, optional}
use Rattle.c_grammar.specs.Pieces.{Piece}
use Rattle.c_grammar.specs.Kinds.{indentation, outdentation}
use Rattle.c_grammar.specs.Symbols.{Side, left, right, an_expression, a_pointer, arguments, forever, a_block, Rule, mark, blank, new_line, semicolon, word_if, word_else, word_for, word_break, word_return, parens, braces, pair}
use Rattle.c_grammar.specs.TypeRules.{name, scalar, tag, scalar_type, struct_pointer, held, held_pointer}
use Rattle.c_grammar.specs.ExpressionRules.{Step, named_place, place_behind, step, number, in_parens, expression, initializer}

-- ` = ` and what follows
abbrev pub equals : {A : Type 0} → Rule A → Rule A
equals p = after blank (after (mark 61) (after blank p))

-- ---- declarations

abbrev pub call_of : Name → List Expr → FunctionCall
call_of x args = record { name = x; args = args }

-- behind a name: a call, or the steps of a place
abbrev pub named_value : Name → Side (List Expr) (List Step) → Side Expr FunctionCall
named_value x (left args) = right (call_of x args)
named_value x (right steps) = left (Read (named_place x steps))

abbrev pub call_or_steps : Rule (Side (List Expr) (List Step))
call_or_steps = choice (map left (parens arguments)) (map right (repeat step))

unfoldable pub value_or_call : Rule (Side Expr FunctionCall)
value_or_call = choice (map left number) (choice (sequence named_value name call_or_steps) (map left in_parens))

-- what is declared behind a base: a name that holds a value, or an object
abbrev pub Held : Type 0
Held = (Option Bool × Name) × Side Expr FunctionCall

abbrev pub Declared : Type 0
Declared = Name × Option Init

abbrev pub held_as : CType → Name → Side Expr FunctionCall → Stmt
held_as t x (left e) = Const x t e
held_as t x (right c) = ConstCall x t c

abbrev pub declared_scalar : CScalar → Side Held Declared → Stmt
declared_scalar s (left h) = held_as (scalar_type s h.0.0) h.0.1 h.1
declared_scalar s (right o) = Object o.0 (Scalar s) o.1

abbrev pub declared_struct : Name → Side ((Bool × Name) × Side Expr FunctionCall) Declared → Stmt
declared_struct x (left h) = held_as (struct_pointer x h.0.0) h.0.1 h.1
declared_struct x (right o) = Object o.0 (Struct x) o.1

abbrev pub object : Rule Declared
object = sequence pair name (optional (equals initializer))

abbrev pub behind_scalar : Rule (Side Held Declared)
behind_scalar = choice (map left (sequence pair held (equals value_or_call))) (map right object)

abbrev pub behind_struct : Rule (Side ((Bool × Name) × Side Expr FunctionCall) Declared)
behind_struct = choice (map left (sequence pair held_pointer (equals value_or_call))) (map right object)

abbrev pub declaration : Rule Stmt
declaration = choice (sequence declared_scalar scalar (after blank behind_scalar)) (sequence declared_struct tag (after blank behind_struct))

-- ---- statements that end with a semicolon

abbrev pub Assigned : Type 0
Assigned = List Step × Expr

abbrev pub assigned : Rule Assigned
assigned = sequence pair (repeat step) (equals expression)

abbrev pub named_statement : Name → Side (List Expr) Assigned → Stmt
named_statement x (left args) = Call (call_of x args)
named_statement x (right (steps, e)) = Assign (named_place x steps) e

abbrev pub pointed_statement : Expr → Assigned → Stmt
pointed_statement p (steps, e) = Assign (place_behind p steps) e

abbrev pub name_first : Rule Stmt
name_first = sequence named_statement name (choice (map left (parens arguments)) (map right assigned))

abbrev pub pointer_first : Rule Stmt
pointer_first = sequence pointed_statement (parens a_pointer) assigned

abbrev pub break_statement : Rule Stmt
break_statement = map (λ _. Break) word_break

abbrev pub return_statement : Rule Stmt
return_statement = map Return (after word_return (optional (after blank expression)))

unfoldable pub simple : Rule Stmt
simple = choice break_statement (choice return_statement (choice declaration (choice name_first pointer_first)))

-- ---- statements with blocks

abbrev pub block : Rule Stmts
block = braces a_block

abbrev pub if_with : Expr → Stmts × Option Stmts → Stmt
if_with e (a, None) = If e a
if_with e (a, Some b) = IfElse e a b

abbrev pub condition : Rule Expr
condition = after word_if (after blank (parens an_expression))

abbrev pub otherwise : Rule (Option Stmts)
otherwise = optional (after blank (after word_else (after blank block)))

abbrev pub if_statement : Rule Stmt
if_statement = sequence if_with condition (after blank (sequence pair block otherwise))

abbrev pub for_statement : Rule Stmt
for_statement = map Forever (after word_for (after blank (after (parens forever) (after blank block))))

unfoldable pub statement : Rule Stmt
statement = choice if_statement (choice for_statement (choice (map Block block) (before simple semicolon)))

-- ---- lines

abbrev pub stmts_of : List Stmt → Stmts
stmts_of [] = Nil
stmts_of (s ∷ more) = Cons s (stmts_of more)

abbrev pub statement_line : Rule Stmt
statement_line = after (token indentation Some) (before statement new_line)

abbrev pub lines : Rule Stmts
lines = after new_line (map stmts_of (repeat statement_line))

abbrev pub block_rule : Rule Stmts
block_rule = before lines (token {A = Piece} outdentation Some)

-- ;;
abbrev pub forever_rule : Rule Piece
forever_rule = after semicolon semicolon
