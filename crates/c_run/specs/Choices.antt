-- Statements as the code takes them apart.
use Rattle.std.specs.Prelude.{List, Option, Some, None, map}
use Rattle.std.specs.Option.{option_map}
use Rattle.c_ast.specs.declared.CBase.{CBase}
use Rattle.c_ast.specs.declared.CType.{CType}
use Rattle.c_ast.specs.Syntax.{Name, Expr, Place, Init, Stmt}
use Rattle.c_meaning.specs.Calls.{CallResult, given}
use Rattle.c_meaning.specs.Expressions.{eval, eval_place}
use Rattle.c_meaning.specs.Initializers.{eval_init}
use Rattle.c_meaning.specs.State.{Program, CState}
use Rattle.c_meaning.specs.Statements.{with_value, used, declaration, object_with, assign}
use Rattle.c_meaning.specs.Values.{CValue}
use Rattle.step_semantics.specs.Control.{Control, Returned}
use Rattle.step_semantics.specs.Steps.{Part, give, tick, by_state}
use Rattle.c_ast.specs.View.{if_from, stmt_of, stmts_of}
use Rattle.c_ast.specs.declared.CStmt.{CStmt}

-- `if` as the code's trees have it
abbrev pub choice_of : Expr → List CStmt → Option (List CStmt) → Stmt
choice_of e first second = if_from e (stmts_of first) (option_map (λ b. map stmt_of b) second)

-- the second step of the declaration of a name by a call
abbrev pub const_step : Program → Name → CType → CallResult → Part CState (Control (Option CValue))
const_step p x ty result = tick (used p result (declaration p x ty))

-- `const T x = e;`
abbrev pub const_part : Program → Name → CType → Expr → Part CState (Control (Option CValue))
const_part p x t e = with_value p e (declaration p x t)

-- `T x = ..;`
abbrev pub made_part : Program → Name → CBase → Init → Part CState (Control (Option CValue))
made_part p x b i = by_state (λ s. given p (eval_init p i s) (λ values. tick (object_with p x b values)))

-- `place = e;`
abbrev pub assign_part : Program → Place → Expr → Part CState (Control (Option CValue))
assign_part p place e = by_state (λ s. given p (eval_place p place s) (λ l. given p (eval p e s) (λ v. tick (assign p l v))))

-- `return;` and `return e;`
abbrev pub return_part : Program → Option Expr → Part CState (Control (Option CValue))
return_part p None = tick (give (Returned None))
return_part p (Some e) = with_value p e (λ v. give (Returned (Some v)))
