-- Statements that call no function, step by step.
use Rattle.std.proofs.Common.{◌≡◌, Option, Some, Result, Ok, Err, refl, sym, subst}
use Rattle.step_semantics.specs.Steps as steps
use Rattle.step_semantics.specs.Steps.{after, give, tick}
use Rattle.step_semantics.specs.Control as control
use Rattle.c_ast.specs.declared.CType.{CType}
use Rattle.c_ast.specs.Syntax.{Name, Expr, Place}
use Rattle.c_meaning.specs.Calls as calls
use Rattle.c_meaning.specs.Expressions.{eval, eval_place}
use Rattle.c_meaning.specs.Places as places
use Rattle.c_meaning.specs.State.{CState}
use Rattle.c_meaning.specs.Statements.{with_value, assign, declaration}
use Rattle.c_meaning.specs.Values.{CValue}
use Rattle.c_operators.specs.Values.{value_of}
use Rattle.c_operators.specs.declared.Value.{Value}
use Rattle.c_expressions.specs.Programs.{Parts, program_of}
use Rattle.c_expressions.specs.State.{state_of}
use Rattle.run_world.specs.declared.Stopped.{Stopped}
use Rattle.c_statements.specs.Parts.{Does, control_of}
use Rattle.c_statements.specs.declared.Control.{Control}
use Rattle.c_statements.specs.declared.Control.TheVariants.{Returned}
use Rattle.c_statements.specs.declared.Run.{Run}
use Rattle.c_run.specs.Choices.{const_part, assign_part, return_part}
use Rattle.c_statements.proofs.Splits.{one_then_next, first_stops, value_split}

module _ (p : Parts) where
  pub const_goes : (x : Name) (t : CType) (e : Expr) (old mid new : Run) (v : Value) (r : Result Control Stopped) → Does p value_of (with_value (program_of p) e give) old mid (Ok v) → Does p control_of (declaration (program_of p) x t (value_of v)) mid new r → Does p control_of (const_part (program_of p) x t e) old new r
  const_goes x t e old mid new v r h k = one_then_next p control_of value_of (with_value (program_of p) e (declaration (program_of p) x t)) (with_value (program_of p) e give) (declaration (program_of p) x t) old mid new v r (value_split (program_of p) e (declaration (program_of p) x t)) h k

  pub const_stops : (x : Name) (t : CType) (e : Expr) (old mid : Run) (why : Stopped) → Does p value_of (with_value (program_of p) e give) old mid (Err why) → Does p control_of (const_part (program_of p) x t e) old mid (Err why)
  const_stops x t e old mid why h = first_stops p control_of value_of (with_value (program_of p) e (declaration (program_of p) x t)) (with_value (program_of p) e give) (declaration (program_of p) x t) old mid why (value_split (program_of p) e (declaration (program_of p) x t)) h

  -- where the place is found
  module _ (place : Place) (l : places.Lvalue) (e : Expr) (old : Run) (is : eval_place (program_of p) place (state_of old.state) ≡ Ok l) where
    pub assign_goes : (mid new : Run) (v : Value) (r : Result Control Stopped) → Does p value_of (with_value (program_of p) e give) old mid (Ok v) → Does p control_of (assign (program_of p) l (value_of v)) mid new r → Does p control_of (assign_part (program_of p) place e) old new r
    assign_goes mid new v r h k =
        subst (λ x. Does p control_of (λ n w s. calls.given (program_of p) x (λ m. calls.given (program_of p) (eval (program_of p) e (state_of old.state)) (λ v. tick (assign (program_of p) m v))) n w s) old new r) (sym is)
        (one_then_next p control_of value_of (with_value (program_of p) e (assign (program_of p) l)) (with_value (program_of p) e give) (assign (program_of p) l) old mid new v r (value_split (program_of p) e (assign (program_of p) l)) h k)

    pub assign_stops : (mid : Run) (why : Stopped) → Does p value_of (with_value (program_of p) e give) old mid (Err why) → Does p control_of (assign_part (program_of p) place e) old mid (Err why)
    assign_stops mid why h =
        subst (λ x. Does p control_of (λ n w s. calls.given (program_of p) x (λ m. calls.given (program_of p) (eval (program_of p) e (state_of old.state)) (λ v. tick (assign (program_of p) m v))) n w s) old mid (Err why)) (sym is)
        (first_stops p control_of value_of (with_value (program_of p) e (assign (program_of p) l)) (with_value (program_of p) e give) (assign (program_of p) l) old mid why (value_split (program_of p) e (assign (program_of p) l)) h)

  abbrev returned : Value → Control
  returned v = Returned (Some v)

  abbrev returning : CValue → steps.Part CState (control.Control (Option CValue))
  returning v = give (control.Returned (Some v))

  pub return_goes : (e : Expr) (old mid : Run) (v : Value) → Does p value_of (with_value (program_of p) e give) old mid (Ok v) → Does p control_of (return_part (program_of p) (Some e)) old mid (Ok (returned v))
  return_goes e old mid v h = one_then_next p control_of value_of (with_value (program_of p) e returning) (with_value (program_of p) e give) returning old mid mid v (Ok (returned v)) (value_split (program_of p) e returning) h refl

  pub return_stops : (e : Expr) (old mid : Run) (why : Stopped) → Does p value_of (with_value (program_of p) e give) old mid (Err why) → Does p control_of (return_part (program_of p) (Some e)) old mid (Err why)
  return_stops e old mid why h = first_stops p control_of value_of (with_value (program_of p) e returning) (with_value (program_of p) e give) returning old mid why (value_split (program_of p) e returning) h
