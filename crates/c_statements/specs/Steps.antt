-- The arguments of a call, up to what is called.
use Rattle.std.specs.Prelude.{List}
use Rattle.step_semantics.specs.Steps.{Part, tick, by_state}
use Rattle.c_ast.specs.Syntax.{Expr}
use Rattle.c_meaning.specs.State.{Program, CState}
use Rattle.c_meaning.specs.Values.{CValue}
use Rattle.c_meaning.specs.Expressions.{eval_all}
use Rattle.c_meaning.specs.Calls.{given}

-- the values of arguments, and the step of the call
abbrev pub with_arguments : {A : Type 0} → Program → List Expr → (List CValue → Part CState A) → Part CState A
with_arguments p es next = by_state (λ s. given p (eval_all p es s) (λ values. tick (next values)))
