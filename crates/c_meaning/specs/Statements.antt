-- The meaning of statements (C99 6.8). Each takes its step after its operands and before it acts; a block takes none.
use Rattle.std.specs.Prelude.{Bool, false, Option, Some, None, if◌then◌else◌, Result, Err}
use Rattle.run_records.specs.declared.Reason.TheVariants.{NoValue}
use Rattle.step_semantics.specs.Steps.{Part, give, bind, tick, by_state, change, block}
use Rattle.step_semantics.specs.Control.{Control, Falls, Broke, Returned, also, forever}
use Rattle.type_trees.specs.Trees.{Leaf, Many, Struct}
use Rattle.c_memory.specs.Initializers.{Init}
use Rattle.c_ast.specs.declared.CBase.{CBase}
use Rattle.c_ast.specs.declared.CType.{CType}
use Rattle.c_ast.specs.declared.Target.{Target}
use Rattle.c_ast.specs.Structs.{tree}
use Rattle.c_ast.specs.Syntax.{Name, Expr, FunctionCall, Stmt, Const, ConstCall, Object, Assign, If, IfElse, Forever, Break, Return, Block, Call, Stmts, Nil, Cons}
use Rattle.c_meaning.specs.Values.{Trouble, Undefined, Stuck, CValue, is_true, on_ok, as_assigned}
use Rattle.c_meaning.specs.Memory.{CObjects, memory_of, answered, unless_refused}
use Rattle.c_meaning.specs.State.{Program, CState, declare, declare_object, leave}
use Rattle.c_meaning.specs.Places.{Lvalue, Known, Located}
use Rattle.c_meaning.specs.Expressions.{eval, eval_place, eval_all}
use Rattle.c_meaning.specs.Initializers.{eval_init, as_number, made_with}
use Rattle.c_meaning.specs.Calls.{troubled, given, CallResult, Nothing, Missing, Gave, Calls, call}

-- the value of an expression, and the step of the statement that it stands in
abbrev pub with_value : {A : Type 0} → Program → Expr → (CValue → Part CState A) → Part CState A
with_value p e next = by_state (λ s. given p (eval p e s) (λ v. tick (next v)))

-- whether it is true, and that step
abbrev pub with_truth : {A : Type 0} → Program → Expr → (Bool → Part CState A) → Part CState A
with_truth p e next = by_state (λ s. given p (on_ok (eval p e s) is_true) (λ holds. tick (next holds)))

-- a call: its arguments, the call's step, and then what is called (6.5.2.2)
abbrev pub call_step : Program → Calls → FunctionCall → Part CState CallResult
call_step p functions c = by_state (λ s. given p (eval_all p c.args s) (λ values. tick (call p functions c.name values)))

-- the value of a call that is used: a function that reached its `}` has none (6.9.1), and no rule of types lets a `void` one be used
abbrev pub used : {A : Type 0} → Program → CallResult → (CValue → Part CState A) → Part CState A
used p Nothing next = troubled p Stuck
used p Missing next = troubled p (Undefined NoValue)
used p (Gave v) next = next v

-- the declaration of a const name: its value is converted as by assignment (6.7.8)
abbrev pub declaration : Program → Name → CType → CValue → Part CState (Control (Option CValue))
declaration p x t v = given p (as_assigned p.target t v) (λ a. change Falls (declare x a))

-- the declaration of an object, which is made where it is reached: indeterminate, or with the values of its initializer (6.7.8)
abbrev pub object : Program → Name → CBase → Part CState (Control (Option CValue))
object p x b = by_state (λ s. change Falls (declare_object x b ((memory_of p.target).create s.objects (tree p.unit.structs b))))

abbrev pub object_with : Program → Name → CBase → Init CValue → Part CState (Control (Option CValue))
object_with p x b values = by_state (λ s. given p (made_with p.target (tree p.unit.structs b) false s.objects values) (λ made. change Falls (declare_object x b made)))

-- An assignment to the scalar at a place (6.5.16.1): what may not be written is known before the value is converted.
abbrev pub stored : Target → CState → Lvalue → CValue → Result CObjects Trouble
stored t s (Known u) v = Err Stuck
stored t s (Located constant to (Leaf k)) v =
    unless_refused ((memory_of t).refuses s.objects to.object (to.offset, k))
    (on_ok (as_number t k v) (λ n. answered ((memory_of t).write s.objects to.object (to.offset, k) n)))
stored t s (Located constant to (Many n a)) v = Err Stuck
stored t s (Located constant to (Struct k r)) v = Err Stuck

abbrev pub assign : Program → Lvalue → CValue → Part CState (Control (Option CValue))
assign p l v = by_state (λ s. given p (stored p.target s l v) (λ objects. change Falls (λ u. record u { objects = objects })))

-- Control leaves a statement as C says of `if` (6.8.4), loops (6.8.5), `break` (6.8.6.3) and `return` (6.8.6.4). The functions that a
-- call may reach are those before its own. An assignment evaluates its place before its value.
abbrev mutual
  pub exec : Program → Calls → Stmt → Part CState (Control (Option CValue))
  exec p functions (Const x t e) = with_value p e (declaration p x t)
  exec p functions (ConstCall x t c) = bind (call_step p functions c) (λ result. tick (used p result (declaration p x t)))
  exec p functions (Object x b None) = tick (object p x b)
  exec p functions (Object x b (Some i)) = by_state (λ s. given p (eval_init p i s) (λ values. tick (object_with p x b values)))
  exec p functions (Assign place e) = by_state (λ s. given p (eval_place p place s) (λ l. given p (eval p e s) (λ v. tick (assign p l v))))
  exec p functions (If e a) = with_truth p e (λ holds. if holds then block leave (exec_all p functions a) else give Falls)
  exec p functions (IfElse e a b) = with_truth p e (λ holds. if holds then block leave (exec_all p functions a) else block leave (exec_all p functions b))
  exec p functions (Forever body) = forever (block leave (exec_all p functions body))
  exec p functions Break = tick (give Broke)
  exec p functions (Return None) = tick (give (Returned None))
  exec p functions (Return (Some e)) = with_value p e (λ v. give (Returned (Some v)))
  exec p functions (Block body) = block leave (exec_all p functions body)
  exec p functions (Call c) = bind (call_step p functions c) (λ result. give Falls)

  pub exec_all : Program → Calls → Stmts → Part CState (Control (Option CValue))
  exec_all p functions Nil = give Falls
  exec_all p functions (Cons s rest) = also (exec p functions s) (exec_all p functions rest)
