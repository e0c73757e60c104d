-- Every part of a run of C keeps the laws of parts: events only grow, and more steps change nothing but that it goes further.
use Rattle.std.proofs.Common.{ℤ, List, [], ◌∷◌, Option, Some, None, Bool, true, false, refl}
use Rattle.std.specs.Prelude.{if◌then◌else◌, Result, Ok, Err}
use Rattle.run_records.specs.declared.EntryCall.{EntryCall}
use Rattle.run_records.specs.declared.Reason.TheVariants.{NoValue}
use Rattle.run_records.specs.declared.Script.{Script}
use Rattle.step_semantics.specs.Steps.{FailedCheck, Part, tick, change}
use Rattle.step_semantics.specs.Control.{Control, Falls, Broke, Returned}
use Rattle.step_semantics.specs.Lawful.{Lawful}
use Rattle.step_semantics.specs.Outcomes.{OutcomeLaws}
use Rattle.step_semantics.proofs.Prefixes.{prefix_refl}
use Rattle.step_semantics.proofs.Laws.{give_lawful, halt_lawful, bind_lawful, tick_lawful, change_lawful, block_lawful, by_state_lawful}
use Rattle.step_semantics.proofs.FrameLaws.{in_frame_lawful}
use Rattle.step_semantics.proofs.ControlLaws.{also_lawful, forever_lawful}
use Rattle.step_semantics.proofs.RunLaws.{import_call_lawful, run_outcomes}
use Rattle.c_ast.specs.declared.CBase.{CBase}
use Rattle.c_ast.specs.declared.CType.{CType}
use Rattle.c_ast.specs.declared.CType.TheVariants.{Void, Value, Pointer}
use Rattle.c_ast.specs.declared.CExtern.{CExtern}
use Rattle.c_ast.specs.Syntax.{Name, Expr, FunctionCall, Stmt, Const, ConstCall, Object, Assign, If, IfElse, Forever, Break, Return, Block, Call, Stmts, Nil, Cons, Function}
use Rattle.c_meaning.specs.Values.{Trouble, Undefined, Stuck, CValue, Num, Ptr, is_true, on_ok, as_assigned, as_arguments}
use Rattle.c_meaning.specs.State.{Program, program_of, end_in, CState, declare, declare_object, enter, back, seen, leave}
use Rattle.c_memory.specs.Initializers.{Init}
use Rattle.c_ast.specs.Structs.{tree}
use Rattle.c_meaning.specs.Memory.{memory_of}
use Rattle.c_meaning.specs.Places.{Lvalue, alive}
use Rattle.c_meaning.specs.Expressions.{eval, eval_place}
use Rattle.c_meaning.specs.Initializers.{eval_init}
use Rattle.c_meaning.specs.Calls.{troubled, given, CallResult, Nothing, Missing, Gave, Calls, no_functions, stop_at, reply_shape, reply_value, reply_written, outside_with, outside, call_found, call}
use Rattle.c_meaning.specs.Statements.{with_value, with_truth, call_step, used, declaration, object, object_with, stored, assign, exec, exec_all}
use Rattle.c_meaning.specs.Runs.{gave, function_value, param_types, bound, function_body, function_call, with_function, entry_result, entry_values, entered, entry_among, entry, first_state, run_from}
use Rattle.c_meaning.specs.Laws.{RunLaws}

abbrev pub LawfulCalls : Calls → Type 0
LawfulCalls functions = (name : Name) (values : List CValue) → Lawful (functions name values)

pub troubled_lawful : {A : Type 0} (p : Program) (trouble : Trouble) → Lawful (troubled {A = A} p trouble)
troubled_lawful p trouble = halt_lawful (seen p) (end_in p trouble)

pub given_lawful : {A B : Type 0} (p : Program) (r : Result A Trouble) (next : A → Part CState B) → ((a : A) → Lawful (next a)) → Lawful (given p r next)
given_lawful p (Ok a) next l = l a
given_lawful p (Err trouble) next l = troubled_lawful p trouble

choice_lawful : {A : Type 0} (c d : Part CState A) → Lawful c → Lawful d → (b : Bool) → Lawful (if b then c else d)
choice_lawful c d l m true = l
choice_lawful c d l m false = m

-- ---- calls

stop_at_lawful : (p : Program) (values : List CValue) → Lawful (stop_at p values)
stop_at_lawful p [] = troubled_lawful p Stuck
stop_at_lawful p (Num kind site ∷ []) = halt_lawful (seen p) (FailedCheck _)
stop_at_lawful p (Ptr constant base to ∷ []) = troubled_lawful p Stuck
stop_at_lawful p (v ∷ u ∷ vs) = troubled_lawful p Stuck

reply_written_lawful : (p : Program) (args : List CValue) (reply : CallResult × List ℤ) → Lawful (reply_written p args reply)
reply_written_lawful p args reply = by_state_lawful _ (λ s. given_lawful p _ _ (λ objects. change_lawful reply.0 (λ u. record u { objects = objects })))

outside_lawful : (p : Program) (x : CExtern) (args : List CValue) → Lawful (outside p x args)
outside_lawful p x args =
    by_state_lawful _ (λ s. given_lawful p _ (outside_with p x args)
    (λ pieces. given_lawful p (reply_shape x.result) _ (λ shape. bind_lawful _ _ (import_call_lawful (seen p) _ _ _) (λ reply. given_lawful p (reply_value x.result reply) (reply_written p args) (reply_written_lawful p args)))))

call_found_lawful : (p : Program) (functions : Calls) → LawfulCalls functions → (name : Name) (values : List CValue) (found : Option CExtern) → Lawful (call_found p functions name values found)
call_found_lawful p functions l name values (Some x) = given_lawful p (as_arguments p.target x.params values) (outside p x) (outside_lawful p x)
call_found_lawful p functions l name values None = l name values

pub call_lawful : (p : Program) (functions : Calls) → LawfulCalls functions → LawfulCalls (call p functions)
call_lawful p functions l name values = choice_lawful _ _ (given_lawful p _ _ (stop_at_lawful p)) (call_found_lawful p functions l name values _) _

-- ---- statements

with_value_lawful : {A : Type 0} (p : Program) (e : Expr) (next : CValue → Part CState A) → ((v : CValue) → Lawful (next v)) → Lawful (with_value p e next)
with_value_lawful p e next l = by_state_lawful _ (λ s. given_lawful p (eval p e s) (λ v. tick (next v)) (λ v. tick_lawful (next v) (l v)))

with_truth_lawful : {A : Type 0} (p : Program) (e : Expr) (next : Bool → Part CState A) → ((holds : Bool) → Lawful (next holds)) → Lawful (with_truth p e next)
with_truth_lawful p e next l = by_state_lawful _ (λ s. given_lawful p (on_ok (eval p e s) is_true) (λ holds. tick (next holds)) (λ holds. tick_lawful (next holds) (l holds)))

declaration_lawful : (p : Program) (x : Name) (t : CType) (v : CValue) → Lawful (declaration p x t v)
declaration_lawful p x t v = given_lawful p (as_assigned p.target t v) (λ a. change Falls (declare x a)) (λ a. change_lawful Falls (declare x a))

used_lawful : {A : Type 0} (p : Program) (result : CallResult) (next : CValue → Part CState A) → ((v : CValue) → Lawful (next v)) → Lawful (used p result next)
used_lawful p Nothing next l = troubled_lawful p Stuck
used_lawful p Missing next l = troubled_lawful p (Undefined NoValue)
used_lawful p (Gave v) next l = l v

object_lawful : (p : Program) (x : Name) (b : CBase) → Lawful (object p x b)
object_lawful p x b = by_state_lawful _ (λ s. change_lawful Falls (declare_object x b ((memory_of p.target).create s.objects (tree p.unit.structs b))))

object_with_lawful : (p : Program) (x : Name) (b : CBase) (values : Init CValue) → Lawful (object_with p x b values)
object_with_lawful p x b values = by_state_lawful _ (λ s. given_lawful p _ _ (λ made. change_lawful Falls (declare_object x b made)))

assign_lawful : (p : Program) (l : Lvalue) (v : CValue) → Lawful (assign p l v)
assign_lawful p l v = by_state_lawful _ (λ s. given_lawful p (stored p.target s l v) _ (λ objects. change_lawful Falls (λ u. record u { objects = objects })))

module _ (p : Program) (functions : Calls) (l : LawfulCalls functions) where
  call_step_lawful : (c : FunctionCall) → Lawful (call_step p functions c)
  call_step_lawful c = by_state_lawful _ (λ s. given_lawful p _ _ (λ values. tick_lawful _ (call_lawful p functions l c.name values)))

  mutual
    pub exec_lawful : (s : Stmt) → Lawful (exec p functions s)
    exec_lawful (Const x t e) = with_value_lawful p e (declaration p x t) (declaration_lawful p x t)
    exec_lawful (ConstCall x t c) = bind_lawful _ _ (call_step_lawful c) (λ result. tick_lawful _ (used_lawful p result (declaration p x t) (declaration_lawful p x t)))
    exec_lawful (Object x b None) = tick_lawful _ (object_lawful p x b)
    exec_lawful (Object x b (Some i)) = by_state_lawful _ (λ s. given_lawful p (eval_init p i s) _ (λ values. tick_lawful _ (object_with_lawful p x b values)))
    exec_lawful (Assign place e) = by_state_lawful _ (λ s. given_lawful p (eval_place p place s) _ (λ l. given_lawful p (eval p e s) _ (λ v. tick_lawful _ (assign_lawful p l v))))
    exec_lawful (If e a) = with_truth_lawful p e _ (choice_lawful _ _ (block_lawful leave _ (exec_all_lawful a)) (give_lawful Falls))
    exec_lawful (IfElse e a b) = with_truth_lawful p e _ (choice_lawful _ _ (block_lawful leave _ (exec_all_lawful a)) (block_lawful leave _ (exec_all_lawful b)))
    exec_lawful (Forever body) = forever_lawful _ (block_lawful leave _ (exec_all_lawful body))
    exec_lawful Break = tick_lawful _ (give_lawful _)
    exec_lawful (Return None) = tick_lawful _ (give_lawful _)
    exec_lawful (Return (Some e)) = with_value_lawful p e _ (λ v. give_lawful _)
    exec_lawful (Block body) = block_lawful leave _ (exec_all_lawful body)
    exec_lawful (Call c) = bind_lawful _ _ (call_step_lawful c) (λ result. give_lawful _)

    pub exec_all_lawful : (ss : Stmts) → Lawful (exec_all p functions ss)
    exec_all_lawful Nil = give_lawful Falls
    exec_all_lawful (Cons s rest) = also_lawful _ _ (exec_lawful s) (exec_all_lawful rest)

  -- ---- functions

  gave_lawful : (p : Program) (v : CValue) → Lawful (gave p v)
  gave_lawful p v = by_state_lawful _ (λ s. given_lawful p (alive s v) _ (λ a. give_lawful (Gave a)))

  function_value_lawful : (result : CType) (control : Control (Option CValue)) → Lawful (function_value p result control)
  function_value_lawful Void Falls = give_lawful Nothing
  function_value_lawful (Value s) Falls = give_lawful Missing
  function_value_lawful (Pointer constant base) Falls = give_lawful Missing
  function_value_lawful Void (Returned None) = give_lawful Nothing
  function_value_lawful (Value s) (Returned None) = troubled_lawful p Stuck
  function_value_lawful (Pointer constant base) (Returned None) = troubled_lawful p Stuck
  function_value_lawful result (Returned (Some v)) = given_lawful p (as_assigned p.target result v) (gave p) (gave_lawful p)
  function_value_lawful result Broke = troubled_lawful p Stuck

  function_body_lawful : (f : Function) (args : List CValue) → Lawful (function_body p functions f args)
  function_body_lawful f args = bind_lawful _ (function_value p f.result) (in_frame_lawful (enter (bound f.params args)) back _ (block_lawful leave _ (exec_all_lawful f.body))) (function_value_lawful f.result)

  pub function_call_lawful : (f : Function) (values : List CValue) → Lawful (function_call p functions f values)
  function_call_lawful f values = given_lawful p (as_arguments p.target (param_types f.params) values) (function_body p functions f) (function_body_lawful f)

  pub with_function_lawful : (f : Function) → LawfulCalls (with_function p functions f)
  with_function_lawful f name values = choice_lawful _ _ (function_call_lawful f values) (l name values) _

  entry_result_lawful : (result : CallResult) → Lawful (entry_result p result)
  entry_result_lawful Nothing = give_lawful None
  entry_result_lawful Missing = troubled_lawful p (Undefined NoValue)
  entry_result_lawful (Gave (Num kind v)) = give_lawful (Some v)
  entry_result_lawful (Gave (Ptr constant base to)) = troubled_lawful p Stuck

  entered_lawful : (f : Function) (values : List ℤ) → Lawful (entered p functions f values)
  entered_lawful f values =
      given_lawful p (entry_values (param_types f.params) values) _ (λ args. bind_lawful _ (entry_result p) (function_call_lawful f args) entry_result_lawful)

-- ---- runs

entry_among_lawful : (p : Program) (earlier : Calls) → LawfulCalls earlier → (fs : List Function) (name : Name) (values : List ℤ) → Lawful (entry_among p earlier fs name values)
entry_among_lawful p earlier l [] name values = troubled_lawful p Stuck
entry_among_lawful p earlier l (f ∷ fs) name values =
    choice_lawful _ _ (entered_lawful p earlier l f values) (entry_among_lawful p (with_function p earlier f) (with_function_lawful p earlier l f) fs name values) _

pub entry_lawful : (p : Program) (entry_call : EntryCall) → Lawful (entry p entry_call)
entry_lawful p entry_call =
    entry_among_lawful p (no_functions p) (λ name values. troubled_lawful p Stuck) p.unit.functions _ _

pub run_from_laws : (p : Program) (first : Result CState Trouble) (script : Script) → OutcomeLaws (run_from p first script)
run_from_laws p (Ok first) script = run_outcomes (seen p) (entry p) (entry_lawful p) first script
run_from_laws p (Err trouble) script = record { events_grow = λ n m le. prefix_refl []; ends_stay = λ n m le over. refl }

pub run_laws : RunLaws
run_laws u t script = run_from_laws (program_of u t) (first_state (program_of u t)) script
