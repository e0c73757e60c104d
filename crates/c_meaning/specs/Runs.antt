-- Functions, entry calls, and the whole run of a unit.
use Rattle.std.specs.Prelude.{ℕ, ℤ, List, [], ◌∷◌, map, Option, Some, None, ◌&&◌, not, if◌then◌else◌, Result, Ok, Err}
use Rattle.iv_words.specs.Words.{same_word}
use Rattle.run_records.specs.declared.Outcome.{Outcome}
use Rattle.run_records.specs.declared.Reason.TheVariants.{NoValue}
use Rattle.run_records.specs.declared.Script.{Script}
use Rattle.step_semantics.specs.Steps.{Part, give, bind, by_state, block}
use Rattle.step_semantics.specs.Control.{Control, Falls, Broke, Returned}
use Rattle.step_semantics.specs.Runs.{Body, end_of, run}
use Rattle.c_ast.specs.declared.Target.{Target}
use Rattle.c_ast.specs.declared.CKind.TheVariants.{Scalar}
use Rattle.c_ast.specs.declared.CType.{CType}
use Rattle.c_ast.specs.declared.CType.TheVariants.{Void, Value, Pointer}
use Rattle.c_ast.specs.declared.CParam.{CParam}
use Rattle.c_ast.specs.Syntax.{Name, FileObject, Function, TranslationUnit}
use Rattle.c_ast.specs.Names.{outer_name}
use Rattle.c_ast.specs.Structs.{tree}
use Rattle.c_meaning.specs.Values.{Trouble, Undefined, Stuck, CValue, Num, Ptr, on_ok, as_assigned, as_arguments}
use Rattle.c_meaning.specs.State.{Program, program_of, end_in, Frame, Holding, CState, at_rest, seen, leave, in_own_frame}
use Rattle.c_meaning.specs.Memory.{CObjects}
use Rattle.c_meaning.specs.Places.{alive}
use Rattle.c_meaning.specs.Initializers.{eval_init, made_with}
use Rattle.c_meaning.specs.Calls.{troubled, given, CallResult, Nothing, Missing, Gave, Calls, no_functions}
use Rattle.c_meaning.specs.Statements.{exec_all}

-- ---- functions

-- a pointer to an object that ended with the function's blocks has no value (6.2.4), used or not
abbrev pub gave : Program → CValue → Part CState CallResult
gave p v = by_state (λ s. given p (alive s v) (λ a. give (Gave a)))

-- What a function gives back where control leaves its body: at the `}` no value, at a `return` its value, converted to the type
-- of the result as by assignment (6.8.6.4, 6.9.1); and one that is `void` gives nothing.
abbrev pub function_value : Program → CType → Control (Option CValue) → Part CState CallResult
function_value p Void Falls = give Nothing
function_value p (Value s) Falls = give Missing
function_value p (Pointer constant base) Falls = give Missing
function_value p Void (Returned None) = give Nothing
function_value p (Value s) (Returned None) = troubled p Stuck
function_value p (Pointer constant base) (Returned None) = troubled p Stuck
function_value p result (Returned (Some v)) = given p (as_assigned p.target result v) (gave p)
function_value p result Broke = troubled p Stuck

abbrev pub param_types : List CParam → List CType
param_types params = map (λ x. x.ty) params

-- each parameter with the value of its argument
abbrev pub bound : List CParam → List CValue → Frame
bound [] vs = []
bound (x ∷ xs) [] = []
bound (x ∷ xs) (v ∷ vs) = (x.name, Holding v) ∷ bound xs vs

-- the body is a block in the frame of the parameters; the value is taken once both have been left
abbrev pub function_body : Program → Calls → Function → List CValue → Part CState CallResult
function_body p earlier f args = bind (in_own_frame (bound f.params args) (block leave (exec_all p earlier f.body))) (function_value p f.result)

-- a function that is called with these values, which are converted as by assignment (6.5.2.2)
abbrev pub function_call : Program → Calls → Function → List CValue → Part CState CallResult
function_call p earlier f values = given p (as_arguments p.target (param_types f.params) values) (function_body p earlier f)

-- one function more that those after it may call
abbrev pub with_function : Program → Calls → Function → Calls
with_function p earlier f name values = if same_word f.name name then function_call p earlier f values else earlier name values

-- ---- entry calls

-- what the outside gets of a call: nothing, or else its value, which it uses (6.9.1)
abbrev pub entry_result : Program → CallResult → Part CState (Option ℤ)
entry_result p Nothing = give None
entry_result p Missing = troubled p (Undefined NoValue)
entry_result p (Gave (Num kind v)) = give (Some v)
entry_result p (Gave (Ptr constant base to)) = troubled p Stuck

-- the numbers of the script as values of the parameters' types
abbrev pub entry_values : List CType → List ℤ → Result (List CValue) Trouble
entry_values [] [] = Ok []
entry_values [] (v ∷ vs) = Err Stuck
entry_values (t ∷ ts) [] = Err Stuck
entry_values (Void ∷ ts) (v ∷ vs) = Err Stuck
entry_values (Pointer constant base ∷ ts) (v ∷ vs) = Err Stuck
entry_values (Value s ∷ ts) (v ∷ vs) = on_ok (entry_values ts vs) (λ rest. Ok (Num (Scalar s) v ∷ rest))

-- a function that the outside calls, with the numbers of the script
abbrev pub entered : Program → Calls → Function → List ℤ → Part CState (Option ℤ)
entered p earlier f values = given p (entry_values (param_types f.params) values) (λ args. bind (function_call p earlier f args) (entry_result p))

-- the function that the outside calls by this name, without `static`, among those that are left to look at; it may call those before it
abbrev pub entry_among : Program → Calls → List Function → Name → List ℤ → Part CState (Option ℤ)
entry_among p earlier [] name values = troubled p Stuck
entry_among p earlier (f ∷ fs) name values =
    if not f.hidden && same_word (outer_name f.name) name then entered p earlier f values else entry_among p (with_function p earlier f) fs name values

abbrev pub entry : Program → Body CState
entry p entry_call = entry_among p (no_functions p) p.unit.functions entry_call.name entry_call.values

-- ---- runs

-- The objects of file scope, made in order with their first values (6.7.8, 6.9.2); in their initializers is no name.
abbrev pub file_objects : Program → List FileObject → CObjects → Result CObjects Trouble
file_objects p [] made = Ok made
file_objects p (o ∷ os) made = on_ok (eval_init p o.init at_rest) (λ values. on_ok (made_with p.target (tree p.unit.structs o.base) o.constant made values) (file_objects p os))

-- the state before the first entry call, once the initializers of file scope are done, for no step
abbrev pub first_state_of : Program → List FileObject → Result CState Trouble
first_state_of p os = on_ok (file_objects p os []) (λ made. Ok (record at_rest { objects = made }))

abbrev pub first_state : Program → Result CState Trouble
first_state p = first_state_of p p.unit.objects

-- where an initializer of file scope has no meaning, no run has one
abbrev pub run_from : Program → Result CState Trouble → Script → ℕ → Outcome
run_from p (Ok first) script n = run (seen p) (entry p) first script n
run_from p (Err trouble) script n = record { events = []; end = end_of (end_in p trouble); areas = [] }

-- the run of a program, and that of a unit, within n steps
abbrev pub run_program : Program → Script → ℕ → Outcome
run_program p script n = run_from p (first_state p) script n

abbrev pub run_c : TranslationUnit → Target → Script → ℕ → Outcome
run_c u t script n = run_program (program_of u t) script n
