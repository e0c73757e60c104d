-- The parts of a reply to the call of an extern: the value of the call, and the values that are left to be written.
use Rattle.std.specs.Prelude.{ℤ, List, [], ◌∷◌, Result, Ok, Err}
use Rattle.c_ast.specs.declared.CExtern.{CExtern}
use Rattle.c_ast.specs.declared.CType.{CType}
use Rattle.c_ast.specs.declared.CType.TheVariants.{Void, Value, Pointer}
use Rattle.c_meaning.specs.Calls.{CallResult, given, reply_value, reply_written}
use Rattle.c_meaning.specs.State.{Program, CState}
use Rattle.c_meaning.specs.Values.{Trouble, Stuck, CValue, Num, Ptr, on_ok}
use Rattle.step_semantics.specs.Steps.{Part}

abbrev pub reply_called : CType → List ℤ → Result CallResult Trouble
reply_called ty vs = on_ok (reply_value ty vs) (λ r. Ok r.0)

abbrev pub reply_rest : CType → List ℤ → List ℤ
reply_rest Void vs = vs
reply_rest (Value s) [] = []
reply_rest (Value s) (v ∷ vs) = vs
reply_rest (Pointer constant base) vs = vs

-- what a call comes to, once the outside has replied
abbrev pub answer : Program → CExtern → List CValue → List ℤ → Part CState CallResult
answer p x args reply = given p (reply_value x.result reply) (reply_written p args)

-- the number of the check that ends the run
abbrev pub only_number : List CValue → Result ℤ Trouble
only_number [] = Err Stuck
only_number (Num kind site ∷ []) = Ok site
only_number (Ptr constant base to ∷ []) = Err Stuck
only_number (v ∷ u ∷ vs) = Err Stuck
