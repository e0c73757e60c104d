-- Calls (C99 6.5.2.2), once the values of the arguments are there and the call's step is taken.
use Rattle.std.specs.Prelude.{ℕ, ℤ, unsigned_abs, List, [], ◌∷◌, ◌++◌, map, drop, true, false, Option, Some, None, if◌then◌else◌, Result, Ok, Err}
use Rattle.std.specs.List.{find}
use Rattle.iv_words.specs.Words.{same_word}
use Rattle.iv_words.specs.declared.IntKind.TheVariants.{U32}
use Rattle.run_records.specs.declared.Piece.{Piece}
use Rattle.run_records.specs.declared.Piece.TheVariants as piece
use Rattle.run_records.specs.declared.Plain.{Plain}
use Rattle.step_semantics.specs.Steps.{FailedCheck, Part, halt, bind, by_state, change}
use Rattle.step_semantics.specs.Imports.{import_call}
use Rattle.type_trees.specs.Trees.{scalars, count}
use Rattle.type_trees.specs.Layouts.{lay}
use Rattle.c_memory.specs.Copies.{read_each, write_each}
use Rattle.c_ast.specs.declared.CScalar.{CScalar}
use Rattle.c_ast.specs.declared.CScalar.TheVariants.{Int}
use Rattle.c_ast.specs.declared.CBase.{CBase}
use Rattle.c_ast.specs.declared.CStruct.{CStruct}
use Rattle.c_ast.specs.declared.CKind.TheVariants.{Scalar}
use Rattle.c_ast.specs.declared.CType.{CType}
use Rattle.c_ast.specs.declared.CType.TheVariants.{Void, Value, Pointer}
use Rattle.c_ast.specs.declared.CExtern.{CExtern}
use Rattle.c_ast.specs.declared.Target.{Target}
use Rattle.c_ast.specs.Syntax.{Name}
use Rattle.c_ast.specs.Names.{outer_name, stop_name}
use Rattle.c_ast.specs.Exports.{plain_of}
use Rattle.c_ast.specs.Scalars.{metric_of}
use Rattle.c_ast.specs.Structs.{tree}
use Rattle.c_meaning.specs.Values.{Trouble, Stuck, Address, CValue, Num, Ptr, on_ok, as_arguments}
use Rattle.c_meaning.specs.Memory.{CObjects, memory_of, answered}
use Rattle.c_meaning.specs.State.{Program, CState, seen, end_in}

-- the run has no meaning from here on
abbrev pub troubled : {A : Type 0} → Program → Trouble → Part CState A
troubled p trouble = halt (seen p) (end_in p trouble)

-- what is done with a value, where there is one
abbrev pub given : {A B : Type 0} → Program → Result A Trouble → (A → Part CState B) → Part CState B
given p (Ok a) next = next a
given p (Err trouble) next = troubled p trouble

-- What a call comes to: nothing, where its function is `void`; no value, where one with a result reached its `}` (6.9.1); or a value.
pub data CallResult : Type 0 where
  Nothing : CallResult
  Missing : CallResult
  Gave : CValue → CallResult

-- what a call of a function by its name comes to, on the values of its arguments
abbrev pub Calls : Type 0
Calls = Name → List CValue → Part CState CallResult

-- where no function is declared
abbrev pub no_functions : Program → Calls
no_functions p name values = troubled p Stuck

-- ---- the function that ends the run at a check, declared as `void ivory_stop(uint32_t)`

abbrev pub stop_at : Program → List CValue → Part CState CallResult
stop_at p [] = troubled p Stuck
stop_at p (Num kind site ∷ []) = halt (seen p) (FailedCheck (unsigned_abs site))
stop_at p (Ptr constant base to ∷ []) = troubled p Stuck
stop_at p (v ∷ u ∷ vs) = troubled p Stuck

abbrev pub stop_call : Program → List CValue → Part CState CallResult
stop_call p values = given p (as_arguments p.target (Value (Int U32) ∷ []) values) (stop_at p)

-- ---- the call of an `extern`: the outside sees its arguments in the types of its parameters, and replies

module _ (t : Target) (structs : List CStruct) where
  -- the scalars of a base, from where a pointer points to
  abbrev pub pointed : CBase → Address → List (ℕ × CScalar)
  pointed b to = lay (metric_of t) (tree structs b) to.offset

  -- a number is seen, and of a pointer what is behind it, where each scalar there has a value
  abbrev pub piece_of : CObjects → CValue → Result Piece Trouble
  piece_of objects (Num kind v) = Ok (piece.Value v)
  piece_of objects (Ptr constant b to) = on_ok (answered (read_each (memory_of t).read objects to.object (pointed b to))) (λ cells. Ok (piece.Cells cells))

  abbrev pub pieces_of : CObjects → List CValue → Result (List Piece) Trouble
  pieces_of objects [] = Ok []
  pieces_of objects (v ∷ vs) = on_ok (piece_of objects v) (λ piece. on_ok (pieces_of objects vs) (λ pieces. Ok (piece ∷ pieces)))

-- the types of the values that a reply gives: of the result, of which none is a pointer, and then of the scalars behind each pointer
-- that is not to a const base
abbrev pub reply_shape : CType → Result (List Plain) Trouble
reply_shape Void = Ok []
reply_shape (Value s) = Ok (plain_of s ∷ [])
reply_shape (Pointer constant base) = Err Stuck

abbrev pub written_shape : List CStruct → List CValue → List Plain
written_shape structs [] = []
written_shape structs (Num kind v ∷ vs) = written_shape structs vs
written_shape structs (Ptr true b to ∷ vs) = written_shape structs vs
written_shape structs (Ptr false b to ∷ vs) = map plain_of (scalars (tree structs b)) ++ written_shape structs vs

-- the value of the call, from those of the reply, and the values that are left to be written
abbrev pub reply_value : CType → List ℤ → Result (CallResult × List ℤ) Trouble
reply_value Void vs = Ok (Nothing, vs)
reply_value (Value s) [] = Err Stuck
reply_value (Value s) (v ∷ vs) = Ok (Gave (Num (Scalar s) v), vs)
reply_value (Pointer constant base) vs = Err Stuck

module _ (t : Target) (structs : List CStruct) where
  -- the values written behind the pointers, in order; one to an object that is const is refused (6.7.3)
  abbrev pub write_replies : List CValue → List ℤ → CObjects → Result CObjects Trouble
  write_replies [] values objects = Ok objects
  write_replies (Num kind v ∷ vs) values objects = write_replies vs values objects
  write_replies (Ptr true b to ∷ vs) values objects = write_replies vs values objects
  write_replies (Ptr false b to ∷ vs) values objects =
      on_ok (answered (write_each (memory_of t).write objects to.object (pointed t structs b to) values)) (write_replies vs (drop (count (tree structs b)) values))

abbrev pub reply_written : Program → List CValue → CallResult × List ℤ → Part CState CallResult
reply_written p args reply = by_state (λ s. given p (write_replies p.target p.unit.structs args reply.1 s.objects) (λ objects. change reply.0 (λ u. record u { objects = objects })))

abbrev pub outside_with : Program → CExtern → List CValue → List Piece → Part CState CallResult
outside_with p x args pieces =
    given p (reply_shape x.result)
    (λ shape. bind (import_call (seen p) (outer_name x.name) pieces (shape ++ written_shape p.unit.structs args)) (λ reply. given p (reply_value x.result reply) (reply_written p args)))

abbrev pub outside : Program → CExtern → List CValue → Part CState CallResult
outside p x args = by_state (λ s. given p (pieces_of p.target p.unit.structs s.objects args) (outside_with p x args))

abbrev pub extern_call : Program → CExtern → List CValue → Part CState CallResult
extern_call p x values = given p (as_arguments p.target x.params values) (outside p x)

-- ---- any call

-- an `extern`, or else a function of the unit
abbrev pub call_found : Program → Calls → Name → List CValue → Option CExtern → Part CState CallResult
call_found p functions name values (Some x) = extern_call p x values
call_found p functions name values None = functions name values

abbrev pub call : Program → Calls → Name → List CValue → Part CState CallResult
call p functions name values =
    if same_word name stop_name then stop_call p values else call_found p functions name values (find (λ x. same_word x.name name) p.unit.externs)
