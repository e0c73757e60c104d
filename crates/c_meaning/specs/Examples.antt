-- Small units, and exactly what their runs come to: examples that hold the definitions fast.
use Rattle.std.specs.Prelude.{◌≡◌, ℕ, ℤ, pos, List, [], ◌∷◌, map, Some, None, Bool, true, false, codes}
use Rattle.iv_words.specs.declared.IntKind.TheVariants.{U8, I8}
use Rattle.run_records.specs.declared.Event.{Event}
use Rattle.run_records.specs.declared.Event.TheVariants as event
use Rattle.run_records.specs.declared.Piece.TheVariants as piece
use Rattle.run_records.specs.declared.End.{End}
use Rattle.run_records.specs.declared.End.TheVariants.{Ended, Stopped, NoReply, BadReply, Going, Undefined}
use Rattle.run_records.specs.declared.Outcome.{Outcome}
use Rattle.run_records.specs.declared.Reason.TheVariants.{Implementation, NoValue}
use Rattle.run_records.specs.declared.Script.{Script}
use Rattle.c_ast.specs.declared.Target.TheVariants.{T32}
use Rattle.c_ast.specs.declared.CScalar.TheVariants.{Truth, Int}
use Rattle.c_ast.specs.declared.CType.{CType}
use Rattle.c_ast.specs.declared.CType.TheVariants.{Void, Value}
use Rattle.c_ast.specs.declared.Suffix.TheVariants.{Plain, U}
use Rattle.c_ast.specs.declared.CExtern.{CExtern}
use Rattle.c_ast.specs.declared.CBinary.TheVariants.{Div}
use Rattle.c_ast.specs.Syntax.{Name, Expr, Number, Read, Binary, Var, Stmt, Const, ConstCall, If, IfElse, Forever, Break, Return, Block, Call, Nil, Function, TranslationUnit}
use Rattle.c_ast.specs.Examples.{rows, procedure, unit_with}
use Rattle.c_meaning.specs.Laws.{no_site, watched}
use Rattle.c_meaning.specs.Runs.{run_program, run_c}

-- ---- writing units, scripts and outcomes

-- `NAME(V);`
abbrev pub pass : Name → ℕ → Stmt
pass name v = Call (record { name = name; args = Number v Plain ∷ [] })

-- `NAME();`
abbrev pub plain_call : Name → Stmt
plain_call name = Call (record { name = name; args = [] })

-- `extern void NAME(TYPE);`
abbrev pub takes : Name → CType → CExtern
takes name t = record { name = name; params = t ∷ []; result = Void }

-- `extern void iv_led(uint8_t);` and `void iv_main(void) { .. }`
abbrev pub blinking : List Stmt → TranslationUnit
blinking body = unit_with (takes (codes "iv_led") (Value (Int U8)) ∷ []) (procedure false (codes "iv_main") body ∷ [])

-- one call of `main`, and these replies
abbrev pub main_script : List (List ℤ) → Script
main_script replies = record { calls = record { name = codes "main"; values = []; line = 1 } ∷ []; replies = map (λ vs. record { values = vs; line = 2 }) replies }

abbrev pub once : TranslationUnit → ℕ → Outcome
once u n = run_c u T32 (main_script []) n

abbrev pub outcome_of : List Event → End → Outcome
outcome_of events end = record { events = events; end = end; areas = [] }

-- the same of a unit that is watched, and a run of it that is stuck
abbrev pub watched_once : TranslationUnit → ℕ → Outcome
watched_once u n = run_program (watched u T32) (main_script []) n

abbrev pub lost : Outcome
lost = outcome_of [] (Stopped no_site)

abbrev pub led : ℤ → Event
led v = event.Call (codes "led") (piece.Value v ∷ [])

abbrev pub returned : Event
returned = event.Ret (codes "main") None

-- ---- entry calls

-- an entry call takes one step, and its end is seen
abbrev pub EmptyMain : Type 0
EmptyMain = once (blinking []) 1 ≡ outcome_of (returned ∷ []) Ended

abbrev pub EmptyMainNeedsAStep : Type 0
EmptyMainNeedsAStep = once (blinking []) 0 ≡ outcome_of [] Going

-- no step is needed for a script without calls
abbrev pub NoCalls : Type 0
NoCalls = run_c (blinking []) T32 (record { calls = []; replies = [] }) 0 ≡ outcome_of [] Ended

-- a function with `static` is not found
abbrev pub HiddenMain : Type 0
HiddenMain = watched_once (unit_with [] (procedure true (codes "iv_main") [] ∷ [])) 1 ≡ lost

-- ---- calls of an `extern`

-- the outside sees the call and its argument, without `iv_`
abbrev pub LedOnce : Type 0
LedOnce = once (blinking (pass (codes "iv_led") 1 ∷ [])) 2 ≡ outcome_of (led (pos 1) ∷ returned ∷ []) Ended

-- a call takes a step before it is seen
abbrev pub LedNeedsAStep : Type 0
LedNeedsAStep = once (blinking (pass (codes "iv_led") 1 ∷ [])) 1 ≡ outcome_of [] Going

abbrev pub LedTwice : Type 0
LedTwice = once (blinking (pass (codes "iv_led") 1 ∷ pass (codes "iv_led") 0 ∷ [])) 3 ≡ outcome_of (led (pos 1) ∷ led (pos 0) ∷ returned ∷ []) Ended

-- an argument is converted to the type of its parameter: modulo 256 to uint8_t
abbrev pub LedWraps : Type 0
LedWraps = once (blinking (pass (codes "iv_led") 257 ∷ [])) 2 ≡ outcome_of (led (pos 1) ∷ returned ∷ []) Ended

-- to `bool` by a comparison with 0
abbrev pub LedTruth : Type 0
LedTruth = once (unit_with (takes (codes "iv_led") (Value Truth) ∷ []) (procedure false (codes "iv_main") (pass (codes "iv_led") 2 ∷ []) ∷ [])) 2 ≡ outcome_of (led (pos 1) ∷ returned ∷ []) Ended

-- to a signed type where it holds the number, else the implementation decides; the step comes before the conversion
abbrev pub signed_led : ℕ → TranslationUnit
signed_led v = unit_with (takes (codes "iv_led") (Value (Int I8)) ∷ []) (procedure false (codes "iv_main") (pass (codes "iv_led") v ∷ []) ∷ [])

abbrev pub LedSigned : Type 0
LedSigned = once (signed_led 127) 2 ≡ outcome_of (led (pos 127) ∷ returned ∷ []) Ended

abbrev pub LedTooGreat : Type 0
LedTooGreat = once (signed_led 128) 2 ≡ outcome_of [] (Undefined Implementation)

abbrev pub LedTooGreatLater : Type 0
LedTooGreatLater = once (signed_led 128) 1 ≡ outcome_of [] Going

-- `extern uint8_t iv_get(void);` and a call of it
abbrev pub asking : TranslationUnit
asking = unit_with (record { name = codes "iv_get"; params = []; result = Value (Int U8) } ∷ []) (procedure false (codes "iv_main") (plain_call (codes "iv_get") ∷ []) ∷ [])

abbrev pub asked : Event
asked = event.Call (codes "get") []

abbrev pub Replied : Type 0
Replied = run_c asking T32 (main_script ((pos 255 ∷ []) ∷ [])) 2 ≡ outcome_of (asked ∷ returned ∷ []) Ended

abbrev pub NotReplied : Type 0
NotReplied = run_c asking T32 (main_script []) 2 ≡ outcome_of (asked ∷ []) NoReply

abbrev pub BadlyReplied : Type 0
BadlyReplied = run_c asking T32 (main_script ((pos 256 ∷ []) ∷ [])) 2 ≡ outcome_of (asked ∷ []) BadReply

-- ---- other calls

-- `ivory_stop(7u);` ends the run
abbrev pub Stops : Type 0
Stops = once (blinking (Call (record { name = codes "ivory_stop"; args = Number 7 U ∷ [] }) ∷ pass (codes "iv_led") 1 ∷ [])) 2 ≡ outcome_of [] (Stopped 7)

-- a function may call one before it, for a step
abbrev pub earlier_function : TranslationUnit
earlier_function =
    unit_with (takes (codes "iv_led") (Value (Int U8)) ∷ [])
    (procedure true (codes "iv_blink") (pass (codes "iv_led") 1 ∷ Return None ∷ []) ∷ procedure false (codes "iv_main") (plain_call (codes "iv_blink") ∷ pass (codes "iv_led") 0 ∷ []) ∷ [])

abbrev pub CallsEarlier : Type 0
CallsEarlier = once earlier_function 5 ≡ outcome_of (led (pos 1) ∷ led (pos 0) ∷ returned ∷ []) Ended

abbrev pub CallsEarlierInSteps : Type 0
CallsEarlierInSteps = once earlier_function 4 ≡ outcome_of (led (pos 1) ∷ []) Going

-- but not itself
abbrev pub CallsItself : Type 0
CallsItself = watched_once (blinking (plain_call (codes "iv_main") ∷ [])) 9 ≡ lost

-- ---- loops, `break`, `return` and blocks

-- a turn takes a step at its start, even of a loop that does nothing
abbrev pub EndlessLoop : Type 0
EndlessLoop = once (blinking (Forever Nil ∷ [])) 5 ≡ outcome_of [] Going

abbrev pub EndlessLed : Type 0
EndlessLed = once (blinking (Forever (rows (pass (codes "iv_led") 1 ∷ [])) ∷ [])) 6 ≡ outcome_of (led (pos 1) ∷ led (pos 1) ∷ []) Going

abbrev pub LoopLeft : Type 0
LoopLeft = once (blinking (Forever (rows (Break ∷ [])) ∷ pass (codes "iv_led") 1 ∷ [])) 4 ≡ outcome_of (led (pos 1) ∷ returned ∷ []) Ended

abbrev pub LoopLeftInSteps : Type 0
LoopLeftInSteps = once (blinking (Forever (rows (Break ∷ [])) ∷ pass (codes "iv_led") 1 ∷ [])) 3 ≡ outcome_of [] Going

-- nothing after a `return;` is done, also from within a loop and a block
abbrev pub Returns : Type 0
Returns = once (blinking (Forever (rows (Block (rows (Return None ∷ [])) ∷ [])) ∷ pass (codes "iv_led") 1 ∷ [])) 3 ≡ outcome_of (returned ∷ []) Ended

-- a block takes no step
abbrev pub Blocks : Type 0
Blocks = once (blinking (Block (rows (pass (codes "iv_led") 1 ∷ [])) ∷ [])) 2 ≡ outcome_of (led (pos 1) ∷ returned ∷ []) Ended

-- ---- values: names, parameters, results and conditions

-- `int8_t`, `uint8_t` and `bool`
abbrev pub small : CType
small = Value (Int I8)

abbrev pub byte : CType
byte = Value (Int U8)

abbrev pub truth : CType
truth = Value Truth

abbrev pub name : Name → Expr
name x = Read (Var x)

abbrev pub number : ℕ → Expr
number v = Number v Plain

abbrev pub half : Expr
half = Binary Div (name (codes "iv_x")) (number 2)

-- `uint8_t iv_f(uint8_t const iv_x) { .. }`, called by the outside or by `iv_main`
abbrev pub of_byte : Bool → CType → List Stmt → Function
of_byte hidden result body = record { hidden = hidden; name = codes "iv_f"; params = record { name = codes "iv_x"; ty = byte } ∷ []; result = result; body = rows body }

abbrev pub calling : CType → List Stmt → List Stmt → TranslationUnit
calling result f main = unit_with (takes (codes "iv_led") byte ∷ []) (of_byte true result f ∷ procedure false (codes "iv_main") main ∷ [])

-- `TYPE const iv_r = iv_f(V);` and the name given to the outside
abbrev pub shows_result : CType → ℕ → List Stmt
shows_result t v = ConstCall (codes "iv_r") t (record { name = codes "iv_f"; args = number v ∷ [] }) ∷ Call (record { name = codes "iv_led"; args = name (codes "iv_r") ∷ [] }) ∷ []

-- an entry call gives the value of its function, which is converted to its type where it returns
abbrev pub exporting : CType → List Stmt → TranslationUnit
exporting result body = unit_with [] (of_byte false result body ∷ [])

abbrev pub script_of : ℤ → Script
script_of v = record { calls = record { name = codes "f"; values = v ∷ []; line = 1 } ∷ []; replies = [] }

abbrev pub entry_of : CType → List Stmt → ℤ → ℕ → Outcome
entry_of result body v n = run_c (exporting result body) T32 (script_of v) n

abbrev pub gives : ℤ → Event
gives v = event.Ret (codes "f") (Some v)

pub record EntryValueExamples : Type 0 where
  pub half_is : entry_of byte (Return (Some half) ∷ []) (pos 7) 2 ≡ outcome_of (gives (pos 3) ∷ []) Ended
  pub needs_steps : entry_of byte (Return (Some half) ∷ []) (pos 7) 1 ≡ outcome_of [] Going
  pub converted : entry_of small (Return (Some (name (codes "iv_x"))) ∷ []) (pos 200) 2 ≡ outcome_of [] (Undefined Implementation)
  pub as_truth : entry_of truth (Return (Some (name (codes "iv_x"))) ∷ []) (pos 200) 2 ≡ outcome_of (gives (pos 1) ∷ []) Ended
  pub nothing : entry_of Void [] (pos 200) 1 ≡ outcome_of (event.Ret (codes "f") None ∷ []) Ended
  pub dropped : entry_of byte [] (pos 200) 1 ≡ outcome_of [] (Undefined NoValue)
  pub wrong_return : run_program (watched (exporting byte (Return None ∷ [])) T32) (script_of (pos 200)) 2 ≡ lost

-- a call takes a step, the `return` one, and the declaration of its value one more
pub record CallValueExamples : Type 0 where
  pub shown : once (calling byte (Return (Some half) ∷ []) (shows_result byte 9)) 5 ≡ outcome_of (led (pos 4) ∷ returned ∷ []) Ended
  pub before_the_led : once (calling byte (Return (Some half) ∷ []) (shows_result byte 9)) 4 ≡ outcome_of [] Going
  pub argument_wraps : once (calling byte (Return (Some half) ∷ []) (shows_result byte 265)) 5 ≡ outcome_of (led (pos 4) ∷ returned ∷ []) Ended
  pub declared_type : once (calling byte (Return (Some half) ∷ []) (shows_result truth 9)) 5 ≡ outcome_of (led (pos 1) ∷ returned ∷ []) Ended
  pub used : once (calling byte [] (shows_result byte 9)) 5 ≡ outcome_of [] (Undefined NoValue)
  pub unused_yet : once (calling byte [] (shows_result byte 9)) 2 ≡ outcome_of [] Going
  pub dropped : once (calling byte [] (Call (record { name = codes "iv_f"; args = number 9 ∷ [] }) ∷ [])) 2 ≡ outcome_of (returned ∷ []) Ended
  pub wrong_count : watched_once (calling byte [] (plain_call (codes "iv_f") ∷ [])) 2 ≡ lost
  pub hides_callers : watched_once (calling byte (Return (Some (name (codes "iv_y"))) ∷ []) (Const (codes "iv_y") byte (number 1) ∷ shows_result byte 9)) 9 ≡ lost

-- a name is declared in a step and ends with its block; a condition takes a step
pub record NameAndConditionExamples : Type 0 where
  pub declared : once (blinking (Const (codes "iv_y") byte (number 257) ∷ Call (record { name = codes "iv_led"; args = name (codes "iv_y") ∷ [] }) ∷ [])) 3 ≡ outcome_of (led (pos 1) ∷ returned ∷ []) Ended
  pub not_yet : once (blinking (Const (codes "iv_y") small (number 200) ∷ [])) 1 ≡ outcome_of [] Going
  pub too_great : once (blinking (Const (codes "iv_y") small (number 200) ∷ [])) 2 ≡ outcome_of [] (Undefined Implementation)
  pub ended : watched_once (blinking (Block (rows (Const (codes "iv_y") byte (number 1) ∷ [])) ∷ Call (record { name = codes "iv_led"; args = name (codes "iv_y") ∷ [] }) ∷ [])) 9 ≡ lost
  pub taken : once (blinking (If (number 2) (rows (pass (codes "iv_led") 1 ∷ [])) ∷ [])) 3 ≡ outcome_of (led (pos 1) ∷ returned ∷ []) Ended
  pub not_taken : once (blinking (If (number 0) (rows (pass (codes "iv_led") 1 ∷ [])) ∷ [])) 2 ≡ outcome_of (returned ∷ []) Ended
  pub first : once (blinking (IfElse (number 1) (rows (pass (codes "iv_led") 1 ∷ [])) (rows (pass (codes "iv_led") 0 ∷ [])) ∷ [])) 3 ≡ outcome_of (led (pos 1) ∷ returned ∷ []) Ended
  pub second : once (blinking (IfElse (number 0) (rows (pass (codes "iv_led") 1 ∷ [])) (rows (pass (codes "iv_led") 0 ∷ [])) ∷ [])) 3 ≡ outcome_of (led (pos 0) ∷ returned ∷ []) Ended
  pub test_needs_a_step : once (blinking (If (number 0) Nil ∷ [])) 1 ≡ outcome_of [] Going

-- ---- being stuck

pub record StuckExamples : Type 0 where
  pub shown : once (blinking (Const (codes "iv_y") byte (name (codes "iv_x")) ∷ [])) 9 ≡ outcome_of [] (Undefined NoValue)
  pub unknown : watched_once (blinking (Const (codes "iv_y") byte (name (codes "iv_x")) ∷ [])) 9 ≡ lost
  pub no_value : watched_once (calling Void [] (shows_result byte 9)) 9 ≡ lost
  pub returned_without : watched_once (calling Void (Return None ∷ []) (shows_result byte 9)) 9 ≡ lost
  pub outside_without : watched_once (blinking (ConstCall (codes "iv_y") byte (record { name = codes "iv_led"; args = number 1 ∷ [] }) ∷ [])) 9 ≡ outcome_of (led (pos 1) ∷ []) (Stopped no_site)
  pub undefined : watched_once (signed_led 128) 9 ≡ outcome_of [] (Undefined Implementation)
