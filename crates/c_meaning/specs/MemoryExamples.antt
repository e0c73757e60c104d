-- Small units with objects, pointers and initializers, and exactly what their runs come to.
use Rattle.std.specs.Prelude.{◌≡◌, ℕ, ℤ, pos, codes, List, [], ◌∷◌, ◌++◌, Option, Some, None, Bool, true, false}
use Rattle.iv_words.specs.declared.IntKind.TheVariants.{U8, I8}
use Rattle.run_records.specs.declared.AreaCells.{AreaCells}
use Rattle.run_records.specs.declared.Event.{Event}
use Rattle.run_records.specs.declared.Event.TheVariants as event
use Rattle.run_records.specs.declared.Piece.TheVariants as piece
use Rattle.run_records.specs.declared.End.TheVariants.{Ended, NoReply, Going, Undefined}
use Rattle.run_records.specs.declared.Outcome.{Outcome}
use Rattle.run_records.specs.declared.Reason.TheVariants.{DivZero, Dead, Bounds, Indeterminate, ConstWrite, Implementation}
use Rattle.c_ast.specs.declared.Target.TheVariants.{T32}
use Rattle.c_ast.specs.declared.CScalar.TheVariants.{Int as Exact}
use Rattle.c_ast.specs.declared.CBase.{CBase}
use Rattle.c_ast.specs.declared.CBase.TheVariants.{Scalar}
use Rattle.c_ast.specs.declared.CExtern.{CExtern}
use Rattle.c_ast.specs.declared.CType.TheVariants.{Void, Value, Pointer}
use Rattle.c_ast.specs.declared.CBinary.TheVariants.{Add}
use Rattle.c_ast.specs.Syntax.{Name, Expr, Read, Address, Binary, Cast, Var, At, Member, Init, One, Zero, Many, NoInits, MoreInits, FileObject, Stmt, Object, Assign, Return, Block, Call, Function, TranslationUnit}
use Rattle.c_ast.specs.Examples.{rows, procedure}
use Rattle.c_meaning.specs.Runs.{run_c}
use Rattle.c_meaning.specs.Examples.{takes, plain_call, main_script, outcome_of, led, returned}
use Rattle.c_meaning.specs.ValueExamples.{number, by_zero}
use Rattle.c_meaning.specs.PlaceExamples.{byte, structs, pair, of_row, pair_place, small_const, row}

-- ---- units

-- `extern void iv_led(uint8_t);`, `extern void iv_put(uint8_t const *);` and `extern void iv_fill(uint8_t *);`
abbrev pub externs : List CExtern
externs = takes (codes "iv_led") (Value (Exact U8)) ∷ takes (codes "iv_put") (Pointer true byte) ∷ takes (codes "iv_fill") (Pointer false byte) ∷ []

abbrev pub unit_of : List FileObject → List Function → List Stmt → TranslationUnit
unit_of objects functions main = record { structs = structs; externs = externs; objects = objects; functions = functions ++ procedure false (codes "iv_main") main ∷ [] }

abbrev pub runs : List Stmt → ℕ → Outcome
runs main n = run_c (unit_of [] [] main) T32 (main_script []) n

abbrev pub y : Expr
y = Read (Var (codes "iv_y"))

-- `NAME(E);`
abbrev pub gives : Name → Expr → Stmt
gives x e = Call (record { name = x; args = e ∷ [] })

abbrev pub show : Expr → Stmt
show e = gives (codes "iv_led") e

-- `uint8_t iv_y;`, and with an initializer
abbrev pub plain : Stmt
plain = Object (codes "iv_y") byte None

abbrev pub started : ℕ → Stmt
started v = Object (codes "iv_y") byte (Some (One (number v)))

abbrev pub small : Option Init → Stmt
small init = Object (codes "iv_y") (Scalar (Exact I8)) init

abbrev pub set : Expr → Stmt
set e = Assign (Var (codes "iv_y")) e

-- ---- objects of blocks

-- an object is made in a step, with its first value converted, or indeterminate; an assignment takes a step
pub record ObjectExamples : Type 0 where
  pub converted : runs (started 257 ∷ show y ∷ []) 3 ≡ outcome_of (led (pos 1) ∷ returned ∷ []) Ended
  pub assigned : runs (started 257 ∷ set (Binary Add y (number 1)) ∷ show y ∷ []) 4 ≡ outcome_of (led (pos 2) ∷ returned ∷ []) Ended
  pub in_steps : runs (started 257 ∷ set (Binary Add y (number 1)) ∷ show y ∷ []) 3 ≡ outcome_of [] Going
  pub indeterminate : runs (plain ∷ show y ∷ []) 9 ≡ outcome_of [] (Undefined Indeterminate)
  pub made_again : runs (started 1 ∷ Block (rows (plain ∷ show y ∷ [])) ∷ []) 9 ≡ outcome_of [] (Undefined Indeterminate)
  pub outer_stays : runs (started 1 ∷ Block (rows (started 2 ∷ [])) ∷ show y ∷ []) 4 ≡ outcome_of (led (pos 1) ∷ returned ∷ []) Ended
  pub too_great : runs (small (Some (One (number 200))) ∷ []) 2 ≡ outcome_of [] (Undefined Implementation)
  pub not_yet : runs (small (Some (One (number 200))) ∷ []) 1 ≡ outcome_of [] Going
  pub operand_first : runs (small (Some (One by_zero)) ∷ []) 1 ≡ outcome_of [] (Undefined DivZero)

-- `struct iv_P iv_p = {5};` and `= {0}`, and a row of three
abbrev pub pair_with : Init → Stmt
pair_with i = Object (codes "iv_p") pair (Some i)

abbrev pub row_with : Init → Stmt
row_with i = Object (codes "iv_r") row (Some i)

abbrev pub one_of : Init → Init
one_of i = Many (MoreInits i NoInits)

pub record MissingExamples : Type 0 where
  pub member : runs (pair_with (one_of (One (number 5))) ∷ show (Read (Member pair_place (codes "iv_b"))) ∷ []) 3 ≡ outcome_of (led (pos 0) ∷ returned ∷ []) Ended
  pub given_member : runs (pair_with (one_of (One (number 5))) ∷ show (Read (Member pair_place (codes "iv_a"))) ∷ []) 3 ≡ outcome_of (led (pos 5) ∷ returned ∷ []) Ended
  pub all : runs (pair_with Zero ∷ show (Read (Member pair_place (codes "iv_a"))) ∷ []) 3 ≡ outcome_of (led (pos 0) ∷ returned ∷ []) Ended
  pub element : runs (row_with (one_of (one_of (One (number 5)))) ∷ show (Read (of_row (number 1))) ∷ []) 3 ≡ outcome_of (led (pos 0) ∷ returned ∷ []) Ended

-- ---- assignments: the place, the value, the step, whether it may be written, the conversion

abbrev pub through : CBase → Expr → Expr → Stmt
through b pointer e = Assign (At (Cast (Pointer false b) pointer)) e

abbrev pub with_const : List Stmt → ℕ → Outcome
with_const main n = run_c (unit_of (small_const ∷ []) [] main) T32 (main_script []) n

abbrev pub to_const : Expr → Stmt
to_const e = through (Scalar (Exact I8)) (Address (Var (codes "iv_c"))) e

pub record AssignmentExamples : Type 0 where
  pub place_first : runs (row_with Zero ∷ Assign (of_row (number 3)) by_zero ∷ []) 9 ≡ outcome_of [] (Undefined Bounds)
  pub value_before_step : runs (plain ∷ set by_zero ∷ []) 2 ≡ outcome_of [] (Undefined DivZero)
  pub conversion_behind_it : runs (small None ∷ set (number 200) ∷ []) 2 ≡ outcome_of [] Going
  pub too_great : runs (small None ∷ set (number 200) ∷ []) 3 ≡ outcome_of [] (Undefined Implementation)
  pub const_before_conversion : with_const (to_const (number 200) ∷ []) 2 ≡ outcome_of [] (Undefined ConstWrite)
  pub value_before_const : with_const (to_const by_zero ∷ []) 1 ≡ outcome_of [] (Undefined DivZero)

-- ---- pointers that are given back

-- `uint8_t *iv_f(void) { .. }`
abbrev pub pointing : List Stmt → Function
pointing body = record { hidden = true; name = codes "iv_f"; params = []; result = Pointer false byte; body = rows body }

abbrev pub with_pointing : List Stmt → ℕ → Outcome
with_pointing body n = run_c (unit_of [] (pointing body ∷ []) (plain_call (codes "iv_f") ∷ [])) T32 (main_script []) n

-- one to an object of the function's own is dead, after the step and whether it is used or not
pub record ReturnedPointerExamples : Type 0 where
  pub dead : with_pointing (started 1 ∷ Return (Some (Address (Var (codes "iv_y")))) ∷ []) 4 ≡ outcome_of [] (Undefined Dead)
  pub not_yet : with_pointing (started 1 ∷ Return (Some (Address (Var (codes "iv_y")))) ∷ []) 3 ≡ outcome_of [] Going

-- `static void iv_g(uint8_t *const iv_p) { (*iv_p) = 6; }`
abbrev pub setting : Function
setting = record {
  hidden = true;
  name = codes "iv_g";
  params = record { name = codes "iv_p"; ty = Pointer false byte } ∷ [];
  result = Void;
  body = rows (Assign (At (Read (Var (codes "iv_p")))) (number 6) ∷ []);
}

abbrev pub address : Expr
address = Address (Var (codes "iv_y"))

-- a function writes to an object of its caller
abbrev pub PassedPointer : Type 0
PassedPointer = run_c (unit_of [] (setting ∷ []) (started 4 ∷ gives (codes "iv_g") address ∷ show y ∷ [])) T32 (main_script []) 5 ≡ outcome_of (led (pos 6) ∷ returned ∷ []) Ended

-- ---- what the outside sees and writes

abbrev pub shown : Name → ℤ → Event
shown x v = event.Call x (piece.Cells (v ∷ []) ∷ [])

abbrev pub bytes_of_const : FileObject
bytes_of_const = record { name = codes "iv_k"; constant = true; base = byte; init = One (number 3) }

abbrev pub fill_const : Stmt
fill_const = gives (codes "iv_fill") (Cast (Pointer false byte) (Address (Var (codes "iv_k"))))

abbrev pub filling_const : List (List ℤ) → Outcome
filling_const replies = run_c (unit_of (bytes_of_const ∷ []) [] (fill_const ∷ [])) T32 (main_script replies) 9

abbrev pub area : Name → List ℤ → AreaCells
area x values = record { name = x; cells = values }

-- an indeterminate scalar comes before the event, and a const object behind the reply
pub record OutsideExamples : Type 0 where
  pub cells : runs (started 4 ∷ gives (codes "iv_put") address ∷ []) 3 ≡ outcome_of (shown (codes "put") (pos 4) ∷ returned ∷ []) Ended
  pub indeterminate : runs (plain ∷ gives (codes "iv_put") address ∷ []) 9 ≡ outcome_of [] (Undefined Indeterminate)
  pub indeterminate_to_fill : runs (plain ∷ gives (codes "iv_fill") address ∷ []) 9 ≡ outcome_of [] (Undefined Indeterminate)
  pub written : run_c (unit_of [] [] (started 4 ∷ gives (codes "iv_fill") address ∷ show y ∷ [])) T32 (main_script ((pos 6 ∷ []) ∷ [])) 4 ≡ outcome_of (shown (codes "fill") (pos 4) ∷ led (pos 6) ∷ returned ∷ []) Ended
  pub no_reply : runs (started 4 ∷ gives (codes "iv_fill") address ∷ []) 9 ≡ outcome_of (shown (codes "fill") (pos 4) ∷ []) NoReply
  pub const_object : filling_const ((pos 6 ∷ []) ∷ []) ≡ outcome_of (shown (codes "fill") (pos 3) ∷ []) (Undefined ConstWrite)
  pub reply_before_const : filling_const [] ≡ record { events = shown (codes "fill") (pos 3) ∷ []; end = NoReply; areas = area (codes "k") (pos 3 ∷ []) ∷ [] }

-- ---- objects of file scope

abbrev pub of_file : Name → Bool → CBase → Init → FileObject
of_file x constant b i = record { name = x; constant = constant; base = b; init = i }

abbrev pub two_areas : List FileObject
two_areas = of_file (codes "iv_p") false pair (Many (MoreInits (One (number 7)) (MoreInits (One (number 9)) NoInits))) ∷ of_file (codes "iv_k") true byte (One (number 3)) ∷ []

abbrev pub unfit : Name → Expr → FileObject
unfit x e = of_file x true (Scalar (Exact I8)) (One e)

abbrev pub without_calls : List FileObject → Outcome
without_calls objects = run_c (unit_of objects [] []) T32 (record { calls = []; replies = [] }) 0

-- areas are seen in order; an initializer without a value ends every run, the first one before the others
pub record FileScopeExamples : Type 0 where
  pub first_values : without_calls two_areas ≡ record { events = []; end = Ended; areas = area (codes "p") (pos 7 ∷ pos 9 ∷ []) ∷ area (codes "k") (pos 3 ∷ []) ∷ [] }
  pub written : (run_c (unit_of two_areas [] (Assign (Member pair_place (codes "iv_b")) (number 8) ∷ [])) T32 (main_script []) 2).areas ≡ area (codes "p") (pos 7 ∷ pos 8 ∷ []) ∷ area (codes "k") (pos 3 ∷ []) ∷ []
  pub undefined : without_calls (unfit (codes "iv_k") (number 200) ∷ []) ≡ outcome_of [] (Undefined Implementation)
  pub first_of_two : without_calls (unfit (codes "iv_k") (number 200) ∷ unfit (codes "iv_l") by_zero ∷ []) ≡ outcome_of [] (Undefined Implementation)
  pub other_of_two : without_calls (unfit (codes "iv_k") by_zero ∷ unfit (codes "iv_l") (number 200) ∷ []) ≡ outcome_of [] (Undefined DivZero)
