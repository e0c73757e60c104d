-- Small units that break one rule and no other, and are stuck: so runs rest on these rules. And a unit that breaks none.
use Rattle.std.specs.Prelude.{◌≡◌, ℕ, List, [], ◌∷◌, None, false, if◌then◌else◌, codes}
use Rattle.iv_words.specs.declared.IntKind.TheVariants.{U8}
use Rattle.c_ast.specs.declared.CBase.{CBase}
use Rattle.c_ast.specs.declared.CBase.TheVariants.{Scalar}
use Rattle.c_ast.specs.declared.CScalar.TheVariants.{Int}
use Rattle.c_ast.specs.declared.CType.TheVariants.{Void, Value, Pointer}
use Rattle.c_ast.specs.declared.Suffix.TheVariants.{Plain}
use Rattle.c_ast.specs.declared.Target.TheVariants.{T32}
use Rattle.c_ast.specs.Examples.{rows, procedure, unit_with}
use Rattle.c_ast.specs.Syntax.{Name, Expr, Number, Read, Address, Var, One, Const, Break, Return, FileObject, TranslationUnit}
use Rattle.c_text.specs.Rules.{Rule, Demand, NameIsKnown, NameIsNew, GivenIsWanted, ArgumentsAreCounted, ReturnMatches, BreakIsInLoop, FileScopeHasNoNames, ConstantHasType}
use Rattle.c_text.specs.UnitRules.{unit_demands}
use Rattle.c_meaning.specs.Examples.{blinking, takes, pass, plain_call, watched_once, lost}
use Rattle.c_meaning.specs.MemoryExamples.{unit_of, gives, show, plain, set, y}

-- ---- which rules a unit breaks

abbrev pub broken_among : List Demand → List Rule
broken_among [] = []
broken_among (d ∷ ds) = if d.kept then broken_among ds else d.rule ∷ broken_among ds

abbrev pub broken : TranslationUnit → List Rule
broken u = broken_among (unit_demands T32 u)

-- the rule alone is broken, and a call of `main` is stuck
pub record IsNeeded (rule : Rule) (u : TranslationUnit) : Type 0 where
  pub alone : broken u ≡ rule ∷ []
  pub stuck : watched_once u 9 ≡ lost

-- ---- units

abbrev pub byte : CBase
byte = Scalar (Int U8)

abbrev pub name : Name → Expr
name x = Read (Var x)

abbrev pub number : ℕ → Expr
number v = Number v Plain

-- `uint8_t iv_main(void) { return; }`
abbrev pub without_value : TranslationUnit
without_value = unit_with [] (record { hidden = false; name = codes "iv_main"; params = []; result = Value (Int U8); body = rows (Return None ∷ []) } ∷ [])

-- `void iv_f(uint8_t *const iv_p) {}`, which is called with a number
abbrev pub number_for_pointer : TranslationUnit
number_for_pointer =
    unit_with [] (
    record { hidden = false; name = codes "iv_f"; params = record { name = codes "iv_p"; ty = Pointer false byte } ∷ []; result = Void; body = rows [] } ∷
    procedure false (codes "iv_main") (pass (codes "iv_f") 1 ∷ []) ∷ [])

-- `extern void iv_f(uint8_t);`, and a function of the name without parameters
abbrev pub twice : TranslationUnit
twice = unit_with (takes (codes "iv_f") (Value (Int U8)) ∷ []) (procedure false (codes "iv_f") [] ∷ procedure false (codes "iv_main") (plain_call (codes "iv_f") ∷ []) ∷ [])

-- `static uint8_t NAME = E;`
abbrev pub file_byte : Name → Expr → FileObject
file_byte x e = record { name = x; constant = false; base = byte; init = One e }

-- `static uint8_t iv_b = (&iv_a);`, behind `iv_a`
abbrev pub named_outside : TranslationUnit
named_outside = record { structs = []; externs = []; objects = file_byte (codes "iv_a") (number 1) ∷ file_byte (codes "iv_b") (Address (Var (codes "iv_a"))) ∷ []; functions = procedure false (codes "iv_main") [] ∷ [] }

-- ---- the rules

pub record NeededRules : Type 0 where
  pub known : IsNeeded NameIsKnown (blinking (Const (codes "iv_y") (Value (Int U8)) (name (codes "iv_x")) ∷ []))
  pub new : IsNeeded NameIsNew twice
  pub given : IsNeeded GivenIsWanted number_for_pointer
  pub counted : IsNeeded ArgumentsAreCounted (blinking (plain_call (codes "iv_led") ∷ []))
  pub returned : IsNeeded ReturnMatches without_value
  pub in_loop : IsNeeded BreakIsInLoop (blinking (Break ∷ []))
  pub file_scope : IsNeeded FileScopeHasNoNames named_outside
  pub constant : IsNeeded ConstantHasType (blinking (pass (codes "iv_led") 9223372036854775808 ∷ []))

-- `uint8_t iv_y; iv_y = 3; iv_fill((&iv_y)); iv_led(iv_y);`, of which the outside sees and writes the object behind a pointer
abbrev pub RightUnit : Type 0
RightUnit = broken (unit_of [] [] (plain ∷ set (number 3) ∷ gives (codes "iv_fill") (Address (Var (codes "iv_y"))) ∷ show y ∷ [])) ≡ []

-- `extern uint8_t *iv_get(void);`, which no text of the subset spells and no rule forbids, and a call of it
abbrev pub from_outside : TranslationUnit
from_outside = unit_with (record { name = codes "iv_get"; params = []; result = Pointer false byte } ∷ []) (procedure false (codes "iv_main") (plain_call (codes "iv_get") ∷ []) ∷ [])

pub record SubsetIsNeeded : Type 0 where
  pub right : broken from_outside ≡ []
  pub stuck : watched_once from_outside 9 ≡ lost
