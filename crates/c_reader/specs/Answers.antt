-- What the reading of bytes answers: the only unit that reads back from them, or their fault; nothing, where memory ran out.
use Rattle.std.specs.Prelude.{◌≡◌, ◌≤◌, ℕ, List, length, Result, Ok, Err}
use Rattle.c_ast.specs.declared.types.Target.{Target}
use Rattle.c_ast.specs.declared.unit.CUnit.{CUnit}
use Rattle.c_ast.specs.Syntax.{TranslationUnit}
use Rattle.c_ast.specs.View.{unit_of}
use Rattle.c_text.specs.ReadsBack.{Spells, IsShallow, ReadsBack}
use Rattle.c_text.specs.UnitRules.{unit_demands}
use Rattle.c_text.specs.Right.{Right}
use Rattle.c_text.specs.FirstFault.{IsFirst}
use Rattle.c_text.specs.Faults.{HasFault}
use Rattle.c_text.specs.declared.fault.CWhy.TheVariants.{Syntax, TooDeep}
use Rattle.c_parser.specs.declared.answer.UnitFault.{UnitFault}
use Rattle.c_parser.specs.declared.answer.UnitFault.TheVariants as parser
use Rattle.c_reader.specs.declared.read.ReadFault.{ReadFault}
use Rattle.c_reader.specs.declared.read.ReadFault.TheVariants as fault

-- the longest text
abbrev pub text_limit : ℕ
text_limit = 268435456

abbrev pub OnlyUnit : Target → List ℕ → TranslationUnit → Type 0
OnlyUnit target bytes u = (v : TranslationUnit) → ReadsBack v bytes target → v ≡ u

-- it is the fault of the bytes
abbrev pub Told : Target → List ℕ → ReadFault → Type 0
Told target bytes (fault.At f) = HasFault target bytes f
Told target bytes fault.Memory = Unit {0}

-- and they are the text of no unit
abbrev pub ToldOfNone : Target → List ℕ → ReadFault → Type 0
ToldOfNone target bytes (fault.At f) = (v : TranslationUnit) → ReadsBack v bytes target → ⊥
ToldOfNone target bytes fault.Memory = Unit {0}

-- at a byte of them, or where they end
abbrev pub ToldWithin : List ℕ → ReadFault → Type 0
ToldWithin bytes (fault.At f) = f.at ≤ length bytes
ToldWithin bytes fault.Memory = Unit {0}

-- ---- inside

abbrev pub Read : Target → List ℕ → Result CUnit ReadFault → Type 0
Read target bytes (Ok u) = ReadsBack (unit_of u) bytes target
Read target bytes (Err why) = Told target bytes why

-- of a unit whose rules are still to be asked
pub record IsSpelled (bytes : List ℕ) (u : TranslationUnit) : Type 0 where
  pub spelled : Spells u bytes
  pub shallow : IsShallow bytes

-- such a unit again, where its names and types are right
abbrev pub Kept : Target → TranslationUnit → Result CUnit ReadFault → Type 0
Kept target u (Ok v) = (unit_of v ≡ u) × Right target u
Kept target u (Err (fault.At f)) = IsFirst (unit_demands target u) f
Kept target u (Err fault.Memory) = Unit {0}

-- what is told where the parser finds no unit
abbrev pub told_of : UnitFault → ReadFault
told_of (parser.Unexpected at) = fault.At (record { at = at; why = Syntax })
told_of (parser.TooDeep at) = fault.At (record { at = at; why = TooDeep })
told_of parser.Memory = fault.Memory
