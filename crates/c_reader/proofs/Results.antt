-- What follows of a result of reading bytes.
use Rattle.std.proofs.Common.{◌≡◌, ℕ, Bool, true, false, List, [], ◌∷◌, All, Option, Some, None, Result, Ok, Err, refl, sym, subst, if◌then◌else◌}
use Rattle.std.specs.Prelude.{IfOk, IfErr}
use Rattle.std.proofs.lemmas.List.Elements.{All-nil, All-cons}
use Rattle.c_ast.specs.declared.types.Target.{Target}
use Rattle.c_ast.specs.declared.unit.CUnit.{CUnit}
use Rattle.c_ast.specs.Syntax.{TranslationUnit}
use Rattle.c_ast.specs.View.{unit_of}
use Rattle.c_text.specs.declared.fault.CFault.{CFault}
use Rattle.c_text.specs.declared.fault.CWhy.TheVariants.{Syntax, TooDeep}
use Rattle.c_text.specs.UnitRules.{unit_demands}
use Rattle.c_text.specs.Rules.{Demand}
use Rattle.c_text.specs.Right.{IsKept, Right}
use Rattle.c_text.specs.FirstFault.{told, or_earlier, first_fault}
use Rattle.c_text.specs.ReadsBack.{ReadsBack}
use Rattle.c_text.specs.Faults.{FaultAt}
use Rattle.reading.specs.Exact.{Tree}
use Rattle.c_grammar.specs.Pieces.{pieces}
use Rattle.c_grammar.specs.Subset.{parse}
use Rattle.c_parser.specs.declared.answer.UnitFault.{UnitFault}
use Rattle.c_parser.specs.declared.answer.UnitFault.TheVariants as parser
use Rattle.c_parser.specs.Answers.{Says}
use Rattle.c_reader.specs.declared.read.ReadFault.{ReadFault}
use Rattle.c_reader.specs.declared.read.ReadFault.TheVariants as fault
use Rattle.c_reader.specs.Answers.{OnlyUnit, Told, ToldOfNone, ToldWithin, Read, IsSpelled, Kept, told_of}
use Rattle.c_reader.proofs.Answered.{unit_answered, syntax_answered, deep_answered}
use Rattle.c_reader.proofs.Verdicts.{broken_answered, not_unit_and_fault, one_unit, places_within}

pub unit_read : (target : Target) (bytes : List ℕ) (r : Result CUnit ReadFault) → Read target bytes r → IfOk r (λ u. ReadsBack (unit_of u) bytes target)
unit_read target bytes (Ok u) back = back
unit_read target bytes (Err why) told = tt

pub only_read : (target : Target) (bytes : List ℕ) (r : Result CUnit ReadFault) → Read target bytes r → IfOk r (λ u. OnlyUnit target bytes (unit_of u))
only_read target bytes (Ok u) back = λ v other. one_unit target bytes v (unit_of u) other back
only_read target bytes (Err why) told = tt

pub fault_read : (target : Target) (bytes : List ℕ) (r : Result CUnit ReadFault) → Read target bytes r → IfErr r (λ why. Told target bytes why)
fault_read target bytes (Ok u) back = tt
fault_read target bytes (Err why) told = told

pub none_read : (target : Target) (bytes : List ℕ) (r : Result CUnit ReadFault) → Read target bytes r → IfErr r (λ why. ToldOfNone target bytes why)
none_read target bytes (Ok u) back = tt
none_read target bytes (Err (fault.At f)) told = λ v back. not_unit_and_fault target bytes v f back told
none_read target bytes (Err fault.Memory) told = tt

pub place_read : (target : Target) (bytes : List ℕ) (r : Result CUnit ReadFault) → Read target bytes r → IfErr r (λ why. ToldWithin bytes why)
place_read target bytes (Ok u) back = tt
place_read target bytes (Err (fault.At f)) told = places_within target bytes f told
place_read target bytes (Err fault.Memory) told = tt

-- ---- what the search through the rules answers

kept_at : (kept : Bool) (d : Demand) (r : Option CFault) (f : CFault) → (if kept then r else Some f) ≡ None → (kept ≡ true) × (r ≡ None)
kept_at true d r f none = (refl, none)
kept_at false d r f none = cc

all_kept : (ds : List Demand) → first_fault ds ≡ None → All IsKept ds
all_kept [] none = All-nil IsKept
all_kept (d ∷ ds) none =
    let w = kept_at d.kept d (first_fault ds) (or_earlier (told d) (first_fault ds)) none in
    All-cons IsKept d ds w.0 (all_kept ds w.1)

pub kept : (target : Target) (u : TranslationUnit) → first_fault (unit_demands target u) ≡ None → Right target u
kept target u none = record { kept = all_kept (unit_demands target u) none }

pub read_of_kept : (target : Target) (bytes : List ℕ) (u : TranslationUnit) (r : Result CUnit ReadFault) → IsSpelled bytes u → Kept target u r → Read target bytes r
read_of_kept target bytes u (Ok v) s k = subst (λ w. ReadsBack w bytes target) (sym k.0) (record { spelled = s.spelled; right = k.1; shallow = s.shallow })
read_of_kept target bytes u (Err (fault.At f)) s k = broken_answered target bytes u f s.spelled s.shallow k
read_of_kept target bytes u (Err fault.Memory) s k = tt

-- ---- what the parser's result says

pub spelled : (bytes : List ℕ) (u : TranslationUnit) → parse 300 (pieces bytes) ≡ Tree u → IsSpelled bytes u
spelled bytes u e = let w = unit_answered bytes u e in record { spelled = w.0; shallow = w.1 }

pub unread : (target : Target) (bytes : List ℕ) (why : UnitFault) → Says bytes (Err why) (parse 300 (pieces bytes)) → Told target bytes (told_of why)
unread target bytes (parser.Unexpected at) (k, e, is) = subst (λ p. FaultAt target bytes p Syntax) (sym is) (syntax_answered bytes k e)
unread target bytes (parser.TooDeep at) (k, e, is) = subst (λ p. FaultAt target bytes p TooDeep) (sym is) (deep_answered bytes k e)
unread target bytes parser.Memory says = tt
