-- What the rules of names and types promise of the runs of a unit.
use Rattle.std.specs.Prelude.{◌≡◌, ℕ, Bool, true, false, List, All}
use Rattle.c_ast.specs.declared.Target.{Target}
use Rattle.c_ast.specs.Syntax.{TranslationUnit}
use Rattle.c_text.specs.ReadsBack.{ReadsBack}
use Rattle.c_text.specs.Right.{IsKept, Right}
use Rattle.c_text.specs.Rules.{Rule, NameIsKnown, TagIsKnown, MemberIsKnown, NameIsNew, TagIsNew, MemberIsNew, NameIsOfFile, CalledIsEarlier, OperandsAreScalars, CastIsAllowed, StarHasPointer, DotHasStruct, IndexHasArray, AddressIsOfObject, ReadHasValue, NameIsPlace, AssignedIsScalar, GivenIsWanted, IndexIsScalar, TestIsScalar, ArgumentsAreCounted, ResultIsWanted, ReturnMatches, BreakIsInLoop, InitializersFit, BracesMatch, FileScopeHasNoNames, LengthIsAllowed, MemberEndsInTime, ConstantHasType}
use Rattle.c_text.specs.Subset.{InSubset}
use Rattle.c_text.specs.UnitRules.{unit_demands}
use Rattle.c_meaning.specs.Laws.{NeverStuck}

-- The rules that runs rest on: all but those of struct declarations, where of two of a name the first counts, and which bound sizes.
abbrev pub matters : Rule → Bool
matters NameIsKnown = true
matters TagIsKnown = true
matters MemberIsKnown = true
matters NameIsNew = true
matters TagIsNew = false
matters MemberIsNew = false
matters NameIsOfFile = true
matters CalledIsEarlier = true
matters OperandsAreScalars = true
matters CastIsAllowed = true
matters StarHasPointer = true
matters DotHasStruct = true
matters IndexHasArray = true
matters AddressIsOfObject = true
matters ReadHasValue = true
matters NameIsPlace = true
matters AssignedIsScalar = true
matters GivenIsWanted = true
matters IndexIsScalar = true
matters TestIsScalar = true
matters ArgumentsAreCounted = true
matters ResultIsWanted = true
matters ReturnMatches = true
matters BreakIsInLoop = true
matters InitializersFit = true
matters BracesMatch = true
matters FileScopeHasNoNames = true
matters LengthIsAllowed = false
matters MemberEndsInTime = false
matters ConstantHasType = true

abbrev pub KeepsWhatMatters : Target → TranslationUnit → Type 0
KeepsWhatMatters target u = All (λ d. matters d.rule ≡ true → IsKept d) (unit_demands target u)

pub record NeverStuckLaws : Type 0 where
  -- a unit of the subset that keeps the rules that matter is never stuck
  pub kept : (target : Target) (u : TranslationUnit) → InSubset u → KeepsWhatMatters target u → NeverStuck u target
  -- so one whose names and types are right is not, and none that bytes read back as
  pub right : (target : Target) (u : TranslationUnit) → InSubset u → Right target u → NeverStuck u target
  pub read_back : (target : Target) (u : TranslationUnit) (bytes : List ℕ) → ReadsBack u bytes target → NeverStuck u target
