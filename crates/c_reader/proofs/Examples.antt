-- What is answered of small texts, by computation.
use Rattle.std.proofs.Common.{◌≡◌, ℕ, List, Option, Some, None, refl, subst}
use Rattle.reading.specs.Exact.{Answer, Tree, UnexpectedToken, DeepToken}
use Rattle.c_ast.specs.declared.types.Target.TheVariants.{T32}
use Rattle.c_ast.specs.Syntax.{TranslationUnit}
use Rattle.c_text.specs.declared.fault.CFault.{CFault}
use Rattle.c_text.specs.declared.fault.CWhy.TheVariants.{Syntax, TooDeep}
use Rattle.c_text.specs.UnitRules.{unit_demands}
use Rattle.c_text.specs.FirstFault.{first_fault}
use Rattle.c_text.specs.ReadsBack.{ReadsBack}
use Rattle.c_text.specs.Faults.{HasFault}
use Rattle.c_grammar.specs.Pieces.{pieces}
use Rattle.c_grammar.specs.Subset.{parse}
use Rattle.c_reader.proofs.Answered.{place_of, syntax_answered, deep_answered}
use Rattle.c_reader.proofs.Verdicts.{broken_answered}
use Rattle.c_reader.proofs.Results.{spelled, kept}
use Rattle.c_text.proofs.FirstFault.{search_finds}

-- the fault by the answer for the pieces, and a search through the rules
abbrev told : List ℕ → Answer TranslationUnit → Option CFault
told bytes (Tree u) = first_fault (unit_demands T32 u)
told bytes (UnexpectedToken k) = Some (record { at = place_of bytes k; why = Syntax })
told bytes (DeepToken k) = Some (record { at = place_of bytes k; why = TooDeep })

of_answer : (bytes : List ℕ) (a : Answer TranslationUnit) (f : CFault) → parse 300 (pieces bytes) ≡ a → told bytes a ≡ Some f → HasFault T32 bytes f
of_answer bytes (Tree u) f e found = let s = spelled bytes u e in broken_answered T32 bytes u f s.spelled s.shallow (search_finds (unit_demands T32 u) f found)
of_answer bytes (UnexpectedToken k) f e found = subst (HasFault T32 bytes) (only found) (syntax_answered bytes k e)
  where
    only : {g : CFault} → Some g ≡ Some f → g ≡ f
    only e = cc
of_answer bytes (DeepToken k) f e found = subst (HasFault T32 bytes) (only found) (deep_answered bytes k e)
  where
    only : {g : CFault} → Some g ≡ Some f → g ≡ f
    only e = cc

pub fault_is : (bytes : List ℕ) (f : CFault) → told bytes (parse 300 (pieces bytes)) ≡ Some f → HasFault T32 bytes f
fault_is bytes f e = of_answer bytes (parse 300 (pieces bytes)) f refl e

pub unit_is : (bytes : List ℕ) (u : TranslationUnit) → parse 300 (pieces bytes) ≡ Tree u → first_fault (unit_demands T32 u) ≡ None → ReadsBack u bytes T32
unit_is bytes u e none = let s = spelled bytes u e in record { spelled = s.spelled; right = kept T32 u none; shallow = s.shallow }
