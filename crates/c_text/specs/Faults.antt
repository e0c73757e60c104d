-- The fault of bytes that read back as no unit: its place and why, whatever a reader's way through them.
use Rattle.std.specs.Prelude.{◌≡◌, ℕ, ◌+◌, ◌<◌, ◌≤◌, ◌==◌, ◌&&◌, ◌||◌, Bool, List, [], ◌∷◌, ◌++◌, length, take, if◌then◌else◌}
use Rattle.c_ast.specs.declared.types.Target.{Target}
use Rattle.c_ast.specs.Syntax.{TranslationUnit}
use Rattle.c_text.specs.declared.fault.CFault.{CFault}
use Rattle.c_text.specs.declared.fault.CWhy.{CWhy}
use Rattle.c_text.specs.declared.fault.CWhy.TheVariants.{Syntax, TooDeep, BadName, BadType}
use Rattle.c_text.specs.Identifiers.{is_identifier_byte}
use Rattle.c_text.specs.TypeText.{texts}
use Rattle.c_text.specs.Spelling.{unit_text}
use Rattle.c_text.specs.Subset.{InSubset}
use Rattle.c_text.specs.ReadsBack.{open_brackets, Spells, IsShallow}
use Rattle.c_text.specs.UnitRules.{unit_demands}
use Rattle.c_text.specs.FirstFault.{IsFirst}

-- ---- pieces: runs of letters, digits and `_`, runs of spaces, and single other bytes

abbrev pub is_one_piece : ℕ → ℕ → Bool
is_one_piece a b = (is_identifier_byte a && is_identifier_byte b) || (a == 32 && b == 32)

abbrev pub before_pieces : ℕ → List (List ℕ) → List (List ℕ)
before_pieces a [] = (a ∷ []) ∷ []
before_pieces a ([] ∷ ps) = (a ∷ []) ∷ ps
before_pieces a ((b ∷ bs) ∷ ps) = if is_one_piece a b then (a ∷ b ∷ bs) ∷ ps else (a ∷ []) ∷ (b ∷ bs) ∷ ps

abbrev pub pieces : List ℕ → List (List ℕ)
pieces [] = []
pieces (b ∷ bs) = before_pieces b (pieces bs)

-- ---- syntax

-- some unit's text begins with the pieces
pub record BeginsUnit (ps : List (List ℕ)) : Type 0 where
  pub unit : TranslationUnit
  pub in_subset : InSubset unit
  pub rest : List (List ℕ)
  pub is : pieces (unit_text unit) ≡ ps ++ rest

-- with the next piece no unit begins, or there is none and the text is no unit's
abbrev pub EndsUnit : List ℕ → (before after : List (List ℕ)) → Type 0
EndsUnit bytes before [] = (u : TranslationUnit) → Spells u bytes → ⊥
EndsUnit bytes before (p ∷ ps) = BeginsUnit (before ++ p ∷ []) → ⊥

-- the first piece with which the bytes begin no unit, or their end
pub record SyntaxAt (bytes : List ℕ) (at : ℕ) : Type 0 where
  pub before : List (List ℕ)
  pub after : List (List ℕ)
  pub cut : pieces bytes ≡ before ++ after
  pub begins : BeginsUnit before
  pub ends : EndsUnit bytes before after
  pub place : at ≡ length (texts before)

-- ---- nesting

-- no 301st bracket is open before the place
abbrev pub ShallowBefore : List ℕ → ℕ → Type 0
ShallowBefore bytes at = (n : ℕ) → n ≤ at → open_brackets 0 (take n bytes) ≤ 300

-- the bracket with which 301 are open
pub record DeepAt (bytes : List ℕ) (at : ℕ) : Type 0 where
  pub shallow_before : ShallowBefore bytes at
  pub opens : open_brackets 0 (take (at + 1) bytes) ≡ 301

-- ---- names and types

pub record BreaksRule (target : Target) (bytes : List ℕ) (f : CFault) : Type 0 where
  pub unit : TranslationUnit
  pub spelled : Spells unit bytes
  pub shallow : IsShallow bytes
  pub first : IsFirst (unit_demands target unit) f

-- ---- the fault

-- what is at a place whichever of the four it is: of syntax and depth the earlier one, and syntax at one bracket
abbrev pub FaultAt : Target → List ℕ → ℕ → CWhy → Type 0
FaultAt target bytes at Syntax = SyntaxAt bytes at × ShallowBefore bytes at
FaultAt target bytes at TooDeep = DeepAt bytes at × ((place : ℕ) → SyntaxAt bytes place → at < place)
FaultAt target bytes at BadName = BreaksRule target bytes (record { at = at; why = BadName })
FaultAt target bytes at BadType = BreaksRule target bytes (record { at = at; why = BadType })

abbrev pub HasFault : Target → List ℕ → CFault → Type 0
HasFault target bytes f = FaultAt target bytes f.at f.why
