-- When bytes read back as a unit: they are its text, its names and types are right, and brackets nest to at most 300.
use Rattle.std.specs.Prelude.{◌≡◌, ℕ, ◌+◌, ◌-◌, ◌==◌, ◌||◌, ◌≤◌, Bool, List, [], ◌∷◌, take, if◌then◌else◌}
use Rattle.c_ast.specs.declared.types.Target.{Target}
use Rattle.c_ast.specs.Syntax.{TranslationUnit}
use Rattle.c_text.specs.Spelling.{unit_text}
use Rattle.c_text.specs.Subset.{InSubset}
use Rattle.c_text.specs.Right.{Right}

-- ( [ {
abbrev pub is_opening : ℕ → Bool
is_opening b = b == 40 || b == 91 || b == 123

-- ) ] }
abbrev pub is_closing : ℕ → Bool
is_closing b = b == 41 || b == 93 || b == 125

-- the number of brackets that are open after a byte
abbrev pub open_after : ℕ → ℕ → ℕ
open_after count b = if is_opening b then count + 1 else (if is_closing b then count - 1 else count)

-- and after a text
abbrev pub open_brackets : ℕ → List ℕ → ℕ
open_brackets count [] = count
open_brackets count (b ∷ bs) = open_brackets (open_after count b) bs

abbrev pub IsShallow : List ℕ → Type 0
IsShallow text = (n : ℕ) → open_brackets 0 (take n text) ≤ 300

-- the bytes spell the unit (each unit has one text), whatever it means
pub record Spells (u : TranslationUnit) (bytes : List ℕ) : Type 0 where
  pub in_subset : InSubset u
  pub is : bytes ≡ unit_text u

pub record ReadsBack (u : TranslationUnit) (bytes : List ℕ) (target : Target) : Type 0 where
  pub spelled : Spells u bytes
  pub right : Right target u
  pub shallow : IsShallow bytes
