-- What the laws of this crate say.
use Rattle.std.specs.Prelude.{◌≡◌, ◌≤◌, ℕ, [], ◌++◌, map, take}
use Rattle.c_ast.specs.declared.types.Target.{Target}
use Rattle.c_ast.specs.Syntax.{TranslationUnit}
use Rattle.c_text.specs.TypeText.{texts}
use Rattle.c_text.specs.Spelling.{function_text, head_text, unit_text}
use Rattle.c_text.specs.Subset.{InSubset}
use Rattle.c_text.specs.Nested.{nested}
use Rattle.c_text.specs.Right.{Right}
use Rattle.c_text.specs.ReadsBack.{ReadsBack, open_brackets}

-- a text nests nowhere deeper than its unit
abbrev pub UnitsNestAsTheyAre : Type 0
UnitsNestAsTheyAre = (u : TranslationUnit) → InSubset u → (n : ℕ) → open_brackets 0 (take n (unit_text u)) ≤ nested u

-- a unit of right names and types that does not nest too deep reads back from its text
abbrev pub RightUnitsReadBack : Type 0
RightUnitsReadBack = (u : TranslationUnit) (target : Target) → InSubset u → Right target u → nested u ≤ 300 → ReadsBack u (unit_text u) target

abbrev pub without_functions : TranslationUnit → TranslationUnit
without_functions u = record { structs = u.structs; externs = u.externs; objects = u.objects; functions = [] }

-- the text of a unit is that of its head, and then those of its functions in order
abbrev pub HeadThenFunctions : Type 0
HeadThenFunctions = (u : TranslationUnit) → (unit_text (without_functions u) ≡ head_text u) × (unit_text u ≡ head_text u ++ texts (map function_text u.functions))
