-- Names, and what a table has for them. Those of the outside have `iv_` before them in C, save the one function that ends a run.
use Rattle.std.specs.Prelude.{List, [], ◌∷◌, ◌++◌, drop, Bool, Option, Some, None, if◌then◌else◌, nat_eq, codes}
use Rattle.std.specs.List.{starts_with}
use Rattle.iv_words.specs.Words.{same_word}
use Rattle.c_ast.specs.Syntax.{Name}

abbrev pub prefix : Name
prefix = codes "iv_"

-- the C name for a name of the outside
abbrev pub prefixed : Name → Name
prefixed name = prefix ++ name

abbrev pub has_prefix : Name → Bool
has_prefix name = starts_with nat_eq name prefix

-- the name as the outside has it
abbrev pub outer_name : Name → Name
outer_name name = if has_prefix name then drop 3 name else name

-- the function that every unit declares, and that ends the run at a check
abbrev pub stop_name : Name
stop_name = codes "ivory_stop"

-- what a table has for a name: of two entries of a name the first counts
abbrev pub named : {A : Type 0} → List (Name × A) → Name → Option A
named [] x = None
named (n ∷ names) x = if same_word n.0 x then Some n.1 else named names x
