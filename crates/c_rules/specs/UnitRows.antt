-- What is asked of the declarations of a unit, kind by kind in a row.
use Rattle.std.specs.Prelude.{ℕ, List, [], ◌∷◌, ◌++◌}
use Rattle.c_ast.specs.declared.types.Target.{Target}
use Rattle.c_ast.specs.declared.unit.CExtern.{CExtern}
use Rattle.c_ast.specs.declared.unit.CStruct.{CStruct}
use Rattle.c_ast.specs.Signatures.{Signature, extern_signature, function_signature}
use Rattle.c_ast.specs.StaticTypes.{ObjectName}
use Rattle.c_ast.specs.Syntax.{Name, FileObject, Function}
use Rattle.c_text.specs.Rules.{Demand, behind}
use Rattle.c_text.specs.Scopes.{Names, with_value}
use Rattle.c_text.specs.Spelling.{extern_text, file_object_text, function_text, struct_text}
use Rattle.c_text.specs.UnitRules.{file_scope, extern_demands, function_demands, object_demands, struct_demands}

abbrev pub structs_asks : Target → List CStruct → ℕ → List CStruct → List Demand
structs_asks target earlier at [] = []
structs_asks target earlier at (s ∷ ss) = struct_demands target earlier at s ++ structs_asks target (earlier ++ s ∷ []) (behind at (struct_text s)) ss

abbrev pub externs_asks : List CStruct → List (Name × Signature) → ℕ → List CExtern → List Demand
externs_asks structs functions at [] = []
externs_asks structs functions at (x ∷ xs) = extern_demands (file_scope structs functions []) at x ++ externs_asks structs ((x.name, extern_signature x) ∷ functions) (behind at (extern_text x)) xs

abbrev pub with_object : Names → FileObject → Names
with_object names o = with_value names o.name (ObjectName o.constant o.base)

abbrev pub with_objects : Names → List FileObject → Names
with_objects names [] = names
with_objects names (o ∷ os) = with_objects (with_object names o) os

abbrev pub objects_asks : Target → Names → ℕ → List FileObject → List Demand
objects_asks target names at [] = []
objects_asks target names at (o ∷ os) = object_demands target names at o ++ objects_asks target (with_object names o) (behind at (file_object_text o)) os

abbrev pub with_signatures : Names → List (Name × Signature) → Names
with_signatures names functions = record { structs = names.structs; functions = functions; itself = names.itself; values = names.values; in_function = names.in_function }

abbrev pub with_extern : Names → CExtern → Names
with_extern names x = with_signatures names ((x.name, extern_signature x) ∷ names.functions)

abbrev pub behind_externs : Names → List CExtern → Names
behind_externs names [] = names
behind_externs names (x ∷ xs) = behind_externs (with_extern names x) xs

abbrev pub extern_rows : Names → ℕ → List CExtern → List Demand
extern_rows names at [] = []
extern_rows names at (x ∷ xs) = extern_demands names at x ++ extern_rows (with_extern names x) (behind at (extern_text x)) xs

abbrev pub with_function : Names → Function → Names
with_function names f = with_signatures names ((f.name, function_signature f) ∷ names.functions)

abbrev pub functions_asks : Target → Names → ℕ → List Function → List Demand
functions_asks target names at [] = []
functions_asks target names at (f ∷ fs) = function_demands target names at f ++ functions_asks target (with_function names f) (behind at (function_text f)) fs
