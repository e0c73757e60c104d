-- Small units, and exactly what they export: examples that hold the definitions fast.
use Rattle.std.specs.Prelude.{◌≡◌, List, [], ◌∷◌, Some, None, Bool, true, false, codes}
use Rattle.iv_words.specs.declared.IntKind.TheVariants.{U8}
use Rattle.run_records.specs.declared.Plain.TheVariants as plain
use Rattle.c_ast.specs.declared.types.CScalar.TheVariants.{Truth, Int}
use Rattle.c_ast.specs.declared.types.CType.{CType}
use Rattle.c_ast.specs.declared.types.CType.TheVariants.{Void, Value, Pointer}
use Rattle.c_ast.specs.declared.types.CBase.TheVariants.{Scalar}
use Rattle.c_ast.specs.declared.unit.CExtern.{CExtern}
use Rattle.c_ast.specs.Syntax.{Name, Stmt, Stmts, Nil, Cons, Function, TranslationUnit}
use Rattle.c_ast.specs.Exports.{c_exports}

-- ---- writing units

abbrev pub rows : List Stmt → Stmts
rows [] = Nil
rows (s ∷ ss) = Cons s (rows ss)

-- `void NAME(void) { .. }`, or with `static` before it
abbrev pub procedure : Bool → Name → List Stmt → Function
procedure hidden name body = record { hidden = hidden; name = name; params = []; result = Void; body = rows body }

abbrev pub unit_with : List CExtern → List Function → TranslationUnit
unit_with externs functions = record { structs = []; externs = externs; objects = []; functions = functions }

-- ---- exports

-- functions without `static` whose types are plain, without `iv_`
abbrev pub function_of_types : Bool → Name → CType → CType → Function
function_of_types hidden name param result = record { hidden = hidden; name = name; params = record { name = codes "iv_x"; ty = param } ∷ []; result = result; body = Nil }

abbrev pub Exported : Type 0
Exported =
    c_exports (unit_with [] (
    function_of_types false (codes "iv_f") (Value Truth) (Value (Int U8)) ∷
    function_of_types true (codes "iv_g") (Value Truth) Void ∷
    function_of_types false (codes "iv_h") (Pointer false (Scalar Truth)) Void ∷
    procedure false (codes "iv_main") [] ∷ []))
    ≡ record { name = codes "f"; params = plain.Truth ∷ []; result = Some (plain.Int U8) } ∷ record { name = codes "main"; params = []; result = None } ∷ []
