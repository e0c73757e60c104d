-- The unit that the compiler makes: each import becomes an extern, and each procedure a function with a call for each of its calls.
use Rattle.std.specs.Prelude.{ℕ, List, [], map, Option, Some, None, slice_get, false}
use Rattle.first_form.specs.declared.FirstModule.{FirstModule}
use Rattle.first_form.specs.declared.FirstImport.{FirstImport}
use Rattle.first_form.specs.declared.FirstProc.{FirstProc}
use Rattle.first_form.specs.declared.FirstCall.{FirstCall}
use Rattle.c_ast.specs.declared.CType.TheVariants.{Void}
use Rattle.c_ast.specs.declared.Suffix.TheVariants.{Plain}
use Rattle.c_ast.specs.Names.{prefixed}
use Rattle.c_ast.specs.Syntax.{Name, Expr, Number, Stmt, Call, Stmts, Function, TranslationUnit}
use Rattle.c_ast.specs.View.{stmts_from}
use Rattle.c_lower.specs.Shape.{extern_for}

-- a value of uint8_t is an int constant
abbrev pub constant_for : ℕ → Expr
constant_for v = Number v Plain

abbrev pub name_of : Option FirstImport → Name
name_of None = []
name_of (Some i) = i.name

abbrev pub call_for : List FirstImport → FirstCall → Stmt
call_for imports c = Call (record { name = prefixed (name_of (slice_get imports c.import)); args = map constant_for c.values })

abbrev pub body_for : List FirstImport → List FirstCall → Stmts
body_for imports cs = stmts_from (map (call_for imports) cs)

abbrev pub function_for : List FirstImport → FirstProc → Function
function_for imports p = record { hidden = false; name = prefixed p.name; params = []; result = Void; body = body_for imports p.calls }

abbrev pub lowered : FirstModule → TranslationUnit
lowered m = record { structs = []; externs = map extern_for m.imports; objects = []; functions = map (function_for m.imports) m.procs }
