-- What the parts of units that the parser hands on say in the grammar's words.
use Rattle.std.specs.Prelude.{ℕ, Bool, List, map, Option, ◌++◌}
use Rattle.c_ast.specs.Syntax.{Name, Init, TranslationUnit}
use Rattle.c_ast.specs.View.{init_of, stmts_of, object_of, function_of}
use Rattle.c_ast.specs.declared.expr.CInit.{CInit}
use Rattle.c_ast.specs.declared.stmt.CStmt.{CStmt}
use Rattle.c_ast.specs.declared.unit.CMember.{CMember}
use Rattle.c_ast.specs.declared.unit.CParam.{CParam}
use Rattle.c_grammar.specs.Symbols as symbols
use Rattle.c_grammar.specs.UnitRules as units
use Rattle.c_lexemes.specs.Gives.{itself}
use Rattle.c_expression_parser.specs.declared.parts.Side.{Side}
use Rattle.c_parser.specs.declared.parts.Item.{Item}
use Rattle.c_parser.specs.declared.parts.Item.TheVariants as item
use Rattle.c_parser.specs.declared.parts.Stage.{Stage}
use Rattle.c_parser.specs.declared.parts.Stage.TheVariants as stage
use Rattle.c_expression_parser.specs.Views.{side_of}

abbrev pub defined_of : List CParam × List CStmt → units.Defined
defined_of d = (d.0, stmts_of d.1)

abbrev pub typed_of : (Option Bool × Name) × (List CParam × List CStmt) → (Option Bool × Name) × units.Defined
typed_of f = (f.0, defined_of f.1)

abbrev pub pointed_of : (Bool × Name) × (List CParam × List CStmt) → (Bool × Name) × units.Defined
pointed_of f = (f.0, defined_of f.1)

abbrev pub valued_of : (Bool × Name) × CInit → (Bool × Name) × Init
valued_of o = (o.0, init_of o.1)

abbrev pub scalar_behind_of : Side ((Option Bool × Name) × (List CParam × List CStmt)) ((Bool × Name) × CInit) → units.Behind (Option Bool)
scalar_behind_of = side_of typed_of valued_of

abbrev pub struct_behind_of : Side ((Bool × Name) × (List CParam × List CStmt)) ((Bool × Name) × CInit) → units.Behind Bool
struct_behind_of = side_of pointed_of valued_of

abbrev pub defined_or_value_of : Side (List CParam × List CStmt) CInit → symbols.Side units.Defined Init
defined_or_value_of = side_of defined_of init_of

abbrev pub members_or_function_of : Side (List CMember) ((Bool × Name) × (List CParam × List CStmt)) → symbols.Side (List CMember) ((Bool × Name) × units.Defined)
members_or_function_of = side_of itself pointed_of

abbrev pub item_of : Item → units.Item
item_of (item.Struct s) = units.a_struct s
item_of (item.Extern x) = units.an_extern x
item_of (item.Object o) = units.an_object (object_of o)
item_of (item.Function f) = units.a_function (function_of f)

-- a unit with items behind its own
abbrev pub added : TranslationUnit → List units.Item → TranslationUnit
added u is = record { structs = u.structs ++ units.structs_in is; externs = u.externs ++ units.externs_in is; objects = u.objects ++ units.objects_in is; functions = u.functions ++ units.functions_in is }

abbrev pub stage_number : Stage → ℕ
stage_number stage.Structs = 0
stage_number stage.Externs = 1
stage_number stage.Objects = 2
stage_number stage.Functions = 3

abbrev pub items_of : List Item → List units.Item
items_of = map item_of
