-- The types of parameters.
use Rattle.std.specs.Prelude.{List}
use Rattle.c_ast.specs.declared.CType.{CType}
use Rattle.c_meaning.specs.Runs.{param_types}
use Rattle.c_statements.specs.declared.arguments.Params.{Params}
use Rattle.c_statements.specs.declared.arguments.Params.TheVariants.{Extern, Function}

abbrev pub types_of : Params → List CType
types_of (Extern types) = types.now
types_of (Function params) = param_types params.now
