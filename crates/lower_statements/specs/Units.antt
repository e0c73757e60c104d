-- The unit that the compiler makes of a module, for a target: one unit for each module, with its checks or without those of some sites.
use Rattle.std.specs.Prelude.{ℕ, Bool, false, map}
use Rattle.core_tree.specs.Syntax.{ModuleCore}
use Rattle.c_ast.specs.declared.Target.{Target}
use Rattle.c_ast.specs.Syntax.{TranslationUnit}
use Rattle.lower_types.specs.Types.{table_for}
use Rattle.lower_types.specs.Declarations.{structs_for, extern_for, object_for}
use Rattle.lower_statements.specs.Procedures.{function_for}

-- the checks of the sites that `skip` has are left out
abbrev pub lowered_without : (skip : ℕ → Bool) → ModuleCore → Target → TranslationUnit
lowered_without skip m t = record {
  structs = structs_for m;
  externs = map (extern_for (table_for m)) m.imports;
  objects = map (object_for m (table_for m)) m.areas;
  functions = map (function_for skip m t (table_for m)) m.procs;
}

abbrev pub none : ℕ → Bool
none site = false

abbrev pub lowered : ModuleCore → Target → TranslationUnit
lowered m t = lowered_without none m t
