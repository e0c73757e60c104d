-- What the C of a procedure stands among: the names that the lowering of its module gives to types, and the settings of its body and of what it ensures.
use Rattle.std.specs.Prelude.{ℕ, Bool, false, List, length, take, slice_get, Option, None}
use Rattle.area_types.specs.Trees.{area_in}
use Rattle.core_tree.specs.Syntax.{ProcCore, ModuleCore}
use Rattle.core_tree.specs.TypedItems.{env_of, contract_env}
use Rattle.core_meaning.specs.Values.{Value}
use Rattle.c_ast.specs.declared.Target.{Target}
use Rattle.c_ast.specs.Syntax.{Expr}
use Rattle.c_meaning.specs.Calls.{Calls}
use Rattle.c_meaning.specs.State.{program_of}
use Rattle.area_objects.specs.Shapes.{Naming}
use Rattle.lower_types.specs.Arrays.{place_of}
use Rattle.lower_types.specs.Names.{array_name, elements_name}
use Rattle.lower_types.specs.Types.{TypeTable, table_for, scalar_for, struct_name}
use Rattle.lower_values.specs.Expressions.{field_name, fields_of}
use Rattle.lower_statements.specs.Procedures.{frame_for}
use Rattle.lower_statements.specs.Units.{lowered_without}
use Rattle.value_refinement.specs.Settings.{Setting}

-- an array type has the number of its area, and a struct or a field its own name
abbrev pub naming_over : TypeTable → Naming
naming_over t = record {
  scalar = scalar_for t;
  array_tag = λ w. array_name (place_of t.arrays (area_in w));
  elements = elements_name;
  struct_tag = λ k. struct_name (slice_get t.structs k);
  member = λ k field. field_name (slice_get (fields_of (slice_get t.structs k)) field);
}

abbrev pub naming_for : ModuleCore → Naming
naming_for m = naming_over (table_for m)

-- of the body of the procedure of number k, with these locals in scope
abbrev pub setting_for : (skip : ℕ → Bool) → ModuleCore → Target → Calls → (k : ℕ) → ProcCore → (scope : List ℕ) → Setting
setting_for skip m t functions k p scope = record {
  frame = frame_for skip m t (table_for m) p;
  program = program_of (lowered_without skip m t) t;
  functions = functions;
  naming = naming_for m;
  env = env_of m (take k m.procs) p;
  scope = scope;
  outcome = None;
  first = length p.locals;
}

-- of what a procedure ensures: the result has this value, and this expression stands for it
abbrev pub ensures_setting : Setting → (outcome : Expr) → Option Value → (first : ℕ) → Setting
ensures_setting g outcome value first = record g { frame = record g.frame { outcome = outcome }; env = contract_env g.env false; outcome = value; first = first }
