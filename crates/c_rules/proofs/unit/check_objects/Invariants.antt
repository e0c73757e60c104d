use Rattle.std.proofs.Common.{◌≡◌, drop}
use Rattle.std.specs.Prelude.{map}
use Rattle.c_ast.specs.View.{object_of}
use Rattle.c_rules.specs.Kept.{ButObjects}
use Rattle.c_scopes.specs.Scope.{names_view}
use Rattle.c_rules.specs.UnitRows.{with_objects}
use Rattle.c_scopes.proofs.Rows.{Going}
use Rattle.c_rules.proofs.Units.{object_line, object_item, object_next}
use Rattle.c_rules.proofs.unit.check_objects.Given as goal

abbrev pub invariant-loop-object : goal.invariant-loop-object
invariant-loop-object l = record {
  going : Going object_line (object_item l.initial.names.target) object_next l.initial.walk l.walk (names_view l.initial.names) (names_view l.names) l.objects (drop l.object-index l.objects);
  view : with_objects (names_view l.names) (map object_of (drop l.object-index l.objects)) ≡ with_objects (names_view l.initial.names) (map object_of l.objects);
  others : ButObjects l.initial.names l.names;
}
