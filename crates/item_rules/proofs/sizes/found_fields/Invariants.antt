-- The fields so far, and then the rest.
use Rattle.std.proofs.Common.{◌≡◌, ◌++◌, drop, map}
use Rattle.std.specs.Prelude.{◌&&◌, filter_map, is_some}
use Rattle.std.specs.List.{list_all}
use Rattle.area_types.specs.View.{field_of as field_seen}
use Rattle.ivory_tree.specs.View.{field_of}
use Rattle.rule_checker.specs.Contexts.{earlier_of}
use Rattle.source_types.specs.Written.{field_in}
use Rattle.item_rules.proofs.sizes.found_fields.Given as goal

abbrev pub invariant-loop-field : goal.invariant-loop-field
invariant-loop-field l = record {
  fields : map field_seen l.found.fields ++ filter_map (field_in (earlier_of l.items)) (map field_of (drop l.field-index l.fields)) ≡ filter_map (field_in (earlier_of l.items)) (map field_of l.fields);
  all : (l.found.all && list_all (λ x. is_some (field_in (earlier_of l.items) x)) (map field_of (drop l.field-index l.fields))) ≡ list_all (λ x. is_some (field_in (earlier_of l.items) x)) (map field_of l.fields);
}
