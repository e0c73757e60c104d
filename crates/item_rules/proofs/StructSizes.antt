-- Whether a struct is too large or too deep, where each of its fields has an area.
use Rattle.std.proofs.Common.{◌≡◌, Bool, true, not, List, length, ap, sym}
use Rattle.std.specs.Prelude.{Some, None, is_some, filter_map, if◌then◌else◌}
use Rattle.std.specs.List.{list_all}
use Rattle.type_trees.specs.Trees.{Struct}
use Rattle.ivory_tree.specs.Syntax.{FieldSyntax}
use Rattle.area_types.specs.Tables.{is_small}
use Rattle.area_types.specs.Trees.{Written, fields_of, trees_of}
use Rattle.source_types.specs.Environments.{Earlier, words}
use Rattle.source_types.specs.Written.{field_in}
use Rattle.rule_faults.specs.Tests.{where_there}
use Rattle.item_rules.specs.Rules.{is_great_struct}

pub struct_size : (e : Earlier) (fs : List FieldSyntax) → list_all (λ (f : FieldSyntax). is_some (field_in e f)) fs ≡ true
    → not (is_small (words e) (Struct (length e.structs) (fields_of (trees_of e.structs) (filter_map (field_in e) fs)))) ≡ is_great_struct e fs
struct_size e fs h =
    let tree : Written = Struct (length e.structs) (fields_of (trees_of e.structs) (filter_map (field_in e) fs)) in
    ap (λ (b : Bool). where_there (if b then Some tree else None) (λ (a : Written). not (is_small (words e) a))) (sym h)
