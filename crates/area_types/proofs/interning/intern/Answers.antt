use Rattle.std.proofs.Common.{rules, ◌≡◌, ◌≤◌, ◌∙◌, map, length, IsTrue, ap, sym, subst}
use Rattle.std.specs.Prelude.{nat_le, ◌&&◌}
use Rattle.std.proofs.lemmas.List.{length-map}
use Rattle.area_types.specs.Interned.{has_lengths, has_structs, area_named}
use Rattle.area_types.specs.Tables.{structs_of, written_out, is_table, is_made_of, is_small}
use Rattle.area_types.specs.Trees.{tree_of, trees_of}
use Rattle.area_types.specs.View.{area_of, shape_of, struct_of}
use Rattle.area_types.proofs.Extents.{small_is}
use Rattle.area_types.proofs.Named.{made_named}
use Rattle.area_types.proofs.Sound.{numbered_table}
use Rattle.area_types.proofs.Truths.{also}
use Rattle.area_types.proofs.interning.intern.Goals as goal

pub returns-then-is_small-clause-area : goal.returns-then-is_small-clause-area
returns-then-is_small-clause-area c = λ stored.
    let table = c.args.table.now in
    let area = area_of c.in_ok-area.area in
    let shape = shape_of c.args.text.now in
    let structs : c.as_slice-structs.result.now ≡ table.structs = c.as_slice-structs.ensures ∙ ap (λ t. t.structs) c.table.view_is in
    let words : c.as_slice.result.now ≡ table.words = c.as_slice.ensures ∙ ap (λ t. t.words) c.table.view_is in
    let named : area ≡ area_named (structs_of table) shape = c.in_ok-area.ensures ∙ ap (λ ss. area_named (map struct_of ss) shape) structs in
    let lengths : IsTrue (has_lengths (shape_of c.args.text.now)) = search rules in
    let known : IsTrue (has_structs (map struct_of c.as_slice-structs.result.now) (shape_of c.args.text.now)) = search rules in
    let made : IsTrue (is_made_of (length (structs_of table)) (length table.words) (area_named (structs_of table) shape)) =
    made_named (structs_of table) (length table.words) shape stored lengths (subst (λ ss. IsTrue (has_structs (map struct_of ss) shape)) structs known) in
    let small : c.is_small.result ≡ is_small table.words (written_out table area) =
    c.is_small.ensures ∙ ap (λ e. nat_le e.size 65_535 && nat_le e.levels 32) c.extent.ensures.value
    ∙ small_is c.as_slice.result.now (tree_of (trees_of (map struct_of c.as_slice-structs.result.now)) area)
    ∙ ap (λ ss. is_small c.as_slice.result.now (tree_of (trees_of (map struct_of ss)) area)) structs
    ∙ ap (λ ws. is_small ws (written_out table area)) words in
    also (is_made_of (length table.structs) (length table.words) area) (is_small table.words (written_out table area))
    (subst (λ n. IsTrue (is_made_of n (length table.words) area)) (length-map table.structs struct_of) (subst (λ a. IsTrue (is_made_of (length (structs_of table)) (length table.words) a)) (sym named) made))
    (subst IsTrue small c.if-is_small.true)

pub area_named-requires-clause-numbers : goal.area_named-requires-clause-numbers
area_named-requires-clause-numbers c =
    let table = c.args.table.now in
    let is_one = subst (λ t. IsTrue (is_table (structs_of t) t.words)) c.table.view_is c.table.invariant in
    subst (λ ss. length ss ≤ 4_294_967_296) (sym (c.as_slice-structs.ensures ∙ ap (λ t. t.structs) c.table.view_is))
    (subst (λ n. n ≤ 4_294_967_296) (length-map table.structs struct_of) (numbered_table (structs_of table) table.words is_one))
