use Rattle.std.proofs.Common.{◌∙◌, ◌∷◌, ◌++◌, [], take, map, sym, ap}
use Rattle.std.proofs.lemmas.List.{map_more}
use Rattle.area_types.specs.Trees.{tree_of, trees_of}
use Rattle.area_types.specs.View.{field_of, struct_of}
use Rattle.core_state.specs.Types.{written_of}
use Rattle.core_state.proofs.Structs.{struct_added}
use Rattle.core_state.proofs.written.trees_of.Goals as goal

pub loop-found-preserved : goal.loop-found-preserved
loop-found-preserved c =
    let i = c.loop-found.found-index in
    let structs = c.args.structs.now in
    let x = c.found-item.result in
    let types = c.loop-found.types in
    let before = map struct_of (take i structs) in
    let more = map_more struct_of structs i x c.loop-found-test.true ∙ ap (λ s. before ++ struct_of s ∷ []) (sym c.found-item.is) in
    let fields = c.in_ok-fields.ensures ∙ ap (λ ts. map (λ f. tree_of (map written_of ts) f.area) (map field_of c.as_slice-in-loop-found.result.now)) c.as_slice.ensures
    ∙ ap (λ fs. map (λ f. tree_of (map written_of types) f.area) (map field_of fs)) c.as_slice-in-loop-found.ensures in
    ap (map written_of) c.in_ok-push.ensures.ok ∙ struct_added types c.in_ok-fields.fields c.len.result before (struct_of x) c.loop-found.invariant c.len.ensures fields ∙ ap trees_of (sym more)
