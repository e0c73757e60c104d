use Rattle.std.proofs.Common.{◌++◌, map, sym, ap, ◌∙◌, arith, append-nil}
use Rattle.std.specs.List.{zip}
use Rattle.core_tree.specs.View.{area_item_of}
use Rattle.core_meaning.specs.State.{seen_as}
use Rattle.core_state.specs.State.{slot_of}
use Rattle.core_run.proofs.Seen.{seen_end}
use Rattle.core_run.proofs.areas.areas_of.Goals as goal

pub returns : goal.returns
returns c =
    let areas = c.areas-areas.result.now in
    let slots = c.as_slice-slots.result.now in
    let seen = c.loop-k.seen in
    sym (append-nil seen) ∙ ap (λ xs. seen ++ xs) (sym (seen_end areas slots c.loop-k.k (omega arith))) ∙ c.loop-k.invariant
    ∙ ap (λ xs. map seen_as (zip (map area_item_of xs) (map slot_of slots))) c.areas-areas.ensures
    ∙ ap (λ ys. map seen_as (zip (map area_item_of c.args.program.now.areas) (map slot_of ys))) c.as_slice-slots.ensures.value
