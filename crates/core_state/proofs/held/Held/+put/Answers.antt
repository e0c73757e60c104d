use Rattle.std.proofs.Common.{◌≡◌, ◌∙◌, ◌∷◌, map, sym, ap, subst, arith, get_or, length}
use Rattle.type_trees.specs.Values.{put, Parts}
use Rattle.core_state.specs.Types.{held_of, row_of}
use Rattle.core_state.proofs.Rows.{put_among, put_nowhere}
use Rattle.core_state.proofs.Views.{parts_is}
use Rattle.std.proofs.lemmas.List.{length-map}
use Rattle.core_state.proofs.held.Held.+put.Goals as goal

pub returns-then-at-len : goal.returns-then-at-len
returns-then-at-len t c =
    let i = c.in-Some.step.now in
    let rest = c.in-Some.rest.now in
    let w = held_of c.args.value in
    parts_is c.from_vec.result ∙ ap (λ hs. Parts (row_of (map held_of hs))) (c.from_vec.ensures ∙ c.into_vec-items.ensures)
    ∙ ap Parts (sym (put_nowhere (map held_of c.in-Parts.parts) i rest w (omega (arith, length-map c.in-Parts.parts held_of, ap length c.into_vec-items.ensures, c.len.ensures, c.if-at-len.true))))
    ∙ ap (λ h. put h (i ∷ rest) w) (sym (ap held_of c.in-Parts.is ∙ parts_is c.in-Parts.parts))
    ∙ ap (λ path. put (held_of c.args.self) path w) (sym c.in-Some.ensures.cases.0)

pub returns-else-at-len : goal.returns-else-at-len
returns-else-at-len t c =
    let i = c.in-Some.step.now in
    let rest = c.in-Some.rest.now in
    let w = held_of c.args.value in
    let items = c.into_vec-items.result.items in
    let part = c.replace-part.result in
    let there : part ≡ get_or items i part = subst (λ x. x ≡ get_or items i x) (sym c.replace-part.ensures.value) c.index_mut.ensures.value in
    parts_is c.from_vec-in-Parts.result ∙ ap (λ hs. Parts (row_of (map held_of hs))) c.from_vec-in-Parts.ensures
    ∙ ap Parts (sym (put_among items i rest w part _ c.put.result (omega (arith, c.len.ensures, c.if-at-len.false)) there c.put.ensures))
    ∙ ap (λ hs. put (Parts (row_of (map held_of hs))) (i ∷ rest) w) c.into_vec-items.ensures
    ∙ ap (λ h. put h (i ∷ rest) w) (sym (ap held_of c.in-Parts.is ∙ parts_is c.in-Parts.parts))
    ∙ ap (λ path. put (held_of c.args.self) path w) (sym c.in-Some.ensures.cases.0)
