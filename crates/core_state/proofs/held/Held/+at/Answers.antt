use Rattle.std.proofs.Common.{◌≡◌, ◌∙◌, ◌∷◌, None, Some, map, sym, ap, subst}
use Rattle.std.specs.Option.{MatchOption, option_map}
use Rattle.std.proofs.lemmas.Option.{slice_get-map}
use Rattle.type_trees.specs.Values.{at}
use Rattle.core_state.specs.Types.{held_of}
use Rattle.core_state.proofs.Rows.{none_at, some_at}
use Rattle.core_state.proofs.Views.{parts_is}
use Rattle.core_state.proofs.held.Held.+at.Goals as goal

pub returns-in-Some-get : goal.returns-in-Some-get
returns-in-Some-get t c =
    let there = slice_get-map held_of c.in-Parts.parts c.in-Some.step.now ∙ ap (option_map held_of) (sym c.in-Some-get.ensures.value) in
    let whole : at (held_of c.args.self.now) c.args.path.now ≡ at (held_of c.in-Some-get.part.now) c.in-Some.rest.now =
    ap (at (held_of c.args.self.now)) c.in-Some.ensures.cases.0 ∙ ap (λ h. at h (c.in-Some.step.now ∷ c.in-Some.rest.now)) (ap held_of c.in-Parts.is ∙ parts_is c.in-Parts.parts)
    ∙ some_at (map held_of c.in-Parts.parts) c.in-Some.step.now c.in-Some.rest.now (held_of c.in-Some-get.part.now) there in
    subst (λ x. MatchOption c.at.result (x ≡ None) (λ found. x ≡ Some (held_of found.now))) (sym whole) c.at.ensures

pub returns-in-None : goal.returns-in-None
returns-in-None t c =
    let there = slice_get-map held_of c.in-Parts.parts c.in-Some.step.now ∙ ap (option_map held_of) (sym c.in-None.ensures.value) in
    ap (at (held_of c.args.self.now)) c.in-Some.ensures.cases.0 ∙ ap (λ h. at h (c.in-Some.step.now ∷ c.in-Some.rest.now)) (ap held_of c.in-Parts.is ∙ parts_is c.in-Parts.parts)
    ∙ none_at (map held_of c.in-Parts.parts) c.in-Some.step.now c.in-Some.rest.now there
