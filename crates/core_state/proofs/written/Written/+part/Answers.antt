use Rattle.std.proofs.Common.{◌≡◌, ◌∙◌, ◌∷◌, None, Some, map, sym, ap, subst}
use Rattle.std.specs.Option.{MatchOption, option_map}
use Rattle.std.proofs.lemmas.Option.{slice_get-map}
use Rattle.type_trees.specs.Trees.{part}
use Rattle.core_state.specs.Types.{written_of}
use Rattle.core_state.proofs.Rows.{no_field, some_field}
use Rattle.core_state.proofs.Views.{struct_is}
use Rattle.core_state.proofs.written.Written.+part.Goals as goal

pub returns-in-Some-get : goal.returns-in-Some-get
returns-in-Some-get t c =
    let there = slice_get-map written_of c.in-Struct.fields c.in-Some.step.now ∙ ap (option_map written_of) (sym c.in-Some-get.ensures.value) in
    let whole : part (written_of c.args.self.now) c.args.path.now ≡ part (written_of c.in-Some-get.field.now) c.in-Some.rest.now =
    ap (part (written_of c.args.self.now)) c.in-Some.ensures.cases.0 ∙ ap (λ a. part a (c.in-Some.step.now ∷ c.in-Some.rest.now)) (ap written_of c.in-Struct.is ∙ struct_is c.in-Struct.field-0 c.in-Struct.fields)
    ∙ some_field 0 (map written_of c.in-Struct.fields) c.in-Some.step.now c.in-Some.rest.now (written_of c.in-Some-get.field.now) there in
    subst (λ x. MatchOption c.part-in-Some-get.result (x ≡ None) (λ found. x ≡ Some (written_of found.now))) (sym whole) c.part-in-Some-get.ensures

pub returns-in-None : goal.returns-in-None
returns-in-None t c =
    let there = slice_get-map written_of c.in-Struct.fields c.in-Some.step.now ∙ ap (option_map written_of) (sym c.in-None.ensures.value) in
    ap (part (written_of c.args.self.now)) c.in-Some.ensures.cases.0 ∙ ap (λ a. part a (c.in-Some.step.now ∷ c.in-Some.rest.now)) (ap written_of c.in-Struct.is ∙ struct_is c.in-Struct.field-0 c.in-Struct.fields)
    ∙ no_field 0 (map written_of c.in-Struct.fields) c.in-Some.step.now c.in-Some.rest.now there
