use Rattle.std.proofs.Common.{◌∙◌, ap, cond, Some, ◌++◌, ◌∷◌, []}
use Rattle.indexmap.specs.IndexMap.{get_by}
use Rattle.iv_words.specs.Words.{same_word}
use Rattle.name_tables.proofs.FirstPlaces.{names_more, placed_already, placed_more}
use Rattle.name_tables.proofs.row.NameRow.push.Goals as goal

pub invariant_of-self-in-Some : goal.invariant_of-self-in-Some
invariant_of-self-in-Some c =
    placed_already c.self.inside.places c.self.inside.names c.push.new.self c.args.name c.copied-before.result c.in-Some.field-0 c.in_ok-push.ensures.ok c.self.invariant
    (c.copied-before.ensures ∙ c.get.ensures.value ∙ ap (λ w. get_by (λ k. same_word w k.now) c.self.inside.places) c.as_slice.ensures) c.in-Some.is

pub invariant_of-self-in-Ok : goal.invariant_of-self-in-Ok
invariant_of-self-in-Ok c =
    placed_more c.self.inside.places c.insert.new.self c.self.inside.names c.push.new.self c.args.name c.copied-before.result c.len-count.result c.in_ok-push.ensures.ok c.self.invariant
    (c.copied-before.ensures ∙ c.get.ensures.value ∙ ap (λ w. get_by (λ k. same_word w k.now) c.self.inside.places) c.as_slice.ensures) c.in-None.is c.len-count.ensures
    (λ q. c.in-Ok.ensures.updates.0 q ∙ ap (λ w. cond (same_word w q.now) (Some c.len-count.result) (get_by (λ k. same_word q.now k.now) c.self.inside.places)) c.as_slice-in-None.ensures)

pub returns-in-Some : goal.returns-in-Some
returns-in-Some c = names_more c.self.inside.names c.push.new.self c.args.name c.in_ok-push.ensures.ok ∙ ap (λ ns. ns ++ c.args.name.now ∷ []) c.self.view_is

pub returns-in-Ok : goal.returns-in-Ok
returns-in-Ok c = names_more c.self.inside.names c.push.new.self c.args.name c.in_ok-push.ensures.ok ∙ ap (λ ns. ns ++ c.args.name.now ∷ []) c.self.view_is
