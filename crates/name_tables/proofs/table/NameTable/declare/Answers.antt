use Rattle.std.proofs.Common.{◌∙◌, ◌∷◌, ap, cond, Some}
use Rattle.indexmap.specs.IndexMap.{get_by}
use Rattle.iv_words.specs.Words.{same_word}
use Rattle.name_tables.proofs.Declarations.{declared_more, agree_more}
use Rattle.name_tables.proofs.table.NameTable.declare.Goals as goal

pub invariant_of-self-in-Ok : goal.invariant_of-self-in-Ok
invariant_of-self-in-Ok g c =
    agree_more c.self.inside.hashed c.insert.new.self c.self.inside.entries c.push.new.self (record { name = c.args.name; value = c.args.value }) c.in_ok-push.ensures.ok c.self.invariant
    (λ q. c.in-Ok.ensures.updates.0 q ∙ ap (λ w. cond (same_word w q.now) (Some c.args.value) (get_by (λ k. same_word q.now k.now) c.self.inside.hashed)) c.as_slice.ensures)

pub returns-in-Ok : goal.returns-in-Ok
returns-in-Ok g c =
    declared_more c.self.inside.entries c.push.new.self (record { name = c.args.name; value = c.args.value }) c.in_ok-push.ensures.ok ∙ ap (λ ds. (c.args.name.now, c.args.value) ∷ ds) c.self.view_is
