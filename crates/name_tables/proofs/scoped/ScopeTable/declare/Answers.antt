use Rattle.std.proofs.Common.{◌∙◌, ap, cond, Some}
use Rattle.indexmap.specs.IndexMap.{get_by}
use Rattle.iv_words.specs.Words.{same_word}
use Rattle.name_tables.proofs.Shadowings.{scoped_more}
use Rattle.name_tables.proofs.scoped.ScopeTable.declare.Goals as goal

pub invariant_of-self-in-Ok : goal.invariant_of-self-in-Ok
invariant_of-self-in-Ok g c =
    scoped_more c.self.inside.hashed c.insert.new.self c.self.inside.entries c.push.new.self (record { name = c.args.name; value = c.args.value; before = c.copied-before.result }) c.in_ok-push.ensures.ok c.self.invariant
    (c.copied-before.ensures ∙ c.get.ensures.value ∙ ap (λ w. get_by (λ k. same_word w k.now) c.self.inside.hashed) c.as_slice.ensures)
    (λ q. c.in-Ok.ensures.updates.0 q ∙ ap (λ w. cond (same_word w q.now) (Some c.args.value) (get_by (λ k. same_word q.now k.now) c.self.inside.hashed)) c.as_slice-2.ensures)
