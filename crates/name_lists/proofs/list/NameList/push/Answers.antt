use Rattle.std.proofs.Common.{◌≡◌, ℕ, List, cond, Some, None, subst}
use Rattle.std.specs.Option.{option_or}
use Rattle.indexmap.specs.IndexMap.{get_by}
use Rattle.iv_words.specs.Words.{same_word}
use Rattle.name_lists.proofs.Numbered.{numbers_more}
use Rattle.name_lists.proofs.list.NameList.push.Goals as goal

pub invariant_of-self-in-Ok : goal.invariant_of-self-in-Ok
invariant_of-self-in-Ok c =
    numbers_more c.self.inside.numbers c.number_new.new.numbers c.self.inside.names c.push.new.self c.args.name c.len-count.result c.in_ok-push.ensures.ok c.len-count.ensures
    (subst (λ w. (q : List ℕ) → get_by (λ k. same_word q k) c.number_new.new.numbers ≡ option_or (get_by (λ k. same_word q k) c.self.inside.numbers) (cond (same_word w q) (Some c.len-count.result) None)) c.in_ok-key.ensures c.in-Ok.ensures.ok)
    c.self.invariant
