use Rattle.std.proofs.Common.{◌≡◌, ◌∙◌, ap}
use Rattle.std.specs.List.{position_from}
use Rattle.iv_words.specs.Words.{same_word}
use Rattle.name_lists.proofs.Positions.{position_is_below}
use Rattle.name_lists.proofs.list.NameList.position.Goals as goal

pub returns-clause-first : goal.returns-clause-first
returns-clause-first c =
    c.copied.ensures ∙ c.get.ensures.value ∙ c.self.invariant c.args.name.now ∙ ap (position_from (λ n. same_word n c.args.name.now) 0) c.self.view_is

pub returns-clause-within : goal.returns-clause-within
returns-clause-within c =
    let e : c.copied.result ≡ position_from (λ n. same_word n c.args.name.now) 0 c.args.self.now =
    c.copied.ensures ∙ c.get.ensures.value ∙ c.self.invariant c.args.name.now ∙ ap (position_from (λ n. same_word n c.args.name.now) 0) c.self.view_is in
    rw e (position_is_below (λ n. same_word n c.args.name.now) c.args.self.now)
