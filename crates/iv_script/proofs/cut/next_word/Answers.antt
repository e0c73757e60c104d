use Rattle.std.proofs.Common.{◌∙◌, ap, take, drop}
use Rattle.iv_script.proofs.Cuts.{no_word, next}
use Rattle.iv_script.proofs.cut.next_word.Goals as goal

pub returns-in-None-clause-words : goal.returns-in-None-clause-words
returns-in-None-clause-words c = no_word c.args.line.now cc

pub returns-in-Some-clause-words : goal.returns-in-Some-clause-words
returns-in-Some-clause-words c = (next c.args.line.now _ _ _ c.in-Some.start (cc) c.split_at.ensures.back (c.split_at-in-Some.ensures.front ∙ ap (λ n. take n c.split_at.result.1.now) c.word_length.ensures.length) (c.split_at-in-Some.ensures.back ∙ ap (λ n. drop n c.split_at.result.1.now) c.word_length.ensures.length)).cut

pub returns-in-Some-clause-shorter : goal.returns-in-Some-clause-shorter
returns-in-Some-clause-shorter c = (next c.args.line.now _ _ _ c.in-Some.start (cc) c.split_at.ensures.back (c.split_at-in-Some.ensures.front ∙ ap (λ n. take n c.split_at.result.1.now) c.word_length.ensures.length) (c.split_at-in-Some.ensures.back ∙ ap (λ n. drop n c.split_at.result.1.now) c.word_length.ensures.length)).shorter
