use Rattle.std.proofs.Common.{◌∙◌}
use Rattle.ivory_lexer.specs.Words.{keywords}
use Rattle.ivory_lexer.proofs.Tables.{look_up_of_length}
use Rattle.ivory_lexer.proofs.keyword.key_of.Goals as goal

pub returns-in-2 : goal.returns-in-2
returns-in-2 c = c.key_of_two.ensures ∙ look_up_of_length keywords c.args.name.now 2 c.in-2.is

pub returns-in-3 : goal.returns-in-3
returns-in-3 c = c.key_of_three.ensures ∙ look_up_of_length keywords c.args.name.now 3 c.in-3.is

pub returns-in-4 : goal.returns-in-4
returns-in-4 c = c.key_of_four.ensures ∙ look_up_of_length keywords c.args.name.now 4 c.in-4.is

pub returns-in-5 : goal.returns-in-5
returns-in-5 c = c.key_of_five.ensures ∙ look_up_of_length keywords c.args.name.now 5 c.in-5.is

pub returns-in-6 : goal.returns-in-6
returns-in-6 c = c.key_of_six.ensures ∙ look_up_of_length keywords c.args.name.now 6 c.in-6.is

pub returns-in-7 : goal.returns-in-7
returns-in-7 c = c.key_of_seven.ensures ∙ look_up_of_length keywords c.args.name.now 7 c.in-7.is
