use Rattle.ivory_lexer.proofs.Cutting.{only_tokens, only_fault}
use Rattle.ivory_lexer.proofs.Order.{answer_in_order, answer_few}
use Rattle.ivory_lexer.proofs.cut.lex.Goals as goal

pub returns-clause-each_token : goal.returns-clause-each_token
returns-clause-each_token c = only_tokens c.args.text.now _ c.cut.ensures.tokens c.cut.ensures.fault

pub returns-clause-each_fault : goal.returns-clause-each_fault
returns-clause-each_fault c = only_fault c.args.text.now _ c.cut.ensures.tokens c.cut.ensures.fault

pub returns-clause-in_order : goal.returns-clause-in_order
returns-clause-in_order c = answer_in_order c.args.text.now _ c.cut.ensures.tokens

pub returns-clause-few : goal.returns-clause-few
returns-clause-few c = answer_few c.args.text.now _ c.cut.ensures.tokens
