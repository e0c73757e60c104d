use Rattle.std.proofs.Common.{refl}
use Rattle.reading.specs.Reader.{many, front}
use Rattle.expression_grammar.specs.Tokens.{span_of}
use Rattle.expression_grammar.specs.Reader.{readers, primary_reader, postfix_reader, operand_reader, chain_reader, expression_reader}
use Rattle.expression_grammar.proofs.laws.nesting_is_counted_so.Goals as goal

pub returns : goal.returns
unfolding readers primary_reader postfix_reader operand_reader chain_reader expression_reader span_of many front
returns c = record { prefix = refl; choice = refl; last_arm = refl; parentheses = refl; deep = refl; early = refl; no_operator = refl }
