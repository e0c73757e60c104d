use Rattle.std.proofs.Common.{refl}
use Rattle.reading.specs.Reader.{many, front}
use Rattle.expression_grammar.specs.Tokens.{span_of}
use Rattle.expression_grammar.specs.Reader.{readers, primary_reader, postfix_reader, operand_reader, chain_reader, expression_reader}
use Rattle.expression_grammar.proofs.laws.parts_are_read_so.Goals as goal

pub returns : goal.returns
unfolding readers primary_reader postfix_reader operand_reader chain_reader expression_reader span_of many front
returns c = record { choice = refl; parentheses = refl; steps = refl; words = (refl, refl, refl); one = (refl, refl); two = (refl, refl, refl); three = refl }
