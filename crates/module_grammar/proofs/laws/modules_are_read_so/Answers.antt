use Rattle.std.proofs.Common.{refl}
use Rattle.reading.specs.Reader.{many, front, below}
use Rattle.expression_grammar.specs.Tokens.{span_of}
use Rattle.expression_grammar.specs.Reader as expressions
use Rattle.expression_grammar.specs.Reader.{primary_reader, postfix_reader, operand_reader, chain_reader, expression_reader}
use Rattle.module_grammar.specs.TypeReader.{value_reader, area, type_}
use Rattle.module_grammar.specs.InitReader.{init}
use Rattle.module_grammar.specs.StatementReader.{call, block_reader, if_reader, statement_reader, readers}
use Rattle.module_grammar.specs.ItemReader.{header, item, module_}
use Rattle.module_grammar.proofs.laws.modules_are_read_so.Goals as goal

pub returns : goal.returns
unfolding value_reader area type_ init call block_reader if_reader statement_reader readers header item module_ expressions.readers primary_reader postfix_reader operand_reader chain_reader expression_reader span_of many front below
returns c = record { items = refl; faults = (refl, refl) }
