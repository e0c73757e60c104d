-- By the fact that the grammar's reader is good at each limit.
use Rattle.reading.proofs.ExampleGrammar.{parse_exact}
use Rattle.reading.proofs.example.nested_lists_are_parsed_exactly.Goals as goal

pub returns : goal.returns
returns c = λ limit. parse_exact limit
