use Rattle.grammars.proofs.ExampleGrammar.{exactly}
use Rattle.grammars.proofs.example.nested_lists_are_parsed_exactly.Goals as goal

pub returns : goal.returns
returns c = exactly
