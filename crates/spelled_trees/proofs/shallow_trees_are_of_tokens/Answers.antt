use Rattle.spelled_trees.proofs.Modules.{of_tokens}
use Rattle.spelled_trees.proofs.shallow_trees_are_of_tokens.Goals as goal

pub returns : goal.returns
returns c = of_tokens
