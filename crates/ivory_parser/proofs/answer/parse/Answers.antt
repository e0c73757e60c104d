use Rattle.std.proofs.Common.{◌≡◌}
use Rattle.module_grammar.proofs.Exactly as exactly
use Rattle.ivory_parser.specs.Answers.{answer_of}
use Rattle.ivory_parser.proofs.Parsed.{of_ordered}
use Rattle.ivory_parser.proofs.answer.parse.Goals as goal

pub returns-clause-found : goal.returns-clause-found
returns-clause-found c = exactly.found c.args.tokens.now (answer_of c.answered.result) (rw c.as_slice.ensures at c.answered.ensures)

pub returns-clause-only : goal.returns-clause-only
returns-clause-only c = exactly.only c.args.tokens.now (answer_of c.answered.result) (rw c.as_slice.ensures at c.answered.ensures)

pub returns-clause-unexpected : goal.returns-clause-unexpected
returns-clause-unexpected c = exactly.unexpected c.args.tokens.now (answer_of c.answered.result) (rw c.as_slice.ensures at c.answered.ensures)

pub returns-clause-only_unexpected : goal.returns-clause-only_unexpected
returns-clause-only_unexpected c = exactly.only_unexpected c.args.tokens.now (answer_of c.answered.result) (rw c.as_slice.ensures at c.answered.ensures)

pub returns-clause-deep : goal.returns-clause-deep
returns-clause-deep c = exactly.too_deep c.args.tokens.now (answer_of c.answered.result) (rw c.as_slice.ensures at c.answered.ensures)

pub returns-clause-only_deep : goal.returns-clause-only_deep
returns-clause-only_deep c = exactly.only_deep c.args.tokens.now (answer_of c.answered.result) (rw c.as_slice.ensures at c.answered.ensures)

pub returns-clause-of_tokens : goal.returns-clause-of_tokens
returns-clause-of_tokens c =
    of_ordered c.args.tokens.now c.answered.result (exactly.found c.args.tokens.now (answer_of c.answered.result) (rw c.as_slice.ensures at c.answered.ensures))
