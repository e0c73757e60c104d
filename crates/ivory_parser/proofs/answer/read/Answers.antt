use Rattle.std.proofs.Common.{◌≡◌, ap}
use Rattle.reading.proofs.Exactness.{left}
use Rattle.module_grammar.specs.Parse.{levels}
use Rattle.module_grammar.proofs.Exactly.{rest_within}
use Rattle.ivory_parser.proofs.answer.read.Goals as goal

pub overflow_sub-result : goal.overflow_sub-result
overflow_sub-result c =
    rest_within levels c.args.tokens.now c.in-Err-Unexpected.rest.now (ap left (rw c.in-Err-Unexpected.field-0-is at c.in-Err-Unexpected.ensures))

pub overflow_sub-result-in-Err-TooDeep : goal.overflow_sub-result-in-Err-TooDeep
overflow_sub-result-in-Err-TooDeep c =
    rest_within levels c.args.tokens.now c.in-Err-TooDeep.rest.now (ap left (rw c.in-Err-TooDeep.field-0-is at c.in-Err-TooDeep.ensures))
