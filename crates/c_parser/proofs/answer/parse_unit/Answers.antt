use Rattle.c_parser.proofs.Answered.{nothing_left, something_left, says_unit, says_trailing, says_unexpected, says_too_deep}
use Rattle.c_parser.proofs.answer.parse_unit.Goals as goal

pub returns-then-is_empty : goal.returns-then-is_empty
returns-then-is_empty c = says_unit c.args.bytes.now c.in-Ok.rest.now c.in-Ok.unit c.in-Ok.ensures (nothing_left c.in-Ok.rest.now _ c.is_empty.ensures c.if-is_empty.true)

pub returns-else-is_empty : goal.returns-else-is_empty
returns-else-is_empty c =
    says_trailing c.args.bytes.now c.in-Ok.rest.now _ _ c.in-Ok.ensures (something_left c.in-Ok.rest.now _ c.is_empty.ensures c.if-is_empty.false) c.place.ensures

pub returns-in-Err-Unexpected : goal.returns-in-Err-Unexpected
returns-in-Err-Unexpected c = says_unexpected c.args.bytes.now c.in-Err-Unexpected.rest.now _ (rw c.in-Err-Unexpected.field-0-is at c.in-Err-Unexpected.ensures) c.place-in-Err-Unexpected.ensures

pub returns-in-Err-TooDeep : goal.returns-in-Err-TooDeep
returns-in-Err-TooDeep c = says_too_deep c.args.bytes.now c.in-Err-TooDeep.rest.now _ (rw c.in-Err-TooDeep.field-0-is at c.in-Err-TooDeep.ensures) c.place-in-Err-TooDeep.ensures
