use Rattle.token_nesting.proofs.Limit.{tokens_tell_within, tokens_tell_too_deep}
use Rattle.token_nesting.proofs.tokens_tell_the_limit.Goals as goal

pub returns-clause-within : goal.returns-clause-within
returns-clause-within c = tokens_tell_within

pub returns-clause-too_deep : goal.returns-clause-too_deep
returns-clause-too_deep c = tokens_tell_too_deep
