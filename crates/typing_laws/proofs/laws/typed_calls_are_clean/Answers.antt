use Rattle.typing_laws.proofs.CleanCalls.{call_is_clean}
use Rattle.typing_laws.proofs.laws.typed_calls_are_clean.Goals as goal

-- src/laws.rt:45:1
pub returns : goal.returns
returns c = call_is_clean
