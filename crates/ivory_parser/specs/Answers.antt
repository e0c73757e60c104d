-- What a result of the parser answers: nothing, where memory ran out.
use Rattle.std.specs.Prelude.{◌≡◌, ℕ, ◌-◌, List, [], length, Option, Some, None, Result, Ok, Err}
use Rattle.ivory_lexer.specs.declared.Token.{Token}
use Rattle.ivory_tree.specs.declared.Module.{Module}
use Rattle.reading.specs.Reader.{Outcome, Done, Unexpected, TooDeep}
use Rattle.reading.specs.Exact.{Answer, Tree, UnexpectedToken, DeepToken}
use Rattle.ivory_parser.specs.declared.answer.SyntaxFault.{SyntaxFault}
use Rattle.ivory_parser.specs.declared.answer.SyntaxFault.TheVariants as fault

abbrev pub answer_of : Result Module SyntaxFault → Option (Answer Module)
answer_of (Ok tree) = Some (Tree tree)
answer_of (Err (fault.Unexpected i)) = Some (UnexpectedToken i)
answer_of (Err (fault.TooDeep i)) = Some (DeepToken i)
answer_of (Err fault.Memory) = None

-- ---- inside

-- the result for what a reader of all these tokens gave
abbrev pub Ends : Result Module SyntaxFault → List Token → Outcome Token Module → Type 0
Ends (Ok tree) ts o = o ≡ Done tree []
Ends (Err fault.Memory) ts o = Unit {0}
Ends (Err (fault.Unexpected i)) ts o = (rest : List Token) × (o ≡ Unexpected rest) × (i ≡ length ts - length rest)
Ends (Err (fault.TooDeep i)) ts o = (rest : List Token) × (o ≡ TooDeep rest) × (i ≡ length ts - length rest)
