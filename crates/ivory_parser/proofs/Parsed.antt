-- From what the reader of modules gives to what the parser answers.
use Rattle.std.proofs.Common.{◌≡◌, ℕ, ◌-◌, ◌≤◌, List, [], length, refl, sym, ap, ◌∙◌, arith, Option, Some, None, Result, Ok, Err}
use Rattle.std.specs.Prelude.{IfOk}
use Rattle.ivory_lexer.specs.Tokens.{InOrder}
use Rattle.ivory_lexer.specs.declared.Token.{Token}
use Rattle.ivory_tree.specs.View.{module_of}
use Rattle.ivory_tree.specs.declared.Module.{Module}
use Rattle.reading.specs.Reader.{Done, Unexpected, TooDeep, ended}
use Rattle.reading.specs.Exact.{Tree, UnexpectedToken, DeepToken, answer}
use Rattle.module_grammar.specs.ItemReader.{module_}
use Rattle.module_grammar.specs.Parse.{Answers, Found, levels, parse}
use Rattle.spelled_trees.specs.Trees.{OfTokens}
use Rattle.spelled_trees.proofs.Modules.{of_tokens}
use Rattle.ivory_parser.specs.Answers.{answer_of, Ends}
use Rattle.ivory_parser.specs.Laws.{OfOrderedTokens}
use Rattle.ivory_parser.specs.declared.answer.SyntaxFault.{SyntaxFault}
use Rattle.ivory_parser.specs.declared.answer.SyntaxFault.TheVariants as fault

pub answers_end : (ts : List Token) (r : Result Module SyntaxFault) → Ends r ts (ended (module_ levels ts)) → Answers (answer_of r) (parse levels ts)
answers_end ts (Ok tree) e = sym (ap (answer ts) e)
answers_end ts (Err (fault.Unexpected i)) (rest, e, at) = ap UnexpectedToken at ∙ sym (ap (answer ts) e)
answers_end ts (Err (fault.TooDeep i)) (rest, e, at) = ap DeepToken at ∙ sym (ap (answer ts) e)
answers_end ts (Err fault.Memory) e = tt

pub of_ordered : (ts : List Token) (r : Result Module SyntaxFault) → Found ts (answer_of r) → OfOrderedTokens ts r
of_ordered ts (Ok tree) spelled = λ high order. of_tokens ts high tree order spelled
of_ordered ts (Err why) spelled = λ high order. tt
