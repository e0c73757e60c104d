-- The tree of a text is one of tokens in order.
use Rattle.std.proofs.Common.{ℕ, ◌+◌, List, length, arith, Result, Ok, Err}
use Rattle.std.specs.Prelude.{IfOk}
use Rattle.ivory_lexer.specs.Texts.{TokensOf}
use Rattle.ivory_lexer.specs.Tokens.{InOrder}
use Rattle.ivory_lexer.specs.declared.Token.{Token}
use Rattle.ivory_lexer.proofs.Order.{in_order, few}
use Rattle.ivory_tree.specs.View.{module_of}
use Rattle.ivory_tree.specs.declared.Module.{Module}
use Rattle.reading.specs.Exact.{SpelledWithin}
use Rattle.module_grammar.specs.Modules.{Text}
use Rattle.module_grammar.specs.Parse.{levels}
use Rattle.spelled_trees.specs.Trees.{OfTokens}
use Rattle.spelled_trees.proofs.Modules.{of_tokens}
use Rattle.module_text.specs.Verdicts.{Reads, Judged, reads}
use Rattle.module_text.specs.Answers.{Read}
use Rattle.module_text.specs.Trees.{OfText}
use Rattle.module_text.specs.declared.fault.TextFault.{TextFault}

spelled_of_text : (text : List ℕ) (ts : List Token) (tree : Module) → TokensOf 0 text ts → SpelledWithin Text levels tree ts → OfText text tree
spelled_of_text text ts tree cut spelled =
    let order : InOrder 0 ts (0 + length text) = in_order cut in
    let o : OfTokens ts (module_of tree) = of_tokens ts (0 + length text) tree order spelled in
    record { formed = o.formed; few_nodes = omega (arith, few 0 (0 + length text) ts order, o.few_nodes); text_like = o.text_like }

pub of_text : (text : List ℕ) (tree : Module) → Judged text (Reads tree) → OfText text tree
of_text text tree (reads {ts} short cut spelled) = spelled_of_text text ts tree cut spelled

pub read_of_text : (text : List ℕ) (r : Result Module TextFault) → Read text r → IfOk r (λ tree. OfText text tree)
read_of_text text (Ok tree) j = of_text text tree j
read_of_text text (Err why) j = tt
