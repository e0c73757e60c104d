-- How deep a contract can be: what nests in its parentheses.
use Rattle.std.proofs.Common.{ℕ, suc}
use Rattle.ivory_lexer.specs.declared.Token.{Token}
use Rattle.ivory_tree.specs.View.{contract_of}
use Rattle.ivory_tree.specs.declared.Contract.{Contract}
use Rattle.reading.specs.Row.{Row}
use Rattle.module_grammar.specs.Parts as grammar
use Rattle.module_grammar.specs.Parts.{Symbol, bit_field, struct_field, parameter, contract, Tree, Spells}
use Rattle.ivory_tree.specs.Depth.{contract_depth}
use Rattle.spelled_trees.proofs.Nesting.{AtMost, deep_ahead, deep_behind, inner}
use Rattle.spelled_trees.proofs.ExprDepth.{expression_deep}

abbrev Means : (s : Symbol) → Tree s → ℕ → Row Token → Type 0
Means contract x d row = AtMost d row (contract_depth (contract_of x)) 0
Means _ x d row = Unit {0}

deep : (s : Symbol) (x : Tree s) (d : ℕ) (row : Row Token) → Spells s x d row → Means s x d row
deep s x d row (grammar.bit t u v) = tt
deep s x d row (grammar.member t u r v) = tt
deep s x d row (grammar.taken t u r) = tt
deep s x d row (grammar.condition {x = y} {e} {g} {h} t u r v) = deep_behind e (inner u.1 u.2 (deep_ahead h (expression_deep y (suc d) g r)))

pub contract_deep : (x : Contract) (d : ℕ) (row : Row Token) → Spells contract x d row → AtMost d row (contract_depth (contract_of x)) 0
contract_deep x d row r = deep contract x d row r
