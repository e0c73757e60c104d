-- Initializers have at most two nodes for each token.
use Rattle.std.proofs.Common.{ℕ, suc, ◌≤◌, [], ◌∷◌, Option, ap, arith}
use Rattle.std.specs.Option.{option_map}
use Rattle.ivory_lexer.specs.declared.Token.{Token}
use Rattle.ivory_tree.specs.View.{init_of, inits_of, expr_of}
use Rattle.ivory_tree.specs.declared.InitText.{InitText}
use Rattle.ivory_tree.proofs.View.{one_is, many_is}
use Rattle.reading.specs.Row.{Row, tokens}
use Rattle.expression_grammar.specs.Tokens.{span_of}
use Rattle.module_grammar.specs.Pieces.{FirstValue}
use Rattle.module_grammar.specs.Inits as grammar
use Rattle.module_grammar.specs.Inits.{Symbol, init, further, Tree, Spells}
use Rattle.ivory_tree.specs.Nodes.{Node, At, none_or_one, expr_node, init_node, init_nodes, node_count}
use Rattle.spelled_trees.proofs.Sizes.{both_long, one_long, Few, AllFew}
use Rattle.spelled_trees.proofs.ListNodes.{few_optional, few_after}
use Rattle.spelled_trees.proofs.ExprNodes.{expression_has_one_each}

some_node : (n : Node) → 1 ≤ node_count n
some_node (At s ns) = omega arith

abbrev Means : (s : Symbol) → Tree s → Row Token → Type 0
Means init i row = Few row (init_node (init_of i))
Means further is row = AllFew row (init_nodes (inits_of is))

few : (s : Symbol) (x : Tree s) (d : ℕ) (row : Row Token) → Spells s x d row → Means s x row
few s x d row grammar.none = record { count = omega arith }
few s x d row (grammar.more {x = y} {xs} {f} {g} {h} t r rs) = record { count = omega (arith, (few init y d g r).count, (few further xs d h rs).count, both_long) }
few s x d row (grammar.one {x = e} r) = record { count = omega (arith, ap (λ i. node_count (init_node i)) (one_is e), expression_has_one_each e d row r, some_node (expr_node (expr_of e))) }
few s x d row (grammar.empty {f} {g} t u) = record { count = omega (arith, ap (λ i. node_count (init_node i)) (many_is [] (span_of (tokens row))), one_long t.1, both_long) }
few s x d row (grammar.listed {x = y} {xs} {f} {g} {h} {i} t r rs u) =
    record { count = omega (arith, ap (λ i. node_count (init_node i)) (many_is (y ∷ xs) (span_of (tokens row))), (few init y (suc d) g r).count, (few further xs (suc d) h rs).count, one_long t.1, both_long) }

pub few_init : (i : InitText) (d : ℕ) (row : Row Token) → Spells init i d row → Few row (init_node (init_of i))
few_init i d row r = few init i d row r

-- an initializer that may be absent
pub few_first : (o : Option InitText) (d : ℕ) (row : Row Token) → FirstValue d o row → AllFew row (none_or_one (option_map init_node (option_map init_of o)))
few_first o d row r = few_optional init_node init_of (λ i y a. few_after init_node init_of (λ j z b. few_init j d z b) i y a) o row r
