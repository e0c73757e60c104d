-- Headers and items have at most two nodes for each token.
use Rattle.std.proofs.Common.{◌≡◌, ℕ, suc, ◌+◌, map, subst, arith}
use Rattle.ivory_lexer.specs.declared.Token.{Token}
use Rattle.ivory_lexer.specs.declared.Mark.TheVariants as mark
use Rattle.ivory_tree.specs.View.{type_of, field_of, param_of, header_of, contract_of, item_of}
use Rattle.ivory_tree.specs.declared.BitField.{BitField}
use Rattle.ivory_tree.specs.declared.Item.{Item}
use Rattle.reading.specs.Row.{Row}
use Rattle.reading.specs.Language.{Terminal}
use Rattle.expression_grammar.specs.Tokens.{symbol}
use Rattle.module_grammar.specs.Parts as parts
use Rattle.module_grammar.specs.Items as grammar
use Rattle.module_grammar.specs.Items.{Symbol, header, item, Tree, Spells}
use Rattle.ivory_tree.specs.Nodes.{Nodes, Nil, Cons, joined, nodes_from, type_node, bit_field_node, field_node, param_node, contract_node, header_nodes, item_node, nodes_count}
use Rattle.spelled_trees.proofs.Sizes.{both_long, one_long, Few, AllFew}
use Rattle.spelled_trees.proofs.Lists.{seen_same, of_many, of_at_least_one, of_separated, of_closed}
use Rattle.spelled_trees.proofs.ListNodes.{few_listed, few_optional, few_after}
use Rattle.spelled_trees.proofs.TypeNodes.{few_type, few_area}
use Rattle.spelled_trees.proofs.InitNodes.{few_first}
use Rattle.spelled_trees.proofs.StmtNodes.{few_block}
use Rattle.spelled_trees.proofs.PartNodes.{few_bit_field, few_struct_field, few_parameter, few_contract}

joined_count : (ns ms : Nodes) → nodes_count (joined ns ms) ≡ nodes_count ns + nodes_count ms
joined_count Nil ms = omega arith
joined_count (Cons n ns) ms = omega (arith, joined_count ns ms)

abbrev Means : (s : Symbol) → Tree s → Row Token → Type 0
Means header h row = AllFew row (header_nodes (header_of h))
Means item i row = Few row (item_node (item_of i))

few : (s : Symbol) (x : Tree s) (d : ℕ) (row : Row Token) → Spells s x d row → Means s x row
few s x d row (grammar.signature {to} {params} result h {g} t u r q) =
    let takes = of_closed (few_listed param_node param_of) (parts.Rule parts.parameter (suc d)) (λ y z a. few_parameter y (suc d) z a) (Terminal (suc d) (symbol mark.Comma)) (Terminal (suc d) (symbol mark.CloseParen)) params to g r in
    let gives = few_optional type_node type_of (λ y z a. few_after type_node type_of (λ v w b. few_type v d w b) y z a) result h q in
    record { count = omega (arith, takes.count, gives.count, joined_count, both_long) }
few s x d row (grammar.bits {fields} {j} t u v w r q p) =
    let seen = of_separated (few_listed bit_field_node (λ (y : BitField). y)) (parts.Rule parts.bit_field (suc d)) (λ y z a. few_bit_field y (suc d) z a) (Terminal (suc d) (symbol mark.Comma)) fields j q in
    let all : AllFew j (nodes_from (map bit_field_node fields)) = subst (λ xs. AllFew j (nodes_from (map bit_field_node xs))) (seen_same fields) seen in
    record { count = omega (arith, all.count, one_long t.1, both_long) }
few s x d row (grammar.structure {fields} {h} t u v r q) =
    let all = of_at_least_one (few_listed field_node field_of) (parts.Rule parts.struct_field (suc d)) (λ y z a. few_struct_field y (suc d) z a) fields h r in
    record { count = omega (arith, all.count, one_long t.1, both_long) }
few s x d row (grammar.area constant e {a} init j {i} t u v w r q p) = record { count = omega (arith, (few_area a d i r).count, (few_first init d j q).count, one_long u.1, both_long) }
few s x d row (grammar.import {x = y} {f} t r u) = record { count = omega (arith, (few header y d f r).count, one_long t.1, both_long) }
few s x d row (grammar.procedure exported e {x = y} contracts h {body} {g} {i} t u r q p) =
    let all = of_many (few_listed contract_node contract_of) (parts.Rule parts.contract d) (λ v w a. few_contract v d w a) contracts h q in
    record { count = omega (arith, (few header y d g r).count, all.count, (few_block body d i p).count, joined_count, one_long u.1, both_long) }

pub few_item : (i : Item) (d : ℕ) (row : Row Token) → Spells item i d row → Few row (item_node (item_of i))
few_item i d row r = few item i d row r
