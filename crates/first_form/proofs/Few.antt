-- A tree has as many nodes at least as there are items in it, and an import as there are parameters.
use Rattle.std.proofs.Common.{ℕ, ◌<◌, ◌≤◌, List, [], ◌∷◌, length, map, All, arith}
use Rattle.std.specs.Option.{option_map}
use Rattle.std.specs.List.{AllByRecursion}
use Rattle.std.proofs.lemmas.List.Elements.{All-from_recursion}
use Rattle.std.proofs.lemmas.List.{length-map}
use Rattle.ivory_tree.specs.Nodes.{Node, At, Nodes, Nil, Cons, nodes_from, joined, none_or_one, node_count, nodes_count, param_node, item_node, type_node}
use Rattle.ivory_tree.specs.View.{param_of, item_of, header_of}
use Rattle.ivory_tree.specs.declared.Item.{Item}
use Rattle.ivory_tree.specs.declared.Item.TheVariants as item
use Rattle.ivory_tree.specs.declared.Header.{Header}

some_node : (n : Node) → 1 ≤ node_count n
some_node (At s within) = omega arith

row_counts : (ns : List Node) → length ns ≤ nodes_count (nodes_from ns)
row_counts [] = omega arith
row_counts (n ∷ ns) = omega (arith, some_node n, row_counts ns)

joined_counts : (ns ms : Nodes) → nodes_count ns ≤ nodes_count (joined ns ms)
joined_counts Nil ms = omega arith
joined_counts (Cons n ns) ms = omega (arith, joined_counts ns ms)

pub few_params : (h : Header) (most : ℕ) → node_count (item_node (item_of (item.Import h))) < most → length h.params < most
few_params h most few =
    let nodes = map param_node (map param_of h.params) in
    omega (arith, row_counts nodes, joined_counts (nodes_from nodes) (none_or_one (option_map type_node (header_of h).result)), length-map (map param_of h.params) param_node, length-map h.params param_of)

pub few_items : (items : List Item) (most : ℕ) → nodes_count (nodes_from (map item_node (map item_of items))) < most → length items < most
few_items items most few = omega (arith, row_counts (map item_node (map item_of items)), length-map (map item_of items) item_node, length-map items item_of)

each_by_recursion : (items : List Item) (most : ℕ) → nodes_count (nodes_from (map item_node (map item_of items))) < most → AllByRecursion (λ item. node_count (item_node (item_of item)) < most) items
each_by_recursion [] most few = tt
each_by_recursion (i ∷ items) most few = (omega (arith, few), each_by_recursion items most (omega (arith, few)))

pub each_few : (items : List Item) (most : ℕ) → nodes_count (nodes_from (map item_node (map item_of items))) < most → All (λ item. node_count (item_node (item_of item)) < most) items
each_few items most few = All-from_recursion (λ item. node_count (item_node (item_of item)) < most) items (each_by_recursion items most few)
