-- How long rows are, and that what they spell has at most two nodes for each token.
use Rattle.std.proofs.Common.{◌≡◌, ◌+◌, [], ◌∷◌, ◌++◌, length, ap, length-append, ◌*◌, ◌≤◌}
use Rattle.ivory_lexer.specs.declared.Token.{Token}
use Rattle.ivory_tree.specs.Nodes.{Node, Nodes, node_count, nodes_count}
use Rattle.reading.specs.Row.{Entry, Row}

pub both_long : (f g : Row Token) → length (f ++ g) ≡ length f + length g
both_long f g = length-append f g

pub one_long : {m : Entry Token} {f : Row Token} → f ≡ m ∷ [] → length f ≡ 1
one_long e = ap length e

pub record Few (row : Row Token) (n : Node) : Type 0 where
  pub count : node_count n ≤ 2 * length row

pub record AllFew (row : Row Token) (ns : Nodes) : Type 0 where
  pub count : nodes_count ns ≤ 2 * length row
