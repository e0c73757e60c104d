-- The places of a tree, each before those within it, are in order.
use Rattle.std.proofs.Common.{ℕ, ◌<◌, ◌≤◌, List, [], ◌∷◌, ◌++◌, arith}
use Rattle.iv_words.specs.declared.Span.{Span}
use Rattle.ivory_tree.specs.Nodes.{Node, At, Nodes, Nil, Cons, place}
use Rattle.ivory_tree.specs.Formed.{Placed, PlacedRow, last_end}
use Rattle.node_order.proofs.Ordered.{Between, nothing, wider, over, beside}

abbrev mutual
  pub spans : Node → List Span
  spans (At s within) = s ∷ spans_in within

  pub spans_in : Nodes → List Span
  spans_in Nil = []
  spans_in (Cons n ns) = spans n ++ spans_in ns

filled : (n : Node) → Placed n → (place n).start < (place n).end
filled (At s within) p = p.0

grows : (low : ℕ) (ns : Nodes) → PlacedRow low ns → low ≤ last_end low ns
grows low Nil p = omega arith
grows low (Cons n ns) p =
    let start : low ≤ (place n).start = p.0 in
    let inner : (place n).start < (place n).end = filled n p.1 in
    let later : (place n).end ≤ last_end (place n).end ns = grows (place n).end ns p.2 in
    omega (arith, start, inner, later)

mutual
  node_ordered : (n : Node) → Placed n → Between (place n).start (place n).end (spans n)
  node_ordered (At s within) p =
      over s (spans_in within) p.0 (wider s.start s.start (last_end s.start within) s.end (spans_in within) (omega arith) p.2 (row_ordered s.start within p.1))

  pub row_ordered : (low : ℕ) (ns : Nodes) → PlacedRow low ns → Between low (last_end low ns) (spans_in ns)
  row_ordered low Nil p = nothing low low
  row_ordered low (Cons n ns) p =
      let start : low ≤ (place n).start = p.0 in
      let inner : (place n).start < (place n).end = filled n p.1 in
      beside low (place n).end (last_end (place n).end ns) (spans n) (spans_in ns) (omega (arith, start, inner)) (grows (place n).end ns p.2)
      (wider low (place n).start (place n).end (place n).end (spans n) start (omega arith) (node_ordered n p.1)) (row_ordered (place n).end ns p.2)
