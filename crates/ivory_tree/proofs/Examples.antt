-- The examples of trees.
use Rattle.std.proofs.Common.{ℕ, ◌+◌, arith}
use Rattle.ivory_tree.specs.Nodes.{At, Nil, two, expr_node}
use Rattle.ivory_tree.specs.Formed.{Placed}
use Rattle.ivory_tree.specs.Examples.{span, sum, SumIsFormed, OperatorsStandBetween, NoOverlap, WithinTheOuter, NotEmpty}

pub sum_is_formed : SumIsFormed
sum_is_formed = (((omega arith, omega arith, omega arith), ((omega arith, omega arith, omega arith), tt, tt), tt), placed_sum)
  where
    leaf : (n : ℕ) → Placed (At (span n (n + 1)) Nil)
    leaf n = (omega arith, tt, omega arith)

    placed_prefix : Placed (At (span 0 5) (two (At (span 0 1) Nil) (At (span 4 5) Nil)))
    placed_prefix = (omega arith, (omega arith, leaf 0, (omega arith, leaf 4, tt)), omega arith)

    placed_sum : Placed (expr_node sum)
    placed_sum = (omega arith, (omega arith, placed_prefix, (omega arith, leaf 8, tt)), omega arith)

pub operators_stand_between : OperatorsStandBetween
operators_stand_between h = omega (arith, h.0.2)

pub no_overlap : NoOverlap
no_overlap h = omega (arith, h.1.2.0)

pub within_the_outer : WithinTheOuter
within_the_outer h = omega (arith, h.2)

pub not_empty : NotEmpty
not_empty h = omega (arith, h.0)

pub ruleset forms = (sum_is_formed, operators_stand_between, no_overlap, within_the_outer, not_empty)
