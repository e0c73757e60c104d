-- Lists and parts that may be absent have at most two nodes for each token.
use Rattle.std.proofs.Common.{length, map, Option, Some, None, ap, arith}
use Rattle.std.specs.Option.{option_map}
use Rattle.ivory_lexer.specs.declared.Token.{Token}
use Rattle.ivory_tree.specs.Nodes.{Node, nodes_from, none_or_one}
use Rattle.reading.specs.Row.{Row}
use Rattle.reading.specs.Language.{Language, Optional, After}
use Rattle.spelled_trees.proofs.Lists.{Listed}
use Rattle.spelled_trees.proofs.Sizes.{both_long, Few, AllFew}

module _ {A B : Type 0} (node : B → Node) (view : A → B) where
  pub few_listed : Listed (λ row x. Few row (node (view x))) (λ row xs. AllFew row (nodes_from (map node (map view xs))))
  few_listed = record {
    nil = λ row. record { count = omega arith };
    cons = λ f g x xs one more. record { count = omega (arith, one.count, more.count, both_long) };
    ahead = λ f g xs all. record { count = omega (arith, all.count, both_long) };
    behind = λ f g xs all. record { count = omega (arith, all.count, both_long) };
  }

  pub few_optional : {R : Language Token A} → ((x : A) (row : Row Token) → R x row → Few row (node (view x))) → (o : Option A) (row : Row Token) → Optional R o row → AllFew row (none_or_one (option_map node (option_map view o)))
  few_optional each None row e = record { count = omega arith }
  few_optional each (Some x) row r = record { count = omega (arith, (each x row r).count) }

  -- behind something else
  pub few_after : {S : Type 0} {Sep : Language Token S} {R : Language Token A} → ((x : A) (row : Row Token) → R x row → Few row (node (view x))) → (x : A) (row : Row Token) → After Sep R x row → Few row (node (view x))
  few_after each x row (s, f, g, e, t, r) = record { count = omega (arith, (each x g r).count, ap length e, both_long) }
