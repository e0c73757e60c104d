-- Lists are as deep as the deepest of their elements.
use Rattle.std.proofs.Common.{ℕ, map}
use Rattle.ivory_tree.specs.Depth.{deepest}
use Rattle.spelled_trees.proofs.Lists.{Listed}
use Rattle.spelled_trees.proofs.Nesting.{AtMost, flat, deep_ahead, deep_behind, deepest_of}

module _ {A B : Type 0} (d c : ℕ) (depth : B → ℕ) (view : A → B) where
  pub depth_listed : Listed (λ row x. AtMost d row (depth (view x)) c) (λ row xs. AtMost d row (deepest (map depth (map view xs))) c)
  depth_listed = record {
    nil = λ row. flat;
    cons = λ f g x xs one more. deepest_of (deep_ahead g one) (deep_behind f more);
    ahead = λ f g xs all. deep_ahead g all;
    behind = λ f g xs all. deep_behind f all;
  }
