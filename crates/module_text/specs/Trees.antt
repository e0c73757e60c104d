-- What holds of the tree of a text.
use Rattle.std.specs.Prelude.{ℕ, ◌*◌, ◌≤◌, List, length}
use Rattle.ivory_lexer.specs.Tokens.{IsName}
use Rattle.ivory_tree.specs.Nodes.{module_nodes, nodes_count}
use Rattle.ivory_tree.specs.Formed.{Formed}
use Rattle.ivory_tree.specs.TextLike.{TextLike}
use Rattle.ivory_tree.specs.View.{module_of}
use Rattle.ivory_tree.specs.declared.Module.{Module}

pub record OfText (text : List ℕ) (tree : Module) : Type 0 where
  -- its nodes have the form of a tree, and stand in their order
  pub formed : Formed (module_of tree)
  -- eight nodes at most for each byte
  pub few_nodes : nodes_count (module_nodes (module_of tree)) ≤ 8 * length text
  -- its names are names of the language, and it is not too deep
  pub text_like : TextLike IsName (module_of tree)
