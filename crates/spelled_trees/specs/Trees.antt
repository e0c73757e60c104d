-- What every tree that tokens spell has: how many nodes, and which names.
use Rattle.std.specs.Prelude.{ℕ, ◌*◌, ◌≤◌, List, length}
use Rattle.ivory_lexer.specs.Tokens.{IsName}
use Rattle.ivory_lexer.specs.declared.Token.{Token}
use Rattle.ivory_tree.specs.Syntax.{ModuleSyntax}
use Rattle.ivory_tree.specs.Nodes.{module_nodes, nodes_count}
use Rattle.ivory_tree.specs.Formed.{Formed}
use Rattle.ivory_tree.specs.TextLike.{TextLike}

abbrev pub nodes_per_token : ℕ
nodes_per_token = 8

-- the nodes within a module, each with those within it, are at most so many for each token
abbrev pub FewNodes : ModuleSyntax → List Token → Type 0
FewNodes m ts = nodes_count (module_nodes m) ≤ nodes_per_token * length ts

-- all that a tree has which these tokens spell, where none of them nests too deep
pub record OfTokens (ts : List Token) (m : ModuleSyntax) : Type 0 where
  pub formed : Formed m
  pub few_nodes : FewNodes m ts
  pub text_like : TextLike IsName m
