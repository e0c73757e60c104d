-- What every tree of a text has: its names are names, and it is not too deep. What a name is, the table of tokens says.
use Rattle.std.specs.Prelude.{ℕ, ◌≤◌, All}
use Rattle.ivory_tree.specs.Syntax.{Word, ModuleSyntax}
use Rattle.ivory_tree.specs.Names.{module_names}
use Rattle.ivory_tree.specs.Depth.{module_depth}

-- In a text of nesting at most 32 each nesting is at most one block or arm, with a right operand of `||` and one of `&&` in it; two
-- more operands may stand outside of all.
abbrev pub most_open : ℕ
most_open = 98

pub record TextLike (IsName : Word → Type 0) (m : ModuleSyntax) : Type 0 where
  pub names : All IsName (module_names m)
  pub shallow : module_depth m ≤ most_open
