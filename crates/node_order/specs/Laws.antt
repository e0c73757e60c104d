-- The row of nodes of a module is in the order of the text: by start, the outer before the inner.
use Rattle.std.specs.Prelude.{◌≡◌, true}
use Rattle.ivory_tree.specs.Syntax.{ModuleSyntax}
use Rattle.ivory_tree.specs.Formed.{Formed}
use Rattle.rule_faults.specs.FirstFault.{module_in_order}

abbrev pub ModulesAreInOrder : Type 0
ModulesAreInOrder = (m : ModuleSyntax) → Formed m → module_in_order m ≡ true
