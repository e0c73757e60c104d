use Rattle.core_tree.proofs.Sites.{sites_are_one_row}
use Rattle.core_tree.proofs.laws.sites_are_one_row.Goals as goal

pub returns : goal.returns
returns c = sites_are_one_row
