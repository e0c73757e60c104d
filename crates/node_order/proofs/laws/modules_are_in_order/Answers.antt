use Rattle.node_order.proofs.ShownItems.{modules_in_order}
use Rattle.node_order.proofs.laws.modules_are_in_order.Goals as goal

pub returns : goal.returns
returns c = modules_in_order
