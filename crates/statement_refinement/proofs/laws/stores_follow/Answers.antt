use Rattle.statement_refinement.proofs.Stores.{store_follows}
use Rattle.statement_refinement.proofs.laws.stores_follow.Goals as goal

pub returns : goal.returns
returns c = λ g set objects s stage target value typed small_target small_value from le t related apart n w. store_follows g set objects s stage target value typed small_target small_value from le t related apart n w
