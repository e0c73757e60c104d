use Rattle.std.proofs.Common.{◌+◌, refl}
use Rattle.type_trees.specs.Layouts.{offset}
use Rattle.type_trees.proofs.Layouts.{lay_ascends}
use Rattle.type_trees.proofs.Windows.{lay_window}
use Rattle.type_trees.proofs.Parts as parts
use Rattle.type_trees.proofs.Paths.{part_append, offset_append}
use Rattle.type_trees.proofs.laws.layout_laws.Goals as goal

pub returns-clause-order : goal.returns-clause-order
returns-clause-order g c = λ m a b. lay_ascends m a b

pub returns-clause-row : goal.returns-clause-row
returns-clause-row g c = λ m a p d b h. lay_window m a p d b (b + offset m a p) h refl

pub returns-clause-within : goal.returns-clause-within
returns-clause-within g c = λ m a p d h. parts.inside m a p d h

pub returns-clause-apart : goal.returns-clause-apart
returns-clause-apart g c = λ m a p q d h k. parts.apart m a p q d h k

pub returns-clause-paths : goal.returns-clause-paths
returns-clause-paths g c = λ m a p q d h. (part_append a p q d h, offset_append m a p q d h)
