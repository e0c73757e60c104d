use Rattle.std.proofs.Common.{◌≡◌, ◌++◌, drop}
use Rattle.std.specs.Option.{option_map}
use Rattle.core_statements.specs.Replies.{all_some}
use Rattle.core_statements.proofs.shapes.add_all.Given as goal

abbrev pub invariant-loop-plain : goal.invariant-loop-plain
invariant-loop-plain l = option_map (λ ps. l.shape ++ ps) (all_some (drop l.plain-index l.plains)) ≡ option_map (λ ps. l.initial.shape ++ ps) (all_some l.plains)
