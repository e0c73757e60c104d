use Rattle.std.proofs.Common.{◌≡◌, ◌++◌, drop}
use Rattle.core_statements.specs.Replies.{targets_of, plains_in}
use Rattle.core_statements.proofs.shapes.plains_in.Given as goal

abbrev pub invariant-loop-target : goal.invariant-loop-target
invariant-loop-target l = l.plains ++ plains_in (targets_of (drop l.target-index l.targets)) ≡ plains_in (targets_of l.targets)
