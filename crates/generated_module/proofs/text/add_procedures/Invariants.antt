use Rattle.std.proofs.Common.{◌≡◌, ◌++◌}
use Rattle.generated_module.specs.Generated.{procedure, texts_below}
use Rattle.generated_module.proofs.text.add_procedures.Given as goal

abbrev pub invariant-loop-i : goal.invariant-loop-i
invariant-loop-i l = l.text ≡ l.initial.text ++ texts_below procedure l.i
