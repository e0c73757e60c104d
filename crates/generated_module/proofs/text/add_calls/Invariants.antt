use Rattle.std.proofs.Common.{◌≡◌, ◌++◌}
use Rattle.generated_module.specs.Generated.{call, texts_below}
use Rattle.generated_module.proofs.text.add_calls.Given as goal

abbrev pub invariant-loop-i : goal.invariant-loop-i
invariant-loop-i l = l.text ≡ l.initial.text ++ texts_below call l.i
