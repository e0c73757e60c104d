-- The number of braces that a row of them stands for.
use Rattle.std.specs.Prelude.{ℕ, ◌+◌}
use Rattle.c_rules.specs.declared.braces.Braces.{Braces}
use Rattle.c_rules.specs.declared.braces.Braces.TheOpen.{Braces-F}
use Rattle.c_rules.specs.declared.braces.Braces.TheFolds.{fold-Braces}

abbrev pub step : Braces-F ℕ → ℕ
step Braces-F.None = 0
step (Braces-F.In n) = n.now + 1

abbrev pub depth : Braces → ℕ
depth = fold-Braces ℕ step
