-- A row of braces has one more than the row in it.
use Rattle.std.proofs.Common.{◌≡◌, ℕ, ◌+◌, ap, sym, ◌∙◌}
use denote.Bor.{Bor}
use Rattle.c_writer.specs.declared.braces.Braces.{Braces}
use Rattle.c_writer.specs.declared.braces.Braces.TheOpen.{Braces-F}
use Rattle.c_writer.specs.declared.braces.Braces.TheFolds.{fold-roll-Braces}
use Rattle.c_writer.specs.declared.braces.Braces.TheVariants as braces
use Rattle.c_writer.specs.Depths.{depth, step}

pub in_is : (outer : Bor Braces) → depth (braces.In outer) ≡ depth outer.now + 1
in_is outer = ap depth (sym (braces.rolls-In outer)) ∙ fold-roll-Braces ℕ step (Braces-F.In outer)

pub none_is : depth braces.None ≡ 0
none_is = ap depth (sym braces.rolls-None) ∙ fold-roll-Braces ℕ step Braces-F.None
