-- A row of braces has one more than the row in it.
use Rattle.std.proofs.Common.{◌≡◌, ℕ, ◌+◌, ◌*◌, ◌++◌, ap, sym, ◌∙◌, arith}
use Rattle.std.specs.Prelude.{replicate, codes}
use Rattle.std.proofs.lemmas.List.{replicate-append-replicate}
use denote.Bor.{Bor}
use Rattle.c_text.specs.StatementText.{indent}
use Rattle.c_rules.specs.declared.braces.Braces.{Braces}
use Rattle.c_rules.specs.declared.braces.Braces.TheOpen.{Braces-F}
use Rattle.c_rules.specs.declared.braces.Braces.TheFolds.{fold-roll-Braces}
use Rattle.c_rules.specs.declared.braces.Braces.TheVariants as braces
use Rattle.c_rules.specs.Depths.{depth, step}

pub in_is : (outer : Bor Braces) → depth (braces.In outer) ≡ depth outer.now + 1
in_is outer = ap depth (sym (braces.rolls-In outer)) ∙ fold-roll-Braces ℕ step (Braces-F.In outer)

pub none_is : depth braces.None ≡ 0
none_is = ap depth (sym braces.rolls-None) ∙ fold-roll-Braces ℕ step Braces-F.None

pub indent_more : (braces : ℕ) → indent (braces + 1) ≡ indent braces ++ codes "  "
indent_more braces = ap (λ n. replicate n 32) (twice braces) ∙ sym (replicate-append-replicate (2 * braces) 2 32)
  where
    twice : (n : ℕ) → 2 * (n + 1) ≡ 2 * n + 2
    twice n = omega arith
