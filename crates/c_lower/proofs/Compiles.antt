-- The lowered unit is what the compiler promises, on each target.
use Rattle.std.proofs.Common.{◌≡◌, sym, subst}
use Rattle.first_form.specs.declared.FirstModule.{FirstModule}
use Rattle.first_form.specs.Valid.{Valid}
use Rattle.c_ast.specs.declared.Target.{Target}
use Rattle.c_ast.specs.Syntax.{TranslationUnit}
use Rattle.c_text.specs.Spelling.{unit_text}
use Rattle.c_lower.specs.Compiled.{Compiled}
use Rattle.c_lower.specs.Lowered.{lowered}
use Rattle.c_lower.proofs.Follows.{lowered_refines}
use Rattle.c_lower.proofs.Declared.{lowered_reads_back}
use Rattle.c_lower.proofs.Shaped.{lowered_shape}

pub compiled : (m : FirstModule) → Valid m → (target : Target) (u : TranslationUnit) → u ≡ lowered m → Compiled m u target
compiled m valid target u is = subst (λ u. Compiled m u target) (sym is) (record {
  shape = lowered_shape m;
  refines = lowered_refines m valid target;
  text = unit_text (lowered m);
  reads_back = lowered_reads_back m valid target;
})
