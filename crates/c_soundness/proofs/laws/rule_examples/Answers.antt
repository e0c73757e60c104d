use Rattle.std.proofs.Common.{refl}
use Rattle.c_soundness.proofs.laws.rule_examples.Goals as goal

pub returns-clause-needed : goal.returns-clause-needed
returns-clause-needed c = record {
  known = record { alone = refl; stuck = refl };
  new = record { alone = refl; stuck = refl };
  given = record { alone = refl; stuck = refl };
  counted = record { alone = refl; stuck = refl };
  returned = record { alone = refl; stuck = refl };
  in_loop = record { alone = refl; stuck = refl };
  file_scope = record { alone = refl; stuck = refl };
  constant = record { alone = refl; stuck = refl };
}
