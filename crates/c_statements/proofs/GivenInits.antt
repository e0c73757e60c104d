-- Values of initializers, one after another.
use Rattle.std.proofs.Common.{◌≡◌, List, [], ◌∷◌, ◌++◌, refl, ap}
use Rattle.c_memory.specs.Initializers.{Init, Inits, Done, More}
use Rattle.c_meaning.specs.Values.{CValue}
use Rattle.c_statements.specs.Given.{inits_from, inits_before}

pub one_init : (front : List (Init CValue)) (i : Init CValue) (rest : Inits CValue) → inits_before front (More i rest) ≡ inits_before (front ++ i ∷ []) rest
one_init [] i rest = refl
one_init (f ∷ fs) i rest = ap (More f) (one_init fs i rest)

pub all_inits : (front : List (Init CValue)) → inits_before front Done ≡ inits_from front
all_inits [] = refl
all_inits (f ∷ fs) = ap (More f) (all_inits fs)
