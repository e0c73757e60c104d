-- What the code's values of initializers say in the words of the meaning.
use Rattle.std.specs.Prelude.{List, [], ◌∷◌, map}
use Rattle.c_memory.specs.Initializers.{Init, One, Zero, Braces, Inits, Done, More}
use Rattle.c_meaning.specs.Values.{CValue}
use Rattle.c_operators.specs.Values.{value_of}
use Rattle.c_statements.specs.declared.initial.Given.{Given}
use Rattle.c_statements.specs.declared.initial.Given.TheOpen.{Given-F}
use Rattle.c_statements.specs.declared.initial.Given.TheFolds.{fold-Given}

abbrev pub inits_from : List (Init CValue) → Inits CValue
inits_from [] = Done
inits_from (i ∷ is) = More i (inits_from is)

abbrev pub inits_before : List (Init CValue) → Inits CValue → Inits CValue
inits_before [] rest = rest
inits_before (i ∷ is) rest = More i (inits_before is rest)

abbrev pub given_step : Given-F (Init CValue) → Init CValue
given_step (Given-F.One v) = One (value_of v)
given_step Given-F.Zero = Zero
given_step (Given-F.Braces is) = Braces (inits_from is)

abbrev pub given_of : Given → Init CValue
given_of = fold-Given (Init CValue) given_step

abbrev pub givens_of : List Given → Inits CValue
givens_of gs = inits_from (map given_of gs)
