-- What is seen of an object, from the values of its scalars.
use Rattle.std.proofs.Common.{◌≡◌, ℤ, List, [], Result, Ok, Err, refl}
use Rattle.c_memory.specs.Access.{Fault}
use Rattle.c_meaning.specs.Memory.{answered}
use Rattle.c_meaning.specs.State.{shown}
use Rattle.c_meaning.specs.Values.{Trouble}

pub shown_values : (said : Result (List ℤ) Fault) (values : List ℤ) → answered said ≡ Ok values → values ≡ shown said
shown_values (Ok vs) values h = cc
shown_values (Err fault) values h = absurd (cc)

pub shown_nothing : (said : Result (List ℤ) Fault) (why : Trouble) → answered said ≡ Err why → [] ≡ shown said
shown_nothing (Ok vs) why h = absurd (cc)
shown_nothing (Err fault) why h = refl
