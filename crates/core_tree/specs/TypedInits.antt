-- When an initializer of a core fits an area: an expression a stored value, and a list of initializers the first elements or fields.
use Rattle.std.specs.Prelude.{ℕ, suc, nat_lt, if◌then◌else◌, Option, Some, None, List}
use Rattle.area_types.specs.Syntax.{Area, Stored, Array, Struct}
use Rattle.core_tree.specs.Syntax.{ModuleCore, InitCore, One, Many, InitsCore, NoInits, MoreInits}
use Rattle.core_tree.specs.Environments.{Env, struct_field}
use Rattle.core_tree.specs.TypedExpressions.{HasType}

-- the area of the element or field of that number
abbrev pub place : ModuleCore → Area → ℕ → Option Area
place m (Stored held) i = None
place m (Array n element) i = if nat_lt i n then Some element else None
place m (Struct number) i = struct_field m number i

-- the initializer fits the area, where there is one
abbrev mutual
  pub InitTyped : Env → (scope : List ℕ) → Option Area → InitCore → Type 0
  InitTyped env scope None init = ⊥
  InitTyped env scope (Some (Stored held)) (One e) = HasType env scope e held
  InitTyped env scope (Some (Array n element)) (One e) = ⊥
  InitTyped env scope (Some (Struct number)) (One e) = ⊥
  InitTyped env scope (Some (Stored held)) (Many inits) = ⊥
  InitTyped env scope (Some (Array n element)) (Many inits) = InitsTyped env scope (Array n element) 0 inits
  InitTyped env scope (Some (Struct number)) (Many inits) = InitsTyped env scope (Struct number) 0 inits

  -- they fit the places from i on
  pub InitsTyped : Env → (scope : List ℕ) → Area → (i : ℕ) → InitsCore → Type 0
  InitsTyped env scope area i NoInits = Unit {0}
  InitsTyped env scope area i (MoreInits init inits) = InitTyped env scope (place env.core area i) init × InitsTyped env scope area (suc i) inits
