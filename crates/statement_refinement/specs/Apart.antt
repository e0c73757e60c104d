-- Objects that no area has: the counters of loops, which no write to an area changes.
use Rattle.std.specs.Prelude.{◌≡◌, ◌≢◌, ℕ, ℤ, Contains, slice_get, Option, Some, None}
use Rattle.area_types.specs.Syntax.{ValueType}
use Rattle.core_meaning.specs.State.{State, value_of}
use Rattle.core_meaning.specs.Values as source
use Rattle.c_ast.specs.Names.{named}
use Rattle.c_meaning.specs.State.{CState, Slot, Holding, Naming}
use Rattle.area_objects.specs.Both.{Map}
use Rattle.lower_values.specs.Frames.{name_of}
use Rattle.value_refinement.specs.Settings.{Setting}

abbrev pub OfNoArea : Map → ℕ → Type 0
OfNoArea objects o = (k : ℕ) → slice_get objects k ≢ Some o

-- a name of the function that holds its value, or names an object of no area
abbrev pub IsApart : Map → Option Slot → Type 0
IsApart objects None = ⊥
IsApart objects (Some (Holding v)) = Unit {0}
IsApart objects (Some (Naming o base)) = OfNoArea objects o

-- the name of each number in scope is so
abbrev pub CountersApart : Setting → Map → State → CState → Type 0
CountersApart g objects s u =
    (x : ℕ) (ty : ValueType) (n : ℤ) → Contains g.scope x → slice_get g.env.locals x ≡ Some ty → value_of x s ≡ Some (source.Num n) → IsApart objects (named u.frames.own (name_of g.frame x))
