-- What the code's state says in the words of the meaning.
use Rattle.std.specs.Prelude.{List, map, reverse}
use Rattle.c_ast.specs.Syntax.{Name}
use Rattle.c_meaning.specs.State as meaning
use Rattle.c_objects.specs.Shapes.{base_of}
use Rattle.c_objects.specs.Store.{objects_of}
use Rattle.c_operators.specs.Values.{value_of}
use Rattle.c_expressions.specs.declared.state.Slot.{Slot}
use Rattle.c_expressions.specs.declared.state.Slot.TheVariants.{Holding, Naming}
use Rattle.c_expressions.specs.declared.state.Local.{Local}
use Rattle.c_expressions.specs.declared.state.State.{State}

abbrev pub slot_of : Slot → meaning.Slot
slot_of (Holding v) = meaning.Holding (value_of v)
slot_of (Naming object base) = meaning.Naming object (base_of base)

abbrev pub local_of : Local → Name × meaning.Slot
local_of l = (l.name.now, slot_of l.slot)

-- the latest name is the last of the code's and the first of the meaning's
abbrev pub frame_of : List Local → meaning.Frame
frame_of names = reverse (map local_of names)

abbrev pub state_of : State → meaning.CState
state_of s = record { frames = record { own = frame_of s.own; callers = reverse (map frame_of s.callers) }; objects = objects_of s.objects }

-- the names of the function that runs
abbrev pub own_of : meaning.CState → meaning.Frame
own_of s = s.frames.own
