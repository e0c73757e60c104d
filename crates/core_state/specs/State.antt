-- What the code's state says in the words of the meaning.
use Rattle.std.specs.Prelude.{ℕ, map, reverse}
use Rattle.core_meaning.specs.Values as meaning
use Rattle.core_meaning.specs.Areas as areas
use Rattle.core_meaning.specs.State as states
use Rattle.core_state.specs.Types.{written_of, held_of}
use Rattle.core_state.specs.declared.value.Value.{Value}
use Rattle.core_state.specs.declared.value.Value.TheVariants.{Num, Ref}
use Rattle.core_state.specs.declared.state.HeldArea.{HeldArea}
use Rattle.core_state.specs.declared.state.Slot.{Slot}
use Rattle.core_state.specs.declared.state.Slot.TheVariants.{Live, Marked, Gone}
use Rattle.core_state.specs.declared.state.Name.{Name}
use Rattle.core_state.specs.declared.state.Frame.{Frame}
use Rattle.core_state.specs.declared.state.State.{State}

abbrev pub value_of : Value → meaning.Value
value_of (Num v) = meaning.Num v
value_of (Ref area path) = meaning.Ref area path

abbrev pub area_of : HeldArea → areas.Area
area_of a = record { ty = written_of a.ty; constant = a.constant; held = held_of a.held }

abbrev pub slot_of : Slot → areas.AreaState
slot_of (Live a) = areas.Live (area_of a)
slot_of (Marked a) = areas.Marked (area_of a)
slot_of Gone = areas.Gone

abbrev pub name_of : Name → ℕ × meaning.Value
name_of n = (n.number, value_of n.value)

-- the latest name is the last of the code's and the first of the meaning's
abbrev pub frame_of : Frame → states.Frame
frame_of f = record { names = reverse (map name_of f.names); first = f.first }

abbrev pub state_of : State → states.State
state_of s = record { areas = map slot_of s.areas.items; frames = record { own = frame_of s.own; callers = reverse (map frame_of s.callers) } }
