-- The names of the code's frames, and the ends of blocks.
use Rattle.std.specs.Prelude.{◌≡◌, ◌++◌, ℕ, List, length, map, reverse}
use Rattle.core_meaning.specs.State as states
use Rattle.core_meaning.specs.State.{leave}
use Rattle.core_meaning.specs.Values.{Value}
use Rattle.core_state.specs.State.{name_of}
use Rattle.core_state.specs.declared.state.Name.{Name}

abbrev pub names_of : List Name → List (ℕ × Value)
names_of names = reverse (map name_of names)

-- the end of a block before which there were so many names and areas, where no name from before it is gone
abbrev pub LeavesBlock : (names areas : ℕ) → (old new : states.State) → Type 0
LeavesBlock names areas old new =
    (before : states.State) (more : List (ℕ × Value)) → old.frames.own.names ≡ more ++ before.frames.own.names → names ≡ length before.frames.own.names → areas ≡ length before.areas → new ≡ leave before old
