-- Changes of a state that the meaning puts together where it uses them.
use Rattle.std.specs.Prelude.{◌≡◌, ◌++◌, ℕ, ℤ, List, length, false}
use Rattle.c_ast.specs.declared.CBase.{CBase}
use Rattle.c_ast.specs.Structs.{tree}
use Rattle.c_ast.specs.Syntax.{Name}
use Rattle.c_meaning.specs.Memory.{memory_of}
use Rattle.c_meaning.specs.State.{Program, Frame, CState, declare_object, leave}
use Rattle.c_expressions.specs.State.{own_of}

-- an object without values, and its name
abbrev pub with_blank : Program → Name → CBase → CState → CState
with_blank p x b s = declare_object x b ((memory_of p.target).create s.objects (tree p.unit.structs b)) s

-- an object with these values in its scalars, and its name
abbrev pub with_made : Program → Name → CBase → List ℤ → CState → CState
with_made p x b values s = declare_object x b ((memory_of p.target).initialize s.objects (tree p.unit.structs b) false values) s

-- the end of a block before which there were so many names and objects, where no name from before it is gone
abbrev pub LeavesBlock : (names objects : ℕ) → (old new : CState) → Type 0
LeavesBlock names objects old new =
    (before : CState) (more : Frame) → own_of old ≡ more ++ own_of before → names ≡ length (own_of before) → objects ≡ length before.objects → new ≡ leave before old
