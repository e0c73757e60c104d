-- What a run of C works on: the program, its state, and what the outside sees of it.
use Rattle.std.specs.Prelude.{ℕ, suc, ℤ, List, [], ◌∷◌, length, Bool, Result, Ok, Err}
use Rattle.run_records.specs.declared.AreaCells.{AreaCells}
use Rattle.run_records.specs.declared.Reason.TheVariants.{NoValue}
use Rattle.step_semantics.specs.Steps.{Halt, NoMeaning, Part}
use Rattle.step_semantics.specs.Frames.{Frames, push_frame, pop_frame, in_frame}
use Rattle.type_trees.specs.Layouts.{lay}
use Rattle.c_memory.specs.Access.{Fault}
use Rattle.c_memory.specs.Blocks as blocks
use Rattle.c_memory.specs.Copies.{read_each}
use Rattle.c_memory.specs.Objects.{is_live}
use Rattle.c_ast.specs.declared.CBase.{CBase}
use Rattle.c_ast.specs.declared.CStruct.{CStruct}
use Rattle.c_ast.specs.declared.Target.{Target}
use Rattle.c_ast.specs.Names.{outer_name}
use Rattle.c_ast.specs.Scalars.{metric_of}
use Rattle.c_ast.specs.Structs.{tree}
use Rattle.c_ast.specs.Syntax.{Name, FileObject, TranslationUnit}
use Rattle.c_meaning.specs.Values.{Trouble, Undefined, Stuck, CValue}
use Rattle.c_meaning.specs.Memory.{CObjects, memory_of}

-- ---- programs

-- what stays the same in a run; `stuck` is how the run ends where it is stuck
pub record Program : Type 0 where
  pub target : Target
  pub unit : TranslationUnit
  pub stuck : Halt

-- A report has no word of its own for a run that is stuck: this is how it is shown.
abbrev pub shown_as_stuck : Halt
shown_as_stuck = NoMeaning NoValue

abbrev pub program_of : TranslationUnit → Target → Program
program_of u t = record { target = t; unit = u; stuck = shown_as_stuck }

-- how a run ends in trouble
abbrev pub end_in : Program → Trouble → Halt
end_in p (Undefined reason) = NoMeaning reason
end_in p Stuck = p.stuck

-- ---- states

-- What a name of a function is: one holding a value, as const names and parameters do, or one naming an object of this type. That a
-- const name only holds a value is this project's choice: in C99 it is an object (6.7.3), whose address no unit of the subset takes.
pub data Slot : Type 0 where
  Holding : CValue → Slot
  Naming : (object : ℕ) → CBase → Slot

-- The names in scope in a function, the latest declaration first; behind all are the parameters in their order, of which no two share
-- a name (6.7). The objects of file scope stand in the unit.
abbrev pub Frame : Type 0
Frame = List (Name × Slot)

-- The frame of the function that runs and those of the functions that wait for it; and the objects, of which those of file scope come
-- first, in the order of the unit.
pub record CState : Type 0 where
  pub frames : Frames Frame
  pub objects : CObjects

-- between entry calls, where there are no objects
abbrev pub at_rest : CState
at_rest = record { frames = record { own = []; callers = [] }; objects = [] }

-- whether an object is still there (6.2.4)
abbrev pub lives : CState → ℕ → Bool
lives s o = is_live s.objects o

-- ---- what the outside sees

-- the scalars of an object, in order; each of an object of file scope has a value, so that what stands for a fault is never seen
abbrev pub shown : Result (List ℤ) Fault → List ℤ
shown (Ok values) = values
shown (Err fault) = []

module _ (t : Target) (structs : List CStruct) where
  abbrev pub cells_of : CState → ℕ → CBase → List ℤ
  cells_of s o b = shown (read_each (memory_of t).read s.objects o (lay (metric_of t) (tree structs b) 0))

  -- from number o on
  abbrev pub seen_from : CState → ℕ → List FileObject → List AreaCells
  seen_from s o [] = []
  seen_from s o (x ∷ xs) = record { name = outer_name x.name; cells = cells_of s o x.base } ∷ seen_from s (suc o) xs

-- the objects of file scope, in order, as the outside sees them
abbrev pub seen : Program → CState → List AreaCells
seen p s = seen_from p.target p.unit.structs s 0 p.unit.objects

-- ---- names and objects come and go

-- a declaration's name comes into scope (6.2.1)
abbrev pub with_name : Name → Slot → CState → CState
with_name x slot s = record s { frames = record s.frames { own = (x, slot) ∷ s.frames.own } }

-- every name that comes to hold a value by a declaration (6.7)
abbrev pub declare : Name → CValue → CState → CState
declare x v s = with_name x (Holding v) s

-- the name of the next object, whose type is of this base, once it is made
abbrev pub declare_object : Name → CBase → CObjects → CState → CState
declare_object x b made s = with_name x (Naming (length s.objects) b) (record s { objects = made })

-- a name and an object end with the block in which they were declared (6.2.1, 6.2.4)
abbrev pub leave : CState → CState → CState
leave before after = record {
  frames = record after.frames { own = before.frames.own };
  objects = blocks.leave (length before.objects) after.objects;
}

-- a function is entered with its parameters, and no name of its caller is in scope there
abbrev pub enter : Frame → CState → CState
enter params s = record s { frames = push_frame params s.frames }

-- and left for the nearest of those that wait
abbrev pub back : CState → CState
back s = record s { frames = pop_frame s.frames }

-- a part in a frame of its own, with its parameters
abbrev pub in_own_frame : {A : Type 0} → Frame → Part CState A → Part CState A
in_own_frame params part = in_frame (enter params) back part
