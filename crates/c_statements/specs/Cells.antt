-- The scalars behind the pointers through which the reply to a call writes, as one row.
use Rattle.std.specs.Prelude.{ℕ, ℤ, List, [], ◌∷◌, ◌++◌, map, true, false, Option, None, Result, Ok}
use Rattle.c_memory.specs.Access.{Fault, first_of, and_then}
use Rattle.c_ast.specs.declared.CScalar.{CScalar}
use Rattle.c_ast.specs.declared.CStruct.{CStruct}
use Rattle.c_ast.specs.declared.Target.{Target}
use Rattle.c_meaning.specs.Calls.{pointed}
use Rattle.c_meaning.specs.Memory.{CObjects, memory_of, answered}
use Rattle.c_memory.specs.Copies.{read_each}
use Rattle.c_ast.specs.declared.CBase.{CBase}
use Rattle.c_expressions.specs.Programs.{Parts}
use Rattle.c_meaning.specs.Values.{Trouble, Address, CValue, Num, Ptr}
use Rattle.c_statements.specs.declared.cells.Cell.{Cell}

abbrev pub cell_of : ℕ → ℕ × CScalar → Cell
cell_of o place = record { object = o; at = place.0; scalar = place.1 }

abbrev pub behind : Target → List CStruct → CValue → List Cell
behind t structs (Num kind v) = []
behind t structs (Ptr true b to) = []
behind t structs (Ptr false b to) = map (cell_of to.object) (pointed t structs b to)

abbrev pub all_behind : Target → List CStruct → List CValue → List Cell
all_behind t structs [] = []
all_behind t structs (v ∷ vs) = behind t structs v ++ all_behind t structs vs

-- why the first of those that are to be written, and may not be, may not
abbrev pub first_refusal : Target → CObjects → List Cell → List ℤ → Option Fault
first_refusal t objects [] vs = None
first_refusal t objects (c ∷ cs) [] = None
first_refusal t objects (c ∷ cs) (v ∷ vs) = first_of ((memory_of t).refuses objects c.object (c.at, c.scalar)) (first_refusal t objects cs vs)

-- the objects with these values in these scalars, one after another
abbrev pub written : Target → List Cell → List ℤ → CObjects → Result CObjects Fault
written t [] vs objects = Ok objects
written t (c ∷ cs) [] objects = Ok objects
written t (c ∷ cs) (v ∷ vs) objects = and_then ((memory_of t).write objects c.object (c.at, c.scalar) v) (written t cs vs)

-- the values behind a pointer, each of which must have one
abbrev pub values_behind : Parts → CObjects → CBase → Address → Result (List ℤ) Trouble
values_behind p objects b to = answered (read_each (memory_of p.target).read objects to.object (pointed p.target p.unit.structs b to))
