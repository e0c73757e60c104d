-- What a name stands for, of which its place and its static type are told.
use Rattle.std.specs.Prelude.{ℕ, suc, Bool, false, List, [], ◌∷◌, Option, Some, None, if◌then◌else◌, Result, Ok, Err}
use Rattle.iv_words.specs.Words.{same_word}
use Rattle.c_ast.specs.declared.CBase.{CBase}
use Rattle.c_ast.specs.declared.CStruct.{CStruct}
use Rattle.c_ast.specs.Names.{named}
use Rattle.c_ast.specs.StaticTypes.{Entity, ConstName, ObjectName}
use Rattle.c_ast.specs.Syntax.{Name, FileObject}
use Rattle.c_meaning.specs.Values.{Trouble, Stuck, CValue, held_type}
use Rattle.c_meaning.specs.State.{Program, CState, Slot, Holding, Naming}
use Rattle.c_meaning.specs.Places as places
use Rattle.c_meaning.specs.Places.{object_of}
use Rattle.c_objects.specs.Shapes.{base_of}
use Rattle.c_operators.specs.Values.{value_of}
use Rattle.c_expressions.specs.State.{own_of}
use Rattle.c_expressions.specs.declared.names.Meant.{Meant}
use Rattle.c_expressions.specs.declared.names.Meant.TheVariants as meant

-- nothing, a value that is held for good, or an object
pub data Meaning : Type 0 where
  Nothing : Meaning
  OfValue : CValue → Meaning
  OfObject : (constant : Bool) → ℕ → CBase → Meaning

abbrev pub meant_of : Meant → Meaning
meant_of meant.Nothing = Nothing
meant_of (meant.Value v) = OfValue (value_of v)
meant_of (meant.Object constant o b) = OfObject constant o (base_of b)

abbrev pub in_slot : Slot → Meaning
in_slot (Holding v) = OfValue v
in_slot (Naming o b) = OfObject false o b

-- among the objects of file scope, from number o on
abbrev pub in_file : ℕ → List FileObject → Name → Meaning
in_file o [] x = Nothing
in_file o (f ∷ fs) x = if same_word f.name x then OfObject f.constant o f.base else in_file (suc o) fs x

abbrev pub or_outer : Option Slot → Meaning → Meaning
or_outer (Some slot) outer = in_slot slot
or_outer None outer = outer

abbrev pub meaning_of : Program → CState → Name → Meaning
meaning_of p s x = or_outer (named (own_of s) x) (in_file 0 p.unit.objects x)

-- ---- what is told of it

abbrev pub place_of : List CStruct → Meaning → Result places.Lvalue Trouble
place_of structs Nothing = Err Stuck
place_of structs (OfValue v) = Ok (places.Known v)
place_of structs (OfObject constant o b) = Ok (object_of structs constant o b)

abbrev pub entity_of : Meaning → Option Entity
entity_of Nothing = None
entity_of (OfValue v) = Some (ConstName (held_type v))
entity_of (OfObject constant o b) = Some (ObjectName constant b)
