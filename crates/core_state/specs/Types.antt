-- What the code's types and values of areas say in the words of the meaning, by their own folds.
use Rattle.std.specs.Prelude.{ℕ, suc, ℤ, List, [], ◌∷◌}
use Rattle.type_trees.specs.Trees.{Leaf, Many, Struct, End, Field}
use Rattle.type_trees.specs.Values.{Value, Values, Cell, Parts, Nil, Cons}
use Rattle.area_types.specs.Trees as trees
use Rattle.area_types.specs.View.{type_of}
use Rattle.core_state.specs.declared.held.Held.{Held}
use Rattle.core_state.specs.declared.held.Held.TheOpen.{Held-F}
use Rattle.core_state.specs.declared.held.Held.TheFolds.{fold-Held}
use Rattle.core_state.specs.declared.written.Written.{Written}
use Rattle.core_state.specs.declared.written.Written.TheOpen.{Written-F}
use Rattle.core_state.specs.declared.written.Written.TheFolds.{fold-Written}

-- fields, numbered from i on
abbrev pub fields_from : ℕ → List trees.Written → trees.WrittenRow
fields_from i [] = End
fields_from i (a ∷ types) = Field i a (fields_from (suc i) types)

abbrev pub written_step : Written-F trees.Written → trees.Written
written_step (Written-F.Leaf held) = Leaf (type_of held)
written_step (Written-F.Many length element) = Many length element
written_step (Written-F.Struct number fields) = Struct number (fields_from 0 fields)

abbrev pub written_of : Written → trees.Written
written_of = fold-Written trees.Written written_step

abbrev pub row_of : List (Value ℤ) → Values ℤ
row_of [] = Nil
row_of (v ∷ vs) = Cons v (row_of vs)

abbrev pub held_step : Held-F (Value ℤ) → Value ℤ
held_step (Held-F.Cell v) = Cell v
held_step (Held-F.Parts parts) = Parts (row_of parts)

abbrev pub held_of : Held → Value ℤ
held_of = fold-Held (Value ℤ) held_step
