-- The types of the parts that braces give values to, and the values of parts as a row.
use Rattle.std.specs.Prelude.{◌≡◌, ℤ, List, [], ◌∷◌, ◌++◌, map, Option, Some, None}
use Rattle.type_trees.specs.Trees.{Leaf, Many, Struct, repeated}
use Rattle.type_trees.specs.Values as tree
use Rattle.type_trees.specs.Values.{Cell}
use Rattle.area_types.specs.Trees as trees
use Rattle.step_semantics.specs.Steps.{Part, give, bind}
use Rattle.core_tree.specs.Syntax.{ModuleCore, ExprCore}
use Rattle.core_meaning.specs.Areas as areas
use Rattle.core_meaning.specs.Areas.{filled}
use Rattle.core_meaning.specs.Checks.{on_number}
use Rattle.core_meaning.specs.Expressions.{eval}
use Rattle.core_meaning.specs.Initializers.{part_types}
use Rattle.core_meaning.specs.State.{State}
use Rattle.core_state.specs.Types.{written_of, held_of, row_of}
use Rattle.core_state.specs.declared.Held.{Held}
use Rattle.core_statements.specs.declared.initial.Types.{Types}
use Rattle.core_statements.specs.declared.initial.Types.TheVariants.{Elements, Fields}

abbrev pub types_of : Types → List trees.Written
types_of (Elements length element) = repeated length (written_of element.now ∷ [])
types_of (Fields fields) = map written_of fields.now

-- a leaf has no parts
abbrev pub TypesIn : Option (List trees.Written) → trees.Written → Type 0
TypesIn types (Leaf t) = types ≡ None
TypesIn types (Many n a) = types ≡ Some (part_types (Many n a))
TypesIn types (Struct k fields) = types ≡ Some (part_types (Struct k fields))

abbrev pub parts_of : List Held → tree.Values ℤ
parts_of parts = row_of (map held_of parts)

abbrev pub zero_held : trees.Written → areas.Held
zero_held a = filled a []

-- zeros come behind the values that are there, where the type has a part at the place
abbrev pub ZeroAdded : Option trees.Written → (old new : List areas.Held) → Type 0
ZeroAdded None old new = new ≡ old
ZeroAdded (Some a) old new = new ≡ old ++ zero_held a ∷ []

-- the value of an expression in a cell
abbrev pub cell_part : ModuleCore → ExprCore → Part State areas.Held
cell_part core e = bind (eval core None e) (λ x. on_number core x (λ v. give (Cell v)))
