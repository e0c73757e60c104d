-- The first values of the cells of an area; without an initializer they are zero. Those of fields stand one after another.
use Rattle.std.specs.Prelude.{ℕ, ◌+◌, ℤ, List, [], ◌∷◌, ◌++◌, Option, Some, None}
use Rattle.type_trees.specs.Trees.{count}
use Rattle.area_types.specs.Syntax.{Field}
use Rattle.area_types.specs.Trees.{Written, tree_of}
use Rattle.core_tree.specs.Syntax.{InitCore, InitsCore, NoInits, MoreInits}
use Rattle.typing_rules.specs.Initializers.{cell_values, zeros}

abbrev pub values_of : Written → Option InitCore → List ℤ
values_of area None = zeros (count area)
values_of area (Some init) = cell_values area init

-- ---- of fields, over the trees of the structs before

abbrev pub count_fields : List Written → List Field → ℕ
count_fields trees [] = 0
count_fields trees (f ∷ fs) = count (tree_of trees f.area) + count_fields trees fs

abbrev pub values_of_fields : List Written → List Field → InitsCore → List ℤ
values_of_fields trees fs NoInits = zeros (count_fields trees fs)
values_of_fields trees [] (MoreInits c cs) = []
values_of_fields trees (f ∷ fs) (MoreInits c cs) = cell_values (tree_of trees f.area) c ++ values_of_fields trees fs cs
