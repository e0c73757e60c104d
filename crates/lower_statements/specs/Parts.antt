-- A copy, one assignment for each scalar: a struct field by field, after a step of its own, and an array by a loop over its elements.
use Rattle.std.specs.Prelude.{ℕ, suc, [], ◌∷◌, slice_get}
use Rattle.type_trees.specs.Trees.{Leaf, Many, Struct, End, Field}
use Rattle.area_types.specs.Trees.{Written, WrittenRow}
use Rattle.c_ast.specs.Syntax.{Read, Place, Var, Member, Element, Assign}
use Rattle.lower_types.specs.Names.{elements_name, local_name}
use Rattle.lower_values.specs.Frames.{Frame}
use Rattle.lower_values.specs.Pieces.{pad}
use Rattle.lower_values.specs.Expressions.{field_name, fields_of}
use Rattle.lower_statements.specs.Bodies.{Body, nothing, followed_by, around}
use Rattle.lower_statements.specs.Loops.{counting_up}

-- the field of that number of a struct
abbrev pub numbered_field : Frame → (structure field : ℕ) → Place → Place
numbered_field f k i p = Member p (field_name (slice_get (fields_of (slice_get f.table.structs k)) i))

abbrev pub at_counter : ℕ → Place → Place
at_counter k p = Element (Member p elements_name) (Read (Var (local_name k)))

module _ (f : Frame) where
  abbrev mutual
    pub copied : Written → (to from : Place) → ℕ → Body
    copied (Leaf held) to from k = record { stmts = Assign to (Read from) ∷ []; next = k }
    copied (Many n a) to from k = around (counting_up (local_name k) n) (copied a (at_counter k to) (at_counter k from) (suc k))
    copied (Struct s fields) to from k = around (λ ss. pad ∷ ss) (copied_fields fields s to from k)

    pub copied_fields : WrittenRow → (structure : ℕ) → (to from : Place) → ℕ → Body
    copied_fields End s to from k = nothing k
    copied_fields (Field i a fields) s to from k =
        followed_by (copied a (numbered_field f s i to) (numbered_field f s i from) k) (copied_fields fields s to from)
