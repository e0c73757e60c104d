-- The initializer of an `alloc`: its expressions in order, and then the object. Braces are those of first values: each field of a struct,
-- and the elements that are given, at least one.
use Rattle.std.specs.Prelude.{ℕ, List, [], ◌∷◌, ◌++◌, Option, Some, None}
use Rattle.type_trees.specs.Trees.{Leaf, Many as Repeated, Struct}
use Rattle.area_types.specs.Trees.{Written}
use Rattle.core_tree.specs.Syntax as core
use Rattle.core_tree.specs.Syntax.{InitCore, InitsCore}
use Rattle.core_meaning.specs.Initializers.{part_types}
use Rattle.c_ast.specs.Syntax.{Stmt, Init, One, Inits, NoInits, MoreInits}
use Rattle.lower_types.specs.Initializers.{braced, braced_array, zero_init, zero_part}
use Rattle.lower_values.specs.Frames.{Frame}
use Rattle.lower_values.specs.Pieces.{Piece}
use Rattle.lower_values.specs.Expressions.{value_of}

pub record InitPiece : Type 0 where
  pub before : List Stmt
  pub init : Init
  pub next : ℕ

pub record InitsPiece : Type 0 where
  pub before : List Stmt
  pub inits : Inits
  pub next : ℕ

abbrev pub one_piece : Piece → InitPiece
one_piece p = record { before = p.before; init = One p.value; next = p.next }

-- the fields that are left, which are zero
abbrev pub zero_fields : List Written → Inits
zero_fields [] = NoInits
zero_fields (a ∷ types) = MoreInits (zero_part a) (zero_fields types)

-- an array without an element that is given has one
abbrev pub some_element : Written → Inits → Inits
some_element a NoInits = MoreInits (zero_part a) NoInits
some_element a (MoreInits i is) = MoreInits i is

abbrev pub bracing : Written → Inits → Init
bracing (Leaf held) is = braced is
bracing (Repeated n a) is = braced_array (some_element a is)
bracing (Struct k fields) is = braced is

abbrev pub in_braces : Written → InitsPiece → InitPiece
in_braces ty p = record { before = p.before; init = bracing ty p.inits; next = p.next }

-- what is written for parts that have no initializer: nothing in an array, and zeros in a struct
abbrev pub rest_of : Written → List Written → Inits
rest_of (Struct k fields) types = zero_fields types
rest_of ty types = NoInits

abbrev pub join_inits : InitPiece → InitsPiece → InitsPiece
join_inits p q = record { before = p.before ++ q.before; inits = MoreInits p.init q.inits; next = q.next }

module _ (f : Frame) where
  abbrev mutual
    pub init_piece : InitCore → Written → ℕ → InitPiece
    init_piece (core.One e) ty k = one_piece (value_of f e k)
    init_piece (core.Many is) ty k = in_braces ty (inits_piece is (rest_of ty) (part_types ty) k)

    pub inits_piece : InitsCore → (List Written → Inits) → List Written → ℕ → InitsPiece
    inits_piece core.NoInits rest types k = record { before = []; inits = rest types; next = k }
    inits_piece (core.MoreInits i is) rest [] k = record { before = []; inits = NoInits; next = k }
    inits_piece (core.MoreInits i is) rest (ty ∷ types) k =
        let p = init_piece i ty k in
        join_inits p (inits_piece is rest types p.next)

  abbrev pub local_init : Option InitCore → Written → ℕ → InitPiece
  local_init None ty k = record { before = []; init = zero_init ty; next = k }
  local_init (Some i) ty k = init_piece i ty k
