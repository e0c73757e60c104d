-- The C of an expression and of a reference, operands from left to right and each check before its operation. `k` is the number of the
-- next temporary.
use Rattle.std.specs.Prelude.{ℕ, suc, ℤ, pos, negsuc, true, false, if◌then◌else◌, List, [], ◌∷◌, ◌++◌, slice_get, Option, Some, None}
use Rattle.iv_words.specs.declared.IntKind.{IntKind}
use Rattle.int_ops.specs.declared.Op.TheVariants as op
use Rattle.ivory_tree.specs.declared.BinOp.{BinOp}
use Rattle.ivory_tree.specs.declared.PrefixOp.{PrefixOp}
use Rattle.ivory_tree.specs.declared.PrefixOp.TheVariants.{Neg, Not, Flip, Deref}
use Rattle.area_types.specs.Syntax.{ValueType, Truth, Ref, Struct, Field as FieldType, StructType}
use Rattle.core_tree.specs.Syntax.{Label, ExprCore, Number, Outcome, Local, AreaName, Cast, ToIndex, WrapIndex, MakeBits, Raw, SetField, Prefix, Binary, Field, Element, Cond, Whole, AreaCore, type_of}
use Rattle.core_meaning.specs.Answers.{operator_of}
use Rattle.c_ast.specs.declared.CUnary.TheVariants as unary
use Rattle.c_ast.specs.Syntax as c
use Rattle.c_ast.specs.Syntax.{Name, Expr, Place, Var, At, Member}
use Rattle.lower_types.specs.Names.{item_name, elements_name}
use Rattle.lower_types.specs.Constants.{constant, negative}
use Rattle.overflow_checks.specs.Parts.{cast_to}
use Rattle.lower_values.specs.Frames.{Frame, is_object, name_of, kind_in, type_in}
use Rattle.lower_values.specs.Pieces.{Piece, PlacePiece, Exact, Same, pad, inline, atom, once}
use Rattle.lower_values.specs.Operators.{operand, binary, prefix}
use Rattle.lower_values.specs.Conversions.{converted, wrapped, kept, bit_field, field_set}
use Rattle.lower_values.specs.Choices.{is_logic, is_truth_chain, left_object, logic, choice}

-- ---- numbers and names

-- a negative number as a value of its kind
abbrev pub cast_of : Option IntKind → Expr → Expr
cast_of None e = e
cast_of (Some kind) e = cast_to kind e

abbrev pub literal : Option IntKind → ℤ → Expr
literal kind (pos n) = constant n
literal kind (negsuc n) = cast_of kind (negative (suc n))

abbrev pub value_piece : Expr → ℕ → Piece
value_piece e k = record { before = []; value = e; owed = false; standing = Exact; next = k }

abbrev pub place_piece : Place → ℕ → PlacePiece
place_piece place k = record { before = []; place = place; next = k }

abbrev pub name_or_empty : Option AreaCore → Name
name_or_empty None = []
name_or_empty (Some a) = item_name a.name

abbrev pub area_place : Frame → ℕ → Place
area_place f x = Var (name_or_empty (slice_get f.core.areas x))

abbrev pub local_place : Frame → ℕ → Place
local_place f x = if is_object f x then Var (name_of f x) else At (c.Read (Var (name_of f x)))

-- ---- references

-- the reference to a place: `NAME` for what the pointer NAME leads to
abbrev pub reference_to : Place → Expr
reference_to (At e) = e
reference_to place = c.Address place

abbrev pub reference : PlacePiece → Piece
reference p = record { before = p.before; value = reference_to p.place; owed = false; standing = Exact; next = p.next }

-- what the local of that number gives: its value, or the address of its object
abbrev pub local_value : Frame → ℕ → Expr
local_value f x = if is_object f x then c.Address (Var (name_of f x)) else c.Read (Var (name_of f x))

abbrev pub read_of : PlacePiece → Piece
read_of p = record { before = p.before; value = c.Read p.place; owed = true; standing = Exact; next = p.next }

abbrev pub field_name : Option FieldType → Name
field_name None = []
field_name (Some member) = item_name member.name

abbrev pub fields_of : Option StructType → List FieldType
fields_of None = []
fields_of (Some s) = s.fields

abbrev pub field_in : Frame → ValueType → ℕ → Name
field_in f (Ref constant region (Struct k)) field = field_name (slice_get (fields_of (slice_get f.table.structs k)) field)
field_in f _ field = []

abbrev pub member_of : Frame → ValueType → ℕ → PlacePiece → PlacePiece
member_of f from field p = record p { before = p.before ++ pad ∷ []; place = Member p.place (field_in f from field) }

-- an element of the array type's one member
abbrev pub element_at : PlacePiece → Piece → PlacePiece
element_at p i = record { before = p.before ++ (i.before ++ pad ∷ []); place = c.Element (Member p.place elements_name) i.value; next = i.next }

-- a field of bit data, or of the struct behind a reference
abbrev pub field_piece : Frame → ValueType → ℕ → Piece → PlacePiece → Piece
field_piece f (Ref constant region target) field p q = reference (member_of f (Ref constant region target) field q)
field_piece f from field p q = bit_field f from field p

-- ---- prefixes

abbrev pub negated : Frame → Piece → Piece
negated f p =
    let q = once (type_in f Truth) p in
    record q { value = c.Unary unary.Not q.value; owed = true; standing = Same }

abbrev pub prefixed : Frame → PrefixOp → Label → ValueType → Piece → PlacePiece → Piece
prefixed f Neg l from p q = prefix f op.Neg l from p
prefixed f Not l from p q = negated f p
prefixed f Flip l from p q = prefix f op.Not l from p
prefixed f Deref l from p q = read_of q

-- ---- operators

-- the left operand as it stands before the right one
abbrev pub left_piece : Frame → BinOp → Label → (left : ExprCore) → Piece → Piece
left_piece f o l left p = if is_logic o then left_object f (is_truth_chain left) p else operand f l (type_of left) p

abbrev pub binary_piece : Frame → BinOp → Label → ValueType → (left right : Piece) → Piece
binary_piece f o l from p q = if is_logic o then logic o p q else binary f (operator_of o) l from p q

abbrev pub index_piece : Frame → ValueType → Piece → Piece
index_piece f ty p = atom (type_in f ty) p

abbrev pub after_object : Piece → ℕ
after_object test = suc test.next

module _ (f : Frame) where
  abbrev mutual
    pub raw : ExprCore → ℕ → Piece
    raw (Number l v) k = value_piece (literal (kind_in f l.ty) v) k
    raw (Outcome l) k = value_piece f.outcome k
    raw (Local l x) k = value_piece (local_value f x) k
    raw (AreaName l x) k = value_piece (c.Address (area_place f x)) k
    raw (Cast l e) k = converted f l (type_of e) (raw e k)
    raw (ToIndex l e) k = converted f l (type_of e) (raw e k)
    raw (WrapIndex l e) k = wrapped f l.ty (type_of e) (raw e k)
    raw (MakeBits l e) k = kept f (type_of e) (raw e k)
    raw (Raw l e) k = kept f (type_of e) (raw e k)
    raw (SetField l e field x) k =
        let p = once (type_in f (type_of e)) (raw e k) in
        field_set f l (type_of e) (type_of x) field p (raw x p.next)
    raw (Prefix l o e) k = prefixed f o l (type_of e) (raw e k) (place e k)
    raw (Binary l o left right) k =
        let p = left_piece f o l left (raw left k) in
        binary_piece f o l (type_of left) p (raw right p.next)
    raw (Field l e field) k = field_piece f (type_of e) field (raw e k) (place e k)
    raw (Element l e i) k = let p = place e k in reference (element_at p (index_piece f (type_of i) (raw i p.next)))
    raw (Cond l test first second) k =
        let t = inline (raw test k) in
        let p = raw first (after_object t) in
        choice f l.ty t p (raw second p.next)
    raw (Whole l e) k = raw e k

    -- where a reference leads
    pub place : ExprCore → ℕ → PlacePiece
    place (Local l x) k = place_piece (local_place f x) k
    place (AreaName l x) k = place_piece (area_place f x) k
    place (Outcome l) k = place_piece (At f.outcome) k
    place (Field l e field) k = member_of f (type_of e) field (place e k)
    place (Element l e i) k = let p = place e k in element_at p (index_piece f (type_of i) (raw i p.next))
    place (Whole l e) k = place e k
    place _ k = place_piece (Var []) k

  -- an expression for a statement that pays a step of its own
  abbrev pub value_of : ExprCore → ℕ → Piece
  value_of e k = inline (raw e k)
