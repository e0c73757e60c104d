-- The numbers of temporaries only grow.
use Rattle.std.proofs.Common.{ℕ, ◌≤◌, Bool, true, false, Option, Some, None, arith}
use Rattle.std.specs.Prelude.{if◌then◌else◌, ◌&&◌}
use Rattle.iv_words.specs.declared.IntKind.{IntKind}
use Rattle.bit_data.specs.declared.BitLayout.{BitLayout}
use Rattle.int_ops.specs.declared.Op.{Op}
use Rattle.ivory_tree.specs.declared.BinOp.{BinOp}
use Rattle.ivory_tree.specs.declared.PrefixOp.{PrefixOp}
use Rattle.ivory_tree.specs.declared.PrefixOp.TheVariants.{Neg, Not, Flip, Deref}
use Rattle.area_types.specs.Syntax.{ValueType, Truth, Int, Ix, Bits, Ref}
use Rattle.core_tree.specs.Syntax.{Label, ExprCore, Number, Outcome, Local, AreaName, Cast, ToIndex, WrapIndex, MakeBits, Raw, SetField, Prefix, Binary, Field, Element, Cond, Whole, type_of}
use Rattle.core_meaning.specs.Answers.{operator_of, layout_of}
use Rattle.c_ast.specs.declared.CType.{CType}
use Rattle.lower_values.specs.Frames.{Frame, kind_in, type_in}
use Rattle.lower_values.specs.Pieces.{Piece, PlacePiece, Operands, inline, named, atom, once, often, taken, is_exact, has_number, is_read, stays}
use Rattle.lower_values.specs.Operators.{applied, operand}
use Rattle.lower_values.specs.Conversions.{set_in, is_signed_type}
use Rattle.lower_values.specs.Tests.{has_checks}
use Rattle.lower_values.specs.Choices.{is_logic, is_truth_chain, left_object}
use Rattle.lower_values.specs.Expressions.{raw, place, index_piece, left_piece, binary_piece, prefixed, field_piece, after_object}

-- ---- how a piece is taken

pub either_grows : (b : Bool) (p q : Piece) (k : ℕ) → k ≤ p.next → k ≤ q.next → k ≤ (if b then p else q).next
either_grows true p q k h g = h
either_grows false p q k h g = g

module _ (ty : CType) (p : Piece) (k : ℕ) (le : k ≤ p.next) where
  named_grows : k ≤ (named ty p).next
  named_grows = omega (arith, le)

  once_grows : k ≤ (once ty p).next
  once_grows = either_grows (is_exact p.standing && is_read p.value) (inline p) (named ty p) k le named_grows

  often_grows : k ≤ (often ty p).next
  often_grows = either_grows (is_exact p.standing && stays p) p (named ty p) k le named_grows

  pub atom_grows : k ≤ (atom ty p).next
  atom_grows = either_grows (has_number p.standing && stays p) p (named ty p) k le named_grows

  taken_grows : (again : Bool) → k ≤ (taken again ty p).next
  taken_grows true = often_grows
  taken_grows false = once_grows

-- ---- forms

applied_grows : (f : Frame) (kind : Option IntKind) (o : Op) (l : Label) (ops : Operands) (k : ℕ) → k ≤ ops.next → k ≤ (applied f kind o l ops).next
applied_grows f None o l ops k le = le
applied_grows f (Some kind) o l ops k le = le

set_grows : (f : Frame) (l : Label) (layout : Option BitLayout) (word : Option IntKind) (field : ℕ) (ops : Operands) (k : ℕ) → k ≤ ops.next → k ≤ (set_in f l layout word field ops).next
set_grows f l None word field ops k le = le
set_grows f l (Some layout) word field ops k le = le

pub object_grows : (f : Frame) (chain : Bool) (p : Piece) (k : ℕ) → k ≤ p.next → k ≤ (left_object f chain p).next
object_grows f true p k le = le
object_grows f false p k le = omega (arith, le)

operand_grows : (f : Frame) (l : Label) (ty : ValueType) (p : Piece) (k : ℕ) → k ≤ p.next → k ≤ (operand f l ty p).next
operand_grows f l ty p k le = taken_grows (type_in f ty) p k le (has_checks l)

left_grows : (f : Frame) (o : BinOp) (l : Label) (left : ExprCore) (p : Piece) (k : ℕ) → k ≤ p.next → k ≤ (left_piece f o l left p).next
left_grows f o l left p k le =
    either_grows (is_logic o) (left_object f (is_truth_chain left) p) (operand f l (type_of left) p) k (object_grows f (is_truth_chain left) p k le) (operand_grows f l (type_of left) p k le)

binary_grows : (f : Frame) (o : BinOp) (l : Label) (ty : ValueType) (p q : Piece) (k : ℕ) → k ≤ q.next → k ≤ (binary_piece f o l ty p q).next
binary_grows f o l ty p q k le =
    either_grows (is_logic o) _ _ k le (applied_grows f (kind_in f ty) (operator_of o) l _ k (operand_grows f l ty q k le))

prefixed_grows : (f : Frame) (o : PrefixOp) (l : Label) (from : ValueType) (p : Piece) (q : PlacePiece) (k : ℕ) → k ≤ p.next → k ≤ q.next → k ≤ (prefixed f o l from p q).next
prefixed_grows f Neg l from p q k le more = applied_grows f (kind_in f from) _ l _ k (operand_grows f l from p k le)
prefixed_grows f Not l from p q k le more = once_grows (type_in f Truth) p k le
prefixed_grows f Flip l from p q k le more = applied_grows f (kind_in f from) _ l _ k (operand_grows f l from p k le)
prefixed_grows f Deref l from p q k le more = more

field_grows : (f : Frame) (from : ValueType) (field : ℕ) (p : Piece) (q : PlacePiece) (k : ℕ) → k ≤ p.next → k ≤ q.next → k ≤ (field_piece f from field p q).next
field_grows f Truth field p q k le more = once_grows (type_in f Truth) p k le
field_grows f (Int kind) field p q k le more = once_grows (type_in f (Int kind)) p k le
field_grows f (Ix n) field p q k le more = once_grows (type_in f (Ix n)) p k le
field_grows f (Bits b) field p q k le more = once_grows (type_in f (Bits b)) p k le
field_grows f (Ref constant region target) field p q k le more = more

at_most : (i j k : ℕ) → i ≤ j → j ≤ k → i ≤ k
at_most i j k h g = omega (arith, h, g)

-- ---- expressions

module _ (f : Frame) where
  mutual
    pub raw_grows : (e : ExprCore) (k : ℕ) → k ≤ (raw f e k).next
    raw_grows (Number l v) k = omega arith
    raw_grows (Outcome l) k = omega arith
    raw_grows (Local l x) k = omega arith
    raw_grows (AreaName l x) k = omega arith
    raw_grows (Cast l e) k = operand_grows f l (type_of e) (raw f e k) k (raw_grows e k)
    raw_grows (ToIndex l e) k = operand_grows f l (type_of e) (raw f e k) k (raw_grows e k)
    raw_grows (WrapIndex l e) k = taken_grows (type_in f (type_of e)) (raw f e k) k (raw_grows e k) (is_signed_type (kind_in f (type_of e)))
    raw_grows (MakeBits l e) k = once_grows (type_in f (type_of e)) (raw f e k) k (raw_grows e k)
    raw_grows (Raw l e) k = once_grows (type_in f (type_of e)) (raw f e k) k (raw_grows e k)
    raw_grows (SetField l e field x) k =
        let p : Piece = once (type_in f (type_of e)) (raw f e k) in
        set_grows f l (layout_of f.core (type_of e)) (kind_in f (type_of e)) field _ k
        (operand_grows f l (type_of x) (raw f x p.next) k (at_most k p.next (raw f x p.next).next (once_grows (type_in f (type_of e)) (raw f e k) k (raw_grows e k)) (raw_grows x p.next)))
    raw_grows (Prefix l o e) k = prefixed_grows f o l (type_of e) (raw f e k) (place f e k) k (raw_grows e k) (place_grows e k)
    raw_grows (Binary l o left right) k =
        let p : Piece = left_piece f o l left (raw f left k) in
        binary_grows f o l (type_of left) p (raw f right p.next) k
        (at_most k p.next (raw f right p.next).next (left_grows f o l left (raw f left k) k (raw_grows left k)) (raw_grows right p.next))
    raw_grows (Field l e field) k = field_grows f (type_of e) field (raw f e k) (place f e k) k (raw_grows e k) (place_grows e k)
    raw_grows (Element l e i) k =
        let p : PlacePiece = place f e k in
        at_most k p.next (index_piece f (type_of i) (raw f i p.next)).next (place_grows e k) (atom_grows (type_in f (type_of i)) (raw f i p.next) p.next (raw_grows i p.next))
    raw_grows (Cond l test first second) k =
        let j : ℕ = after_object (inline (raw f test k)) in
        let p : Piece = raw f first j in
        let t : k ≤ (raw f test k).next = raw_grows test k in
        let a : j ≤ p.next = raw_grows first j in
        at_most k p.next (raw f second p.next).next (at_most k j p.next (omega (arith, t)) a) (raw_grows second p.next)
    raw_grows (Whole l e) k = raw_grows e k

    pub place_grows : (e : ExprCore) (k : ℕ) → k ≤ (place f e k).next
    place_grows (Local l x) k = omega arith
    place_grows (AreaName l x) k = omega arith
    place_grows (Outcome l) k = omega arith
    place_grows (Field l e field) k = place_grows e k
    place_grows (Element l e i) k =
        let p : PlacePiece = place f e k in
        at_most k p.next (index_piece f (type_of i) (raw f i p.next)).next (place_grows e k) (atom_grows (type_in f (type_of i)) (raw f i p.next) p.next (raw_grows i p.next))
    place_grows (Whole l e) k = place_grows e k
    place_grows (Number l v) k = omega arith
    place_grows (Cast l e) k = omega arith
    place_grows (ToIndex l e) k = omega arith
    place_grows (WrapIndex l e) k = omega arith
    place_grows (MakeBits l e) k = omega arith
    place_grows (Raw l e) k = omega arith
    place_grows (SetField l e field x) k = omega arith
    place_grows (Prefix l o e) k = omega arith
    place_grows (Binary l o left right) k = omega arith
    place_grows (Cond l test first second) k = omega arith
