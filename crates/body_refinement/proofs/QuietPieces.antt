-- The statements before an expression declare and assign temporaries, choose, and stop at a check; they call nothing else.
use Rattle.std.proofs.Common.{ℕ, Bool, true, false, List, [], ◌∷◌, ◌++◌, Option, Some, None, refl}
use Rattle.std.specs.Prelude.{if◌then◌else◌, ◌&&◌}
use Rattle.iv_words.specs.declared.IntKind.{IntKind}
use Rattle.bit_data.specs.declared.BitLayout.{BitLayout}
use Rattle.int_ops.specs.declared.Op.{Op}
use Rattle.int_ops.specs.declared.Op.TheVariants as op
use Rattle.ivory_tree.specs.declared.BinOp.{BinOp}
use Rattle.ivory_tree.specs.declared.PrefixOp.{PrefixOp}
use Rattle.ivory_tree.specs.declared.PrefixOp.TheVariants.{Neg, Not, Flip, Deref}
use Rattle.area_types.specs.Syntax.{ValueType, Truth, Int, Ix, Bits, Ref}
use Rattle.core_tree.specs.declared.Check.{Check}
use Rattle.core_tree.specs.declared.SiteKind.{SiteKind}
use Rattle.core_tree.specs.Syntax.{Label, ExprCore, Number, Outcome, Local, AreaName, Cast, ToIndex, WrapIndex, MakeBits, Raw, SetField, Prefix, Binary, Field, Element, Cond, Whole, type_of}
use Rattle.core_meaning.specs.Answers.{operator_of, layout_of}
use Rattle.c_ast.specs.declared.CType.{CType}
use Rattle.c_ast.specs.Syntax.{Expr, Place, Stmt, Const, Object, Assign, If, IfElse}
use Rattle.c_ast.specs.View.{stmts_from}
use Rattle.lower_values.specs.Choices.{is_logic, is_truth_chain, left_object, into, choice}
use Rattle.lower_values.specs.Conversions.{range_guard, valued, converted, set_in, is_signed_type}
use Rattle.lower_values.specs.Expressions.{raw, place, index_piece, left_piece, binary_piece, prefixed, field_piece, after_object}
use Rattle.lower_values.specs.Frames.{Frame, kind_in, type_in}
use Rattle.lower_values.specs.Operators.{applied, operand}
use Rattle.lower_values.specs.Pieces.{Piece, PlacePiece, Operands, pad, paid, inline, named, once, often, atom, taken, is_exact, is_read, has_number, stays}
use Rattle.lower_values.specs.Tests.{test, test_for, tests, has_checks}
use Rattle.body_refinement.proofs.Declaring.{Quiet, QuietRow, quiet_rows}

abbrev pub QuietPiece : Piece → Type 0
QuietPiece p = QuietRow p.before

-- ---- how a piece is taken

quiet_paid : (b : Bool) → QuietRow (paid b)
quiet_paid true = (tt, tt)
quiet_paid false = tt

either_quiet : (b : Bool) (p q : Piece) → QuietPiece p → QuietPiece q → QuietPiece (if b then p else q)
either_quiet true p q h g = h
either_quiet false p q h g = g

module _ (ty : CType) (p : Piece) (h : QuietPiece p) where
  named_quiet : QuietPiece (named ty p)
  named_quiet = quiet_rows p.before (Const _ ty p.value ∷ []) h (tt, tt)

  inline_quiet : QuietPiece (inline p)
  inline_quiet = quiet_rows p.before (paid p.owed) h (quiet_paid p.owed)

  once_quiet : QuietPiece (once ty p)
  once_quiet = either_quiet (is_exact p.standing && is_read p.value) (inline p) (named ty p) inline_quiet named_quiet

  often_quiet : QuietPiece (often ty p)
  often_quiet = either_quiet (is_exact p.standing && stays p) p (named ty p) h named_quiet

  atom_quiet : QuietPiece (atom ty p)
  atom_quiet = either_quiet (has_number p.standing && stays p) p (named ty p) h named_quiet

  taken_quiet : (again : Bool) → QuietPiece (taken again ty p)
  taken_quiet true = often_quiet
  taken_quiet false = once_quiet

-- ---- tests

test_quiet : (guard : Expr) (site : ℕ) (b : Bool) → Quiet (if b then pad else test_for guard site)
test_quiet guard site true = tt
test_quiet guard site false = (refl, tt)

tests_quiet : (f : Frame) (guard : SiteKind → Expr) (settled : SiteKind → Bool) (cs : List Check) → QuietRow (tests f guard settled cs)
tests_quiet f guard settled [] = tt
tests_quiet f guard settled (c ∷ cs) = go (settled c.kind) (tests_quiet f guard settled cs) where
  go : (b : Bool) → QuietRow (tests f guard settled cs) → QuietRow (if b then tests f guard settled cs else test f (guard c.kind) c ∷ tests f guard settled cs)
  go true h = h
  go false h = (test_quiet (guard c.kind) c.site (f.skip c.site), h)

-- ---- forms

applied_quiet : (f : Frame) (kind : Option IntKind) (o : Op) (l : Label) (at : Operands) → QuietRow at.before → QuietPiece (applied f kind o l at)
applied_quiet f None o l at h = h
applied_quiet f (Some kind) o l at h = quiet_rows at.before (tests f _ _ l.checks) h (tests_quiet f _ _ l.checks)

set_quiet : (f : Frame) (l : Label) (layout : Option BitLayout) (word : Option IntKind) (field : ℕ) (at : Operands) → QuietRow at.before → QuietPiece (set_in f l layout word field at)
set_quiet f l None word field at h = quiet_rows at.before [] h tt
set_quiet f l (Some layout) word field at h = quiet_rows at.before (tests f _ _ l.checks) h (tests_quiet f _ _ l.checks)

operand_quiet : (f : Frame) (l : Label) (ty : ValueType) (p : Piece) → QuietPiece p → QuietPiece (operand f l ty p)
operand_quiet f l ty p h = taken_quiet (type_in f ty) p h (has_checks l)

converted_quiet : (f : Frame) (l : Label) (from : ValueType) (p : Piece) → QuietPiece p → QuietPiece (converted f l from p)
converted_quiet f l from p h =
    let guard : SiteKind → Expr = (λ which. range_guard f from l.ty (valued (kind_in f from) (operand f l from p).value)) in
    quiet_rows (operand f l from p).before (tests f guard (λ which. false) l.checks) (operand_quiet f l from p h) (tests_quiet f guard (λ which. false) l.checks)

into_quiet : (to : Place) (p : Piece) → QuietPiece p → QuietRow (into to p)
into_quiet to p h = quiet_rows p.before (Assign to p.value ∷ []) h (tt, tt)

object_quiet : (f : Frame) (chain : Bool) (p : Piece) → QuietPiece p → QuietPiece (left_object f chain p)
object_quiet f true p h = h
object_quiet f false p h = quiet_rows p.before (Object _ _ _ ∷ []) h (tt, tt)

left_quiet : (f : Frame) (o : BinOp) (l : Label) (left : ExprCore) (p : Piece) → QuietPiece p → QuietPiece (left_piece f o l left p)
left_quiet f o l left p h = either_quiet (is_logic o) (left_object f (is_truth_chain left) p) (operand f l (type_of left) p) (object_quiet f (is_truth_chain left) p h) (operand_quiet f l (type_of left) p h)

binary_quiet : (f : Frame) (o : BinOp) (l : Label) (ty : ValueType) (p q : Piece) → QuietPiece p → QuietPiece q → QuietPiece (binary_piece f o l ty p q)
binary_quiet f o l ty p q h g =
    either_quiet (is_logic o) _ _ (quiet_rows p.before (If _ (stmts_from (into _ q)) ∷ []) h (into_quiet _ q g, tt))
    (applied_quiet f (kind_in f ty) (operator_of o) l _ (quiet_rows p.before (operand f l ty q).before h (operand_quiet f l ty q g)))

choice_quiet : (f : Frame) (ty : ValueType) (t p q : Piece) → QuietPiece t → QuietPiece p → QuietPiece q → QuietPiece (choice f ty t p q)
choice_quiet f ty t p q h a b = quiet_rows t.before (Object _ _ None ∷ IfElse _ (stmts_from (into _ p)) (stmts_from (into _ q)) ∷ []) h (tt, ((into_quiet _ p a, into_quiet _ q b), tt))

padded_quiet : (ss : List Stmt) → QuietRow ss → QuietRow (ss ++ pad ∷ [])
padded_quiet ss h = quiet_rows ss (pad ∷ []) h (tt, tt)

prefixed_quiet : (f : Frame) (o : PrefixOp) (l : Label) (from : ValueType) (p : Piece) (q : PlacePiece) → QuietPiece p → QuietRow q.before → QuietPiece (prefixed f o l from p q)
prefixed_quiet f Neg l from p q h g = applied_quiet f (kind_in f from) op.Neg l _ (operand_quiet f l from p h)
prefixed_quiet f Not l from p q h g = once_quiet (type_in f Truth) p h
prefixed_quiet f Flip l from p q h g = applied_quiet f (kind_in f from) op.Not l _ (operand_quiet f l from p h)
prefixed_quiet f Deref l from p q h g = g

field_quiet : (f : Frame) (from : ValueType) (field : ℕ) (p : Piece) (q : PlacePiece) → QuietPiece p → QuietRow q.before → QuietPiece (field_piece f from field p q)
field_quiet f Truth field p q h g = once_quiet (type_in f Truth) p h
field_quiet f (Int kind) field p q h g = once_quiet (type_in f (Int kind)) p h
field_quiet f (Ix n) field p q h g = once_quiet (type_in f (Ix n)) p h
field_quiet f (Bits b) field p q h g = once_quiet (type_in f (Bits b)) p h
field_quiet f (Ref constant region target) field p q h g = padded_quiet q.before g

element_quiet : (f : Frame) (ty : ValueType) (q : PlacePiece) (p : Piece) → QuietRow q.before → QuietPiece p → QuietRow (q.before ++ ((index_piece f ty p).before ++ pad ∷ []))
element_quiet f ty q p h g = quiet_rows q.before ((index_piece f ty p).before ++ pad ∷ []) h (padded_quiet (index_piece f ty p).before (atom_quiet (type_in f ty) p g))

-- ---- expressions

module _ (f : Frame) where
  mutual
    pub raw_quiet : (e : ExprCore) (k : ℕ) → QuietPiece (raw f e k)
    raw_quiet (Number l v) k = tt
    raw_quiet (Outcome l) k = tt
    raw_quiet (Local l x) k = tt
    raw_quiet (AreaName l x) k = tt
    raw_quiet (Cast l e) k = converted_quiet f l (type_of e) (raw f e k) (raw_quiet e k)
    raw_quiet (ToIndex l e) k = converted_quiet f l (type_of e) (raw f e k) (raw_quiet e k)
    raw_quiet (WrapIndex l e) k = taken_quiet (type_in f (type_of e)) (raw f e k) (raw_quiet e k) (is_signed_type (kind_in f (type_of e)))
    raw_quiet (MakeBits l e) k = once_quiet (type_in f (type_of e)) (raw f e k) (raw_quiet e k)
    raw_quiet (Raw l e) k = once_quiet (type_in f (type_of e)) (raw f e k) (raw_quiet e k)
    raw_quiet (SetField l e field x) k =
        let p : Piece = once (type_in f (type_of e)) (raw f e k) in
        set_quiet f l (layout_of f.core (type_of e)) (kind_in f (type_of e)) field _
        (quiet_rows p.before (operand f l (type_of x) (raw f x p.next)).before (once_quiet (type_in f (type_of e)) (raw f e k) (raw_quiet e k)) (operand_quiet f l (type_of x) (raw f x p.next) (raw_quiet x p.next)))
    raw_quiet (Prefix l o e) k = prefixed_quiet f o l (type_of e) (raw f e k) (place f e k) (raw_quiet e k) (place_quiet e k)
    raw_quiet (Binary l o left right) k =
        let p : Piece = left_piece f o l left (raw f left k) in
        binary_quiet f o l (type_of left) p (raw f right p.next) (left_quiet f o l left (raw f left k) (raw_quiet left k)) (raw_quiet right p.next)
    raw_quiet (Field l e field) k = field_quiet f (type_of e) field (raw f e k) (place f e k) (raw_quiet e k) (place_quiet e k)
    raw_quiet (Element l e i) k = element_quiet f (type_of i) (place f e k) (raw f i (place f e k).next) (place_quiet e k) (raw_quiet i (place f e k).next)
    raw_quiet (Cond l c first second) k =
        let t : Piece = inline (raw f c k) in
        let p : Piece = raw f first (after_object t) in
        choice_quiet f l.ty t p (raw f second p.next) (inline_quiet (type_in f (type_of c)) (raw f c k) (raw_quiet c k)) (raw_quiet first (after_object t)) (raw_quiet second p.next)
    raw_quiet (Whole l e) k = raw_quiet e k

    pub place_quiet : (e : ExprCore) (k : ℕ) → QuietRow (place f e k).before
    place_quiet (Local l x) k = tt
    place_quiet (AreaName l x) k = tt
    place_quiet (Outcome l) k = tt
    place_quiet (Field l e field) k = padded_quiet (place f e k).before (place_quiet e k)
    place_quiet (Element l e i) k = element_quiet f (type_of i) (place f e k) (raw f i (place f e k).next) (place_quiet e k) (raw_quiet i (place f e k).next)
    place_quiet (Whole l e) k = place_quiet e k
    place_quiet (Number l v) k = tt
    place_quiet (Cast l e) k = tt
    place_quiet (ToIndex l e) k = tt
    place_quiet (WrapIndex l e) k = tt
    place_quiet (MakeBits l e) k = tt
    place_quiet (Raw l e) k = tt
    place_quiet (SetField l e field x) k = tt
    place_quiet (Prefix l o e) k = tt
    place_quiet (Binary l o left right) k = tt
    place_quiet (Cond l c first second) k = tt
