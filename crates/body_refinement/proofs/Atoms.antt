-- What the index of a place reads: nothing, a temporary that the statements before it declare, or a local of a number in scope.
use Rattle.std.proofs.Common.{◌≡◌, ℕ, suc, ◌-◌, ◌<◌, ◌≤◌, ℤ, pos, negsuc, Bool, true, false, IsTrue, List, [], ◌∷◌, ◌++◌, Contains, slice_get, Option, Some, None, Result, Ok, Err, refl, sym, ◌∙◌, ap, subst, arith, append_assoc}
use Rattle.std.specs.Prelude.{if◌then◌else◌, not, ◌&&◌, ◌||◌, nat_lt}
use Rattle.source_types.specs.Values.{is_integer, is_index_type}
use Rattle.iv_words.specs.declared.IntKind.{IntKind}
use Rattle.iv_words.specs.Kinds.{width, is_signed, kind_at}
use Rattle.bit_data.specs.declared.BitLayout.{BitLayout}
use Rattle.int_ops.specs.declared.Op.{Op}
use Rattle.int_ops.specs.declared.Op.TheVariants as op
use Rattle.c_ast.specs.declared.CBinary.TheVariants.{Sub}
use Rattle.c_ast.specs.declared.CUnary.TheVariants as unary
use Rattle.c_ast.specs.declared.Suffix.TheVariants.{Plain, U}
use Rattle.ivory_tree.specs.declared.BinOp.{BinOp}
use Rattle.ivory_tree.specs.declared.PrefixOp.TheVariants.{Neg, Not, Flip, Deref}
use Rattle.area_types.specs.Syntax as types
use Rattle.area_types.specs.Syntax.{ValueType}
use Rattle.region_check.specs.Calls.{reference_of}
use Rattle.core_tree.specs.declared.Check.{Check}
use Rattle.core_tree.specs.Syntax as core
use Rattle.core_tree.specs.Syntax.{Label, ExprCore, type_of}
use Rattle.core_tree.specs.TypedExpressions.{ExprTyped}
use Rattle.core_meaning.specs.Answers.{operator_of, layout_of}
use Rattle.c_ast.specs.declared.CScalar.{CScalar}
use Rattle.c_ast.specs.declared.CScalar.TheVariants.{Int as Exact_kind}
use Rattle.c_ast.specs.declared.CType.{CType}
use Rattle.c_ast.specs.declared.CType.TheVariants.{Value}
use Rattle.c_ast.specs.Syntax.{Name, Expr, Number, Read, Address, Unary, Binary, Cast, Cond, Var, Stmt, Const, Object, If, One}
use Rattle.c_ast.specs.View.{stmts_from}
use Rattle.c_meaning.specs.Expressions.{eval}
use Rattle.c_meaning.specs.Places.{cast}
use Rattle.c_meaning.specs.State.{CState}
use Rattle.c_meaning.specs.Values.{CValue, Trouble, on_ok}
use Rattle.overflow_checks.specs.Parts.{cast_to, operand_of}
use Rattle.lower_types.specs.Constants.{constant, negative, signed_limit}
use Rattle.lower_types.specs.Names.{local_name}
use Rattle.lower_values.specs.Choices.{is_logic, is_truth_chain, left_object, logic, goes_on, into, place_of}
use Rattle.lower_values.specs.Conversions.{range_guard, valued, bit_field, set_in}
use Rattle.lower_values.specs.Expressions.{cast_of, literal, raw, place, index_piece, left_piece, field_piece}
use Rattle.lower_values.specs.Frames.{Frame, is_object, name_of, kind_in, type_in, base_in}
use Rattle.lower_values.specs.Operators.{applied, operand, binary, single}
use Rattle.lower_values.specs.Pieces.{Piece, PlacePiece, Operands, Standing, Exact, Same, Near, inline, named, once, often, both, taken, is_atom, is_exact, has_number, stays}
use Rattle.lower_values.specs.Tests.{tests, is_checked, are_none}
use Rattle.value_refinement.specs.Settings.{Setting}
use Rattle.value_refinement.proofs.Growing.{raw_grows}
use Rattle.body_refinement.proofs.Declaring.{Names}

-- a row of statements that declares the name
pub record Declared (x : Name) (ss : List Stmt) : Type 0 where
  pub front : List Stmt
  pub here : Stmt
  pub back : List Stmt
  pub is : ss ≡ front ++ here ∷ back
  pub names : Names x here

pub declared_more : (x : Name) (ss more : List Stmt) → Declared x ss → Declared x (ss ++ more)
declared_more x ss more d = record { front = d.front; here = d.here; back = d.back ++ more; is = ap (λ l. l ++ more) d.is ∙ append_assoc d.front (d.here ∷ d.back) more; names = d.names }

pub declared_behind : (x : Name) (first ss : List Stmt) → Declared x ss → Declared x (first ++ ss)
declared_behind x first ss d = record { front = first ++ d.front; here = d.here; back = d.back; is = ap (λ l. first ++ l) d.is ∙ sym (append_assoc first d.front (d.here ∷ d.back)); names = d.names }

-- a temporary
pub record Temporary (before : List Stmt) (e : Expr) (next : ℕ) : Type 0 where
  pub number : ℕ
  pub below : number < next
  pub is : e ≡ Read (Var (local_name number))
  pub declared : Declared (local_name number) before

pub data Atom (g : Setting) (before : List Stmt) (e : Expr) (next : ℕ) : Type 0 where
  Free : ((u w : CState) → eval g.program e w ≡ eval g.program e u) → Atom g before e next
  Kept : Temporary before e next → Atom g before e next
  Scoped : (x : ℕ) (ty : ValueType) → Contains g.scope x → slice_get g.env.locals x ≡ Some ty → reference_of ty ≡ None → e ≡ Read (Var (name_of g.frame x)) → Atom g before e next

-- the truth of a test that cannot be
no_and : (b : Bool) → (b && false) ≡ true → ⊥
no_and true e = let no : ⊥ = cc in absurd no
no_and false e = let no : ⊥ = cc in absurd no

exact_number : (st : Standing) (b : Bool) → (is_exact st && b) ≡ true → (has_number st && b) ≡ true
exact_number Exact b h = h
exact_number Same b h = let no : ⊥ = cc in absurd no
exact_number Near b h = let no : ⊥ = cc in absurd no

temporary_more : (before more : List Stmt) (e : Expr) (next later : ℕ) → next ≤ later → Temporary before e next → Temporary (before ++ more) e later
temporary_more before more e next later le t = record { number = t.number; below = omega (arith, t.below, le); is = t.is; declared = declared_more (local_name t.number) before more t.declared }

named_temporary : (ty : CType) (p : Piece) → Temporary (named ty p).before (named ty p).value (named ty p).next
named_temporary ty p = record { number = p.next; below = omega arith; is = refl; declared = record { front = p.before; here = Const (local_name p.next) ty p.value; back = []; is = refl; names = refl } }

module _ (g : Setting) where
  abbrev f : Frame
  f = g.frame

  abbrev StaysFree : Expr → Type 0
  StaysFree e = (u w : CState) → eval g.program e w ≡ eval g.program e u

  atom_more : (before more : List Stmt) (e : Expr) (next : ℕ) → Atom g before e next → Atom g (before ++ more) e next
  atom_more before more e next (Free h) = Free h
  atom_more before more e next (Kept t) = Kept (temporary_more before more e next next (omega arith) t)
  atom_more before more e next (Scoped x ty here type plain is) = Scoped x ty here type plain is

  -- ---- constants

  cast_same : (u w : CState) (k : CScalar) (r : Result CValue Trouble) → on_ok r (cast g.program.target w (Value k)) ≡ on_ok r (cast g.program.target u (Value k))
  cast_same u w k (Ok v) = refl
  cast_same u w k (Err trouble) = refl

  cast_free : (kind : IntKind) (e : Expr) → StaysFree e → StaysFree (cast_to kind e)
  cast_free kind e h u w = ap (λ r. on_ok r (cast g.program.target w (Value (Exact_kind kind)))) (h u w) ∙ cast_same u w (Exact_kind kind) (eval g.program e u)

  constant_free : (n : ℕ) → StaysFree (constant n)
  constant_free n = go (nat_lt n signed_limit) where
    go : (b : Bool) → StaysFree (if b then Number n Plain else Number n U)
    go true u w = refl
    go false u w = refl

  negative_free : (n : ℕ) → StaysFree (negative n)
  negative_free n = go (nat_lt n signed_limit) where
    go : (b : Bool) → StaysFree (if b then Unary unary.Neg (Number n Plain) else Binary Sub (Unary unary.Neg (Number (n - 1) Plain)) (Number 1 Plain))
    go true u w = refl
    go false u w = refl

  cast_of_free : (kind : Option IntKind) (e : Expr) → StaysFree e → StaysFree (cast_of kind e)
  cast_of_free None e h = h
  cast_of_free (Some kind) e h = cast_free kind e h

  literal_free : (kind : Option IntKind) (v : ℤ) → StaysFree (literal kind v)
  literal_free kind (pos n) = constant_free n
  literal_free kind (negsuc n) = cast_of_free kind (negative (suc n)) (negative_free (suc n))

  -- a constant as a value of its type
  operand_free : (bits : ℕ) (signed : Bool) (e : Expr) → StaysFree e → StaysFree (operand_of bits signed e)
  operand_free bits signed (Number n suffix) h = cast_free (kind_at bits signed) (Number n suffix) h
  operand_free bits signed (Read to) h = h
  operand_free bits signed (Address to) h = h
  operand_free bits signed (Unary o e) h = h
  operand_free bits signed (Binary o a b) h = h
  operand_free bits signed (Cast to e) h = h
  operand_free bits signed (Cond c a b) h = h

  valued_free : (kind : Option IntKind) (e : Expr) → StaysFree e → StaysFree (valued kind e)
  valued_free None e h = h
  valued_free (Some kind) e h = operand_free (width kind) (is_signed kind) e h

  valued_read : (kind : Option IntKind) (e : Expr) (x : Name) → e ≡ Read (Var x) → valued kind e ≡ Read (Var x)
  valued_read None e x is = is
  valued_read (Some kind) e x is = ap (operand_of (width kind) (is_signed kind)) is

  valued_atom : (kind : Option IntKind) (before : List Stmt) (e : Expr) (next : ℕ) → Atom g before e next → Atom g before (valued kind e) next
  valued_atom kind before e next (Free h) = Free (valued_free kind e h)
  valued_atom kind before e next (Kept t) = Kept (record { number = t.number; below = t.below; is = valued_read kind e (local_name t.number) t.is; declared = t.declared })
  valued_atom kind before e next (Scoped x ty here type plain is) = Scoped x ty here type plain (valued_read kind e (name_of g.frame x) is)

  -- ---- chains of `&&` and `||`

  abbrev Held : Piece → Type 0
  Held p = Temporary p.before p.value p.next

  pick : (b : Bool) → b ≡ true → (p q : Piece) → Held p → Held (if b then p else q)
  pick true e p q h = h
  pick false e p q h = let no : ⊥ = cc in absurd no

  object_held : (b : Bool) (p : Piece) → (b ≡ true → Held p) → Held (left_object f b p)
  object_held true p h = h refl
  object_held false p h = record { number = p.next; below = omega arith; is = refl; declared = record { front = p.before; here = Object (local_name p.next) (base_in f types.Truth) (Some (One p.value)); back = []; is = refl; names = refl } }

  logic_held : (l : Label) (o : BinOp) (left right : ExprCore) (k : ℕ) → is_logic o ≡ true → (is_truth_chain left ≡ true → Held (raw f left k)) → Held (raw f (core.Binary l o left right) k)
  logic_held l o left right k is chain =
      let p : Piece = left_piece f o l left (raw f left k) in
      let h : Held p = pick (is_logic o) is (left_object f (is_truth_chain left) (raw f left k)) (operand f l (type_of left) (raw f left k)) (object_held (is_truth_chain left) (raw f left k) chain) in
      pick (is_logic o) is (logic o p (raw f right p.next)) (binary f (operator_of o) l (type_of left) p (raw f right p.next))
      (temporary_more p.before (If (goes_on o p.value) (stmts_from (into (place_of p.value) (raw f right p.next))) ∷ []) p.value p.next (raw f right p.next).next (raw_grows f right p.next) h)

  chain_held : (e : ExprCore) (k : ℕ) → is_truth_chain e ≡ true → Held (raw f e k)
  chain_held (core.Binary l o left right) k is = logic_held l o left right k is (λ c. chain_held left k c)
  chain_held (core.Whole l e) k is = chain_held e k is
  chain_held e k is = let no : ⊥ = cc in absurd no

  -- ---- forms that owe a step or stand only near their number

  abbrev IsAtom : Piece → Type 0
  IsAtom p = (has_number p.standing && stays p) ≡ true

  no_applied : (kind : Option IntKind) (o : Op) (l : Label) (at : Operands) → IsAtom (applied f kind o l at) → ⊥
  no_applied None o l at e = let no : ⊥ = cc in absurd no
  no_applied (Some kind) o l at e = let no : ⊥ = cc in absurd no

  no_set : (l : Label) (layout : Option BitLayout) (word : Option IntKind) (field : ℕ) (at : Operands) → IsAtom (set_in f l layout word field at) → ⊥
  no_set l None word field at e = let no : ⊥ = cc in absurd no
  no_set l (Some layout) word field at e = let no : ⊥ = cc in absurd no

  no_field : (ty : ValueType) (field : ℕ) (p : Piece) (q : PlacePiece) → IsAtom (field_piece f ty field p q) → ⊥
  no_field types.Truth field p q e = no_and (is_atom (bit_field f types.Truth field p).value) e
  no_field (types.Int kind) field p q e = no_and (is_atom (bit_field f (types.Int kind) field p).value) e
  no_field (types.Ix n) field p q e = no_and (is_atom (bit_field f (types.Ix n) field p).value) e
  no_field (types.Bits k) field p q e = no_and (is_atom (bit_field f (types.Bits k) field p).value) e
  no_field (types.Ref constant region area) field p q e = let no : ⊥ = cc in absurd no

  plain_operand : (ty : ValueType) → IsTrue (is_integer ty || is_index_type ty) → reference_of ty ≡ None
  plain_operand types.Truth h = refl
  plain_operand (types.Int kind) h = refl
  plain_operand (types.Ix n) h = refl
  plain_operand (types.Bits k) h = refl
  plain_operand (types.Ref constant region area) h = let no : ⊥ = cc in absurd no

  -- ---- conversions

  module _ (l : Label) (from : ValueType) (p : Piece) (inner : IsAtom p → Atom g p.before p.value p.next) where
    abbrev operand_with : List Check → Piece
    operand_with cs = taken (is_checked cs) (type_in f from) p

    abbrev value_with : List Check → Expr
    value_with cs = valued (kind_in f from) (operand_with cs).value

    abbrev tests_with : List Check → List Stmt
    tests_with cs = tests f (λ which. range_guard f from l.ty (value_with cs)) (λ which. false) cs

    operand_atom : (b : Bool) → (is_exact p.standing && stays p) ≡ b → (let q : Piece = if b then p else named (type_in f from) p in Atom g q.before q.value q.next)
    operand_atom true e = inner (exact_number p.standing (stays p) e)
    operand_atom false e = Kept (named_temporary (type_in f from) p)

    converted_atom : (cs : List Check) → (is_atom (value_with cs) && not (are_none (tests_with cs))) ≡ true → Atom g ((operand_with cs).before ++ tests_with cs) (value_with cs) (operand_with cs).next
    converted_atom [] e = absurd (no_and (is_atom (value_with [])) e)
    converted_atom (c ∷ cs) e =
        let q : Piece = often (type_in f from) p in
        atom_more q.before (tests_with (c ∷ cs)) (value_with (c ∷ cs)) q.next (valued_atom (kind_in f from) q.before q.value q.next (operand_atom (is_exact p.standing && stays p) refl))

  -- ---- names

  local_atom : (x : ℕ) (ty : ValueType) → Contains g.scope x → slice_get g.env.locals x ≡ Some ty → reference_of ty ≡ None → (k : ℕ) (b : Bool) → (is_atom (if b then Address (Var (name_of f x)) else Read (Var (name_of f x))) && true) ≡ true
      → Atom g [] (if b then Address (Var (name_of f x)) else Read (Var (name_of f x))) k
  local_atom x ty here type plain k true e = let no : ⊥ = cc in absurd no
  local_atom x ty here type plain k false e = Scoped x ty here type plain refl

  -- ---- all

  module _ (none : g.env.outcome ≡ None) where
    pub raw_atom : (e : ExprCore) → ExprTyped g.env g.scope e → reference_of (type_of e) ≡ None → (k : ℕ) → IsAtom (raw f e k) → Atom g (raw f e k).before (raw f e k).value (raw f e k).next
    raw_atom (core.Number l v) typed plain k is = Free (literal_free (kind_in f l.ty) v)
    raw_atom (core.Outcome l) typed plain k is = (let no : ⊥ = (let same : None ≡ Some l.ty = sym none ∙ typed.outcome in cc) in absurd no)
    raw_atom (core.Local l x) typed plain k is = local_atom x l.ty typed.in_scope typed.type plain k (is_object f x) is
    raw_atom (core.AreaName l x) typed plain k is = let no : ⊥ = cc in absurd no
    raw_atom (core.Cast l e) typed plain k is = converted_atom l (type_of e) (raw f e k) (λ h. raw_atom e typed.0 (plain_operand (type_of e) typed.1.operand) k h) l.checks is
    raw_atom (core.ToIndex l e) typed plain k is = converted_atom l (type_of e) (raw f e k) (λ h. raw_atom e typed.0 (ap reference_of typed.1.operand) k h) l.checks is
    raw_atom (core.WrapIndex l e) typed plain k is = absurd (no_and (is_atom (raw f (core.WrapIndex l e) k).value) is)
    raw_atom (core.MakeBits l e) typed plain k is = absurd (no_and (is_atom (raw f (core.MakeBits l e) k).value) is)
    raw_atom (core.Raw l e) typed plain k is = absurd (no_and (is_atom (raw f (core.Raw l e) k).value) is)
    raw_atom (core.SetField l e field x) typed plain k is = (let p : Piece = once (type_in f (type_of e)) (raw f e k) in absurd (no_set l (layout_of f.core (type_of e)) (kind_in f (type_of e)) field (both p (operand f l (type_of x) (raw f x p.next))) is))
    raw_atom (core.Prefix l Neg e) typed plain k is = absurd (no_applied (kind_in f (type_of e)) op.Neg l (single (operand f l (type_of e) (raw f e k))) is)
    raw_atom (core.Prefix l Not e) typed plain k is = let no : ⊥ = cc in absurd no
    raw_atom (core.Prefix l Flip e) typed plain k is = absurd (no_applied (kind_in f (type_of e)) op.Not l (single (operand f l (type_of e) (raw f e k))) is)
    raw_atom (core.Prefix l Deref e) typed plain k is = absurd (no_and (is_atom (raw f (core.Prefix l Deref e) k).value) is)
    raw_atom (core.Binary l o left right) typed plain k is = by_logic (is_logic o) refl where
      by_logic : (b : Bool) → is_logic o ≡ b → Atom g (raw f (core.Binary l o left right) k).before (raw f (core.Binary l o left right) k).value (raw f (core.Binary l o left right) k).next
      by_logic true e = Kept (logic_held l o left right k e (λ c. chain_held left k c))
      by_logic false e =
          let p : Piece = left_piece f o l left (raw f left k) in
          absurd (no_applied (kind_in f (type_of left)) (operator_of o) l (both p (operand f l (type_of left) (raw f right p.next))) (subst (λ b. IsAtom (if b then logic o p (raw f right p.next) else binary f (operator_of o) l (type_of left) p (raw f right p.next))) e is))
    raw_atom (core.Field l e field) typed plain k is = absurd (no_field (type_of e) field (raw f e k) (place f e k) is)
    raw_atom (core.Element l e i) typed plain k is = let no : ⊥ = cc in absurd no
    raw_atom (core.Cond l c first second) typed plain k is =
        let j : ℕ = (raw f c k).next in
        let a : suc j ≤ (raw f first (suc j)).next = raw_grows f first (suc j) in
        let b : (raw f first (suc j)).next ≤ (raw f second (raw f first (suc j)).next).next = raw_grows f second (raw f first (suc j)).next in
        Kept (record { number = j; below = omega (arith, a, b); is = refl; declared = record { front = (inline (raw f c k)).before; here = _; back = _ ∷ []; is = refl; names = refl } })
    raw_atom (core.Whole l e) typed plain k is = raw_atom e typed.0 (sym (ap reference_of typed.1.type) ∙ plain) k is

    pub index_atom : (e : ExprCore) → ExprTyped g.env g.scope e → reference_of (type_of e) ≡ None → (k : ℕ) → (let q : Piece = index_piece f (type_of e) (raw f e k) in Atom g q.before q.value q.next)
    index_atom e typed plain k = go (has_number (raw f e k).standing && stays (raw f e k)) refl where
      go : (b : Bool) → (has_number (raw f e k).standing && stays (raw f e k)) ≡ b → (let q : Piece = if b then raw f e k else named (type_in f (type_of e)) (raw f e k) in Atom g q.before q.value q.next)
      go true is = raw_atom e typed plain k is
      go false is = Kept (named_temporary (type_in f (type_of e)) (raw f e k))
