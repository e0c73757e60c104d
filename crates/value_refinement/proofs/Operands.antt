-- Operands: a piece that is named, or taken as it is, follows as the piece does, is owed nothing, and stands exactly.
use Rattle.std.proofs.Common.{◌≡◌, ℕ, suc, ◌+◌, ◌*◌, ◌<◌, ◌≤◌, ℤ, pos, Bool, true, false, List, [], ◌∷◌, ◌++◌, Option, Some, None, Ok, refl, sym, ◌∙◌, ap, subst, arith}
use Rattle.std.proofs.lemmas.List.{append_assoc, append-nil}
use Rattle.std.specs.Prelude.{if◌then◌else◌, not, ◌&&◌, IsTrue, IsSome}
use Rattle.iv_words.proofs.Equality.{same_self}
use Rattle.step_semantics.specs.Control.{Control}
use Rattle.step_semantics.specs.Follows.{Follows}
use Rattle.step_semantics.specs.Steps.{World, Part, bind, ticks}
use Rattle.step_semantics.proofs.Paying.{pays_to}
use Rattle.step_semantics.proofs.Following.{eased}
use Rattle.area_types.specs.Syntax.{ValueType}
use Rattle.core_tree.specs.Syntax.{ExprCore, type_of}
use Rattle.core_meaning.specs.Expressions.{eval}
use Rattle.core_meaning.specs.Gives.{Gives}
use Rattle.core_meaning.specs.State.{State}
use Rattle.core_meaning.specs.Values as source
use Rattle.core_meaning.specs.Values.{Value}
use Rattle.c_ast.specs.declared.CKind.TheVariants.{Scalar, Arith as Computed}
use Rattle.c_ast.specs.declared.CScalar.{CScalar}
use Rattle.c_ast.specs.declared.CType.TheVariants as ctype
use Rattle.c_ast.specs.declared.Arith.{Arith}
use Rattle.c_ast.specs.Conversions.{can_hold, constant_type}
use Rattle.c_ast.specs.StaticTypes.{Arithmetic}
use Rattle.std.specs.Option.{option_map}
use Rattle.c_ast.specs.Syntax.{Expr, Number, Read, Address, Unary, Binary, Cast, Cond, Var, Stmt, Const}
use Rattle.c_ast.specs.Targets.{table_of}
use Rattle.c_meaning.specs.Expressions as c
use Rattle.c_meaning.specs.Scopes.{value_in, name_value}
use Rattle.c_meaning.specs.State.{Program, CState, Slot, Holding, declare}
use Rattle.c_ast.specs.Names as table
use Rattle.c_meaning.specs.Values.{CValue, Num, as_assigned, typed}
use Rattle.c_meaning.proofs.HeldNumbers.{held_as_assigned}
use Rattle.c_meaning.proofs.Names.{name_gives, name_type_is}
use Rattle.area_objects.specs.Both.{Map}
use Rattle.lower_types.specs.Names.{local_name}
use Rattle.lower_types.specs.Types.{scalar_for}
use Rattle.lower_types.proofs.Names.{locals_differ}
use Rattle.lower_values.specs.Expressions.{raw}
use Rattle.lower_values.specs.Pieces.{Piece, Standing, Exact, Same, Near, pad, paid, inline, named, taken, once, often, atom, is_atom, is_read, stays, is_exact, has_number}
use Rattle.value_refinement.specs.Kept.{Kept}
use Rattle.value_refinement.specs.Laws.{RawFollows, owing, spare, running}
use Rattle.value_refinement.specs.Related.{Related}
use Rattle.value_refinement.specs.Settings.{Setting, Set, IsOld}
use Rattle.form_answers.specs.Standing.{HasScalar, IsNumber, Stands, ExactlyIs}
use Rattle.value_refinement.specs.Values.{Comes, Simple, HasArithmetic}
use Rattle.value_refinement.proofs.Keeping.{kept_twice, kept_same, kept_declared}
use Rattle.form_answers.proofs.OperandValues.{exact_held}
use Rattle.value_refinement.proofs.Running.{runs_first, takes_pad, takes_const}
use Rattle.value_refinement.proofs.Standings.{scalar_on}

-- a temporary is older than those after it
pub local_is_old : (j k : ℕ) → j < k → IsOld k (local_name j)
local_is_old j k lt i le e = let same : j ≡ i = locals_differ j i e in absurd (omega (arith, lt, le, same))

module _ (g : Setting) where
  -- what stands for a number that the scalar holds is converted to it
  pub stands_assigned : (u : CState) (k : CScalar) (st : Standing) (e : Expr) (n : ℤ) → IsTrue (can_hold (table_of g.program.target) (Scalar k) n) → Stands st g.program u k e n
      → (v : CValue) × (c.eval g.program e u ≡ Ok v) × (as_assigned g.program.target (ctype.Value k) v ≡ Ok (Num (Scalar k) n))
  stands_assigned u k Exact e n holds is = let h = exact_held g.program u k e n is holds in (Num h.kind n, h.gives, held_as_assigned g.program.target k h.kind n holds)
  stands_assigned u k Same e n holds is = (Num is.0 n, is.1, held_as_assigned g.program.target k is.0 n holds)
  stands_assigned u k Near e n holds is = (Num is.kind is.number, is.gives, ap (typed (Scalar k)) is.converted)

  -- the name of a declaration stands for its number from there on
  pub name_stands : (j : ℕ) (k : CScalar) (n : ℤ) (u w : CState) → Kept g.program (suc j) (declare (local_name j) (Num (Scalar k) n) u) w → HasScalar g.program w k (Read (Var (local_name j))) n
  name_stands j k n u w kept =
      let v : CValue = Num (Scalar k) n in
      let has : name_value (declare (local_name j) v u) (local_name j) ≡ Some v =
      ap (λ b. value_in (if b then (let slot : Option Slot = Some (Holding v) in slot) else table.named u.frames.own (local_name j))) (same_self (local_name j)) in
      scalar_on g [] [] (suc j) (declare (local_name j) v u) w kept (local_name j) (local_is_old j (suc j) (omega arith)) k n
      (record { gives = name_gives g.program (declare (local_name j) v u) (local_name j) (Scalar k) n has; type = name_type_is g.program (declare (local_name j) v u) (local_name j) v has })

-- ---- steps

pub owes_one : (owed : Bool) → owing owed ≤ 1
owes_one true = omega arith
owes_one false = omega arith

first_holds : (a b : Bool) → (a && b) ≡ true → a ≡ true
first_holds true b e = refl
first_holds false b e = e

last_free : (a b owed : Bool) → (a && (b && not owed)) ≡ true → owed ≡ false
last_free true true true e = sym e
last_free true true false e = refl
last_free true false owed e = let no : ⊥ = cc in absurd no
last_free false b owed e = let no : ⊥ = cc in absurd no

pub exactly_by : (st : Standing) → is_exact st ≡ true → st ≡ Exact
exactly_by Exact e = refl
exactly_by Same e = let no : ⊥ = cc in absurd no
exactly_by Near e = let no : ⊥ = cc in absurd no

atom_is_read : (e : Expr) → is_atom e ≡ true → is_read e ≡ true
atom_is_read (Number n suffix) h = h
atom_is_read (Read place) h = refl
atom_is_read (Address place) h = h
atom_is_read (Unary op e) h = h
atom_is_read (Binary op a b) h = h
atom_is_read (Cast to e) h = h
atom_is_read (Cond c a b) h = h

-- what is named can pay for its declaration
payable_once : (p : Program) (w : CState) (st : Standing) (owed : Bool) (e : Expr) → (is_exact st && is_read e) ≡ false → Simple p w st owed e → 1 ≤ 16 * owing owed + (if owed then 0 else if is_exact st then 0 else 8)
payable_once p w Exact true e h simple = omega arith
payable_once p w Exact false e h simple = let q : is_read e ≡ true = atom_is_read e simple in let no : ⊥ = cc in absurd no
payable_once p w Same true e h simple = omega arith
payable_once p w Same false e h simple = omega arith
payable_once p w Near true e h simple = omega arith
payable_once p w Near false e h simple = omega arith

payable_often : (p : Program) (w : CState) (st : Standing) (owed : Bool) (e : Expr) → (is_exact st && (is_atom e && not owed)) ≡ false → Simple p w st owed e → 1 ≤ 16 * owing owed + (if owed then 0 else if is_exact st then 0 else 8)
payable_often p w Exact true e h simple = omega arith
payable_often p w Exact false e h simple = let q : (is_atom e && true) ≡ true = ap (λ b. b && true) simple in let no : ⊥ = cc in absurd no
payable_often p w Same true e h simple = omega arith
payable_often p w Same false e h simple = omega arith
payable_often p w Near true e h simple = omega arith
payable_often p w Near false e h simple = omega arith

payable_atom : (p : Program) (w : CState) (st : Standing) (owed : Bool) (e : Expr) → (has_number st && (is_atom e && not owed)) ≡ false → Simple p w st owed e → 1 ≤ 16 * owing owed + (if owed then 0 else if is_exact st then 0 else 8)
payable_atom p w Exact true e h simple = omega arith
payable_atom p w Exact false e h simple = let q : (is_atom e && true) ≡ true = ap (λ b. b && true) simple in let no : ⊥ = cc in absurd no
payable_atom p w Same true e h simple = omega arith
payable_atom p w Same false e h simple = omega arith
payable_atom p w Near true e h simple = omega arith
payable_atom p w Near false e h simple = omega arith

module _ (g : Setting) where
  pub exactly : (u : CState) (k : CScalar) (st : Standing) (e : Expr) (n : ℤ) → is_exact st ≡ true → Stands st g.program u k e n → ExactlyIs g.program u k e n
  exactly u k Exact e n exact h = h
  exactly u k Same e n exact h = let no : ⊥ = cc in absurd no
  exactly u k Near e n exact h = let no : ⊥ = cc in absurd no

  -- what stands exactly has a type
  pub typed_exactly : (u : CState) (k : CScalar) (e : Expr) (n : ℤ) → ExactlyIs g.program u k e n → HasArithmetic g.program u e
  typed_exactly u k (Number m suffix) n h = typed_constant (constant_type g.program.target suffix m) refl (some_type h) where
    some_type : (pos m ≡ n) × IsSome (constant_type g.program.target suffix m) → IsSome (constant_type g.program.target suffix m)
    some_type both = both.1

    typed_constant : (found : Option Arith) → constant_type g.program.target suffix m ≡ found → IsSome found → HasArithmetic g.program u (Number m suffix)
    typed_constant (Some a) is some = record { kind = Computed a; type = ap (option_map (λ b. Arithmetic (Computed b))) is }
    typed_constant None is some = let no : ⊥ = cc in absurd no
  typed_exactly u k (Read place) n h = record { kind = Scalar k; type = h.type }
  typed_exactly u k (Address place) n h = record { kind = Scalar k; type = h.type }
  typed_exactly u k (Unary op e) n h = record { kind = Scalar k; type = h.type }
  typed_exactly u k (Binary op a b) n h = record { kind = Scalar k; type = h.type }
  typed_exactly u k (Cast to e) n h = record { kind = Scalar k; type = h.type }
  typed_exactly u k (Cond c a b) n h = record { kind = Scalar k; type = h.type }

  typed_number : (u : CState) (k : CScalar) (st : Standing) (owed : Bool) (e : Expr) (n : ℤ) → has_number st ≡ true → owed ≡ false → Simple g.program u st owed e → Stands st g.program u k e n → HasArithmetic g.program u e
  typed_number u k Exact owed e n has free simple h = typed_exactly u k e n h
  typed_number u k Same false e n has free simple h = simple
  typed_number u k Same true e n has free simple h = let no : ⊥ = cc in absurd no
  typed_number u k Near owed e n has free simple h = let no : ⊥ = cc in absurd no

  -- by its number
  pub by_number : (u : CState) (k : CScalar) (st : Standing) (e : Expr) (n : ℤ) → has_number st ≡ true → IsTrue (can_hold (table_of g.program.target) (Scalar k) n) → Stands st g.program u k e n → IsNumber g.program u e n
  by_number u k Exact e n has holds h = let q = exact_held g.program u k e n h holds in (q.kind, q.gives)
  by_number u k Same e n has holds h = h
  by_number u k Near e n has holds h = let no : ⊥ = cc in absurd no

  module _ {A : Type 0} (s : State) (post : A → State → Control (Option CValue) → CState → Type 0) (part : Part State A) (rest : List Stmt) (x y spared : ℕ) (u : CState) (w : World) where
    -- a step that is owed is paid by a pad
    pub padded : (owed : Bool) → ((i : ℕ) → Follows g.frame.skip post x y i (part i w s) (λ j. running g rest j w u)) → (m : ℕ) → Follows g.frame.skip post (x + spared) y m (ticks (owing owed) part m w s) (λ j. running g (paid owed ++ rest) j w u)
    padded true h m =
        pays_to g.frame.skip post 1 1 (x + spared) x y part w s (omega arith) (omega arith) (λ j. running g (pad ∷ rest) j w u) (λ j. running g rest j w u) (runs_first g 1 pad rest w u u (takes_pad g w u)) h m
    padded false h m = eased g.frame.skip post x y (x + spared) y m (part m w s) (λ j. running g rest j w u) (omega arith) (omega arith) (h m)

    pub unpadded : (owed : Bool) → owed ≡ false → ((i : ℕ) → Follows g.frame.skip post x y i (part i w s) (λ j. running g rest j w u)) → (m : ℕ) → Follows g.frame.skip post (x + spared) y m (ticks (owing owed) part m w s) (λ j. running g rest j w u)
    unpadded true e h m = let no : ⊥ = cc in absurd no
    unpadded false e h m = eased g.frame.skip post x y (x + spared) y m (part m w s) (λ j. running g rest j w u) (omega arith) (omega arith) (h m)

-- ---- pieces that are owed nothing

module _ (g : Setting) (set : Set g) (objects : Map) (s : State) where
  -- what is done with a piece, whose source part gives such values
  abbrev pub Onward : {A : Type 0} → (post : A → State → Control (Option CValue) → CState → Type 0) → (go : Value → Part State A) → (rest : List Stmt) → (x y from : ℕ) → (p : Piece) → (given : Value → Type 0) → ValueType → CState → Type 0
  Onward post go rest x y from p given ty t =
      (v : Value) (u : CState) → given v → Comes g objects s from p ty t v u → (m : ℕ) (w : World) → Follows g.frame.skip post (x + spare p) y m (ticks (owing p.owed) (go v) m w s) (λ j. running g rest j w u)

  -- the piece of C follows the part
  abbrev pub PieceFollows : Part State Value → (given : Value → Type 0) → ValueType → (ℕ → Piece) → Type 1
  PieceFollows part given ty p =
      (A : Type 0) (post : A → State → Control (Option CValue) → CState → Type 0) (go : Value → Part State A) (rest : List Stmt) (x y from : ℕ) → g.first ≤ from
      → (t : CState) → Related g objects s t → Onward post go rest x y from (p from) given ty t
      → (n : ℕ) (w : World) → Follows g.frame.skip post x y n (bind part go n w s) (λ j. running g ((p from).before ++ rest) j w t)

  pub as_piece : (e : ExprCore) → RawFollows g objects s e → PieceFollows (eval g.frame.core g.outcome e) (Gives g.frame.core g.outcome s e) (type_of e) (raw g.frame e)
  as_piece e h A post go rest x y from le t related onward n w = h A post go rest x y from le t related (record { by = onward }) n w

  pub as_raw : (e : ExprCore) → PieceFollows (eval g.frame.core g.outcome e) (Gives g.frame.core g.outcome s e) (type_of e) (raw g.frame e) → RawFollows g objects s e
  as_raw e h A post go rest x y from le t related goes n w = h A post go rest x y from le t related goes.by n w

  -- ---- as operands

  -- the expression stands for the number exactly, and goes on to do so
  pub record Stood (from : ℕ) (q : Piece) (ty : ValueType) (t : CState) (n : ℤ) (u : CState) : Type 0 where
    pub grows : from ≤ q.next
    pub kept : Kept g.program from t u
    pub stands : (w : CState) → Kept g.program q.next u w → ExactlyIs g.program w (scalar_for g.frame.table ty) q.value n

  -- what is done with a number that an operand stands for
  abbrev pub OnNumber : {A : Type 0} → (post : A → State → Control (Option CValue) → CState → Type 0) → (go : Value → Part State A) → (rest : List Stmt) → (x y from : ℕ) → (q : Piece) → (given : Value → Type 0) → ValueType → CState → Type 0
  OnNumber post go rest x y from q given ty t =
      (n : ℤ) (u : CState) → given (source.Num n) → Stood from q ty t n u → (m : ℕ) (w : World) → Follows g.frame.skip post x y m (go (source.Num n) m w s) (λ j. running g rest j w u)

  abbrev pub OperandFollows : Part State Value → (given : Value → Type 0) → ValueType → (ℕ → Piece) → Type 1
  OperandFollows part given ty q =
      (A : Type 0) (post : A → State → Control (Option CValue) → CState → Type 0) (go : Value → Part State A) (rest : List Stmt) (x y from : ℕ) → g.first ≤ from
      → (t : CState) → Related g objects s t → OnNumber post go rest x y from (q from) given ty t
      → (n : ℕ) (w : World) → Follows g.frame.skip post x y n (bind part go n w s) (λ j. running g ((q from).before ++ rest) j w t)

  -- the expression stands for an index by its number, and goes on to do so
  pub record Indexed (from : ℕ) (q : Piece) (t : CState) (n : ℤ) (u : CState) : Type 0 where
    pub grows : from ≤ q.next
    pub kept : Kept g.program from t u
    pub stands : (w : CState) → Kept g.program q.next u w → IsNumber g.program w q.value n × HasArithmetic g.program w q.value

  abbrev pub OnIndex : {A : Type 0} → (post : A → State → Control (Option CValue) → CState → Type 0) → (go : Value → Part State A) → (rest : List Stmt) → (x y from : ℕ) → (q : Piece) → (given : Value → Type 0) → CState → Type 0
  OnIndex post go rest x y from q given t =
      (n : ℤ) (u : CState) → given (source.Num n) → Indexed from q t n u → (m : ℕ) (w : World) → Follows g.frame.skip post x y m (go (source.Num n) m w s) (λ j. running g rest j w u)

  module _ (part : Part State Value) (given : Value → Type 0) (ty : ValueType) (number : (k : ℕ) (path : List ℕ) → given (source.Ref k path) → ⊥) (p : ℕ → Piece) (follows : PieceFollows part given ty p)
      (holds : (n : ℤ) → given (source.Num n) → IsTrue (can_hold (table_of g.program.target) (Scalar (scalar_for g.frame.table ty)) n)) where
    abbrev kind : CScalar
    kind = scalar_for g.frame.table ty

    -- the statements behind the piece's own do their part
    abbrev Extends : (q : Piece) → (extra : List Stmt) → (from : ℕ) → Type 1
    Extends q extra from =
        (A : Type 0) (post : A → State → Control (Option CValue) → CState → Type 0) (go : Value → Part State A) (rest : List Stmt) (x y : ℕ) (t : CState) → OnNumber post go rest x y from q given ty t
        → (n : ℤ) (u : CState) → given (source.Num n) → Comes g objects s from (p from) ty t (source.Num n) u
        → (m : ℕ) (w : World) → Follows g.frame.skip post (x + spare (p from)) y m (ticks (owing (p from).owed) (go (source.Num n)) m w s) (λ j. running g (extra ++ rest) j w u)

    only_numbers : {A : Type 0} (post : A → State → Control (Option CValue) → CState → Type 0) (go : Value → Part State A) (rest : List Stmt) (x y from : ℕ) (t : CState)
        → ((n : ℤ) (u : CState) → given (source.Num n) → Comes g objects s from (p from) ty t (source.Num n) u → (m : ℕ) (w : World) → Follows g.frame.skip post (x + spare (p from)) y m (ticks (owing (p from).owed) (go (source.Num n)) m w s) (λ j. running g rest j w u))
        → Onward post go rest x y from (p from) given ty t
    only_numbers post go rest x y from t h (source.Num n) u gives comes m w = h n u gives comes m w
    only_numbers post go rest x y from t h (source.Ref k path) u gives comes m w = absurd (number k path gives)

    extended : (q : ℕ → Piece) (extra : ℕ → List Stmt) → ((from : ℕ) → (q from).before ≡ (p from).before ++ extra from) → ((from : ℕ) → Extends (q from) (extra from) from) → OperandFollows part given ty q
    extended q extra is extends A post go rest x y from le t related onward n w =
        subst (λ l. Follows g.frame.skip post x y n (bind part go n w s) (λ j. running g l j w t)) (sym (ap (λ b. b ++ rest) (is from) ∙ append_assoc (p from).before (extra from) rest))
        (follows A post go (extra from ++ rest) x y from le t related (only_numbers post go (extra from ++ rest) x y from t (extends from A post go rest x y t onward)) n w)

    -- ---- the ways to take a piece

    module _ (from : ℕ) where
      abbrev at : Piece
      at = p from

      abbrev declared : Stmt
      declared = Const (local_name at.next) (ctype.Value kind) at.value

      -- by a declaration, where it can be paid
      by_name : ((z : CState) → Simple g.program z at.standing at.owed at.value → 1 ≤ 16 * owing at.owed + spare at) → Extends (named (ctype.Value kind) at) (declared ∷ []) from
      by_name pays A post go rest x y t onward n u gives comes m w =
          let v : CValue = Num (Scalar kind) n in
          let stands : Simple g.program u at.standing at.owed at.value × Stands at.standing g.program u kind at.value n = comes.stands u (kept_same g.program at.next u) in
          let a = stands_assigned g u kind at.standing at.value n (holds n gives) stands.1 in
          let u2 : CState = declare (local_name at.next) v u in
          let stood : Stood from (named (ctype.Value kind) at) ty t n u2 = record {
            grows = omega (arith, comes.grows);
            kept = kept_twice g.program from from t u u2 (omega arith) comes.kept (kept_declared g.program from at.next v u comes.grows);
            stands = λ z kept. name_stands g at.next kind n u z kept;
          } in
          pays_to g.frame.skip post 1 (owing at.owed) (x + spare at) x y (go (source.Num n)) w s (owes_one at.owed) (omega (arith, pays u stands.0)) (λ j. running g (declared ∷ rest) j w u) (λ j. running g rest j w u2)
          (runs_first g 1 declared rest w u u2 (takes_const g w u (local_name at.next) (ctype.Value kind) at.value a.0 v a.1 a.2)) (λ i. onward n u2 gives stood i w) m

      stood_as_is : (q : Piece) → q.value ≡ at.value → q.next ≡ at.next → is_exact at.standing ≡ true → (t : CState) (n : ℤ) (u : CState) → Comes g objects s from at ty t (source.Num n) u → Stood from q ty t n u
      stood_as_is q value next exact t n u comes = record {
        grows = subst (λ i. from ≤ i) (sym next) comes.grows;
        kept = comes.kept;
        stands = λ z kept.
            subst (λ e. ExactlyIs g.program z kind e n) (sym value)
            (exactly g z kind at.standing at.value n exact (comes.stands z (subst (λ i. Kept g.program i u z) next kept)).1);
      }

      -- as it is, by a pad for what it is owed
      in_line : is_exact at.standing ≡ true → Extends (inline at) (paid at.owed) from
      in_line exact A post go rest x y t onward n u gives comes m w =
          padded g s post (go (source.Num n)) rest x y (spare at) u w at.owed (λ i. onward n u gives (stood_as_is (inline at) refl refl exact t n u comes) i w) m

      -- as it is, where it is owed nothing
      as_it_is : is_exact at.standing ≡ true → at.owed ≡ false → Extends at [] from
      as_it_is exact free A post go rest x y t onward n u gives comes m w =
          unpadded g s post (go (source.Num n)) rest x y (spare at) u w at.owed free (λ i. onward n u gives (stood_as_is at refl refl exact t n u comes) i w) m

    -- ---- all ways

    abbrev extra_once : Piece → List Stmt
    extra_once q = if is_exact q.standing && is_read q.value then paid q.owed else Const (local_name q.next) (ctype.Value kind) q.value ∷ []

    abbrev extra_often : Piece → List Stmt
    extra_often q = if is_exact q.standing && stays q then [] else Const (local_name q.next) (ctype.Value kind) q.value ∷ []

    once_extends : (from : ℕ) → Extends (once (ctype.Value kind) (p from)) (extra_once (p from)) from
    once_extends from = go (is_exact (p from).standing && is_read (p from).value) refl where
      go : (b : Bool) → (is_exact (p from).standing && is_read (p from).value) ≡ b
          → Extends (if b then inline (p from) else named (ctype.Value kind) (p from)) (if b then paid (p from).owed else Const (local_name (p from).next) (ctype.Value kind) (p from).value ∷ []) from
      go true e = in_line from (first_holds (is_exact (p from).standing) (is_read (p from).value) e)
      go false e = by_name from (λ z. payable_once g.program z (p from).standing (p from).owed (p from).value e)

    often_extends : (from : ℕ) → Extends (often (ctype.Value kind) (p from)) (extra_often (p from)) from
    often_extends from = go (is_exact (p from).standing && stays (p from)) refl where
      go : (b : Bool) → (is_exact (p from).standing && stays (p from)) ≡ b
          → Extends (if b then p from else named (ctype.Value kind) (p from)) (if b then [] else Const (local_name (p from).next) (ctype.Value kind) (p from).value ∷ []) from
      go true e = as_it_is from (first_holds (is_exact (p from).standing) (stays (p from)) e) (last_free (is_exact (p from).standing) (is_atom (p from).value) (p from).owed e)
      go false e = by_name from (λ z. payable_often g.program z (p from).standing (p from).owed (p from).value e)

    before_once : (q : Piece) → (once (ctype.Value kind) q).before ≡ q.before ++ extra_once q
    before_once q = go (is_exact q.standing && is_read q.value) where
      go : (b : Bool) → (if b then inline q else named (ctype.Value kind) q).before ≡ q.before ++ (if b then paid q.owed else Const (local_name q.next) (ctype.Value kind) q.value ∷ [])
      go true = refl
      go false = refl

    before_often : (q : Piece) → (often (ctype.Value kind) q).before ≡ q.before ++ extra_often q
    before_often q = go (is_exact q.standing && stays q) where
      go : (b : Bool) → (if b then q else named (ctype.Value kind) q).before ≡ q.before ++ (if b then [] else Const (local_name q.next) (ctype.Value kind) q.value ∷ [])
      go true = sym (append-nil q.before)
      go false = refl

    pub taken_follows : (again : Bool) → OperandFollows part given ty (λ from. taken again (ctype.Value kind) (p from))
    taken_follows true = extended (λ from. often (ctype.Value kind) (p from)) (λ from. extra_often (p from)) (λ from. before_often (p from)) often_extends
    taken_follows false = extended (λ from. once (ctype.Value kind) (p from)) (λ from. extra_once (p from)) (λ from. before_once (p from)) once_extends

    -- ---- an index or a bound, of which the number alone matters

    abbrev extra_atom : Piece → List Stmt
    extra_atom q = if has_number q.standing && stays q then [] else Const (local_name q.next) (ctype.Value kind) q.value ∷ []

    -- named, it stands exactly
    on_named : {A : Type 0} (post : A → State → Control (Option CValue) → CState → Type 0) (go : Value → Part State A) (rest : List Stmt) (x y from : ℕ) (t : CState)
        → OnIndex post go rest x y from (named (ctype.Value kind) (p from)) given t → OnNumber post go rest x y from (named (ctype.Value kind) (p from)) given ty t
    on_named post go rest x y from t onward n u gives stood m w =
        onward n u gives (record { grows = stood.grows; kept = stood.kept; stands = λ z kept. (by_number g z kind Exact (named (ctype.Value kind) (p from)).value n refl (holds n gives) (stood.stands z kept), typed_exactly g z kind (named (ctype.Value kind) (p from)).value n (stood.stands z kept)) }) m w

    pub atom_follows : (A : Type 0) (post : A → State → Control (Option CValue) → CState → Type 0) (go : Value → Part State A) (rest : List Stmt) (x y from : ℕ) → g.first ≤ from
        → (t : CState) → Related g objects s t → OnIndex post go rest x y from (atom (ctype.Value kind) (p from)) given t
        → (n : ℕ) (w : World) → Follows g.frame.skip post x y n (bind part go n w s) (λ j. running g ((atom (ctype.Value kind) (p from)).before ++ rest) j w t)
    atom_follows A post go rest x y from le t related onward n w = by_case (has_number (p from).standing && stays (p from)) refl onward where
      by_case : (b : Bool) → (has_number (p from).standing && stays (p from)) ≡ b → OnIndex post go rest x y from (if b then p from else named (ctype.Value kind) (p from)) given t
          → Follows g.frame.skip post x y n (bind part go n w s) (λ j. running g ((if b then p from else named (ctype.Value kind) (p from)).before ++ rest) j w t)
      by_case true e on = follows A post go rest x y from le t related (only_numbers post go rest x y from t on_itself) n w where
        on_itself : (i : ℤ) (u : CState) → given (source.Num i) → Comes g objects s from (p from) ty t (source.Num i) u → (m : ℕ) (z : World) → Follows g.frame.skip post (x + spare (p from)) y m (ticks (owing (p from).owed) (go (source.Num i)) m z s) (λ j. running g rest j z u)
        on_itself i u gives comes m z =
            unpadded g s post (go (source.Num i)) rest x y (spare (p from)) u z (p from).owed (last_free (has_number (p from).standing) (is_atom (p from).value) (p from).owed e)
            (λ k. on i u gives (record {
              grows = comes.grows;
              kept = comes.kept;
              stands = λ v kept. (
                by_number g v kind (p from).standing (p from).value i (first_holds (has_number (p from).standing) (stays (p from)) e) (holds i gives) (comes.stands v kept).1,
                typed_number g v kind (p from).standing (p from).owed (p from).value i (first_holds (has_number (p from).standing) (stays (p from)) e)
                    (last_free (has_number (p from).standing) (is_atom (p from).value) (p from).owed e) (comes.stands v kept).0 (comes.stands v kept).1,
              );
            }) k z) m
      by_case false e on =
          subst (λ l. Follows g.frame.skip post x y n (bind part go n w s) (λ j. running g l j w t)) (sym (append_assoc (p from).before (Const (local_name (p from).next) (ctype.Value kind) (p from).value ∷ []) rest))
          (follows A post go (Const (local_name (p from).next) (ctype.Value kind) (p from).value ∷ rest) x y from le t related
          (only_numbers post go (Const (local_name (p from).next) (ctype.Value kind) (p from).value ∷ rest) x y from t
          (by_name from (λ z. payable_atom g.program z (p from).standing (p from).owed (p from).value e) A post go rest x y t (on_named post go rest x y from t on))) n w)
