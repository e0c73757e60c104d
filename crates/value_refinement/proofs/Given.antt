-- What a typed expression's value is, as an operand: a number of its kind, and no reference; and what its checks are.
use Rattle.std.proofs.Common.{◌≡◌, ℕ, suc, ◌^◌, ◌<◌, ◌≤◌, ℤ, Bool, List, [], ◌∷◌, ◌++◌, length, map, Option, Some, None, refl, sym, ◌∙◌, ap, subst}
use Rattle.std.specs.Prelude.{IsTrue}
use Rattle.std.proofs.lemmas.List.Elements.{All-head, All-tail, All-cons, All-nil}
use Rattle.iv_words.specs.declared.IntKind.{IntKind}
use Rattle.area_types.specs.Syntax as types
use Rattle.area_types.specs.Syntax.{ValueType}
use Rattle.region_check.specs.Calls.{reference_of}
use Rattle.region_soundness.specs.Fitting.{Entry, ValueFits}
use Rattle.core_tree.specs.Syntax.{ModuleCore, ExprCore, type_of}
use Rattle.core_tree.specs.declared.Check.{Check}
use Rattle.core_tree.specs.declared.SiteKind.{SiteKind}
use Rattle.core_tree.specs.TypedExpressions.{ExprTyped}
use Rattle.core_tree.specs.Types.{is_value}
use Rattle.core_meaning.specs.Areas.{Areas}
use Rattle.core_meaning.specs.Expressions.{eval}
use Rattle.core_meaning.specs.Gives.{Gives}
use Rattle.core_meaning.specs.State.{State}
use Rattle.core_meaning.specs.Values.{Value, Num, Ref}
use Rattle.c_ast.specs.declared.CKind.TheVariants.{Scalar}
use Rattle.c_ast.specs.declared.CScalar.TheVariants as scalar
use Rattle.c_ast.specs.declared.CType.TheVariants as ctype
use Rattle.c_ast.specs.Conversions.{can_hold}
use Rattle.c_ast.specs.Syntax.{Expr, Stmt}
use Rattle.c_meaning.specs.Values.{CValue}
use Rattle.step_semantics.specs.Control.{Control}
use Rattle.step_semantics.specs.Follows.{Follows}
use Rattle.step_semantics.specs.Steps.{World, Part, bind}
use Rattle.c_ast.specs.Targets.{table_of}
use Rattle.c_meaning.specs.State.{CState}
use Rattle.area_objects.specs.Both.{Map}
use Rattle.lower_types.specs.Types.{TypeTable, scalar_in, scalar_for, type_for}
use Rattle.lower_values.specs.Expressions.{raw, index_piece}
use Rattle.lower_values.specs.Frames.{kind_in, type_in}
use Rattle.lower_values.specs.Pieces.{taken, atom}
use Rattle.form_answers.specs.FormLaws.{Operand}
use Rattle.value_refinement.specs.Laws.{Numbered, Stage, RawFollows, running}
use Rattle.value_refinement.specs.Related.{Related}
use Rattle.value_refinement.specs.Settings.{Setting, Set}
use Rattle.form_answers.specs.Standing.{ExactlyIs}
use Rattle.value_refinement.proofs.Operands.{as_piece, taken_follows, atom_follows, OperandFollows, OnIndex}
use Rattle.value_refinement.proofs.Types.{given_holds}

-- ---- types of numbers

value_type : (t : TypeTable) (ty : ValueType) → reference_of ty ≡ None → type_for t ty ≡ ctype.Value (scalar_for t ty)
value_type t types.Truth e = refl
value_type t (types.Int kind) e = refl
value_type t (types.Ix n) e = refl
value_type t (types.Bits k) e = refl
value_type t (types.Ref constant region target) e = let no : ⊥ = cc in absurd no

no_reference : (core : ModuleCore) (entry : Entry) (areas : Areas) (ty : ValueType) (k : ℕ) (path : List ℕ) → reference_of ty ≡ None → ValueFits core entry areas ty (Ref k path) → ⊥
no_reference core entry areas types.Truth k path e h = h
no_reference core entry areas (types.Int kind) k path e h = h
no_reference core entry areas (types.Ix n) k path e h = h
no_reference core entry areas (types.Bits n) k path e h = h
no_reference core entry areas (types.Ref constant region target) k path e h = let no : ⊥ = cc in absurd no

module _ (g : Setting) (set : Set g) (objects : Map) (s : State) (stage : Stage g s) (e : ExprCore) (typed : ExprTyped g.env g.scope e) (plain : reference_of (type_of e) ≡ None) where
  -- it is no reference, and it is in its type
  pub never_refers : (k : ℕ) (path : List ℕ) → Gives g.frame.core g.outcome s e (Ref k path) → ⊥
  never_refers k path gives = no_reference g.frame.core stage.entry s.areas (type_of e) k path plain (stage.fits e (Ref k path) typed gives)

  pub is_of_type : (n : ℤ) → Gives g.frame.core g.outcome s e (Num n) → IsTrue (is_value g.frame.core.structs (type_of e) n)
  is_of_type n gives = stage.fits e (Num n) typed gives

  -- as an operand
  pub operand_follows : RawFollows g objects s e → (again : Bool) → OperandFollows g set objects s (eval g.frame.core g.outcome e) (Gives g.frame.core g.outcome s e) (type_of e) (λ from. taken again (type_in g.frame (type_of e)) (raw g.frame e from))
  operand_follows follows again =
      subst (λ ty. OperandFollows g set objects s (eval g.frame.core g.outcome e) (Gives g.frame.core g.outcome s e) (type_of e) (λ from. taken again ty (raw g.frame e from))) (sym (value_type g.frame.table (type_of e) plain))
      (taken_follows g set objects s (eval g.frame.core g.outcome e) (Gives g.frame.core g.outcome s e) (type_of e) never_refers (raw g.frame e) (as_piece g set objects s e follows) (λ n gives. given_holds g set s stage e n typed gives) again)

  -- as an index
  pub index_operand : RawFollows g objects s e → (A : Type 0) (post : A → State → Control (Option CValue) → CState → Type 0) (go : Value → Part State A) (rest : List Stmt) (x y from : ℕ) → g.first ≤ from → (t : CState) → Related g objects s t
      → OnIndex g set objects s post go rest x y from (index_piece g.frame (type_of e) (raw g.frame e from)) (Gives g.frame.core g.outcome s e) t
      → (n : ℕ) (w : World) → Follows g.frame.skip post x y n (bind (eval g.frame.core g.outcome e) go n w s) (λ j. running g ((index_piece g.frame (type_of e) (raw g.frame e from)).before ++ rest) j w t)
  index_operand follows A post go rest x y from le t related onward n w =
      let is : type_in g.frame (type_of e) ≡ ctype.Value (scalar_for g.frame.table (type_of e)) = value_type g.frame.table (type_of e) plain in
      subst (λ ty. Follows g.frame.skip post x y n (bind (eval g.frame.core g.outcome e) go n w s) (λ j. running g ((atom ty (raw g.frame e from)).before ++ rest) j w t)) (sym is)
      (atom_follows g set objects s (eval g.frame.core g.outcome e) (Gives g.frame.core g.outcome s e) (type_of e) never_refers (raw g.frame e) (as_piece g set objects s e follows) (λ i gives. given_holds g set s stage e i typed gives) A post go rest x y from le t related
      (subst (λ ty. OnIndex g set objects s post go rest x y from (atom ty (raw g.frame e from)) (Gives g.frame.core g.outcome s e) t) is onward) n w)

  -- one of a kind
  pub of_kind : (kind : IntKind) → kind_in g.frame (type_of e) ≡ Some kind → (w : CState) (d : Expr) (n : ℤ) → Gives g.frame.core g.outcome s e (Num n) → ExactlyIs g.program w (scalar_for g.frame.table (type_of e)) d n → Operand g.program w kind d n
  of_kind kind is w d n gives exact =
      let same : scalar_for g.frame.table (type_of e) ≡ scalar.Int kind = ap scalar_in is in
      record {
        exact = subst (λ k. ExactlyIs g.program w k d n) same exact;
        is_in = subst (λ k. IsTrue (can_hold (table_of g.program.target) (Scalar k) n)) same (given_holds g set s stage e n typed gives);
      }

-- ---- checks

pub many_checks : (cs : List Check) (kinds : List SiteKind) → map (λ c. c.kind) cs ≡ kinds → length cs ≡ length kinds
many_checks cs kinds e = length_map cs ∙ ap length e where
  length_map : (ds : List Check) → length ds ≡ length (map (λ c. c.kind) ds)
  length_map [] = refl
  length_map (d ∷ ds) = ap suc (length_map ds)

pub first_checks : (cs ds : List Check) → Numbered (cs ++ ds) → Numbered cs
first_checks [] ds all = All-nil (λ c. c.site < 2 ^ 32)
first_checks (c ∷ cs) ds all = All-cons (λ d. d.site < 2 ^ 32) c cs (All-head (λ d. d.site < 2 ^ 32) c (cs ++ ds) all) (first_checks cs ds (All-tail (λ d. d.site < 2 ^ 32) c (cs ++ ds) all))

pub last_checks : (cs ds : List Check) → Numbered (cs ++ ds) → Numbered ds
last_checks [] ds all = all
last_checks (c ∷ cs) ds all = last_checks cs ds (All-tail (λ d. d.site < 2 ^ 32) c (cs ++ ds) all)
