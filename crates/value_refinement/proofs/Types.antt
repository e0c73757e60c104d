-- The scalar of a type holds each number of the type.
use Rattle.std.proofs.Common.{◌≡◌, ℤ, Option, Some, None, refl, sym, ◌∙◌, ap, subst}
use Rattle.std.specs.Prelude.{slice_get, unwrap_or, IsTrue}
use Rattle.iv_words.specs.declared.IntKind.{IntKind}
use Rattle.iv_words.specs.declared.IntKind.TheVariants.{U8}
use Rattle.area_types.specs.Syntax as types
use Rattle.area_types.specs.Syntax.{ValueType}
use Rattle.area_types.specs.Tables.{has_index_length}
use Rattle.core_tree.specs.Syntax.{ExprCore, type_of}
use Rattle.core_tree.specs.TypedExpressions.{ExprTyped}
use Rattle.core_tree.specs.Types.{is_value, is_word}
use Rattle.core_meaning.specs.Gives.{Gives}
use Rattle.core_meaning.specs.State.{State}
use Rattle.core_meaning.specs.Values.{Num}
use Rattle.c_ast.specs.declared.CKind.TheVariants.{Scalar}
use Rattle.c_ast.specs.declared.CScalar.TheVariants.{Int}
use Rattle.c_ast.specs.Conversions.{can_hold}
use Rattle.c_ast.specs.Targets.{table_of}
use Rattle.area_objects.specs.Scalars.{scalar_of}
use Rattle.area_objects.proofs.Scalars.{numbers_can_be_held}
use Rattle.lower_types.specs.Types.{scalar_in, scalar_for}
use Rattle.value_refinement.specs.Laws.{Stage}
use Rattle.value_refinement.specs.Settings.{Setting, Set}

word_scalar : (found : Option IntKind) (n : ℤ) → IsTrue (is_word found n) → scalar_in found ≡ Int (unwrap_or found U8)
word_scalar (Some kind) n e = refl
word_scalar None n e = let no : ⊥ = cc in absurd no

-- of a type that has a number, it is the one by which objects hold it
scalar_type : (g : Setting) → Set g → (ty : ValueType) (n : ℤ) → IsTrue (is_value g.frame.core.structs ty n) → scalar_for g.frame.table ty ≡ scalar_of g.frame.core.structs.words ty
scalar_type g set types.Truth n e = refl
scalar_type g set (types.Int kind) n e = refl
scalar_type g set (types.Ix k) n e = refl
scalar_type g set (types.Bits k) n e = ap (λ t. scalar_for t (types.Bits k)) set.table ∙ word_scalar (slice_get g.frame.core.structs.words k) n e
scalar_type g set (types.Ref constant region target) n e = let no : ⊥ = cc in absurd no

module _ (g : Setting) (set : Set g) where
  pub scalar_holds : (ty : ValueType) (n : ℤ) → IsTrue (has_index_length ty) → IsTrue (is_value g.frame.core.structs ty n) → IsTrue (can_hold (table_of g.program.target) (Scalar (scalar_for g.frame.table ty)) n)
  scalar_holds ty n small e =
      subst (λ k. IsTrue (can_hold (table_of g.program.target) (Scalar k) n)) (sym (scalar_type g set ty n e)) (numbers_can_be_held (table_of g.program.target) g.frame.core.structs ty n small e)

  -- the number that an expression gives
  pub given_holds : (s : State) → Stage g s → (e : ExprCore) (n : ℤ) → ExprTyped g.env g.scope e → Gives g.frame.core g.outcome s e (Num n) → IsTrue (can_hold (table_of g.program.target) (Scalar (scalar_for g.frame.table (type_of e))) n)
  given_holds s stage e n typed gives = scalar_holds (type_of e) n (stage.indexed e typed) (stage.fits e (Num n) typed gives)
