-- Truths in C: an operand that stands exactly evaluates to its number, two are compared as they are, and what `!` makes of one.
use Rattle.std.proofs.Common.{◌≡◌, ℕ, ℤ, pos, negsuc, Bool, true, false, not, IsTrue, Option, Some, None, Ok, arith, refl, subst, ap, ◌∙◌}
use Rattle.std.specs.Prelude.{IsSome, int_le}
use Rattle.std.specs.Ordering.{int_eq}
use Rattle.std.proofs.lemmas.Int.{ints}
use Rattle.iv_words.specs.Kinds.{in_range_of}
use Rattle.int_ops.specs.Operators.{truth}
use Rattle.int_ops.specs.declared.Op.TheVariants as op
use Rattle.index_types.specs.Indices.{is_index}
use Rattle.core_meaning.specs.Checks.{Answer}
use Rattle.c_ast.specs.declared.Arith.{Arith}
use Rattle.c_ast.specs.declared.Arith.TheVariants.{Int}
use Rattle.c_ast.specs.declared.CBinary.{CBinary}
use Rattle.c_ast.specs.declared.CBinary.TheVariants.{Eq, Ne}
use Rattle.c_ast.specs.declared.CKind.{CKind}
use Rattle.c_ast.specs.declared.CKind.TheVariants.{Scalar, Arith as Computed}
use Rattle.c_ast.specs.declared.CScalar.{CScalar}
use Rattle.c_ast.specs.declared.CScalar.TheVariants.{Truth}
use Rattle.c_ast.specs.declared.CUnary.TheVariants.{Not}
use Rattle.c_ast.specs.declared.Suffix.{Suffix}
use Rattle.c_ast.specs.Conversions.{candidates, can_hold, constant_type}
use Rattle.c_ast.specs.Syntax.{Expr, Number, Read, Address, Unary, Binary, Cast, Cond}
use Rattle.c_ast.specs.Targets.{table_of}
use Rattle.c_meaning.specs.Values.{CValue, Num}
use Rattle.c_meaning.specs.Operators.{binary, compared}
use Rattle.c_meaning.specs.State.{Program, CState}
use Rattle.c_meaning.specs.Expressions.{eval}
use Rattle.c_meaning.proofs.Expressions.{first_holds}
use Rattle.overflow_checks.proofs.Alike.{AreNatural, compared_natural}
use Rattle.overflow_checks.proofs.Given.{binary_gives, unary_gives, constant_gives}
use Rattle.overflow_checks.proofs.Rows.{Tests}
use Rattle.overflow_checks.proofs.Tables.{table_of_target}
use Rattle.form_answers.specs.FormLaws.{TruthsCompare, NegationsAnswer}
use Rattle.form_answers.specs.Standing.{HasScalar, ExactlyIs, Converts}

-- ---- what an operand that stands exactly evaluates to

-- its number, which the type of the value has, where the scalar type has it
pub record HasValue (p : Program) (u : CState) (k : CScalar) (e : Expr) (n : ℤ) : Type 0 where
  pub kind : CKind
  pub gives : eval p e u ≡ Ok (Num kind n)
  pub held : IsTrue (can_hold (table_of p.target) (Scalar k) n) → IsTrue (can_hold (table_of p.target) kind n)

module _ (p : Program) (u : CState) (k : CScalar) where
  constant_has : (m : ℕ) (suffix : Suffix) (found : Option Arith) → constant_type p.target suffix m ≡ found → IsSome found → HasValue p u k (Number m suffix) (pos m)
  constant_has m suffix None e some = cc
  constant_has m suffix (Some c) e some = record {
    kind = Computed c;
    gives = constant_gives p u m suffix c e;
    held = λ h. first_holds (table_of p.target) (candidates suffix) (pos m) c e;
  }

  scalar_has : (e : Expr) (n : ℤ) → HasScalar p u k e n → HasValue p u k e n
  scalar_has e n h = record { kind = Scalar k; gives = h.gives; held = λ held. held }

  pub has_value : (e : Expr) (n : ℤ) → ExactlyIs p u k e n → HasValue p u k e n
  has_value (Number m suffix) n h = subst (HasValue p u k (Number m suffix)) h.0 (constant_has m suffix (constant_type p.target suffix m) refl h.1)
  has_value (Read place) n h = scalar_has (Read place) n h
  has_value (Address place) n h = scalar_has (Address place) n h
  has_value (Unary op e) n h = scalar_has (Unary op e) n h
  has_value (Binary op a b) n h = scalar_has (Binary op a b) n h
  has_value (Cast to e) n h = scalar_has (Cast to e) n h
  has_value (Cond c a b) n h = scalar_has (Cond c a b) n h

-- ---- comparisons

one_bit : (x : ℤ) → IsTrue (is_index 2 x) → IsTrue (in_range_of 1 false x)
one_bit (pos n) h = grind (arith, ints)
one_bit (negsuc n) h = cc

not_negative : (x : ℤ) → IsTrue (is_index 2 x) → IsTrue (int_le (pos 0) x)
not_negative (pos n) h = grind (arith, ints)
not_negative (negsuc n) h = cc

abbrev AreSame : (r q : Answer) → Type 0
AreSame r q = r ≡ q

answer_is : (n v : ℤ) → AreSame (Ok n) (Ok v) → n ≡ v
answer_is n v e = cc

converts : (p : Program) (u : CState) (e : Expr) (holds : Bool) (v : ℤ) → Tests p u e holds → truth holds ≡ v → Converts p u Truth e v
converts p u e true v h is = record { kind = Computed Int; number = pos 1; gives = h; converted = ap Some is }
converts p u e false v h is = record { kind = Computed Int; number = pos 0; gives = h; converted = ap Some is }

module _ (p : Program) (u : CState) (a b : Expr) (x y : ℤ) (ea : ExactlyIs p u Truth a x) (eb : ExactlyIs p u Truth b y) (ix : IsTrue (is_index 2 x)) (iy : IsTrue (is_index 2 y)) where
  compares : (o : CBinary) (test : ℤ → ℤ → Bool) → ((v w : CValue) → binary (table_of p.target) o v (Ok w) ≡ compared (table_of p.target) test v w) → Tests p u (Binary o a b) (test x y)
  compares o test is =
      let t = table_of p.target in
      let table = table_of_target p.target in
      let l = has_value p u Truth a x ea in
      let r = has_value p u Truth b y eb in
      let n : AreNatural t table l.kind r.kind x y = record { left_from = not_negative x ix; right_from = not_negative y iy; left_held = l.held (one_bit x ix); right_held = r.held (one_bit y iy) } in
      binary_gives p u o a b (Num l.kind x) (Num r.kind y) l.gives r.gives ∙ is (Num l.kind x) (Num r.kind y) ∙ compared_natural t table l.kind r.kind x y n test

  compared_answer : (o : CBinary) (test : ℤ → ℤ → Bool) (v : ℤ) → ((v w : CValue) → binary (table_of p.target) o v (Ok w) ≡ compared (table_of p.target) test v w) → AreSame (Ok (truth (test x y))) (Ok v)
      → Converts p u Truth (Binary o a b) v
  compared_answer o test v is e = converts p u (Binary o a b) (test x y) v (compares o test is) (answer_is (truth (test x y)) v e)

pub truths_compare : TruthsCompare
truths_compare p u op.Eq a b x y v equates ea eb ix iy is = compared_answer p u a b x y ea eb ix iy Eq int_eq v (λ m n. refl) is
truths_compare p u op.Ne a b x y v equates ea eb ix iy is = compared_answer p u a b x y ea eb ix iy Ne (λ m n. not (int_eq m n)) v (λ m n. refl) is
truths_compare p u o a b x y v equates ea eb ix iy is = cc

-- ---- `!`

pub negations_answer : NegationsAnswer
negations_answer p u e x h = let v = has_value p u Truth e x h in (Computed Int, unary_gives p u Not e (Num v.kind x) v.gives)
