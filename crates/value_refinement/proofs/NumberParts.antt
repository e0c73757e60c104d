-- Forms on one number and on two: where what a form answers is known of operands that stand exactly, its C follows it.
use Rattle.std.proofs.Common.{◌≡◌, ℕ, zero, suc, ◌+◌, ◌≤◌, ℤ, Bool, true, false, List, ◌++◌, length, Ok, refl, sym, ◌∙◌, ap, subst, arith}
use Rattle.std.specs.Prelude.{if◌then◌else◌}
use Rattle.std.proofs.lemmas.List.{append_assoc}
use Rattle.step_semantics.specs.Follows.{Follows}
use Rattle.step_semantics.specs.Steps.{World, Part, bind, tick, ticks, give, after}
use Rattle.step_semantics.proofs.Equations.{after_after}
use Rattle.step_semantics.proofs.Following.{eased}
use Rattle.area_types.specs.Syntax.{ValueType}
use Rattle.core_tree.specs.Syntax.{Label}
use Rattle.core_tree.specs.declared.SiteKind.{SiteKind}
use Rattle.core_meaning.specs.Checks.{Answer, answering, on_number}
use Rattle.core_meaning.specs.State.{State}
use Rattle.core_meaning.specs.Values.{Value, Num}
use Rattle.c_ast.specs.Syntax.{Expr, Stmt}
use Rattle.c_meaning.specs.State.{Program, CState}
use Rattle.area_objects.specs.Both.{Map}
use Rattle.lower_types.specs.Types.{scalar_for}
use Rattle.lower_values.specs.Pieces.{Piece, Standing, Exact, Same, Near, is_exact}
use Rattle.lower_values.specs.Tests.{tests, are_none}
use Rattle.form_answers.specs.Answering.{GuardsTell}
use Rattle.value_refinement.specs.Kept.{Kept}
use Rattle.value_refinement.specs.Laws.{Numbered, owing, running}
use Rattle.value_refinement.specs.Settings.{Setting, Set}
use Rattle.form_answers.specs.Standing.{ExactlyIs, Stands}
use Rattle.value_refinement.specs.Values.{Comes, Simple}
use Rattle.value_refinement.proofs.Keeping.{kept_twice, kept_same}
use Rattle.value_refinement.proofs.NumberForms.{answer_follows}
use Rattle.value_refinement.proofs.Operands.{Onward, PieceFollows, OperandFollows, Stood}
use Rattle.value_refinement.proofs.Standings.{related_on}

pub near_simple : (p : Program) (w : CState) (owed : Bool) (e : Expr) → Simple p w Near owed e
near_simple p w true e = tt
near_simple p w false e = tt

owed_simple : (p : Program) (w : CState) (st : Standing) (e : Expr) → Simple p w st true e
owed_simple p w Exact e = tt
owed_simple p w Same e = tt
owed_simple p w Near e = tt

module _ (g : Setting) (set : Set g) (objects : Map) (s : State) where
  -- of pieces that are the same
  pub same_pieces : (part : Part State Value) (given : Value → Type 0) (ty : ValueType) (p q : ℕ → Piece) → ((from : ℕ) → p from ≡ q from) → PieceFollows g set objects s part given ty p → PieceFollows g set objects s part given ty q
  same_pieces part given ty p q same h A post go rest x y from le t related onward n w =
      subst (λ r. Follows g.frame.skip post x y n (bind part go n w s) (λ j. running g (r.before ++ rest) j w t)) (same from)
      (h A post go rest x y from le t related (subst (λ r. Onward g set objects s post go rest x y from r given ty t) (sym (same from)) onward) n w)

  -- of parts that come to the same
  pub same_parts : (part other : Part State Value) (given : Value → Type 0) (ty : ValueType) (p : ℕ → Piece) → ((n : ℕ) (w : World) → part n w s ≡ other n w s) → PieceFollows g set objects s part given ty p → PieceFollows g set objects s other given ty p
  same_parts part other given ty p same h A post go rest x y from le t related onward n w =
      subst (λ r. Follows g.frame.skip post x y n (after r go) (λ j. running g ((p from).before ++ rest) j w t)) (same n w) (h A post go rest x y from le t related onward n w)

  -- what stands in a form's own statements
  spare_is : (x : ℕ) (owed : Bool) (st : Standing) → is_exact st ≡ false → x + (if owed then 0 else 8) ≡ x + (if owed then 0 else if is_exact st then 0 else 8)
  spare_is x owed st e = ap (λ b. x + (if owed then 0 else if b then 0 else 8)) (sym e)

  -- ---- one operand

  module _ (part : Part State Value) (given : Value → Type 0) (ty : ValueType) (q : ℕ → Piece) (follows : OperandFollows g set objects s part given ty q) (result : Value → Type 0) (to : ValueType) (st : Standing) (inexact : is_exact st ≡ false) (value : Expr → Expr) where
    -- with the tests of its checks
    module _ (l : Label) (small : Numbered l.checks) (few : length l.checks ≤ 4) (guard : Expr → SiteKind → Expr) (is_settled : Expr → SiteKind → Bool) (answer : ℤ → Answer)
        (tells : (w : CState) (e : Expr) (a : ℤ) → given (Num a) → ExactlyIs g.program w (scalar_for g.frame.table ty) e a → GuardsTell g.program w (guard e) (is_settled e) (answer a) l.checks)
        (stands : (w : CState) (e : Expr) (a v : ℤ) → given (Num a) → ExactlyIs g.program w (scalar_for g.frame.table ty) e a → answer a ≡ Ok v → Stands st g.program w (scalar_for g.frame.table to) (value e) v)
        (simple : (w : CState) (e : Expr) (a : ℤ) → given (Num a) → ExactlyIs g.program w (scalar_for g.frame.table ty) e a → (owed : Bool) → Simple g.program w st owed (value e))
        (gives : (a v : ℤ) → given (Num a) → answer a ≡ Ok v → result (Num v)) where
      abbrev row : Expr → List Stmt
      row e = tests g.frame (guard e) (is_settled e) l.checks

      abbrev checked : ℕ → Piece
      checked from = record { before = (q from).before ++ row (q from).value; value = value (q from).value; owed = are_none (row (q from).value); standing = st; next = (q from).next }

      pub checked_follows : PieceFollows g set objects s (bind part (λ x. on_number g.frame.core x (λ a. answering g.frame.core l (answer a)))) result to checked
      checked_follows A post go rest x y from le t related onward n w =
          subst (λ r. Follows g.frame.skip post x y n r (λ j. running g ((checked from).before ++ rest) j w t)) (sym (after_after (part n w s) (λ v. on_number g.frame.core v (λ a. answering g.frame.core l (answer a))) go))
          (subst (λ ss. Follows g.frame.skip post x y n (bind part (λ v. bind (on_number g.frame.core v (λ a. answering g.frame.core l (answer a))) go) n w s) (λ j. running g ss j w t)) (sym (append_assoc (q from).before (row (q from).value) rest))
          (follows A post (λ v. bind (on_number g.frame.core v (λ a. answering g.frame.core l (answer a))) go) (row (q from).value ++ rest) x y from le t related on n w))
        where
          comes : (a : ℤ) (u : CState) → given (Num a) → Stood g set objects s from (q from) ty t a u → (v : ℤ) → answer a ≡ Ok v → Comes g objects s from (checked from) to t (Num v) u
          comes a u is stood v e = record {
            grows = stood.grows;
            kept = stood.kept;
            stands = λ z kept. (simple z (q from).value a is (stood.stands z kept) (are_none (row (q from).value)), stands z (q from).value a v is (stood.stands z kept) e);
          }

          on : (a : ℤ) (u : CState) → given (Num a) → Stood g set objects s from (q from) ty t a u → (m : ℕ) (z : World)
              → Follows g.frame.skip post x y m (bind (answering g.frame.core l (answer a)) go m z s) (λ j. running g (row (q from).value ++ rest) j z u)
          on a u is stood m z =
              answer_follows g set objects s (guard (q from).value) (is_settled (q from).value) u (related_on g set objects s from le t u stood.kept related) post go rest x y 0 l small few (answer a)
              (tells u (q from).value a is (stood.stands u (kept_same g.program (q from).next u)))
              (λ v e i r.
              subst (λ c. Follows g.frame.skip post c y i (ticks (owing (are_none (row (q from).value))) (go (Num v)) i r s) (λ j. running g rest j r u)) (sym (spare_is x (are_none (row (q from).value)) st inexact))
              (onward (Num v) u (gives a v is e) (comes a u is stood v e) i r))
              m z

    -- with a step alone
    module _ (next : Value → Part State Value) (f : ℤ → ℤ) (steps : (a : ℤ) → given (Num a) → (n : ℕ) (w : World) → next (Num a) n w s ≡ tick (give (Num (f a))) n w s)
        (stands : (w : CState) (e : Expr) (a : ℤ) → given (Num a) → ExactlyIs g.program w (scalar_for g.frame.table ty) e a → Stands st g.program w (scalar_for g.frame.table to) (value e) (f a))
        (gives : (a : ℤ) → given (Num a) → result (Num (f a))) where
      abbrev stepped : ℕ → Piece
      stepped from = record { before = (q from).before; value = value (q from).value; owed = true; standing = st; next = (q from).next }

      pub stepped_follows : PieceFollows g set objects s (bind part next) result to stepped
      stepped_follows A post go rest x y from le t related onward n w =
          subst (λ r. Follows g.frame.skip post x y n r (λ j. running g ((q from).before ++ rest) j w t)) (sym (after_after (part n w s) next go))
          (follows A post (λ v. bind (next v) go) rest x y from le t related on n w)
        where
          then_go : (a : ℤ) (m : ℕ) (z : World) → after (tick (give (Num (f a))) m z s) go ≡ tick (go (Num (f a))) m z s
          then_go a zero z = refl
          then_go a (suc m) z = refl

          comes : (a : ℤ) (u : CState) → given (Num a) → Stood g set objects s from (q from) ty t a u → Comes g objects s from (stepped from) to t (Num (f a)) u
          comes a u is stood = record {
            grows = stood.grows;
            kept = stood.kept;
            stands = λ z kept. (owed_simple g.program z st (value (q from).value), stands z (q from).value a is (stood.stands z kept));
          }

          on : (a : ℤ) (u : CState) → given (Num a) → Stood g set objects s from (q from) ty t a u → (m : ℕ) (z : World) → Follows g.frame.skip post x y m (bind (next (Num a)) go m z s) (λ j. running g rest j z u)
          on a u is stood m z =
              subst (λ r. Follows g.frame.skip post x y m r (λ j. running g rest j z u)) (sym (ap (λ r. after r go) (steps a is m z) ∙ then_go a m z))
              (eased g.frame.skip post (x + 0) y x y m (tick (go (Num (f a))) m z s) (λ j. running g rest j z u) (omega arith) (omega arith)
              (onward (Num (f a)) u (gives a is) (comes a u is stood) m z))

  -- ---- two operands

  module _ (left right : Part State Value) (left_given right_given : Value → Type 0) (left_type right_type : ValueType) (p q : ℕ → Piece) (left_follows : OperandFollows g set objects s left left_given left_type p) (right_follows : OperandFollows g set objects s right right_given right_type q)
      (result : Value → Type 0) (to : ValueType) (st : Standing) (near : st ≡ Near) (value : Expr → Expr → Expr)
      (l : Label) (small : Numbered l.checks) (few : length l.checks ≤ 4) (guard : Expr → Expr → SiteKind → Expr) (is_settled : Expr → Expr → SiteKind → Bool) (answer : ℤ → ℤ → Answer)
      (tells : (w : CState) (d e : Expr) (a b : ℤ) → left_given (Num a) → right_given (Num b) → ExactlyIs g.program w (scalar_for g.frame.table left_type) d a → ExactlyIs g.program w (scalar_for g.frame.table right_type) e b
      → GuardsTell g.program w (guard d e) (is_settled d e) (answer a b) l.checks)
      (stands : (w : CState) (d e : Expr) (a b v : ℤ) → left_given (Num a) → right_given (Num b) → ExactlyIs g.program w (scalar_for g.frame.table left_type) d a → ExactlyIs g.program w (scalar_for g.frame.table right_type) e b
      → answer a b ≡ Ok v → Stands st g.program w (scalar_for g.frame.table to) (value d e) v)
      (gives : (a b v : ℤ) → left_given (Num a) → right_given (Num b) → answer a b ≡ Ok v → result (Num v)) where
    inexact : is_exact st ≡ false
    inexact = ap is_exact near

    simple : (z : CState) (owed : Bool) (e : Expr) → Simple g.program z st owed e
    simple z owed e = subst (λ k. Simple g.program z k owed e) (sym near) (near_simple g.program z owed e)

    abbrev second : ℕ → Piece
    second from = q (p from).next

    abbrev pair_row : ℕ → List Stmt
    pair_row from = tests g.frame (guard (p from).value (second from).value) (is_settled (p from).value (second from).value) l.checks

    abbrev paired : ℕ → Piece
    paired from = record {
      before = ((p from).before ++ (second from).before) ++ pair_row from;
      value = value (p from).value (second from).value;
      owed = are_none (pair_row from);
      standing = st;
      next = (second from).next;
    }

    abbrev both_numbers : Value → Value → Part State Value
    both_numbers v z = on_number g.frame.core v (λ a. on_number g.frame.core z (λ b. answering g.frame.core l (answer a b)))

    pub paired_follows : PieceFollows g set objects s (bind left (λ v. bind right (both_numbers v))) result to paired
    paired_follows A post go rest x y from le t related onward n w =
        subst (λ r. Follows g.frame.skip post x y n r (λ j. running g ((paired from).before ++ rest) j w t)) (sym (after_after (left n w s) (λ v. bind right (both_numbers v)) go))
        (subst (λ ss. Follows g.frame.skip post x y n (bind left (λ v. bind (bind right (both_numbers v)) go) n w s) (λ j. running g ss j w t))
        (sym (append_assoc ((p from).before ++ (second from).before) (pair_row from) rest ∙ append_assoc (p from).before (second from).before (pair_row from ++ rest)))
        (left_follows A post (λ v. bind (bind right (both_numbers v)) go) ((second from).before ++ (pair_row from ++ rest)) x y from le t related on_left n w))
      where
        comes : (a : ℤ) (u : CState) → left_given (Num a) → Stood g set objects s from (p from) left_type t a u → (b : ℤ) (u2 : CState) → right_given (Num b) → Stood g set objects s (p from).next (second from) right_type u b u2
            → (v : ℤ) → answer a b ≡ Ok v → Comes g objects s from (paired from) to t (Num v) u2
        comes a u is stood b u2 is2 stood2 v e = record {
          grows = omega (arith, stood.grows, stood2.grows);
          kept = kept_twice g.program from (p from).next t u u2 stood.grows stood.kept stood2.kept;
          stands = λ z kept. (
            simple z (are_none (pair_row from)) (value (p from).value (second from).value),
            stands z (p from).value (second from).value a b v is is2 (stood.stands z (kept_twice g.program (p from).next (second from).next u u2 z stood2.grows stood2.kept kept)) (stood2.stands z kept) e,
          );
        }

        on_right : (a : ℤ) (u : CState) → left_given (Num a) → Stood g set objects s from (p from) left_type t a u → (b : ℤ) (u2 : CState) → right_given (Num b) → Stood g set objects s (p from).next (second from) right_type u b u2 → (m : ℕ) (z : World)
            → Follows g.frame.skip post x y m (bind (answering g.frame.core l (answer a b)) go m z s) (λ j. running g (pair_row from ++ rest) j z u2)
        on_right a u is stood b u2 is2 stood2 m z =
            let kept : Kept g.program from t u2 = kept_twice g.program from (p from).next t u u2 stood.grows stood.kept stood2.kept in
            answer_follows g set objects s (guard (p from).value (second from).value) (is_settled (p from).value (second from).value) u2 (related_on g set objects s from le t u2 kept related) post go rest x y 0 l small few (answer a b)
            (tells u2 (p from).value (second from).value a b is is2 (stood.stands u2 stood2.kept) (stood2.stands u2 (kept_same g.program (second from).next u2)))
            (λ v e i r.
            subst (λ c. Follows g.frame.skip post c y i (ticks (owing (are_none (pair_row from))) (go (Num v)) i r s) (λ j. running g rest j r u2)) (sym (spare_is x (are_none (pair_row from)) st inexact))
            (onward (Num v) u2 (gives a b v is is2 e) (comes a u is stood b u2 is2 stood2 v e) i r))
            m z

        on_left : (a : ℤ) (u : CState) → left_given (Num a) → Stood g set objects s from (p from) left_type t a u → (m : ℕ) (z : World)
            → Follows g.frame.skip post x y m (bind (bind right (both_numbers (Num a))) go m z s) (λ j. running g ((second from).before ++ (pair_row from ++ rest)) j z u)
        on_left a u is stood m z =
            subst (λ r. Follows g.frame.skip post x y m r (λ j. running g ((second from).before ++ (pair_row from ++ rest)) j z u)) (sym (after_after (right m z s) (both_numbers (Num a)) go))
            (right_follows A post (λ v. bind (both_numbers (Num a) v) go) (pair_row from ++ rest) x y (p from).next (omega (arith, le, stood.grows)) u (related_on g set objects s from le t u stood.kept related)
            (λ b u2 is2 stood2 i r. on_right a u is stood b u2 is2 stood2 i r) m z)
