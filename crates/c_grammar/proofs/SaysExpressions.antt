-- What the rules of expressions, places, initializers and calls say.
use Rattle.std.proofs.Common.{◌≡◌, ◌≢◌, ℕ, zero, suc, ◌^◌, ◌<◌, Bool, true, false, List, [], ◌∷◌, ◌++◌, All, refl, sym, ap, ◌∙◌, subst, append_assoc, arith, if◌then◌else◌, Option, Some, None, codes, decimal}
use Rattle.std.proofs.Common as list
use Rattle.std.proofs.lemmas.List.Elements.{All-head, All-tail}
use Rattle.reading.specs.Row.{Row, tokens}
use Rattle.reading.specs.Language.{Language}
use Rattle.reading.proofs.Rows.{append_nil}
use Rattle.c_ast.specs.declared.expr.CUnary.TheVariants.{Neg, Flip, Not}
use Rattle.c_ast.specs.declared.expr.CBinary.{CBinary}
use Rattle.c_ast.specs.declared.expr.CBinary.TheVariants.{Add, Sub, Mul, Div, Rem, Xor, Shl, Shr, Eq, Ne, Le, Ge, AndAlso, OrElse}
use Rattle.c_ast.specs.Syntax.{Expr, Read, Address, Unary, Binary, Cast, Cond, Place, Var, At}
use Rattle.c_text.specs.Identifiers.{IsIdentifier}
use Rattle.c_text.specs.TypeText.{type_text, texts}
use Rattle.c_text.specs.ExpressionText.{binary_text, expr_text, place_text}
use Rattle.c_text.specs.Subset.{ValueInSubset, ExprInSubset, PlaceInSubset}
use Rattle.grammars.specs.Grammar.{stage, map, choice, repeat, after}
use Rattle.c_grammar.specs.Pieces.{Piece, joined}
use Rattle.c_grammar.specs.Symbols.{Symbol, Tree, Rule, mark, an_expression, a_pointer, an_inner, an_inside, parens, squares, braces, Side, left, right, Inside, type_inside, pointer_inside, value_inside_it}
use Rattle.c_grammar.specs.ExpressionRules.{Step, step_on, steps_on, named_place, place_behind, step, place_of_name, place, number_expr, number, operand, BehindInner, behind_inner, inner_way, inner_value, in_parens, expression, operator, longer, binary_operator, Tail, with_tail, binary_tail, cond_tail, tail, BehindInside, behind_inside, inside_way, inside_value, cast_or_tail, address, unary, value_inside, pointer_rule, inner_rule, inside_rule}
use Rattle.c_grammar.proofs.Says.{Means, Is, Says, IfThere, text_if, m_map, m_sequence, m_choice, m_empty, m_as, m_split, m_brackets, s_fixed, s_sequence, s_after, s_before, s_pair, s_map, s_as, s_optional, s_repeat}
use Rattle.c_grammar.proofs.SaysTypes.{says_name, says_number, says_value_type}
use Rattle.c_grammar.proofs.Meanings.{Closed, Pointed, Meaning, byte_is}

-- ---- steps and places

abbrev pub StepIn : Step → Type 0
StepIn s = IsIdentifier s.0 × IfThere ExprInSubset s.1

abbrev pub step_text : Step → List ℕ
step_text s = (codes "." ++ s.0) ++ text_if (λ e. 91 ∷ (expr_text e ++ 93 ∷ [])) s.1

abbrev pub steps_text : List Step → List ℕ
steps_text steps = texts (list.map step_text steps)

step_says : (p : Place) (s : Step) → PlaceInSubset p → StepIn s → PlaceInSubset (step_on p s) × (place_text p ++ step_text s ≡ place_text (step_on p s))
step_says p (m, None) i j = ((i, j.0), ap (λ z. place_text p ++ z) (append_nil (codes "." ++ m)) ∙ sym (append_assoc (place_text p) (codes ".") m))
step_says p (m, Some e) i j = ((tt, (i, j.0), j.1), simp append_assoc refl)

pub steps_say : (p : Place) (steps : List Step) → PlaceInSubset p → All StepIn steps → PlaceInSubset (steps_on p steps) × (place_text p ++ steps_text steps ≡ place_text (steps_on p steps))
steps_say p [] i all = (i, append_nil (place_text p))
steps_say p (s ∷ steps) i all =
    let one = step_says p s i (All-head StepIn s steps all) in
    let rest = steps_say (step_on p s) steps one.0 (All-tail StepIn s steps all) in
    (rest.0, sym (append_assoc (place_text p) (step_text s) (steps_text steps)) ∙ ap (λ z. z ++ steps_text steps) one.1 ∙ rest.1)

-- ---- behind the first operand

abbrev TailIn : Tail → Type 0
TailIn (left (op, b)) = ExprInSubset b
TailIn (right (a, b)) = ExprInSubset a × ExprInSubset b

abbrev tail_text : Tail → List ℕ
tail_text (left (op, b)) = codes " " ++ ((binary_text op ++ codes " ") ++ expr_text b)
tail_text (right (a, b)) = codes " ? " ++ (expr_text a ++ (codes " : " ++ expr_text b))

-- the text of an expression, but for its parentheses
closed_by : (e : Expr) (t u : List ℕ) → ExprInSubset e → t ≡ u → 40 ∷ (u ++ 41 ∷ []) ≡ expr_text e → Closed e t
closed_by e t u i same is = record { good = i; is = ap (λ z. 40 ∷ (z ++ 41 ∷ [])) same ∙ is }

with_tail_says : (a : Expr) (x : Tail) (s t : List ℕ) → Is ExprInSubset expr_text a s → Is TailIn tail_text x t → Closed (with_tail a x) (s ++ t)
with_tail_says a (left (op, b)) s t i j = closed_by (Binary op a b) (s ++ t) (expr_text a ++ tail_text (left (op, b))) (i.good, j.good) (ap (λ z. z ++ t) i.is ∙ ap (λ z. expr_text a ++ z) j.is) (simp append_assoc refl)
with_tail_says c (right (a, b)) s t i j = closed_by (Cond c a b) (s ++ t) (expr_text c ++ tail_text (right (a, b))) (i.good, j.good.0, j.good.1) (ap (λ z. z ++ t) i.is ∙ ap (λ z. expr_text c ++ z) j.is) (simp append_assoc refl)

module _ (d : ℕ) (L : (n : Symbol) → Language Piece (Tree n)) (inner : (n : Symbol) (x : Tree n) (row : Row Piece) → L n x row → Meaning n (suc d) x (joined (tokens row))) where
  pub m_parens : (n : Symbol) (Q : Tree n → List ℕ → Type 0) → ((x : Tree n) (t : List ℕ) → Meaning n (suc d) x t → Q x (40 ∷ (t ++ 41 ∷ []))) → Means d L (parens n) Q
  m_parens n Q h = m_brackets {n = n} {M = Meaning n (suc d)} {Q = Q} (codes "(") (codes ")") (byte_is d 40) (byte_is (suc d) 41) (inner n) h

  pub m_squares : (n : Symbol) (Q : Tree n → List ℕ → Type 0) → ((x : Tree n) (t : List ℕ) → Meaning n (suc d) x t → Q x (91 ∷ (t ++ 93 ∷ []))) → Means d L (squares n) Q
  m_squares n Q h = m_brackets {n = n} {M = Meaning n (suc d)} {Q = Q} (codes "[") (codes "]") (byte_is d 91) (byte_is (suc d) 93) (inner n) h

  pub m_braces : (n : Symbol) (Q : Tree n → List ℕ → Type 0) → ((x : Tree n) (t : List ℕ) → Meaning n (suc d) x t → Q x (123 ∷ (t ++ 125 ∷ []))) → Means d L (braces n) Q
  m_braces n Q h = m_brackets {n = n} {M = Meaning n (suc d)} {Q = Q} (codes "{") (codes "}") (byte_is d 123) (byte_is (suc d) 125) (inner n) h

  index_says : Says d L (squares an_expression) ExprInSubset (λ e. 91 ∷ (expr_text e ++ 93 ∷ []))
  index_says = m_squares an_expression (Is ExprInSubset (λ e. 91 ∷ (expr_text e ++ 93 ∷ []))) (λ e t i. record { good = i.good; is = ap (λ z. 91 ∷ (z ++ 93 ∷ [])) i.is })

  says_step : Says d L step StepIn step_text
  says_step = s_pair (s_after s_fixed says_name) (s_optional index_says)

  pub says_steps : Says d L (repeat step) (All StepIn) steps_text
  says_steps = s_repeat says_step

  says_place_of_name : Says d L place_of_name PlaceInSubset place_text
  says_place_of_name = s_sequence named_place says_name says_steps (λ x steps i all. steps_say (Var x) steps i all)

  pub says_pointer_parens : Says d L (parens a_pointer) ExprInSubset (λ e. 40 ∷ ((codes "*" ++ expr_text e) ++ 41 ∷ []))
  says_pointer_parens = m_parens a_pointer (Is ExprInSubset (λ e. 40 ∷ ((codes "*" ++ expr_text e) ++ 41 ∷ []))) (λ e t i. record { good = i.good; is = ap (λ z. 40 ∷ (z ++ 41 ∷ [])) i.is })

  behind_says : (e : Expr) (steps : List Step) → ExprInSubset e → All StepIn steps → PlaceInSubset (place_behind e steps) × ((40 ∷ ((codes "*" ++ expr_text e) ++ 41 ∷ [])) ++ steps_text steps ≡ place_text (place_behind e steps))
  behind_says e steps i all = steps_say (At e) steps i all

  says_place : Says d L place PlaceInSubset place_text
  says_place = m_choice says_place_of_name (s_sequence place_behind says_pointer_parens says_steps behind_says)

  -- ---- expressions

  pub says_number_expr : Says d L number ExprInSubset expr_text
  says_number_expr = s_map number_expr says_number (λ n i. (i, refl))

  says_operand : Says d L operand ExprInSubset expr_text
  says_operand = m_choice says_number_expr (s_map Read says_place_of_name (λ p i. (i, refl)))

  abbrev InnerIs : Side Expr Expr → List ℕ → Type 0
  InnerIs (left e) t = Is ExprInSubset (λ e. 40 ∷ ((codes "*" ++ expr_text e) ++ 41 ∷ [])) e t
  InnerIs (right e) t = Is ExprInSubset expr_text e t

  abbrev BehindIs : (s : ℕ) → BehindInner s → List ℕ → Type 0
  BehindIs zero steps t = Is (All StepIn) steps_text steps t
  BehindIs (suc n) nothing t = t ≡ []

  says_inner_parens : Means d L (parens an_inner) InnerIs
  says_inner_parens = m_parens an_inner InnerIs at
    where
      at : (x : Side Expr Expr) (t : List ℕ) → Meaning an_inner (suc d) x t → InnerIs x (40 ∷ (t ++ 41 ∷ []))
      at (left e) t i = record { good = i.good; is = ap (λ z. 40 ∷ (z ++ 41 ∷ [])) i.is }
      at (right e) t i = record { good = i.good; is = i.is }

  says_behind_inner : (s : ℕ) → Means d L (behind_inner s) (BehindIs s)
  says_behind_inner zero = says_steps
  says_behind_inner (suc n) = m_empty refl

  pub says_in_parens : Says d L in_parens ExprInSubset expr_text
  says_in_parens = m_split {R = BehindIs} says_inner_parens says_behind_inner at
    where
      at : (a : Side Expr Expr) (y : BehindInner (stage 1 (inner_way a))) (s t : List ℕ) → InnerIs a s → BehindIs (stage 1 (inner_way a)) y t → Is ExprInSubset expr_text (inner_value a y) (s ++ t)
      at (left e) steps s t i j = let k = behind_says e steps i.good j.good in record { good = k.0; is = ap (λ z. z ++ t) i.is ∙ ap (λ z. (40 ∷ ((codes "*" ++ expr_text e) ++ 41 ∷ [])) ++ z) j.is ∙ k.1 }
      at (right e) nothing s t i j = record { good = i.good; is = ap (λ z. s ++ z) j ∙ append_nil s ∙ i.is }

  pub says_expression : Says d L expression ExprInSubset expr_text
  unfolding expression
  says_expression = m_choice says_operand says_in_parens

  -- ---- operators

  says_operator : (b : ℕ) (op : CBinary) → binary_text op ≡ b ∷ [] → Says d L (operator b op) (λ _. Unit {0}) binary_text
  says_operator b op is = s_map (λ _. op) s_fixed (λ p i. (tt, sym is))

  -- what comes behind the first byte of an operator
  says_second : (a b : ℕ) (op : CBinary) → binary_text op ≡ a ∷ b ∷ [] → Means d L (operator b op) (λ o t. a ∷ t ≡ binary_text o)
  says_second a b op is = m_map (λ _. op) (m_as s_fixed (λ p t i. ap (λ z. a ∷ z) i.is ∙ sym is))

  says_longer : (a : ℕ) {op : CBinary} {more : Rule CBinary} → binary_text op ≡ a ∷ [] → Means d L more (λ o t. a ∷ t ≡ binary_text o) → Says d L (longer a op more) (λ _. Unit {0}) binary_text
  says_longer a is w = m_sequence {P = Is (λ _. Unit {0}) (λ _. a ∷ [])} {R = λ o t. a ∷ t ≡ binary_text o} (λ _ o. o) s_fixed (m_choice w (m_empty (sym is))) (λ p o s t i j. record { good = tt; is = ap (λ z. z ++ t) i.is ∙ j })

  says_both : (a b : ℕ) (op : CBinary) → binary_text op ≡ a ∷ b ∷ [] → Says d L (after (mark a) (operator b op)) (λ _. Unit {0}) binary_text
  says_both a b op is = m_sequence {P = Is (λ _. Unit {0}) (λ _. a ∷ [])} {R = λ o t. a ∷ t ≡ binary_text o} (λ _ o. o) s_fixed (says_second a b op is) (λ p o s t i j. record { good = tt; is = ap (λ z. z ++ t) i.is ∙ j })

  says_binary_operator : Says d L binary_operator (λ _. Unit {0}) binary_text
  unfolding binary_operator
  says_binary_operator =
      m_choice (says_operator 43 Add refl) (m_choice (says_operator 45 Sub refl) (m_choice (says_operator 42 Mul refl) (m_choice (says_operator 47 Div refl) (m_choice (says_operator 37 Rem refl) (m_choice (says_operator 94 Xor refl)
      (m_choice (says_longer 38 refl (says_second 38 38 AndAlso refl)) (m_choice (says_longer 124 refl (says_second 124 124 OrElse refl))
      (m_choice (says_longer 60 refl (m_choice (says_second 60 60 Shl refl) (says_second 60 61 Le refl))) (m_choice (says_longer 62 refl (m_choice (says_second 62 62 Shr refl) (says_second 62 61 Ge refl)))
      (m_choice (says_both 61 61 Eq refl) (says_both 33 61 Ne refl)))))))))))

  says_binary_tail : Says d L binary_tail (λ x. Unit {0} × ExprInSubset x.1) (λ x. (binary_text x.0 ++ codes " ") ++ expr_text x.1)
  says_binary_tail = s_pair (s_before says_binary_operator s_fixed) says_expression

  says_cond_tail : Says d L cond_tail (λ x. ExprInSubset x.0 × ExprInSubset x.1) (λ x. codes "? " ++ (expr_text x.0 ++ (codes " : " ++ expr_text x.1)))
  says_cond_tail = s_after s_fixed (s_after s_fixed (s_pair says_expression (s_after s_fixed (s_after s_fixed (s_after s_fixed says_expression)))))

  abbrev tail_rest : Tail → List ℕ
  tail_rest (left x) = (binary_text x.0 ++ codes " ") ++ expr_text x.1
  tail_rest (right x) = codes "? " ++ (expr_text x.0 ++ (codes " : " ++ expr_text x.1))

  says_tail : Says d L tail TailIn tail_text
  unfolding tail
  says_tail =
      let rest : Says d L (choice (map left binary_tail) (map right cond_tail)) TailIn tail_rest = m_choice (s_map left says_binary_tail (λ x i. (i.1, refl))) (s_map right says_cond_tail (λ x i. (i, refl))) in
      s_as (s_after s_fixed rest) at
    where
      at : (x : Tail) → TailIn x → TailIn x × (codes " " ++ tail_rest x ≡ tail_text x)
      at (left (op, b)) i = (i, refl)
      at (right (a, b)) i = (i, refl)

  -- ---- in parentheses

  abbrev InsideIs : Inside → List ℕ → Type 0
  InsideIs (type_inside t) s = Is ValueInSubset (λ t. 40 ∷ (type_text t ++ 41 ∷ [])) t s
  InsideIs (pointer_inside e) s = Is ExprInSubset (λ e. 40 ∷ ((codes "*" ++ expr_text e) ++ 41 ∷ [])) e s
  InsideIs (value_inside_it e) s = Is ExprInSubset expr_text e s

  says_inside_parens : Means d L (parens an_inside) InsideIs
  says_inside_parens = m_parens an_inside InsideIs at
    where
      at : (x : Inside) (t : List ℕ) → Meaning an_inside (suc d) x t → InsideIs x (40 ∷ (t ++ 41 ∷ []))
      at (type_inside ty) t i = record { good = i.good; is = ap (λ z. 40 ∷ (z ++ 41 ∷ [])) i.is }
      at (pointer_inside e) t i = record { good = i.good; is = ap (λ z. 40 ∷ (z ++ 41 ∷ [])) i.is }
      at (value_inside_it e) t i = record { good = i.good; is = i.is }

  abbrev AfterIs : (s : ℕ) → BehindInside s → List ℕ → Type 0
  AfterIs zero y t = Is (λ (y : List Step × Tail). All StepIn y.0 × TailIn y.1) (λ y. steps_text y.0 ++ tail_text y.1) y t
  AfterIs (suc zero) y t = Is ExprInSubset expr_text y t
  AfterIs (suc (suc n)) y t = Is TailIn tail_text y t

  says_behind_inside : (s : ℕ) → Means d L (behind_inside s) (AfterIs s)
  says_behind_inside zero = s_pair says_steps says_tail
  says_behind_inside (suc zero) = says_expression
  says_behind_inside (suc (suc n)) = says_tail

  says_cast_or_tail : Means d L cast_or_tail Closed
  says_cast_or_tail = m_split {R = AfterIs} says_inside_parens says_behind_inside at
    where
      at : (a : Inside) (y : BehindInside (stage 2 (inside_way a))) (s t : List ℕ) → InsideIs a s → AfterIs (stage 2 (inside_way a)) y t → Closed (inside_value a y) (s ++ t)
      at (type_inside ty) e s t i j =
          closed_by (Cast ty e) (s ++ t) ((40 ∷ (type_text ty ++ 41 ∷ [])) ++ expr_text e) (i.good, j.good) (ap (λ z. z ++ t) i.is ∙ ap (λ z. (40 ∷ (type_text ty ++ 41 ∷ [])) ++ z) j.is) (simp append_assoc refl)
      at (pointer_inside e) (steps, x) s t i j =
          let k = behind_says e steps i.good j.good.0 in
          let one : s ++ t ≡ expr_text (Read (place_behind e steps)) ++ tail_text x =
          ap (λ z. z ++ t) i.is ∙ ap (λ z. (40 ∷ ((codes "*" ++ expr_text e) ++ 41 ∷ [])) ++ z) j.is ∙ sym (append_assoc (40 ∷ ((codes "*" ++ expr_text e) ++ 41 ∷ [])) (steps_text steps) (tail_text x)) ∙ ap (λ z. z ++ tail_text x) k.1 in
          subst (Closed (with_tail (Read (place_behind e steps)) x)) (sym one) (with_tail_says (Read (place_behind e steps)) x (expr_text (Read (place_behind e steps))) (tail_text x) record { good = k.0; is = refl } record { good = j.good.1; is = refl })
      at (value_inside_it e) x s t i j = with_tail_says e x s t i j

  says_address : Means d L address Closed
  says_address = m_map Address (m_as (s_after s_fixed says_place) (λ p t i. closed_by (Address p) t (codes "&" ++ place_text p) i.good i.is refl))

  says_unary : Means d L unary Closed
  says_unary =
      m_choice (m_map (Unary Neg) (m_as (s_after s_fixed says_expression) (λ e t i. closed_by (Unary Neg e) t (codes "-" ++ expr_text e) i.good i.is (simp append_assoc refl))))
      (m_choice (m_map (Unary Flip) (m_as (s_after s_fixed says_expression) (λ e t i. closed_by (Unary Flip e) t (codes "~" ++ expr_text e) i.good i.is (simp append_assoc refl))))
      (m_map (Unary Not) (m_as (s_after s_fixed says_expression) (λ e t i. closed_by (Unary Not e) t (codes "!" ++ expr_text e) i.good i.is (simp append_assoc refl)))))

  pub says_value_inside : Means d L value_inside Closed
  unfolding value_inside
  says_value_inside = m_choice says_address (m_choice says_unary (m_choice (m_sequence with_tail says_operand says_tail (λ a x s t i j. with_tail_says a x s t i j)) says_cast_or_tail))

  pub says_pointer_rule : Means d L pointer_rule Pointed
  says_pointer_rule = s_after s_fixed says_expression

  pub says_inner : Means d L inner_rule (Meaning an_inner d)
  says_inner = m_choice (m_map left says_pointer_rule) (m_map right says_value_inside)

  pub says_inside : Means d L inside_rule (Meaning an_inside d)
  says_inside = m_choice (m_map type_inside says_value_type) (m_choice (m_map pointer_inside says_pointer_rule) (m_map value_inside_it says_value_inside))
