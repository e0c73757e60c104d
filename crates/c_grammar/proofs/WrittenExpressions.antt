-- Expressions, places, initializers and calls of the subset are spelled by their texts.
use Rattle.std.proofs.Common.{◌≡◌, ℕ, suc, List, [], ◌∷◌, ◌++◌, refl, sym, ap, ◌∙◌, subst, append_assoc, if◌then◌else◌, Some, None, codes, decimal}
use Rattle.reading.specs.Row.{Row, tokens}
use Rattle.reading.specs.Language.{Language, Many}
use Rattle.reading.proofs.Rows.{append_nil}
use Rattle.c_ast.specs.declared.expr.CUnary.{CUnary}
use Rattle.c_ast.specs.declared.expr.CUnary.TheVariants.{Neg, Flip, Not}
use Rattle.c_ast.specs.declared.expr.CBinary.{CBinary}
use Rattle.c_ast.specs.declared.expr.CBinary.TheVariants.{Add, Sub, Mul, Div, Rem, And, Or, Xor, Shl, Shr, Eq, Ne, Lt, Le, Gt, Ge, AndAlso, OrElse}
use Rattle.c_ast.specs.Syntax.{Name, Expr, Number, Read, Address, Unary, Binary, Cast, Cond, Place, Var, At, Member, Element}
use Rattle.c_text.specs.Identifiers.{IsIdentifier}
use Rattle.c_text.specs.TypeText.{type_text}
use Rattle.c_text.specs.ExpressionText.{suffix_text, unary_text, binary_text, expr_text, place_text}
use Rattle.c_text.specs.Subset.{ValueInSubset, ExprInSubset, PlaceInSubset}
use Rattle.c_ast.specs.declared.types.CType.{CType}
use Rattle.grammars.specs.Grammar.{sequence, repeat}
use Rattle.grammars.specs.Spelled.{SpellsWith, Spells}
use Rattle.c_grammar.specs.Pieces.{Word, Byte, joined}
use Rattle.c_grammar.specs.Kinds.{lexicon}
use Rattle.c_grammar.specs.Subset.{grammar}
use Rattle.c_grammar.specs.Symbols.{Rule, an_expression, a_pointer, an_inner, an_inside, parens, squares, left, right, pair, type_inside, pointer_inside, value_inside_it}
use Rattle.c_grammar.specs.ExpressionRules.{Step, step_on, steps_on, named_place, place_behind, step, place, number_expr, number, operand, in_parens, expression, binary_operator, Tail, with_tail, tail, value_inside, pointer_rule, BehindInner, BehindInside, behind_inner, inside_way, inside_value, behind_inside}
use Rattle.c_grammar.proofs.Words.{number_piece}
use Rattle.c_grammar.proofs.Written.{Written, as_text, as_value, one_piece, nothing, mapped, in_sequence, ◌then◌, ended, first_of, second_of, by_way, none, more, within_parens, within_squares, joined_append}
use Rattle.c_grammar.proofs.WrittenTypes.{a_blank, a_star, name_written, value_type_written}

-- ---- operators

binary_written : {d : ℕ} (op : CBinary) → Written d binary_operator op (binary_text op)
unfolding binary_operator
binary_written Add = first_of (mapped (λ _. Add) (one_piece (Byte 43) refl))
binary_written Sub = second_of (first_of (mapped (λ _. Sub) (one_piece (Byte 45) refl)))
binary_written Mul = second_of (second_of (first_of (mapped (λ _. Mul) (one_piece (Byte 42) refl))))
binary_written Div = second_of (second_of (second_of (first_of (mapped (λ _. Div) (one_piece (Byte 47) refl)))))
binary_written Rem = second_of (second_of (second_of (second_of (first_of (mapped (λ _. Rem) (one_piece (Byte 37) refl))))))
binary_written Xor = second_of (second_of (second_of (second_of (second_of (first_of (mapped (λ _. Xor) (one_piece (Byte 94) refl)))))))
binary_written And = second_of (second_of (second_of (second_of (second_of (second_of (first_of (as_text (one_piece (Byte 38) refl then second_of nothing) refl)))))))
binary_written AndAlso = second_of (second_of (second_of (second_of (second_of (second_of (first_of (as_text (one_piece (Byte 38) refl then first_of (mapped (λ _. AndAlso) (one_piece (Byte 38) refl))) refl)))))))
binary_written Or = second_of (second_of (second_of (second_of (second_of (second_of (second_of (first_of (as_text (one_piece (Byte 124) refl then second_of nothing) refl))))))))
binary_written OrElse = second_of (second_of (second_of (second_of (second_of (second_of (second_of (first_of (as_text (one_piece (Byte 124) refl then first_of (mapped (λ _. OrElse) (one_piece (Byte 124) refl))) refl))))))))
binary_written Lt = second_of (second_of (second_of (second_of (second_of (second_of (second_of (second_of (first_of (as_text (one_piece (Byte 60) refl then second_of nothing) refl)))))))))
binary_written Shl =
    second_of (second_of (second_of (second_of (second_of (second_of (second_of (second_of (first_of (as_text (one_piece (Byte 60) refl then first_of (first_of (mapped (λ _. Shl) (one_piece (Byte 60) refl)))) refl)))))))))
binary_written Le =
    second_of (second_of (second_of (second_of (second_of (second_of (second_of (second_of (first_of (as_text (one_piece (Byte 60) refl then first_of (second_of (mapped (λ _. Le) (one_piece (Byte 61) refl)))) refl)))))))))
binary_written Gt = second_of (second_of (second_of (second_of (second_of (second_of (second_of (second_of (second_of (first_of (as_text (one_piece (Byte 62) refl then second_of nothing) refl))))))))))
binary_written Shr =
    second_of (second_of (second_of (second_of (second_of (second_of (second_of (second_of (second_of (first_of (as_text (one_piece (Byte 62) refl then first_of (first_of (mapped (λ _. Shr) (one_piece (Byte 62) refl)))) refl))))))))))
binary_written Ge =
    second_of (second_of (second_of (second_of (second_of (second_of (second_of (second_of (second_of (first_of (as_text (one_piece (Byte 62) refl then first_of (second_of (mapped (λ _. Ge) (one_piece (Byte 61) refl)))) refl))))))))))
binary_written Eq = second_of (second_of (second_of (second_of (second_of (second_of (second_of (second_of (second_of (second_of (first_of (as_text (one_piece (Byte 61) refl then mapped (λ _. Eq) (one_piece (Byte 61) refl)) refl)))))))))))
binary_written Ne = second_of (second_of (second_of (second_of (second_of (second_of (second_of (second_of (second_of (second_of (second_of (as_text (one_piece (Byte 33) refl then mapped (λ _. Ne) (one_piece (Byte 61) refl)) refl)))))))))))

-- ---- what an expression begins with: no parenthesis, one around all of it, or one around a pointer

pub data Form (d : ℕ) (e : Expr) (text : List ℕ) : Type 0 where
  numbered : Written d number e text → Form d e text
  named_first : (x : Name) (steps : List Step) (t : List ℕ) → Read (named_place x steps) ≡ e → IsIdentifier x → Written d (repeat step) steps t → x ++ t ≡ text → Form d e text
  enclosed : (t : List ℕ) → Written (suc d) value_inside e t → 40 ∷ (t ++ 41 ∷ []) ≡ text → Form d e text
  pointed : (p : Expr) (steps : List Step) (s t : List ℕ) → Read (place_behind p steps) ≡ e → Written (suc d) pointer_rule p s → Written d (repeat step) steps t → (40 ∷ (s ++ 41 ∷ [])) ++ t ≡ text → Form d e text

operand_named : {d : ℕ} {e : Expr} {text : List ℕ} (x : Name) (steps : List Step) (t : List ℕ) → Read (named_place x steps) ≡ e → IsIdentifier x → Written d (repeat step) steps t → x ++ t ≡ text → Written d operand e text
operand_named x steps t same is w e = as_value (as_text (second_of (mapped Read (in_sequence named_place (name_written x is) w))) e) same

pub enclosed_written : {d : ℕ} {e : Expr} {text : List ℕ} (t : List ℕ) → Written (suc d) value_inside e t → 40 ∷ (t ++ 41 ∷ []) ≡ text → Written d in_parens e text
enclosed_written {d} {e} t w is =
    let one : Written d (parens an_inner) (right e) (40 ∷ (t ++ 41 ∷ [])) = within_parens {n = an_inner} (second_of (mapped right w)) in
    let all : Written d in_parens e ((40 ∷ (t ++ 41 ∷ [])) ++ []) = by_way {Y = BehindInner} {rest = behind_inner} (right e) tt one nothing in
    as_text all (append_nil (40 ∷ (t ++ 41 ∷ [])) ∙ is)

pub pointed_written : {d : ℕ} {e : Expr} {text : List ℕ} (p : Expr) (steps : List Step) (s t : List ℕ) → Read (place_behind p steps) ≡ e → Written (suc d) pointer_rule p s → Written d (repeat step) steps t → (40 ∷ (s ++ 41 ∷ [])) ++ t ≡ text
    → Written d in_parens e text
pointed_written {d} p steps s t same w v is =
    let one : Written d (parens an_inner) (left p) (40 ∷ (s ++ 41 ∷ [])) = within_parens {n = an_inner} (first_of (mapped left w)) in
    let all : Written d in_parens (Read (place_behind p steps)) ((40 ∷ (s ++ 41 ∷ [])) ++ t) = by_way {Y = BehindInner} {rest = behind_inner} (left p) steps one v in
    as_value (as_text all is) same

pub expression_of : {d : ℕ} {e : Expr} {text : List ℕ} → Form d e text → Written d expression e text
unfolding expression
expression_of (numbered w) = first_of (first_of w)
expression_of (named_first x steps t same is w e) = first_of (operand_named x steps t same is w e)
expression_of (enclosed t w is) = second_of (enclosed_written t w is)
expression_of (pointed p steps s t same w v is) = second_of (pointed_written p steps s t same w v is)

with_first : {d : ℕ} {a : Expr} {x : Tail} {s t : List ℕ} → Form d a s → Written d tail x t → Written d value_inside (with_tail a x) (s ++ t)
unfolding value_inside
with_first (numbered w) v = second_of (second_of (first_of (in_sequence with_tail (first_of w) v)))
with_first (named_first x steps t same is w e) v = second_of (second_of (first_of (in_sequence with_tail (operand_named x steps t same is w e) v)))
with_first {d} {a} {x} {s} {t} (enclosed u w is) v =
    let one : Written d (parens an_inside) (value_inside_it a) (40 ∷ (u ++ 41 ∷ [])) = within_parens {n = an_inside} (second_of (second_of (mapped value_inside_it w))) in
    let all : Written d value_inside (with_tail a x) ((40 ∷ (u ++ 41 ∷ [])) ++ t) = second_of (second_of (second_of (by_way {Y = BehindInside} {rest = behind_inside} (value_inside_it a) x one v))) in
    as_text all (ap (λ z. z ++ t) is)
with_first {d} {a} {x} {s} {t} (pointed p steps u z same w v is) y =
    let one : Written d (parens an_inside) (pointer_inside p) (40 ∷ (u ++ 41 ∷ [])) = within_parens {n = an_inside} (second_of (first_of (mapped pointer_inside w))) in
    let both : Written d (sequence pair (repeat step) tail) (steps, x) (z ++ t) = in_sequence pair v y in
    let all : Written d value_inside (with_tail (Read (place_behind p steps)) x) ((40 ∷ (u ++ 41 ∷ [])) ++ (z ++ t)) =
    second_of (second_of (second_of (by_way {Y = BehindInside} {last = 2} {way = inside_way} {f = inside_value} {rest = behind_inside} (pointer_inside p) (steps, x) one both))) in
    as_value (as_text all (sym (append_assoc (40 ∷ (u ++ 41 ∷ [])) z t) ∙ ap (λ z. z ++ t) is)) (ap (λ e. with_tail e x) same)

cast_written : {d : ℕ} (t : CType) (e : Expr) (s : List ℕ) → ValueInSubset t → Written d expression e s → Written d value_inside (Cast t e) ((40 ∷ (type_text t ++ 41 ∷ [])) ++ s)
unfolding value_inside
cast_written {d} t e s is w =
    let one : Written d (parens an_inside) (type_inside t) (40 ∷ (type_text t ++ 41 ∷ [])) = within_parens {n = an_inside} (first_of (mapped type_inside (value_type_written t is))) in
    second_of (second_of (second_of (by_way {Y = BehindInside} {rest = behind_inside} (type_inside t) e one w)))

unary_written : {d : ℕ} (op : CUnary) (e : Expr) (s : List ℕ) → Written d expression e s → Written d value_inside (Unary op e) (unary_text op ++ s)
unfolding value_inside
unary_written Neg e s w = second_of (first_of (first_of (mapped (Unary Neg) (one_piece (Byte 45) refl then w))))
unary_written Flip e s w = second_of (first_of (second_of (first_of (mapped (Unary Flip) (one_piece (Byte 126) refl then w)))))
unary_written Not e s w = second_of (first_of (second_of (second_of (mapped (Unary Not) (one_piece (Byte 33) refl then w)))))

binary_tail_written : {d : ℕ} (op : CBinary) (b : Expr) (s : List ℕ) → Written d expression b s → Written d tail (left (op, b)) (codes " " ++ ((binary_text op ++ codes " ") ++ s))
unfolding tail
binary_tail_written op b s w = a_blank then first_of (mapped left (in_sequence pair (ended (binary_written op) a_blank) w))

cond_tail_written : {d : ℕ} (a b : Expr) (s t : List ℕ) → Written d expression a s → Written d expression b t → Written d tail (right (a, b)) (codes " ? " ++ (s ++ (codes " : " ++ t)))
unfolding tail
cond_tail_written a b s t v w =
    as_text (a_blank then second_of (mapped right (one_piece (Byte 63) refl then (a_blank then in_sequence pair v (a_blank then (one_piece (Byte 58) refl then (a_blank then w))))))) refl

-- ---- steps and places

many_append : {T A : Type 0} (R : Language T A) (xs ys : List A) (u v : Row T) → Many R xs u → Many R ys v → Many R (xs ++ ys) (u ++ v)
many_append R [] ys u v e t = subst (λ w. Many R ys (w ++ v)) (sym e) t
many_append R (x ∷ xs) ys u v (f, g, e, s, r) t = (f, g ++ v, ap (λ w. w ++ v) e ∙ append_assoc f g v, s, many_append R xs ys g v r t)

appended : {A : Type 0} {d : ℕ} {p : Rule A} {xs ys : List A} {s t : List ℕ} → Written d (repeat p) xs s → Written d (repeat p) ys t → Written d (repeat p) (xs ++ ys) (s ++ t)
appended {d = d} {p = p} {xs = xs} {ys = ys} {s = s} {t = t} v w = record {
  row = v.row ++ w.row;
  spelled = many_append (SpellsWith lexicon d (Spells lexicon grammar (suc d)) p) xs ys v.row w.row v.spelled w.spelled;
  makes = joined_append v.row w.row ∙ ap (λ x. x ++ joined (tokens w.row)) v.makes ∙ ap (λ x. s ++ x) w.makes;
}

steps_snoc : (p : Place) (steps : List Step) (s : Step) → steps_on p (steps ++ s ∷ []) ≡ step_on (steps_on p steps) s
steps_snoc p [] s = refl
steps_snoc p (x ∷ steps) s = steps_snoc (step_on p x) steps s

pub data PlaceForm (d : ℕ) (p : Place) (text : List ℕ) : Type 0 where
  named : (x : Name) (steps : List Step) (t : List ℕ) → named_place x steps ≡ p → IsIdentifier x → Written d (repeat step) steps t → x ++ t ≡ text → PlaceForm d p text
  behind : (e : Expr) (steps : List Step) (s t : List ℕ) → place_behind e steps ≡ p → Written (suc d) pointer_rule e s → Written d (repeat step) steps t → (40 ∷ (s ++ 41 ∷ [])) ++ t ≡ text → PlaceForm d p text

one_step : {d : ℕ} {p : Place} {text : List ℕ} (s : Step) (u : List ℕ) → PlaceForm d p text → Written d step s u → PlaceForm d (step_on p s) (text ++ u)
one_step {text = text} s u (named x steps t same is v e) w =
    named x (steps ++ s ∷ []) (t ++ (u ++ [])) (steps_snoc (Var x) steps s ∙ ap (λ p. step_on p s) same) is (appended v (more w none)) (sym (append_assoc x t (u ++ [])) ∙ ap (λ z. z ++ (u ++ [])) e ∙ ap (λ z. text ++ z) (append_nil u))
one_step {text = text} s u (behind p steps a t same is v e) w =
    behind p (steps ++ s ∷ []) a (t ++ (u ++ [])) (steps_snoc (At p) steps s ∙ ap (λ p. step_on p s) same) is (appended v (more w none)) (sym (append_assoc (40 ∷ (a ++ 41 ∷ [])) t (u ++ [])) ∙ ap (λ z. z ++ (u ++ [])) e ∙ ap (λ z. text ++ z) (append_nil u))

pub place_of : {d : ℕ} {p : Place} {text : List ℕ} → PlaceForm d p text → Written d place p text
place_of (named x steps t same is v e) = as_value (as_text (first_of (in_sequence named_place (name_written x is) v)) e) same
place_of {d} (behind p steps s t same w v e) =
    let one : Written d (parens a_pointer) p (40 ∷ (s ++ 41 ∷ [])) = within_parens {n = a_pointer} w in
    as_value (as_text (second_of (in_sequence place_behind one v)) e) same

read_of : {d : ℕ} {p : Place} {text : List ℕ} → PlaceForm d p text → Form d (Read p) text
read_of (named x steps t same is v e) = named_first x steps t (ap Read same) is v e
read_of (behind p steps s t same w v e) = pointed p steps s t (ap Read same) w v e

member_written : {d : ℕ} (m : Name) → IsIdentifier m → Written d step (m, None) (codes "." ++ m)
member_written m is = as_text (in_sequence pair (one_piece (Byte 46) refl then name_written m is) (second_of nothing)) (append_nil (codes "." ++ m))

element_written : {d : ℕ} (m : Name) (e : Expr) (s : List ℕ) → IsIdentifier m → Written (suc d) expression e s → Written d step (m, Some e) ((codes "." ++ m) ++ (91 ∷ (s ++ 93 ∷ [])))
element_written {d} m e s is w =
    let index : Written d (squares an_expression) e (91 ∷ (s ++ 93 ∷ [])) = within_squares {n = an_expression} w in
    in_sequence pair (one_piece (Byte 46) refl then name_written m is) (first_of (mapped Some index))

address_written : {d : ℕ} {text : List ℕ} (p : Place) → Written d place p text → Written d value_inside (Address p) (codes "&" ++ text)
unfolding value_inside
address_written p w = first_of (mapped Address (one_piece (Byte 38) refl then w))

member_form : {d : ℕ} {p : Place} {text : List ℕ} (m : Name) → PlaceForm d p text → IsIdentifier m → PlaceForm d (Member p m) (text ++ codes "." ++ m)
member_form {d} {p} {text} m f is = subst (PlaceForm d (Member p m)) (simp append_assoc refl) (one_step (m, None) (codes "." ++ m) f (member_written m is))

element_form : {d : ℕ} {p : Place} {text : List ℕ} (m : Name) (e : Expr) (s : List ℕ) → PlaceForm d p text → IsIdentifier m → Written (suc d) expression e s
    → PlaceForm d (Element (Member p m) e) (text ++ codes "." ++ m ++ codes "[" ++ s ++ codes "]")
element_form {d} {p} {text} m e s f is w = subst (PlaceForm d (Element (Member p m) e)) (simp append_assoc refl) (one_step (m, Some e) ((codes "." ++ m) ++ (91 ∷ (s ++ 93 ∷ []))) f (element_written m e s is w))

mutual
  pub form_of : (e : Expr) → ExprInSubset e → (d : ℕ) → Form d e (expr_text e)
  form_of (Number v suffix) is d = numbered (mapped number_expr (one_piece (Word (decimal v ++ suffix_text suffix)) (number_piece d v suffix is)))
  form_of (Read place) is d = read_of (place_form place is d)
  form_of (Address place) is d = enclosed (codes "&" ++ place_text place) (address_written place (place_of (place_form place is (suc d)))) refl
  form_of (Unary op e) is d = enclosed (unary_text op ++ expr_text e) (unary_written op e (expr_text e) (expression_of (form_of e is (suc d)))) (simp append_assoc refl)
  form_of (Binary op a b) is d =
      enclosed (expr_text a ++ (codes " " ++ ((binary_text op ++ codes " ") ++ expr_text b))) (with_first (form_of a is.0 (suc d)) (binary_tail_written op b (expr_text b) (expression_of (form_of b is.1 (suc d))))) (simp append_assoc refl)
  form_of (Cast t e) is d = enclosed ((40 ∷ (type_text t ++ 41 ∷ [])) ++ expr_text e) (cast_written t e (expr_text e) is.0 (expression_of (form_of e is.1 (suc d)))) (simp append_assoc refl)
  form_of (Cond c a b) is d =
      enclosed (expr_text c ++ (codes " ? " ++ (expr_text a ++ (codes " : " ++ expr_text b))))
      (with_first (form_of c is.0 (suc d)) (cond_tail_written a b (expr_text a) (expr_text b) (expression_of (form_of a is.1 (suc d))) (expression_of (form_of b is.2 (suc d))))) (simp append_assoc refl)

  pub place_form : (p : Place) → PlaceInSubset p → (d : ℕ) → PlaceForm d p (place_text p)
  place_form (Var x) is d = named x [] [] refl is none (append_nil x)
  place_form (At e) is d = behind e [] (codes "*" ++ expr_text e) [] refl (a_star then expression_of (form_of e is (suc d))) none (append_nil (40 ∷ ((codes "*" ++ expr_text e) ++ 41 ∷ [])))
  place_form (Member p m) is d = member_form m (place_form p is.0 d) is.1
  place_form (Element (Var x) e) is d = absurd is.0
  place_form (Element (At p) e) is d = absurd is.0
  place_form (Element (Member p m) e) is d = element_form m e (expr_text e) (place_form p is.1.0 d) is.1.1 (expression_of (form_of e is.2 (suc d)))
  place_form (Element (Element p i) e) is d = absurd is.0

pub expression_written : (e : Expr) → ExprInSubset e → (d : ℕ) → Written d expression e (expr_text e)
expression_written e is d = expression_of (form_of e is d)
