-- Lists with commas, initializers and calls of the subset are spelled by their texts.
use Rattle.std.proofs.Common.{◌≡◌, ℕ, zero, suc, Bool, true, false, List, [], ◌∷◌, ◌++◌, map, All, refl, sym, ap, ◌∙◌, append_assoc, arith, if◌then◌else◌, codes, decimal}
use Rattle.std.proofs.lemmas.List.Elements.{All-head, All-tail}
use Rattle.std.proofs.lemmas.Fmt.{decimal_digit}
use Rattle.reading.proofs.Rows.{append_nil}
use Rattle.c_ast.specs.declared.expr.Suffix.{Suffix}
use Rattle.c_ast.specs.declared.expr.Suffix.TheVariants.{Plain, U, Ll, Ull}
use Rattle.c_ast.specs.Syntax.{Expr, Number, Read, Address, Unary, Binary, Cast, Cond, Init, One, Zero, Many, Inits, NoInits, MoreInits}
use Rattle.c_text.specs.TypeText.{listed}
use Rattle.c_text.specs.ExpressionText.{expr_text, init_text, init_texts}
use Rattle.c_text.specs.Subset.{ExprInSubset, InitInSubset, InitsInSubset, IsNotZero}
use Rattle.grammars.specs.Grammar.{repeat, separated, after}
use Rattle.c_grammar.specs.Pieces.{Byte}
use Rattle.c_grammar.specs.Symbols.{Rule, comma, parens, braces, arguments, initializers}
use Rattle.c_grammar.specs.ExpressionRules.{expression, initializer, inits_of, is_zero_number, is_zero_expr, is_zero_init, is_zero, braced, arguments_rule}
use Rattle.c_grammar.proofs.Written.{Written, as_text, as_value, one_piece, nothing, mapped, in_sequence, ◌then◌, first_of, second_of, none, more, within_parens, within_braces}
use Rattle.c_grammar.proofs.WrittenTypes.{a_blank}
use Rattle.c_grammar.proofs.WrittenExpressions.{expression_written}

-- ---- lists

abbrev behind_text : List (List ℕ) → List ℕ
behind_text [] = []
behind_text (t ∷ ts) = (codes ", " ++ t) ++ behind_text ts

listed_is : (t : List ℕ) (ts : List (List ℕ)) → t ++ behind_text ts ≡ listed (t ∷ ts)
listed_is t [] = append_nil t
listed_is t (u ∷ us) = ap (λ x. t ++ x) (append_assoc (codes ", ") u (behind_text us) ∙ ap (λ x. codes ", " ++ x) (listed_is u us)) ∙ sym (append_assoc t (codes ", ") (listed (u ∷ us)))

pub one_more : {A : Type 0} {d : ℕ} {p : Rule A} {x : A} {xs : List A} {t : List ℕ} (ts : List (List ℕ)) → Written d p x t → Written d (repeat (after comma p)) xs (behind_text ts) → Written d (repeat (after comma p)) (x ∷ xs) (behind_text (t ∷ ts))
one_more ts v w = more (as_text ((one_piece (Byte 44) refl then a_blank) then v) refl) w

pub in_list : {A : Type 0} {d : ℕ} {p : Rule A} {x : A} {xs : List A} {t : List ℕ} (ts : List (List ℕ)) → Written d p x t → Written d (repeat (after comma p)) xs (behind_text ts) → Written d (separated comma p) (x ∷ xs) (listed (t ∷ ts))
in_list {t = t} ts v w = as_text (in_sequence (λ x xs. x ∷ xs) v w) (listed_is t ts)

module _ {A : Type 0} {d : ℕ} {p : Rule A} (text : A → List ℕ) (P : A → Type 0) (each : (x : A) → P x → Written d p x (text x)) where
  others_written : (xs : List A) → All P xs → Written d (repeat (after comma p)) xs (behind_text (map text xs))
  others_written [] all = none
  others_written (x ∷ xs) all = one_more (map text xs) (each x (All-head P x xs all)) (others_written xs (All-tail P x xs all))

  pub list_written : (x : A) (xs : List A) → All P (x ∷ xs) → Written d (separated comma p) (x ∷ xs) (listed (map text (x ∷ xs)))
  list_written x xs all = in_list (map text xs) (each x (All-head P x xs all)) (others_written xs (All-tail P x xs all))

-- ---- calls

arguments_in : {d : ℕ} (es : List Expr) → All ExprInSubset es → Written d arguments_rule es (listed (map expr_text es))
arguments_in [] all = second_of nothing
arguments_in {d} (e ∷ es) all = first_of (list_written expr_text ExprInSubset (λ e is. expression_written e is d) e es all)

pub arguments_written : {d : ℕ} (es : List Expr) → All ExprInSubset es → Written d (parens arguments) es (40 ∷ (listed (map expr_text es) ++ 41 ∷ []))
arguments_written es all = within_parens {n = arguments} (arguments_in es all)

-- ---- initializers

abbrev pub list_of : Inits → List Init
list_of NoInits = []
list_of (MoreInits i is) = i ∷ list_of is

pub inits_back : (is : Inits) → inits_of (list_of is) ≡ is
inits_back NoInits = refl
inits_back (MoreInits i is) = ap (MoreInits i) (inits_back is)

zero_number : (n : ℕ) (s : Suffix) → is_zero_number n s ≡ true → Number n s ≡ Number 0 Plain
zero_number zero Plain e = refl
zero_number zero U e = cc
zero_number zero Ll e = cc
zero_number zero Ull e = cc
zero_number (suc n) Plain e = cc
zero_number (suc n) U e = cc
zero_number (suc n) Ll e = cc
zero_number (suc n) Ull e = cc

zero_expr : (e : Expr) → is_zero_expr e ≡ true → e ≡ Number 0 Plain
zero_expr (Number n s) e = zero_number n s e
zero_expr (Read p) e = cc
zero_expr (Address p) e = cc
zero_expr (Unary op a) e = cc
zero_expr (Binary op a b) e = cc
zero_expr (Cast t a) e = cc
zero_expr (Cond c a b) e = cc

pub zero_init : (i : Init) → is_zero_init i ≡ true → i ≡ One (Number 0 Plain)
zero_init (One e) is = ap One (zero_expr e is)
zero_init Zero is = cc
zero_init (Many is) e = cc

false_of : (b : Bool) → (b ≡ true → ⊥) → b ≡ false
false_of true h = absurd (h refl)
false_of false h = refl

pub not_zero : (i : Init) (is : Inits) → IsNotZero (MoreInits i is) → is_zero (i ∷ list_of is) ≡ false
not_zero i NoInits other = false_of (is_zero_init i) (λ e. other (ap (λ i. MoreInits i NoInits) (zero_init i e)))
not_zero i (MoreInits j is) other = refl

zero_written : {d : ℕ} → Written d initializer Zero (codes "{0}")
zero_written {d} =
    let digit : Written (suc d) expression (Number 0 Plain) (codes "0") = as_text (expression_written (Number 0 Plain) (omega arith) (suc d)) (append_nil (decimal 0) ∙ decimal_digit 0 (omega arith)) in
    let inner : Written d (braces initializers) Zero (123 ∷ ((codes "0" ++ []) ++ 125 ∷ [])) = within_braces {n = initializers} (mapped braced (in_sequence (λ x xs. x ∷ xs) (first_of (mapped One digit)) none)) in
    second_of (as_text inner refl)

many_written : {d : ℕ} (i : Init) (is : Inits) → IsNotZero (MoreInits i is) → Written (suc d) initializer i (init_text i) → Written (suc d) (repeat (after comma initializer)) (list_of is) (behind_text (init_texts is))
    → Written d initializer (Many (MoreInits i is)) (init_text (Many (MoreInits i is)))
many_written {d} i is other v w =
    let inner : Written d (braces initializers) (braced (i ∷ list_of is)) (123 ∷ (listed (init_texts (MoreInits i is)) ++ 125 ∷ [])) = within_braces {n = initializers} (mapped braced (in_list (init_texts is) v w)) in
    let same : braced (i ∷ list_of is) ≡ Many (MoreInits i is) =
    ap (λ b. if b then Zero else Many (inits_of (i ∷ list_of is))) (not_zero i is other) ∙ ap (λ x. Many (MoreInits i x)) (inits_back is) in
    second_of (as_value inner same)

mutual
  pub init_written : (i : Init) → InitInSubset i → (d : ℕ) → Written d initializer i (init_text i)
  init_written (One e) is d = first_of (mapped One (expression_written e is d))
  init_written Zero is d = zero_written
  init_written (Many NoInits) is d = absurd is.0
  init_written (Many (MoreInits i more_inits)) is d = many_written i more_inits is.0 (init_written i is.1.0 (suc d)) (inits_written more_inits is.1.1 (suc d))

  pub inits_written : (is : Inits) → InitsInSubset is → (d : ℕ) → Written d (repeat (after comma initializer)) (list_of is) (behind_text (init_texts is))
  inits_written NoInits is d = none
  inits_written (MoreInits i more_inits) is d = one_more (init_texts more_inits) (init_written i is.0 d) (inits_written more_inits is.1 d)
