-- The arguments of a call, one after another.
use Rattle.std.proofs.Common.{◌≡◌, ℕ, ◌+◌, ◌<◌, List, [], ◌∷◌, ◌++◌, map, length, get_or, drop, drop-cons, add-one, append_assoc, refl, ap, sym, ◌≤◌, ◌∙◌}
use Rattle.std.specs.Prelude.{Option, Some, None, option_map}
use Rattle.std.proofs.lemmas.List.{append-nil, drop_all}
use Rattle.ivory_tree.specs.Syntax.{ExprSyntax}
use Rattle.ivory_tree.specs.View.{expr_of}
use Rattle.ivory_tree.specs.declared.expr.Expr.{Expr}
use Rattle.area_types.specs.Syntax.{ValueType}
use Rattle.region_check.specs.Calls.{Passed}
use Rattle.rule_faults.specs.Contexts.{Context}
use Rattle.rule_faults.specs.ExpressionRows.{matched, matched_all}
use Rattle.rule_checker.specs.Arguments.{learned, Splits}

matched_step : {A : Type 0} (view : A → Option ValueType) (c : Context) (ms : List Passed) (o : Option A) (later all : List A) (e : ExprSyntax) (es : List ExprSyntax) → Splits o later all
    → ms ++ matched_all c (map view all) (e ∷ es) ≡ learned c ms (option_map view o) e ++ matched_all c (map view later) es
matched_step {A = A} view c ms None later all e es h =
    ap (λ (ps : List A). ms ++ matched_all c (map view ps) (e ∷ es)) h.0 ∙ ap (λ (ps : List A). ms ++ matched_all c (map view ps) es) (sym h.1)
matched_step {A = A} view c ms (Some p) later all e es h =
    ap (λ (ps : List A). ms ++ matched_all c (map view ps) (e ∷ es)) h ∙ sym (append_assoc ms (matched c (view p) e ∷ []) (matched_all c (map view later) es))

next_of : (args : List Expr) (i : ℕ) (x : Expr) → i < length args → x ≡ get_or args i x → map expr_of (drop i args) ≡ expr_of x ∷ map expr_of (drop (i + 1) args)
next_of args i x h e =
    let cut : drop i args ≡ get_or args i x ∷ drop (i + 1) args = rw add-one (drop-cons args i x h) in
    ap (map expr_of) cut ∙ ap (λ (y : Expr). expr_of y ∷ map expr_of (drop (i + 1) args)) (sym e)

-- the argument at i, and those after it
pub next_matched : {A : Type 0} (view : A → Option ValueType) (c : Context) (ms : List Passed) (o : Option A) (later all : List A) (args : List Expr) (i : ℕ) (x : Expr) → i < length args → x ≡ get_or args i x → Splits o later all
    → learned c ms (option_map view o) (expr_of x) ++ matched_all c (map view later) (map expr_of (drop (i + 1) args)) ≡ ms ++ matched_all c (map view all) (map expr_of (drop i args))
next_matched view c ms o later all args i x h e s =
    sym (ap (λ (es : List ExprSyntax). ms ++ matched_all c (map view all) es) (next_of args i x h e) ∙ matched_step view c ms o later all (expr_of x) (map expr_of (drop (i + 1) args)) s)

no_args : (c : Context) (ps : List (Option ValueType)) → matched_all c ps [] ≡ []
no_args c [] = refl
no_args c (p ∷ ps) = refl

-- behind the last argument
pub all_matched : (c : Context) (ms : List Passed) (ps : List (Option ValueType)) (args : List Expr) (i : ℕ) → length args ≤ i → ms ≡ ms ++ matched_all c ps (map expr_of (drop i args))
all_matched c ms ps args i past =
    sym (ap (λ (es : List Expr). ms ++ matched_all c ps (map expr_of es)) (drop_all i args past) ∙ ap (λ (xs : List Passed). ms ++ xs) (no_args c ps) ∙ append-nil ms)
