-- The first fault of a call, from its rule and the faults of its arguments.
use Rattle.std.proofs.Common.{◌≡◌, ℕ, ◌+◌, ◌<◌, Bool, not, nat_eq, List, [], ◌∷◌, map, length, get_or, drop, drop-cons, add-one, refl, ap, sym, ◌∙◌}
use Rattle.std.specs.Prelude.{Option, Some, None, option_map, is_some}
use Rattle.iv_words.specs.Words.{same_word}
use Rattle.ivory_tree.specs.Syntax.{ExprSyntax, CallSyntax}
use Rattle.ivory_tree.specs.View.{expr_of}
use Rattle.ivory_tree.specs.declared.expr.Expr.{Expr}
use Rattle.area_types.specs.Syntax.{ValueType}
use Rattle.region_check.specs.Calls.{Passed}
use Rattle.source_types.specs.Environments.{Callee, callee_named, is_callee}
use Rattle.rule_faults.specs.Contexts.{Context}
use Rattle.rule_faults.specs.Nodes.{ACall}
use Rattle.rule_faults.specs.Tests.{where_there}
use Rattle.rule_faults.specs.ExpressionRows.{expr_row, params_of, args_row, call_row}
use Rattle.rule_faults.specs.FirstFault.{first_of}
use Rattle.rule_checker.specs.Faults.{either, at_place}
use Rattle.rule_checker.specs.Rows.{least, all_rows}
use Rattle.rule_checker.specs.Arguments.{argument_want, learned, Splits, call_rows}
use Rattle.rule_checker.proofs.Searches.{found_is_any}
use Rattle.rule_checker.proofs.Patterns.{least_rows, told, first_joined}

-- the first argument, and those after it
pub args_step : {A : Type 0} (view : A → Option ValueType) (c : Context) (before : List Passed) (o : Option A) (later all : List A) (e : ExprSyntax) (es : List ExprSyntax) → Splits o later all
    → first_of (args_row c before (map view all) (e ∷ es)) ≡ either (first_of (expr_row c (argument_want before (option_map view o)) e)) (first_of (args_row c (learned c before (option_map view o) e) (map view later) es))
args_step {A = A} view c before None later all e es h =
    ap (λ (ps : List A). first_of (args_row c before (map view ps) (e ∷ es))) h.0
    ∙ first_joined (expr_row c (argument_want before None) e) (args_row c before [] es)
    ∙ ap (λ (ps : List A). either (first_of (expr_row c (argument_want before None) e)) (first_of (args_row c before (map view ps) es))) (sym h.1)
args_step {A = A} view c before (Some p) later all e es h =
    ap (λ (ps : List A). first_of (args_row c before (map view ps) (e ∷ es))) h
    ∙ first_joined (expr_row c (argument_want before (Some (view p))) e) (args_row c (learned c before (Some (view p)) e) (map view later) es)

rows_of : (o : Option Callee) (count : ℕ) → least ((7, not (is_some o)) ∷ (34, where_there o (λ (d : Callee). not (nat_eq (length d.params) count))) ∷ []) ≡ least (call_rows o count)
rows_of None count = refl
rows_of (Some d) count = refl

call_rows_are : (c : Context) (call : CallSyntax) → least (all_rows (ACall c call)) ≡ least (call_rows (callee_named c.earlier call.name.text) (length call.args))
call_rows_are c call =
    let found : is_some (callee_named c.earlier call.name.text) ≡ is_callee c.earlier call.name.text = found_is_any (λ (d : Callee). same_word d.name call.name.text) c.earlier.callees in
    ap (λ (b : Bool). least ((7, not b) ∷ (34, where_there (callee_named c.earlier call.name.text) (λ (d : Callee). not (nat_eq (length d.params) (length call.args)))) ∷ [])) (sym found)
    ∙ rows_of (callee_named c.earlier call.name.text) (length call.args)

pub call_told : (c : Context) (call : CallSyntax) → first_of (call_row c call) ≡ at_place (least (call_rows (callee_named c.earlier call.name.text) (length call.args))) call.span (first_of (args_row c [] (params_of (callee_named c.earlier call.name.text)) call.args))
call_told c call = told (ACall c call) (args_row c [] (params_of (callee_named c.earlier call.name.text)) call.args) (least (call_rows (callee_named c.earlier call.name.text) (length call.args))) (first_of (args_row c [] (params_of (callee_named c.earlier call.name.text)) call.args)) (least_rows (ACall c call) ∙ call_rows_are c call) refl

next_of : (args : List Expr) (i : ℕ) (x : Expr) → i < length args → x ≡ get_or args i x → map expr_of (drop i args) ≡ expr_of x ∷ map expr_of (drop (i + 1) args)
next_of args i x h e =
    let cut : drop i args ≡ get_or args i x ∷ drop (i + 1) args = rw add-one (drop-cons args i x h) in
    ap (map expr_of) cut ∙ ap (λ (y : Expr). expr_of y ∷ map expr_of (drop (i + 1) args)) (sym e)

-- the argument at i, and those after it
pub next_arg : {A : Type 0} (view : A → Option ValueType) (c : Context) (before : List Passed) (o : Option A) (later all : List A) (args : List Expr) (i : ℕ) (x : Expr) → i < length args → x ≡ get_or args i x → Splits o later all
    → first_of (args_row c before (map view all) (map expr_of (drop i args))) ≡ either (first_of (expr_row c (argument_want before (option_map view o)) (expr_of x))) (first_of (args_row c (learned c before (option_map view o) (expr_of x)) (map view later) (map expr_of (drop (i + 1) args))))
next_arg view c before o later all args i x h e s =
    ap (λ (es : List ExprSyntax). first_of (args_row c before (map view all) es)) (next_of args i x h e)
    ∙ args_step view c before o later all (expr_of x) (map expr_of (drop (i + 1) args)) s
