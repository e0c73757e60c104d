-- Lists that are made one after another.
use Rattle.std.proofs.Common.{◌≡◌, ℕ, ◌+◌, ◌<◌, ◌≤◌, List, [], ◌∷◌, ◌++◌, map, length, get_or, drop, drop-cons, add-one, Bool, true, false, Option, refl, sym, ◌∙◌, ap, ap₂}
use Rattle.std.proofs.lemmas.List.{append-nil, drop_all, nil_from_length}
use Rattle.ivory_tree.specs.Syntax as syntax
use Rattle.ivory_tree.specs.Syntax.{ExprSyntax, InitsSyntax}
use Rattle.area_types.specs.Syntax as types
use Rattle.area_types.specs.Syntax.{ValueType, Area}
use Rattle.core_tree.specs.Syntax as core
use Rattle.core_tree.specs.Syntax.{ExprCore, InitCore, InitsCore}
use Rattle.ivory_tree.specs.View as text
use Rattle.ivory_tree.specs.declared.Expr.{Expr}
use Rattle.ivory_tree.specs.declared.InitText.{InitText}
use Rattle.area_types.specs.View.{field_of, area_of}
use Rattle.area_types.specs.declared.FieldDef.{FieldDef}
use Rattle.core_tree.specs.View.{expr_of, init_of, inits_of}
use Rattle.core_tree.specs.declared.CoreExpr.{CoreExpr}
use Rattle.core_tree.specs.declared.CoreInit.{CoreInit}
use Rattle.typing_rules.specs.Environments.{Env}
use Rattle.typing_rules.specs.ExpressionCores.{core_of}
use Rattle.typing_rules.specs.StatementCores.{args_core, init_core, elements_core, fields_core}
use Rattle.check_numbers.specs.NumberedParts.{exprs_from, exprs_after, init_from, init_after, inits_from, inits_after}
use Rattle.core_maker.specs.Initializers.{cell_want, ended}

pub no_arguments : (env : Env) (params : List (Option ValueType)) → args_core env params [] ≡ []
no_arguments env [] = refl
no_arguments env (p ∷ params) = refl

pub no_fields : (env : Env) (fields : List types.Field) → fields_core env fields syntax.NoInits ≡ core.NoInits
no_fields env [] = refl
no_fields env (f ∷ fields) = refl

pub no_places : (env : Env) (is : InitsSyntax) → fields_core env [] is ≡ core.NoInits
no_places env syntax.NoInits = refl
no_places env (syntax.MoreInits i is) = refl

pub expr_pushed : (es : List CoreExpr) (e : CoreExpr) (rest : List ExprCore) → map expr_of (es ++ e ∷ []) ++ rest ≡ map expr_of es ++ expr_of e ∷ rest
expr_pushed [] e rest = refl
expr_pushed (x ∷ es) e rest = ap (λ xs. expr_of x ∷ xs) (expr_pushed es e rest)

pub ended_pushed : (is : List CoreInit) (i : CoreInit) (rest : InitsCore) → ended (map init_of (is ++ i ∷ [])) rest ≡ ended (map init_of is) (core.MoreInits (init_of i) rest)
ended_pushed [] i rest = refl
ended_pushed (x ∷ is) i rest = ap (core.MoreInits (init_of x)) (ended_pushed is i rest)

pub ended_all : (is : List CoreInit) → ended (map init_of is) core.NoInits ≡ inits_of is
ended_all [] = refl
ended_all (x ∷ is) = ap (core.MoreInits (init_of x)) (ended_all is)

pub init_one : (env : Env) (area : Area) (e : ExprSyntax) → init_core env area (syntax.One e) ≡ core.One (core_of env (cell_want area) e)
init_one env (types.Stored t) e = refl
init_one env (types.Array n element) e = refl
init_one env (types.Struct k) e = refl

-- ---- behind the last

pub args_ended : (env : Env) (n : ℕ) (es : List ExprCore) (params : List (Option ValueType)) (args : List Expr) (i : ℕ) → length args ≤ i → es ≡ es ++ exprs_from n (args_core env params (map text.expr_of (drop i args)))
args_ended env n es params args i past =
    sym (ap (λ (xs : List Expr). es ++ exprs_from n (args_core env params (map text.expr_of xs))) (drop_all i args past) ∙ ap (λ (xs : List ExprCore). es ++ exprs_from n xs) (no_arguments env params) ∙ append-nil es)

pub args_behind : (env : Env) (n : ℕ) (params : List (Option ValueType)) (args : List Expr) (i : ℕ) → length args ≤ i → n ≡ exprs_after n (args_core env params (map text.expr_of (drop i args)))
args_behind env n params args i past = sym (ap (λ (xs : List Expr). exprs_after n (args_core env params (map text.expr_of xs))) (drop_all i args past) ∙ ap (exprs_after n) (no_arguments env params))

pub elements_ended : (env : Env) (n : ℕ) (is : List CoreInit) (element : Area) (inits : List InitText) (i : ℕ) → length inits ≤ i → inits_of is ≡ ended (map init_of is) (inits_from n (elements_core env element (text.inits_of (drop i inits))))
elements_ended env n is element inits i past = sym (ap (λ (xs : List InitText). ended (map init_of is) (inits_from n (elements_core env element (text.inits_of xs)))) (drop_all i inits past) ∙ ended_all is)

pub fields_ended : (env : Env) (n : ℕ) (is : List CoreInit) (fields : List types.Field) (inits : List InitText) (i : ℕ) → length inits ≤ i → inits_of is ≡ ended (map init_of is) (inits_from n (fields_core env fields (text.inits_of (drop i inits))))
fields_ended env n is fields inits i past =
    sym (ap (λ (xs : List InitText). ended (map init_of is) (inits_from n (fields_core env fields (text.inits_of xs)))) (drop_all i inits past) ∙ ap (λ (cs : InitsCore). ended (map init_of is) (inits_from n cs)) (no_fields env fields) ∙ ended_all is)

-- no field is left
pub fields_out : (env : Env) (n : ℕ) (is : List CoreInit) (rest : List FieldDef) (texts : InitsSyntax) → length rest ≡ 0 → inits_of is ≡ ended (map init_of is) (inits_from n (fields_core env (map field_of rest) texts))
fields_out env n is rest texts out =
    sym (ap (λ (fs : List FieldDef). ended (map init_of is) (inits_from n (fields_core env (map field_of fs) texts))) (nil_from_length rest out) ∙ ap (λ (cs : InitsCore). ended (map init_of is) (inits_from n cs)) (no_places env texts) ∙ ended_all is)

-- ---- one more

texts_cut : (inits : List InitText) (i : ℕ) (t : InitText) → i < length inits → t ≡ get_or inits i t → text.inits_of (drop i inits) ≡ syntax.MoreInits (text.init_of t) (text.inits_of (drop (i + 1) inits))
texts_cut inits i t within at =
    let cut : drop i inits ≡ get_or inits i t ∷ drop (i + 1) inits = rw add-one (drop-cons inits i t within) in
    ap text.inits_of cut ∙ ap (λ (y : InitText). syntax.MoreInits (text.init_of y) (text.inits_of (drop (i + 1) inits))) (sym at)

-- what these initializers, and the rest with numbers from n on, leave as it was
abbrev Left : (n m : ℕ) (made longer : List CoreInit) (all rest : InitsCore) → Type 0
Left n m made longer all rest = (ended (map init_of longer) (inits_from m rest) ≡ ended (map init_of made) (inits_from n all)) × (inits_after m rest ≡ inits_after n all)

one_more : (n m : ℕ) (made longer : List CoreInit) (c : CoreInit) (first : InitCore) (rest : InitsCore) → longer ≡ made ++ c ∷ [] → init_of c ≡ init_from n first → m ≡ init_after n first → Left n m made longer (core.MoreInits first rest) rest
one_more n m made longer c first rest pushed is after = (
  ap (λ (xs : List CoreInit). ended (map init_of xs) (inits_from m rest)) pushed ∙ ended_pushed made c (inits_from m rest) ∙ ap₂ (λ (x : InitCore) (k : ℕ). ended (map init_of made) (core.MoreInits x (inits_from k rest))) is after,
  ap (λ (k : ℕ). inits_after k rest) after,
)

same_left : (n m : ℕ) (made longer : List CoreInit) (all also rest : InitsCore) → all ≡ also → Left n m made longer also rest → Left n m made longer all rest
same_left n m made longer all also rest same h =
    (h.0 ∙ sym (ap (λ (cs : InitsCore). ended (map init_of made) (inits_from n cs)) same), h.1 ∙ sym (ap (inits_after n) same))

pub element_more : (env : Env) (n m : ℕ) (made longer : List CoreInit) (c : CoreInit) (element : Area) (inits : List InitText) (i : ℕ) (t : InitText) → i < length inits → t ≡ get_or inits i t
    → longer ≡ made ++ c ∷ [] → init_of c ≡ init_from n (init_core env element (text.init_of t)) → m ≡ init_after n (init_core env element (text.init_of t))
    → Left n m made longer (elements_core env element (text.inits_of (drop i inits))) (elements_core env element (text.inits_of (drop (i + 1) inits)))
element_more env n m made longer c element inits i t within at pushed is after =
    let first = init_core env element (text.init_of t) in
    let rest = elements_core env element (text.inits_of (drop (i + 1) inits)) in
    same_left n m made longer (elements_core env element (text.inits_of (drop i inits))) (core.MoreInits first rest) rest (ap (elements_core env element) (texts_cut inits i t within at)) (one_more n m made longer c first rest pushed is after)

pub field_more : (env : Env) (n m : ℕ) (made longer : List CoreInit) (c : CoreInit) (field : FieldDef) (later fields : List FieldDef) (inits : List InitText) (i : ℕ) (t : InitText) → i < length inits → t ≡ get_or inits i t
    → fields ≡ field ∷ later → longer ≡ made ++ c ∷ [] → init_of c ≡ init_from n (init_core env (area_of field.area) (text.init_of t)) → m ≡ init_after n (init_core env (area_of field.area) (text.init_of t))
    → Left n m made longer (fields_core env (map field_of fields) (text.inits_of (drop i inits))) (fields_core env (map field_of later) (text.inits_of (drop (i + 1) inits)))
field_more env n m made longer c field later fields inits i t within at cut pushed is after =
    let first = init_core env (area_of field.area) (text.init_of t) in
    let rest = fields_core env (map field_of later) (text.inits_of (drop (i + 1) inits)) in
    let both = ap₂ (λ (fs : List FieldDef) (ts : InitsSyntax). fields_core env (map field_of fs) ts) cut (texts_cut inits i t within at) in
    same_left n m made longer (fields_core env (map field_of fields) (text.inits_of (drop i inits))) (core.MoreInits first rest) rest both (one_more n m made longer c first rest pushed is after)
