-- What arguments and returned expressions are given fits the types of parameters and results.
use Rattle.std.proofs.Common.{◌≡◌, ℕ, List, [], ◌∷◌, map, Option, Some, None, All}
use Rattle.std.proofs.lemmas.List.Elements.{All-head, All-tail}
use Rattle.area_types.specs.Syntax.{ValueType}
use Rattle.region_check.specs.Substitutions.{applied}
use Rattle.core_tree.specs.Syntax.{ExprCore, type_of}
use Rattle.core_tree.specs.Environments.{Env, Point}
use Rattle.core_tree.specs.TypedExpressions.{ExprTyped}
use Rattle.core_tree.specs.TypedStatements.{ReturnTyped}
use Rattle.core_tree.specs.Valid.{ValidCore}
use Rattle.core_meaning.specs.Values.{Value}
use Rattle.core_meaning.specs.State.{State}
use Rattle.core_meaning.specs.Gives.{Gives, GivesAll}
use Rattle.region_soundness.specs.Fitting.{Entry, ValueFits}
use Rattle.region_soundness.proofs.Statements.{fits_wanted}
use Rattle.value_fitting.specs.Given.{ReturnGives}
use Rattle.value_fitting.specs.Known.{Knows, ValuesFitAll, ResultFits}
use Rattle.value_fitting.specs.Laws.{GivenArgumentsFit, ArgumentsFitParameters, GivenResultsFit}
use Rattle.value_fitting.proofs.Expressions.{given_fits}
use Rattle.value_fitting.proofs.States.{no_result_is_known}

module _ (env : Env) (valid : ValidCore env.core) (scope : List ℕ) (entry : Entry) (s : State) (known : Knows env scope entry s) (none : env.outcome ≡ None) where
  -- in a body
  pub value_fits : (e : ExprCore) → ExprTyped env scope e → (v : Value) → Gives env.core None s e v → ValueFits env.core entry s.areas (type_of e) v
  value_fits e typed v g = given_fits env valid entry s scope known None (no_result_is_known env entry s.areas none) e typed v g

  all_fit : (es : List ExprCore) → All (ExprTyped env scope) es → (vs : List Value) → GivesAll env.core s es vs → ValuesFitAll env.core entry s.areas (map type_of es) vs
  all_fit [] typed [] g = tt
  all_fit [] typed (v ∷ vs) g = absurd g
  all_fit (e ∷ es) typed [] g = absurd g
  all_fit (e ∷ es) typed (v ∷ vs) g = (value_fits e (All-head (ExprTyped env scope) e es typed) v g.0, all_fit es (All-tail (ExprTyped env scope) e es typed) vs g.1)

pub given_arguments_fit : GivenArgumentsFit
given_arguments_fit env valid scope entry s known none es typed vs g = all_fit env valid scope entry s known none es typed vs g

pub arguments_fit_parameters : ArgumentsFitParameters
arguments_fit_parameters core entry areas regions [] [] fit vs h = h
arguments_fit_parameters core entry areas regions [] (t ∷ given) fit vs h = absurd fit
arguments_fit_parameters core entry areas regions (p ∷ params) [] fit vs h = absurd fit
arguments_fit_parameters core entry areas regions (p ∷ params) (t ∷ given) fit [] h = absurd h
arguments_fit_parameters core entry areas regions (p ∷ params) (t ∷ given) fit (v ∷ vs) h =
    (fits_wanted core entry areas (applied regions p) t v fit.0 h.0, arguments_fit_parameters core entry areas regions params given fit.1 vs h.1)

module _ (env : Env) (valid : ValidCore env.core) (at : Point) (entry : Entry) (s : State) (known : Knows env at.scope entry s) (none : env.outcome ≡ None) where
  result_fits : (wanted : Option ValueType) (value : Option ExprCore) → ReturnTyped env at wanted value → (result : Option Value) → ReturnGives env.core s value result → ResultFits env.core entry s.areas wanted result
  result_fits None None typed None g = tt
  result_fits None None typed (Some v) g = absurd g
  result_fits None (Some e) typed result g = absurd typed
  result_fits (Some t) None typed result g = absurd typed
  result_fits (Some t) (Some e) typed None g = absurd g
  result_fits (Some t) (Some e) typed (Some v) g = fits_wanted env.core entry s.areas t (type_of e) v typed.fits (value_fits env valid at.scope entry s known none e typed.typed v g)

pub given_results_fit : GivenResultsFit
given_results_fit env valid at entry s known none value typed result g = result_fits env valid at entry s known none env.result value typed result g
