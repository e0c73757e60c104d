-- A call stands where each argument fits its parameter under a substitution of regions for the callee's region parameters. The substitution
-- is guessed here; the callee's result has the type that it gives.
use Rattle.std.specs.Prelude.{◌≡◌, ℕ, List, [], ◌∷◌, Option, Some, None, option_map}
use Rattle.ivory_tree.specs.Syntax.{ExprSyntax, CallSyntax}
use Rattle.area_types.specs.Syntax.{ValueType}
use Rattle.area_types.specs.declared.region.Region.{Region}
use Rattle.region_check.specs.Calls.{Reference, reference_of, FitsReference}
use Rattle.region_check.specs.Substitutions.{applied}
use Rattle.core_tree.specs.Syntax.{ExprCore, CallCore, type_of}
use Rattle.source_types.specs.Environments.{Callee, callee_named}
use Rattle.typing_rules.specs.Environments.{Env, callee_number}
use Rattle.typing_rules.specs.Expressions.{Has, Under}

-- arguments for parameters of these types
pub data Fit (env : Env) (regions : ℕ → Region) : List (Option ValueType) → List ExprSyntax → List ExprCore → Type 0 where
  no_args : Fit env regions [] [] []
  value_arg : {t : ValueType} {params : List (Option ValueType)} {e : ExprSyntax} {args : List ExprSyntax} {c : ExprCore} {cs : List ExprCore} → reference_of t ≡ None → Under env t e c
      → Fit env regions params args cs → Fit env regions (Some t ∷ params) (e ∷ args) (c ∷ cs)
  reference_arg : {t : ValueType} {wanted given : Reference} {params : List (Option ValueType)} {e : ExprSyntax} {args : List ExprSyntax} {c : ExprCore} {cs : List ExprCore} → reference_of t ≡ Some wanted
      → Has env e c → reference_of (type_of c) ≡ Some given → FitsReference regions wanted given → Fit env regions params args cs → Fit env regions (Some t ∷ params) (e ∷ args) (c ∷ cs)

-- the call, what it calls, and the type of its result, where it has one
pub record Calls (env : Env) (call : CallSyntax) (core : CallCore) (result : Option ValueType) : Type 0 where
  pub callee : Callee
  pub regions : ℕ → Region
  pub earlier : callee_named env.earlier call.name.text ≡ Some callee
  pub number : callee_number env.earlier callee ≡ Some core.callee
  pub kind : core.import ≡ callee.import
  pub fit : Fit env regions callee.params call.args core.args
  pub gives : result ≡ option_map (applied regions) callee.result
