-- Parameters in scope, and places that change in one field.
use Rattle.std.proofs.Common.{◌≡◌, Bool, List, [], ◌∷◌, refl, ap}
use Rattle.ivory_tree.specs.Syntax.{ParamSyntax}
use Rattle.area_types.specs.Syntax.{ValueType}
use Rattle.rule_faults.specs.Contexts as rules
use Rattle.alloc_effects.specs.declared.Allowed.{Allowed}
use Rattle.typing_rules.specs.Environments.{Env, with_local}
use Rattle.typing_rules.specs.Items.{with_params, param_cores}
use Rattle.core_maker.specs.Places.{Agrees}
use Rattle.core_maker.specs.declared.Place.{Place}
use Rattle.item_maker.specs.Procedures.{with_cores}

-- the parameters of a core are those of the text with their types
pub params_in_scope : (env : Env) (params : List ParamSyntax) (ts : List ValueType) → with_cores env (param_cores params ts) ≡ with_params env params ts
params_in_scope env [] ts = refl
params_in_scope env (p ∷ params) [] = refl
params_in_scope env (p ∷ params) (t ∷ ts) = params_in_scope (with_local env p.name.text t) params ts

pub agrees_in_contract : (p : Place) (b : Bool) → Agrees p → Agrees (record p { context = record p.context { in_ensures = b } })
agrees_in_contract p b a = record { known = ap (λ (c : rules.Context). record c { in_ensures = b }) a.known; numbered = a.numbered }

pub agrees_in_body : (p : Place) (x : Allowed) → Agrees p → Agrees (record p { context = record p.context { allowed = x } })
agrees_in_body p x a = record { known = ap (λ (c : rules.Context). record c { allowed = x }) a.known; numbered = a.numbered }
