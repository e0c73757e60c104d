-- Parameters in a row, with names and without.
use Rattle.std.proofs.Common.{◌≡◌, refl, ap, ℕ, List, [], ◌∷◌, ◌++◌, length, arith}
use Rattle.std.specs.Prelude.{codes, map}
use Rattle.c_ast.specs.declared.types.CType.{CType}
use Rattle.c_ast.specs.declared.unit.CParam.{CParam}
use Rattle.c_text.specs.Rules.{Demand, behind}
use Rattle.c_text.specs.Scopes.{Names, new_name, with_const}
use Rattle.c_text.specs.Spelling.{params_text, param_text}
use Rattle.c_text.specs.TypeText.{const_text, listed, type_text}
use Rattle.c_text.specs.ExpressionRules.{type_demands}
use Rattle.c_text.specs.UnitRules.{params_demands, types_demands, with_params}
use Rattle.c_scopes.proofs.Rows.{listed_asks}

pub none_listed : {X : Type 0} (text : X → List ℕ) (xs : List X) → length xs ≡ 0 → codes "(void)" ≡ params_text (map text xs)
none_listed text [] none = refl
none_listed text (x ∷ xs) none = absurd (omega arith)

pub some_listed : {X : Type 0} (text : X → List ℕ) (xs : List X) → (length xs ≡ 0 → ⊥) → codes "(" ++ listed (map text xs) ++ codes ")" ≡ params_text (map text xs)
some_listed text [] some = absurd (some refl)
some_listed text (x ∷ xs) some = refl

-- ---- types

abbrev pub type_item : Names → ℕ → ℕ → CType → List Demand
type_item names s at t = type_demands names at t

abbrev pub same : ℕ → CType → ℕ
same s t = s

pub types_are : (names : Names) (at : ℕ) (ts : List CType) → listed_asks type_text (type_item names) same 0 at ts ≡ types_demands names at ts
types_are names at [] = refl
types_are names at (t ∷ ts) = ap (λ ds. type_demands names at t ++ ds) (types_are names (behind at (type_text t ++ codes ", ")) ts)

pub no_types : (names : Names) (at : ℕ) (ts : List CType) → length ts ≡ 0 → [] ≡ types_demands names at ts
no_types names at [] none = refl
no_types names at (t ∷ ts) none = absurd (omega arith)

-- ---- parameters

abbrev pub param_item : Names → ℕ → CParam → List Demand
param_item names at p = type_demands names at p.ty ++ new_name names (behind at (const_text p.ty [])) p.name

abbrev pub with_param : Names → CParam → Names
with_param names p = with_const names p.name p.ty

pub params_are : (names : Names) (at : ℕ) (ps : List CParam) → listed_asks param_text param_item with_param names at ps ≡ params_demands names at ps
params_are names at [] = refl
params_are names at (p ∷ ps) = ap (λ ds. param_item names at p ++ ds) (params_are (with_param names p) (behind at (param_text p ++ codes ", ")) ps)

pub no_params : (names : Names) (at : ℕ) (ps : List CParam) → length ps ≡ 0 → [] ≡ params_demands names at ps
no_params names at [] none = refl
no_params names at (p ∷ ps) none = absurd (omega arith)

pub with_none : (names : Names) (ps : List CParam) → length ps ≡ 0 → names ≡ with_params names ps
with_none names [] none = refl
with_none names (p ∷ ps) none = absurd (omega arith)
