-- Conditions that a run tests: each holds or stops the run, and changes nothing.
use Rattle.std.proofs.Common.{◌≡◌, ℕ, Bool, true, false, not, cond, List, [], ◌∷◌, Option, Some, None, All, refl, sym, subst}
use Rattle.std.specs.List.{filter}
use Rattle.std.proofs.lemmas.List.Elements.{All-head, All-tail, All-nil, All-cons}
use Rattle.step_semantics.specs.Steps.{World, Part, give, tick}
use Rattle.step_semantics.specs.Safe.{HasMeaning, Safe}
use Rattle.step_semantics.proofs.Keeping.{keeps_after, keeps_tick}
use Rattle.area_types.specs.Syntax.{ValueType, Truth}
use Rattle.core_tree.specs.declared.Check.{Check}
use Rattle.core_tree.specs.Syntax.{ModuleCore, ExprCore, ContractCore, ProcCore}
use Rattle.core_tree.specs.Environments.{Env}
use Rattle.core_tree.specs.TypedExpressions.{HasType}
use Rattle.core_tree.specs.TypedItems.{ContractTyped, contract_env}
use Rattle.core_tree.specs.Valid.{ValidCore}
use Rattle.core_meaning.specs.Values.{Value}
use Rattle.core_meaning.specs.State.{State}
use Rattle.core_meaning.specs.Checks.{passes, on_truth}
use Rattle.core_meaning.specs.Expressions.{eval}
use Rattle.core_meaning.specs.Areas.{Areas}
use Rattle.core_meaning.specs.Conditions.{tested, tested_all, requires_of, ensures_of, required, ensured}
use Rattle.region_soundness.specs.Fitting.{Entry, ValueFits}
use Rattle.region_soundness.proofs.Known.{Knows, KnowsOutcome, OutcomeFits}
use Rattle.region_soundness.proofs.Forms.{Gave, gave_after, truth_safe}
use Rattle.region_soundness.proofs.Expressions.{eval_safe}
use Rattle.region_soundness.proofs.Standing.{ResultFits}

-- the same state
abbrev pub Same : State → Unit {0} → State → Type 0
Same s t u = u ≡ s

module _ (env : Env) (valid : ValidCore env.core) (entry : Entry) (s : State) (scope : List ℕ) (known : Knows env scope entry s) (outcome : Option Value) (known_outcome : KnowsOutcome env entry s.areas outcome) where
  one_check : (site : ℕ) (b : Bool) (n : ℕ) (w : World) → Safe (Same s) (passes env.core ((site, b) ∷ []) (give tt) n w s)
  one_check site true n w = refl
  one_check site false n w = tt

  pub tested_safe : (cond : ExprCore) (check : Check) → HasType env scope cond Truth → (n : ℕ) (w : World) → Safe (Same s) (tested env.core outcome cond check n w s)
  tested_safe cond check h n w =
      let test : Bool → Part State (Unit {0}) = λ holds. tick (passes env.core ((check.site, holds) ∷ []) (give tt)) in
      gave_after env.core entry s (Same s) Truth (eval env.core outcome cond n w s) (λ x. on_truth env.core x test)
      (subst (λ t. Safe (Gave env.core entry s t) (eval env.core outcome cond n w s)) h.type (eval_safe env valid entry s scope known outcome known_outcome cond h.typed n w))
      (λ x fits m z. truth_safe env.core entry s (Same s) x test m z fits (λ b. keeps_tick HasMeaning (Same s) (passes env.core ((check.site, b) ∷ []) (give tt)) m z s (λ j. one_check check.site b j z)))

-- conditions one after another
module _ (env : Env) (valid : ValidCore env.core) (entry : Entry) (s : State) (scope : List ℕ) (known : Knows env scope entry s) (outcome : Option Value) (known_outcome : KnowsOutcome env entry s.areas outcome) where
  abbrev pub Typed : ContractCore → Type 0
  Typed c = HasType env scope c.cond Truth

  pub all_tested_safe : (cs : List ContractCore) → All Typed cs → (n : ℕ) (w : World) → Safe (Same s) (tested_all env.core outcome cs n w s)
  all_tested_safe [] h n w = refl
  all_tested_safe (c ∷ cs) h n w =
      keeps_after HasMeaning (Same s) (Same s) (tested env.core outcome c.cond c.check n w s) (λ t. tested_all env.core outcome cs)
      (tested_safe env valid entry s scope known outcome known_outcome c.cond c.check (All-head Typed c cs h) n w)
      (λ t u e m z. subst (λ v. Safe (Same s) (tested_all env.core outcome cs m z v)) (sym e) (all_tested_safe cs (All-tail Typed c cs h) m z))

-- ---- contracts of a procedure

kept_one : (Q : ContractCore → Type 0) (b : Bool) (c : ContractCore) (cs : List ContractCore) → (b ≡ true → Q c) → All Q cs → All Q (cond b (c ∷ cs) cs)
kept_one Q true c cs h a = All-cons Q c cs (h refl) a
kept_one Q false c cs h a = a

-- those of one kind
pub kept_typed : (P Q : ContractCore → Type 0) (f : ContractCore → Bool) (cs : List ContractCore) → ((c : ContractCore) → f c ≡ true → P c → Q c) → All P cs → All Q (filter f cs)
kept_typed P Q f [] h a = All-nil Q
kept_typed P Q f (c ∷ cs) h a = kept_one Q (f c) c (filter f cs) (λ e. h c e (All-head P c cs a)) (kept_typed P Q f cs h (All-tail P c cs a))

pub not_before : (b : Bool) → not b ≡ true → b ≡ false
not_before true e = let no : ⊥ = cc in absurd no
not_before false e = refl

pub outcome_known : (core : ModuleCore) (entry : Entry) (areas : Areas) (wanted : Option ValueType) (result : Option Value) → ResultFits core entry areas wanted result → (ty : ValueType) → wanted ≡ Some ty → OutcomeFits core entry areas result ty
outcome_known core entry areas (Some t) (Some v) h ty e = let same : t ≡ ty = cc in record { value = v; has = refl; fits = subst (λ x. ValueFits core entry areas x v) same h }
outcome_known core entry areas (Some t) None h ty e = absurd h
outcome_known core entry areas None result h ty e = let no : ⊥ = cc in absurd no

module _ (env : Env) (valid : ValidCore env.core) (entry : Entry) (p : ProcCore) (base : List ℕ) (typed : All (ContractTyped env base) p.contracts) where
  -- around what is ensured, `result` may be named
  abbrev with_result : Env
  with_result = record env { outcome = env.result }

  pub requires_typed : All (λ c. HasType env base c.cond Truth) (requires_of p)
  requires_typed = kept_typed (ContractTyped env base) (λ c. HasType env base c.cond Truth) (λ c. c.before) p.contracts (λ c e t. subst (λ b. HasType (contract_env env b) base c.cond Truth) e t.cond) typed

  pub ensures_typed : All (λ c. HasType with_result base c.cond Truth) (ensures_of p)
  ensures_typed =
      kept_typed (ContractTyped env base) (λ c. HasType with_result base c.cond Truth) (λ c. not c.before) p.contracts
      (λ c e t. subst (λ b. HasType (contract_env env b) base c.cond Truth) (not_before c.before e) t.cond) typed

  pub required_safe : (s : State) → env.outcome ≡ None → Knows env base entry s → (n : ℕ) (w : World) → Safe (Same s) (required env.core p n w s)
  required_safe s none known n w = all_tested_safe env valid entry s base known None (λ ty e. let no : ⊥ = cc in absurd no) (requires_of p) requires_typed n w

  pub ensured_safe : (s : State) (result : Option Value) → Knows env base entry s → ResultFits env.core entry s.areas env.result result → (n : ℕ) (w : World) → Safe (Same s) (ensured env.core p result n w s)
  ensured_safe s result known fits n w =
      let known' : Knows with_result base entry s = record { areas = known.areas; globals = known.globals; names = known.names } in
      all_tested_safe with_result valid entry s base known' result (outcome_known env.core entry s.areas env.result result fits) (ensures_of p) ensures_typed n w
