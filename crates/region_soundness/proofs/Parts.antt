-- Parts of a run that leave the state as it is: what they give, and how they go on.
use Rattle.std.proofs.Common.{◌≡◌, ℕ, ℤ, length, IsTrue, refl, sym, subst}
use Rattle.step_semantics.specs.Steps.{World, Progress, Part, after}
use Rattle.step_semantics.specs.Safe.{HasMeaning, Safe}
use Rattle.step_semantics.proofs.Keeping.{keeps_after}
use Rattle.area_types.specs.Syntax as types
use Rattle.area_types.specs.Syntax.{ValueType}
use Rattle.area_types.specs.Tables.{Table, is_stored}
use Rattle.core_tree.specs.Syntax.{ModuleCore}
use Rattle.core_tree.specs.Types.{is_value}
use Rattle.core_meaning.specs.Values.{Value, Num, Ref}
use Rattle.core_meaning.specs.Areas.{Areas}
use Rattle.core_meaning.specs.State.{State}
use Rattle.core_meaning.specs.Checks.{on_number}
use Rattle.region_soundness.specs.Fitting.{Entry, ValueFits}

-- a value with P, in the state s
abbrev pub Steady : {A : Type 0} → State → (A → Type 0) → A → State → Type 0
Steady s P a u = (u ≡ s) × P a

pub steady_after : {A B : Type 0} (s : State) (P : A → Type 0) (post : B → State → Type 0) (r : Progress State A) (next : A → Part State B)
    → Safe (Steady s P) r → ((a : A) → P a → (n : ℕ) (w : World) → Safe post (next a n w s)) → Safe post (after r next)
steady_after s P post r next h f = keeps_after HasMeaning (Steady s P) post r next h (λ a u p n w. subst (λ x. Safe post (next a n w x)) (sym p.0) (f a p.1 n w))

-- the value is a number of the type
pub record NumberOf (table : Table) (t : ValueType) (x : Value) : Type 0 where
  pub number : ℤ
  pub is : x ≡ Num number
  pub fits : IsTrue (is_value table t number)

-- a value that fits a type which an area stores is a number
pub stored_number : (core : ModuleCore) (entry : Entry) (areas : Areas) (t : ValueType) (x : Value) → IsTrue (is_stored (length core.structs.words) t) → ValueFits core entry areas t x → NumberOf core.structs t x
stored_number core entry areas t (Num v) h f = record { number = v; is = refl; fits = f }
stored_number core entry areas types.Truth (Ref k path) h f = absurd f
stored_number core entry areas (types.Int kind) (Ref k path) h f = absurd f
stored_number core entry areas (types.Ix n) (Ref k path) h f = absurd f
stored_number core entry areas (types.Bits j) (Ref k path) h f = absurd f
stored_number core entry areas (types.Ref c r a) (Ref k path) h f = let no : ⊥ = cc in absurd no

pub on_number_safe : {B : Type 0} (core : ModuleCore) (post : B → State → Type 0) (table : Table) (t : ValueType) (x : Value) (next : ℤ → Part State B) (n : ℕ) (w : World) (s : State)
    → NumberOf table t x → ((v : ℤ) → IsTrue (is_value table t v) → Safe post (next v n w s)) → Safe post (on_number core x next n w s)
on_number_safe core post table t x next n w s k h = subst (λ y. Safe post (on_number core y next n w s)) (sym k.is) (h k.number k.fits)
