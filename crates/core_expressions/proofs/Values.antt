-- What comes behind a value that is a number or a truth, or neither.
use Rattle.std.proofs.Common.{◌≡◌, ℕ, ℤ, Bool, true, false, Some, None, refl, ap, sym}
use Rattle.std.specs.Prelude.{pos}
use mir.Val.{bool_byte}
use Rattle.int_ops.specs.Operators.{truth}
use Rattle.run_records.specs.declared.Reason.TheVariants.{Dead}
use Rattle.step_semantics.specs.Steps as steps
use Rattle.step_semantics.specs.Steps.{Part, Halted, NoMeaning}
use Rattle.core_tree.specs.Syntax.{ModuleCore}
use Rattle.core_meaning.specs.Checks.{on_number, on_truth}
use Rattle.core_meaning.specs.State.{State, seen}
use Rattle.core_meaning.specs.Values.{Value, Num, Ref}
use Rattle.core_expressions.specs.Operands.{number_in, truth_in}

pub byte_is : (b : Bool) → pos (bool_byte b) ≡ truth b
byte_is true = refl
byte_is false = refl

some_same : {X : Type 0} {x y : X} → Some x ≡ Some y → x ≡ y
some_same h = cc h

module _ {A : Type 0} (core : ModuleCore) (n : ℕ) (w : steps.World) (s : State) where
  pub by_number : (x : Value) (a : ℤ) (next : ℤ → Part State A) → Some a ≡ number_in x → on_number core x next n w s ≡ next a n w s
  by_number (Num v) a next h = let e : v ≡ a = cc h in ap (λ b. next b n w s) e
  by_number (Ref k path) a next h = let no : ⊥ = cc h in absurd no

  pub by_truth : (x : Value) (holds : Bool) (next : Bool → Part State A) → Some holds ≡ truth_in x → on_truth core x next n w s ≡ next holds n w s
  by_truth (Num v) holds next h = let e = some_same h in ap (λ b. next b n w s) (sym e)
  by_truth (Ref k path) holds next h = let no : ⊥ = cc h in absurd no

  pub no_number : (x : Value) (next : ℤ → Part State A) → None ≡ number_in x → on_number core x next n w s ≡ Halted (NoMeaning Dead) w (seen core s)
  no_number (Num v) next h = let no : ⊥ = cc h in absurd no
  no_number (Ref k path) next h = refl

  pub no_truth : (x : Value) (next : Bool → Part State A) → None ≡ truth_in x → on_truth core x next n w s ≡ Halted (NoMeaning Dead) w (seen core s)
  no_truth (Num v) next h = let no : ⊥ = cc h in absurd no
  no_truth (Ref k path) next h = refl
