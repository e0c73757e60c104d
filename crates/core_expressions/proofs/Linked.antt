-- Chains and postfixes come to what their parts do from left to right; a chain with an operator that has no answer comes to nothing.
use Rattle.std.proofs.Common.{◌≡◌, ℕ, ℤ, List, [], ◌∷◌, Bool, true, false, Some, None, refl, ap, sym, ◌∙◌}
use Rattle.std.specs.Prelude.{Option, is_some, ◌&&◌}
use Rattle.run_records.specs.declared.Reason.TheVariants.{Dead}
use Rattle.step_semantics.specs.Steps.{World, Part, Progress, Halted, NoMeaning, after, bind}
use Rattle.step_semantics.proofs.Equations.{after_give, after_after}
use Rattle.ivory_tree.specs.declared.BinOp.{BinOp}
use Rattle.ivory_tree.specs.declared.BinOp.TheVariants.{OrElse, AndAlso}
use Rattle.area_types.specs.Syntax.{ValueType}
use Rattle.core_tree.specs.Syntax.{ModuleCore, Label, ExprCore, Binary, type_of}
use Rattle.core_tree.specs.View.{LinkCore, StepCore, FieldStep, IndexStep, linked, stepped, part_of}
use Rattle.core_meaning.specs.Answers.{operation, operator_of}
use Rattle.core_meaning.specs.Checks.{Answer}
use Rattle.core_meaning.specs.Expressions.{of_numbers, combined, eval}
use Rattle.core_meaning.specs.State.{State, seen}
use Rattle.core_meaning.specs.Values.{Value}
use Rattle.core_expressions.specs.Chains.{joint_of, operated, joined, link_from, chain_from, step_from, steps_from, is_formed, formed}

both : (a b : Bool) → (a && b) ≡ true → (a ≡ true) × (b ≡ true)
both true b h = (refl, h)
both false b h = let no : ⊥ = cc h in absurd no

module _ (core : ModuleCore) (outcome : Option Value) where
  numbers_are : (l : Label) (form : Option (ℤ → ℤ → Answer)) (left right : Part State Value) (n : ℕ) (w : World) (s : State) → is_some form ≡ true
      → of_numbers core l form left right n w s ≡ bind left (λ x. operated core l.checks form x right) n w s
  numbers_are l None left right n w s h = let no : ⊥ = cc h in absurd no
  numbers_are l (Some answer) left right n w s h = refl

  binary_is : (l : Label) (o : BinOp) (ty : ValueType) (left right : Part State Value) (n : ℕ) (w : World) (s : State) → is_formed (joint_of o) ty ≡ true
      → combined core l o ty left right n w s ≡ bind left (λ x. joined core (joint_of o) l.checks x ty right) n w s
  binary_is l OrElse ty left right n w s h = refl
  binary_is l AndAlso ty left right n w s h = refl
  binary_is l o ty left right n w s h = numbers_are l (operation (operator_of o) ty) left right n w s h

  pub chain_is : (ls : List LinkCore) (left : ExprCore) (n : ℕ) (w : World) (s : State) → formed (type_of left) ls ≡ true
      → eval core outcome (linked left ls) n w s ≡ bind (eval core outcome left) (λ x. chain_from core outcome x (type_of left) ls) n w s
  chain_is [] left n w s h = sym (after_give (eval core outcome left n w s))
  chain_is (l ∷ ls) left n w s h =
      let parts = both (is_formed (joint_of l.op) (type_of left)) (formed l.label.ty ls) h in
      chain_is ls (Binary l.label l.op left l.right) n w s parts.1
      ∙ ap (λ r. after r (λ y. chain_from core outcome y l.label.ty ls)) (binary_is l.label l.op (type_of left) (eval core outcome left) (eval core outcome l.right) n w s parts.0)
      ∙ after_after (eval core outcome left n w s) (λ x. link_from core outcome x (type_of left) l) (λ y. chain_from core outcome y l.label.ty ls)

  pub steps_are : (ts : List StepCore) (base : ExprCore) (n : ℕ) (w : World) (s : State)
      → eval core outcome (stepped base ts) n w s ≡ bind (eval core outcome base) (λ x. steps_from core outcome x (type_of base) ts) n w s
  steps_are [] base n w s = sym (after_give (eval core outcome base n w s))
  steps_are (FieldStep ty field ∷ ts) base n w s =
      steps_are ts (part_of base (FieldStep ty field)) n w s
      ∙ after_after (eval core outcome base n w s) (λ x. step_from core outcome x (type_of base) (FieldStep ty field)) (λ y. steps_from core outcome y ty ts)
  steps_are (IndexStep ty index ∷ ts) base n w s =
      steps_are ts (part_of base (IndexStep ty index)) n w s
      ∙ after_after (eval core outcome base n w s) (λ x. step_from core outcome x (type_of base) (IndexStep ty index)) (λ y. steps_from core outcome y ty ts)

  -- ---- operators without an answer

  abbrev Nothing : ExprCore → Type 0
  Nothing e = (n : ℕ) (w : World) (s : State) → eval core outcome e n w s ≡ Halted (NoMeaning Dead) w (seen core s)

  abbrev halted : World → State → Progress State Value
  halted w s = Halted (NoMeaning Dead) w (seen core s)

  no_numbers : (l : Label) (form : Option (ℤ → ℤ → Answer)) (left right : Part State Value) (n : ℕ) (w : World) (s : State) → is_some form ≡ false → of_numbers core l form left right n w s ≡ halted w s
  no_numbers l None left right n w s h = refl
  no_numbers l (Some answer) left right n w s h = let no : ⊥ = cc h in absurd no

  no_binary : (l : Label) (o : BinOp) (ty : ValueType) (left right : Part State Value) (n : ℕ) (w : World) (s : State) → is_formed (joint_of o) ty ≡ false → combined core l o ty left right n w s ≡ halted w s
  no_binary l OrElse ty left right n w s h = let no : ⊥ = cc h in absurd no
  no_binary l AndAlso ty left right n w s h = let no : ⊥ = cc h in absurd no
  no_binary l o ty left right n w s h = no_numbers l (operation (operator_of o) ty) left right n w s h

  numbers_behind : (l : Label) (form : Option (ℤ → ℤ → Answer)) (left right : Part State Value) (n : ℕ) (w : World) (s : State) → left n w s ≡ halted w s → of_numbers core l form left right n w s ≡ halted w s
  numbers_behind l None left right n w s h = refl
  numbers_behind l (Some answer) left right n w s h = ap (λ r. after r (λ x. operated core l.checks (Some answer) x right)) h

  binary_behind : (l : Label) (o : BinOp) (ty : ValueType) (left right : Part State Value) (n : ℕ) (w : World) (s : State) → left n w s ≡ halted w s → combined core l o ty left right n w s ≡ halted w s
  binary_behind l OrElse ty left right n w s h = ap (λ r. after r (λ x. joined core (joint_of OrElse) l.checks x ty right)) h
  binary_behind l AndAlso ty left right n w s h = ap (λ r. after r (λ x. joined core (joint_of AndAlso) l.checks x ty right)) h
  binary_behind l o ty left right n w s h = numbers_behind l (operation (operator_of o) ty) left right n w s h

  chain_behind : (ls : List LinkCore) (left : ExprCore) → Nothing left → Nothing (linked left ls)
  chain_behind [] left h = h
  chain_behind (l ∷ ls) left h = chain_behind ls (Binary l.label l.op left l.right) (λ n w s. binary_behind l.label l.op (type_of left) (eval core outcome left) (eval core outcome l.right) n w s (h n w s))

  pub no_chain : (ls : List LinkCore) (left : ExprCore) → formed (type_of left) ls ≡ false → Nothing (linked left ls)
  no_chain [] left h = let no : ⊥ = cc h in absurd no
  no_chain (l ∷ ls) left h =
      (elim (is_formed (joint_of l.op) (type_of left)) as (λ b. b ≡ is_formed (joint_of l.op) (type_of left) → (b && formed l.label.ty ls) ≡ false → Nothing (linked (Binary l.label l.op left l.right) ls)) [
        | true ↦ λ is rest. no_chain ls (Binary l.label l.op left l.right) rest
        | false ↦ λ is rest. chain_behind ls (Binary l.label l.op left l.right) (λ n w s. no_binary l.label l.op (type_of left) (eval core outcome left) (eval core outcome l.right) n w s (sym is))
      ]) refl h
