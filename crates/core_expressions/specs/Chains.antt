-- Chains and postfixes from left to right: what comes behind the value of the first operand.
use Rattle.std.specs.Prelude.{ℤ, pos, Bool, true, ◌&&◌, is_some, if◌then◌else◌, List, [], ◌∷◌, Option}
use Rattle.step_semantics.specs.Steps.{Part, give, bind}
use Rattle.ivory_tree.specs.declared.BinOp.{BinOp}
use Rattle.ivory_tree.specs.declared.BinOp.TheVariants.{OrElse, AndAlso}
use Rattle.area_types.specs.Syntax.{ValueType}
use Rattle.core_tree.specs.declared.Check.{Check}
use Rattle.core_tree.specs.Syntax.{ModuleCore}
use Rattle.core_tree.specs.View.{LinkCore, StepCore, FieldStep, IndexStep}
use Rattle.core_meaning.specs.Answers.{operation, operator_of}
use Rattle.core_meaning.specs.Checks.{Answer, on_some}
use Rattle.core_meaning.specs.Expressions.{field_behind, element_behind, eval}
use Rattle.core_meaning.specs.State.{State}
use Rattle.core_meaning.specs.Values.{Value, Num}
use Rattle.core_expressions.specs.Operands.{on_both, chosen}
use Rattle.core_expressions.specs.declared.chains.Joint.{Joint}
use Rattle.core_expressions.specs.declared.chains.Joint.TheVariants.{Either, Both, Numbers}

abbrev pub joint_of : BinOp → Joint
joint_of OrElse = Either
joint_of AndAlso = Both
joint_of o = Numbers (operator_of o)

-- an operator on numbers, behind the value of its left operand
abbrev pub operated : ModuleCore → List Check → Option (ℤ → ℤ → Answer) → Value → Part State Value → Part State Value
operated core checks form x right = on_some core form (λ answer. bind right (on_both core checks answer x))

abbrev pub joined : ModuleCore → Joint → List Check → Value → ValueType → Part State Value → Part State Value
joined core Either checks x ty right = chosen core x (λ holds. if holds then give (Num (pos 1)) else right)
joined core Both checks x ty right = chosen core x (λ holds. if holds then right else give (Num (pos 0)))
joined core (Numbers o) checks x ty right = operated core checks (operation o ty) x right

abbrev pub type_after : StepCore → ValueType
type_after (FieldStep ty field) = ty
type_after (IndexStep ty index) = ty

module _ (core : ModuleCore) (outcome : Option Value) where
  abbrev pub link_from : Value → ValueType → LinkCore → Part State Value
  link_from x ty l = joined core (joint_of l.op) l.label.checks x ty (eval core outcome l.right)

  abbrev pub chain_from : Value → ValueType → List LinkCore → Part State Value
  chain_from x ty [] = give x
  chain_from x ty (l ∷ ls) = bind (link_from x ty l) (λ y. chain_from y l.label.ty ls)

  abbrev pub step_from : Value → ValueType → StepCore → Part State Value
  step_from x ty (FieldStep t field) = field_behind core ty field x
  step_from x ty (IndexStep t index) = bind (eval core outcome index) (element_behind core x)

  abbrev pub steps_from : Value → ValueType → List StepCore → Part State Value
  steps_from x ty [] = give x
  steps_from x ty (t ∷ ts) = bind (step_from x ty t) (λ y. steps_from y (type_after t) ts)

-- each operator on numbers has an answer on operands of the type before it
abbrev pub is_formed : Joint → ValueType → Bool
is_formed Either ty = true
is_formed Both ty = true
is_formed (Numbers o) ty = is_some (operation o ty)

abbrev pub formed : ValueType → List LinkCore → Bool
formed ty [] = true
formed ty (l ∷ ls) = is_formed (joint_of l.op) ty && formed l.label.ty ls
