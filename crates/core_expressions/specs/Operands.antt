-- What forms do behind the values of their operands, by their checks alone.
use Rattle.std.specs.Prelude.{◌≡◌, ℕ, suc, ℤ, pos, Bool, true, not, is_some, if◌then◌else◌, List, Option, Some, None, Result, Ok, Err}
use Rattle.std.specs.Ordering.{int_eq}
use Rattle.run_records.specs.declared.Reason.TheVariants.{Dead}
use Rattle.step_semantics.specs.Steps.{Part, Progress, give, after, bind, tick, by_state}
use Rattle.bit_data.specs.Fields.{changed}
use Rattle.bit_data.specs.declared.BitLayout.{BitLayout}
use Rattle.core_tree.specs.declared.Check.{Check}
use Rattle.core_tree.specs.Syntax.{ModuleCore}
use Rattle.core_meaning.specs.Answers.{changing}
use Rattle.core_meaning.specs.Areas.{Areas, type_at, number_at}
use Rattle.core_meaning.specs.Checks.{Answer, covered, passes, tests_of, answered, formless, on_number, on_truth, on_reference, on_some}
use Rattle.core_meaning.specs.State.{State, seen}
use Rattle.core_meaning.specs.Values.{Value, Num, Ref}
use Rattle.core_state.specs.State.{value_of}
use Rattle.core_state.specs.declared.Value.{Value as CodeValue}
use Rattle.core_expressions.specs.Forms.{unary_answer}
use Rattle.core_expressions.specs.declared.answers.Unary.{Unary}
use Rattle.run_world.specs.Comes.{world_of, Comes}
use Rattle.run_world.specs.declared.Halt.TheVariants.{NoMeaning}
use Rattle.run_world.specs.declared.Stopped.{Stopped}
use Rattle.run_world.specs.declared.Stopped.TheVariants.{Halted, Exhausted, Memory}
use Rattle.run_world.specs.declared.World.{World}

-- ---- numbers and truths

abbrev pub number_in : Value → Option ℤ
number_in (Num v) = Some v
number_in (Ref area path) = None

abbrev pub truth_in : Value → Option Bool
truth_in (Num v) = Some (not (int_eq v (pos 0)))
truth_in (Ref area path) = None

-- no reference, or one to a part of an area that is there
abbrev pub leads : Areas → Value → Bool
leads areas (Num v) = true
leads areas (Ref k path) = is_some (type_at areas k path)

-- ---- answers

abbrev pub answering_by : ModuleCore → List Check → Answer → Part State Value
answering_by core checks answer = if covered answer checks then tick (passes core (tests_of answer checks) (answered core answer)) else formless core

abbrev pub on_one : ModuleCore → List Check → Unary → Value → Part State Value
on_one core checks form x = on_number core x (λ a. answering_by core checks (unary_answer form a))

abbrev pub on_both : ModuleCore → List Check → (ℤ → ℤ → Answer) → Value → Value → Part State Value
on_both core checks answer x y = on_number core x (λ a. on_number core y (λ b. answering_by core checks (answer a b)))

abbrev pub set_by : BitLayout → ℕ → (word x : ℤ) → Answer
set_by layout field word x = changing (changed layout field word x)

abbrev pub of_number_by : ModuleCore → List Check → Option (ℤ → Answer) → Part State Value → Part State Value
of_number_by core checks form part = on_some core form (λ answer. bind part (λ x. on_number core x (λ a. answering_by core checks (answer a))))

-- `*r`: the number in the cell
abbrev pub in_cell : ModuleCore → Value → Part State Value
in_cell core x = on_reference core x (λ k path. by_state (λ s. on_some core (number_at s.areas k path) (λ v. tick (give (Num v)))))

-- ---- choices

-- a step behind a truth, and what comes with it
abbrev pub chosen : {A : Type 0} → ModuleCore → Value → (Bool → Part State A) → Part State A
chosen core x next = on_truth core x (λ holds. tick (next holds))

pub record NoStep (old new : World) (x : Value) : Type 0 where
  pub holds : Bool
  pub has : truth_in x ≡ Some holds
  pub none : old.steps ≡ 0
  pub same : new ≡ old

-- the truth that a value stands for, and the step; or there is no truth, or no step
abbrev pub Chosen : Value → Result Bool Stopped → (old new : World) → Type 0
Chosen x (Ok holds) old new = (truth_in x ≡ Some holds) × (old ≡ record new { steps = suc new.steps })
Chosen x (Err (Halted how)) old new = (truth_in x ≡ None) × (how ≡ NoMeaning Dead) × (new ≡ old)
Chosen x (Err Exhausted) old new = NoStep old new x
Chosen x (Err Memory) old new = ⊥

-- the truth of an operand that came out so, and the step, whatever comes with it
abbrev pub Decided : ModuleCore → Progress State Value → State → Result Bool Stopped → (new : World) → Type 0
Decided core said s (Ok holds) new = (next : Bool → Part State Value) → after said (λ x. chosen core x next) ≡ next holds new.steps (world_of new) s
Decided core said s (Err why) new = (next : Bool → Part State Value) → Comes {B = CodeValue} (seen core) value_of (after said (λ x. chosen core x next)) (Err why) new s

abbrev pub Decides : Result CodeValue Stopped → (old : World) → Result Bool Stopped → (new : World) → Type 0
Decides operand old result new = (core : ModuleCore) (s : State) (said : Progress State Value) → Comes (seen core) value_of said operand old s → Decided core said s result new
